-- Rows of edges to which edges are added.
use Rattle.std.proofs.Common.{◌≡◌, ◌≢◌, ◌⊎◌, inl, inr, ℕ, ◌+◌, ◌<◌, List, [], ◌∷◌, ◌++◌, length, slice_set, slice_index_or, Vec, refl, sym, ap, subst, ◌∙◌, arith, length-append}
use Rattle.std.specs.Prelude.{◌↔◌}
use Rattle.std.specs.Global.{Global}
use Rattle.std.proofs.lemmas.Bool.{cases_eq}
use Rattle.std.proofs.lemmas.List.{get_or-set_same, get_or-set_other, length-set, get_or_push, get_or_append_left, map-set, get_or-map, length-map}
use Rattle.reach_graph.specs.declared.edges.Edge.{Edge}
use Rattle.reach_graph.specs.Reaching.{HasMark, no_edge, edges_of, edge_at, AreInside, row_items, plain_rows}
use Rattle.dataflow.specs.BackEdges.{LetsIn, Lets, Adds, OneEdge, ListEdges}

-- ---- one edge at the end of a row

push_cases : (row : List Edge) (a : Edge) (t x : ℕ) → LetsIn (row ++ a ∷ []) t x → LetsIn row t x ⊎ ((t ≡ a.to) × HasMark a.mask x)
push_cases row a t x l =
    elim (cases_eq l.i (length row)) [
      | inl same ↦
          let last : edge_at (row ++ a ∷ []) l.i ≡ a = get_or_push row a no_edge l.i (sym same) in
          inr (sym l.leads ∙ ap (λ (b : Edge). b.to) last, subst (λ (b : Edge). HasMark b.mask x) last l.passes)
      | inr other ↦
          let inside : l.i < length row = let b = l.below in omega (arith, b, other, length-append row (a ∷ [])) in
          let old : edge_at (row ++ a ∷ []) l.i ≡ edge_at row l.i = get_or_append_left row (a ∷ []) no_edge l.i inside in
          inl (record {
            i = l.i;
            below = inside;
            leads = subst (λ (b : Edge). b.to ≡ t) old l.leads;
            passes = subst (λ (b : Edge). HasMark b.mask x) old l.passes;
          })
    ]

push_old : (row : List Edge) (a : Edge) (t x : ℕ) → LetsIn row t x → LetsIn (row ++ a ∷ []) t x
push_old row a t x l =
    let old : edge_at (row ++ a ∷ []) l.i ≡ edge_at row l.i = get_or_append_left row (a ∷ []) no_edge l.i l.below in
    record {
      i = l.i;
      below = let b = l.below in omega (arith, b, length-append row (a ∷ []));
      leads = subst (λ (b : Edge). b.to ≡ t) (sym old) l.leads;
      passes = subst (λ (b : Edge). HasMark b.mask x) (sym old) l.passes;
    }

push_new : (row : List Edge) (a : Edge) (t x : ℕ) → t ≡ a.to → HasMark a.mask x → LetsIn (row ++ a ∷ []) t x
push_new row a t x to lets =
    let last : edge_at (row ++ a ∷ []) (length row) ≡ a = get_or_push row a no_edge (length row) refl in
    record {
      i = length row;
      below = omega (arith, length-append row (a ∷ []));
      leads = ap (λ (b : Edge). b.to) last ∙ sym to;
      passes = subst (λ (b : Edge). HasMark b.mask x) (sym last) lets;
    }

push_inside : (row : List Edge) (a : Edge) (count : ℕ) → ((i : ℕ) → i < length row → (edge_at row i).to < count) → a.to < count
    → (i : ℕ) → i < length (row ++ a ∷ []) → (edge_at (row ++ a ∷ []) i).to < count
push_inside row a count old new i below =
    elim (cases_eq i (length row)) [
      | inl same ↦ subst (λ (b : Edge). b.to < count) (sym (get_or_push row a no_edge i (sym same))) new
      | inr other ↦
          let inside : i < length row = omega (arith, below, other, length-append row (a ∷ [])) in
          subst (λ (b : Edge). b.to < count) (sym (get_or_append_left row (a ∷ []) no_edge i inside)) (old i inside)
    ]

-- ---- one edge in a table

module _ (rows : List (List Edge)) (from : ℕ) (a : Edge) (new : List (List Edge)) (from_below : from < length rows) (to_below : a.to < length rows)
    (is : new ≡ slice_set rows from (edges_of rows from ++ a ∷ [])) where
  row_here : edges_of new from ≡ edges_of rows from ++ a ∷ []
  row_here = ap (λ (rs : List (List Edge)). edges_of rs from) is ∙ get_or-set_same rows from (edges_of rows from ++ a ∷ []) [] from_below

  row_there : (f : ℕ) → f ≢ from → edges_of new f ≡ edges_of rows f
  row_there f other = ap (λ (rs : List (List Edge)). edges_of rs f) is ∙ get_or-set_other rows from f (edges_of rows from ++ a ∷ []) [] other

  new_size : length new ≡ length rows
  new_size = ap length is ∙ length-set rows from (edges_of rows from ++ a ∷ [])

  here_gives : (t x : ℕ) → Lets new from t x → Lets rows from t x ⊎ OneEdge from a.to a.mask from t x
  here_gives t x l =
      elim (push_cases (edges_of rows from) a t x (subst (λ (row : List Edge). LetsIn row t x) row_here l)) [
        | inl old ↦ inl old
        | inr new ↦ inr (refl, new.0, new.1)
      ]

  here_takes : (t x : ℕ) → Lets rows from t x ⊎ OneEdge from a.to a.mask from t x → Lets new from t x
  here_takes t x has =
      subst (λ (row : List Edge). LetsIn row t x) (sym row_here)
      (elim has [
        | inl old ↦ push_old (edges_of rows from) a t x old
        | inr one ↦ push_new (edges_of rows from) a t x one.1 one.2
      ])

  lets_gives : (f t x : ℕ) → Lets new f t x → Lets rows f t x ⊎ OneEdge from a.to a.mask f t x
  lets_gives f t x l =
      elim (cases_eq f from) [
        | inl same ↦
            subst (λ (g : ℕ). Lets rows g t x ⊎ OneEdge from a.to a.mask g t x) (sym same)
            (here_gives t x (subst (λ (g : ℕ). Lets new g t x) same l))
        | inr other ↦ inl (subst (λ (row : List Edge). LetsIn row t x) (row_there f other) l)
      ]

  lets_takes : (f t x : ℕ) → Lets rows f t x ⊎ OneEdge from a.to a.mask f t x → Lets new f t x
  lets_takes f t x has =
      elim (cases_eq f from) [
        | inl same ↦
            subst (λ (g : ℕ). Lets new g t x) (sym same)
            (here_takes t x (subst (λ (g : ℕ). Lets rows g t x ⊎ OneEdge from a.to a.mask g t x) same has))
        | inr other ↦
            elim has [
              | inl old ↦ subst (λ (row : List Edge). LetsIn row t x) (sym (row_there f other)) old
              | inr one ↦ absurd (other one.0)
            ]
      ]

  still_inside : AreInside rows (length rows) → AreInside new (length new)
  still_inside old n i n_below i_below =
      subst (λ (count : ℕ). (edge_at (edges_of new n) i).to < count) (sym new_size)
      (elim (cases_eq n from) [
        | inl same ↦
            let row : edges_of new n ≡ edges_of rows from ++ a ∷ [] = ap (edges_of new) same ∙ row_here in
            subst (λ (r : List Edge). (edge_at r i).to < length rows) (sym row)
            (push_inside (edges_of rows from) a (length rows) (λ j below. old from j from_below below) to_below i
            (subst (λ (r : List Edge). i < length r) row i_below))
        | inr other ↦
            subst (λ (r : List Edge). (edge_at r i).to < length rows) (sym (row_there n other))
            (old n i (subst (λ (count : ℕ). n < count) new_size n_below) (subst (λ (r : List Edge). i < length r) (row_there n other) i_below))
      ])

  pub adds_one : Adds (OneEdge from a.to a.mask) rows new
  adds_one = record { size = new_size; edges = λ f t x low. (lets_gives f t x, lets_takes f t x); inside = still_inside }

-- the same of rows that are vectors
pub adds_edge : (rows : List (Vec Edge Global)) (from : ℕ) (a : Edge) (old new : Vec Edge Global) → from < length rows → a.to < length rows
    → old ≡ slice_index_or rows from old → new.items ≡ old.items ++ a ∷ []
    → Adds (OneEdge from a.to a.mask) (plain_rows rows) (plain_rows (slice_set rows from new))
adds_edge rows from a old new from_below to_below is more =
    let count = length-map rows row_items in
    let row : edges_of (plain_rows rows) from ≡ old.items = get_or-map row_items rows from old [] from_below ∙ ap row_items (sym is) in
    adds_one (plain_rows rows) from a (plain_rows (slice_set rows from new)) (omega (arith, count, from_below)) (omega (arith, count, to_below))
    (map-set row_items rows from new ∙ ap (slice_set (plain_rows rows) from) (more ∙ ap (λ (r : List Edge). r ++ a ∷ []) (sym row)))

-- ---- sets of edges

pub adds_none : (S : ℕ → ℕ → ℕ → Type 0) (a : List (List Edge)) → ((f t x : ℕ) → S f t x → ⊥) → Adds S a a
adds_none S a none =
    record {
      size = refl;
      edges = λ f t x low. (λ has. inl has, λ has. elim has [ inl old ↦ old | inr new ↦ absurd (none f t x new) ]);
      inside = λ inside. inside;
    }

-- two sets one behind the other
pub adds_both : (S T U : ℕ → ℕ → ℕ → Type 0) (a b c : List (List Edge)) → Adds S a b → Adds T b c
    → ((f t x : ℕ) → x < 32 → U f t x ↔ (S f t x ⊎ T f t x)) → Adds U a c
adds_both S T U a b c one other is =
    record {
      size = other.size ∙ one.size;
      edges = λ f t x low. (
        λ has. elim ((other.edges f t x low).0 has) [
          | inl before ↦ elim ((one.edges f t x low).0 before) [ inl old ↦ inl old | inr first ↦ inr ((is f t x low).1 (inl first)) ]
          | inr second ↦ inr ((is f t x low).1 (inr second))
        ],
        λ has. elim has [
          | inl old ↦ (other.edges f t x low).1 (inl ((one.edges f t x low).1 (inl old)))
          | inr new ↦
              elim ((is f t x low).0 new) [
                | inl first ↦ (other.edges f t x low).1 (inl ((one.edges f t x low).1 (inr first)))
                | inr second ↦ (other.edges f t x low).1 (inr second)
              ]
        ],
      );
      inside = λ inside. other.inside (one.inside inside);
    }

-- the same set in other words
pub adds_same : (S U : ℕ → ℕ → ℕ → Type 0) (a b : List (List Edge)) → Adds S a b → ((f t x : ℕ) → x < 32 → U f t x ↔ S f t x) → Adds U a b
adds_same S U a b one is =
    record {
      size = one.size;
      edges = λ f t x low. (
        λ has. elim ((one.edges f t x low).0 has) [ inl old ↦ inl old | inr new ↦ inr ((is f t x low).1 new) ],
        λ has. (one.edges f t x low).1 (elim has [ inl old ↦ inl old | inr new ↦ inr ((is f t x low).0 new) ]),
      );
      inside = one.inside;
    }

-- ---- edges from the nodes of a list

pub no_list : (nodes : List ℕ) (to mask f t x : ℕ) → ListEdges nodes 0 to mask f t x → ⊥
no_list nodes to mask f t x one = let below = one.below in omega (arith, below)

pub list_more : (nodes : List ℕ) (i from to mask : ℕ) → from ≡ slice_index_or nodes i 0 → (f t x : ℕ) → x < 32
    → ListEdges nodes (i + 1) to mask f t x ↔ (ListEdges nodes i to mask f t x ⊎ OneEdge from to mask f t x)
list_more nodes i from to mask is f t x low = (
  λ one. elim (cases_eq one.i i) [
    | inl same ↦ inr (sym one.from ∙ ap (λ (j : ℕ). slice_index_or nodes j 0) same ∙ sym is, one.to_it, one.lets)
    | inr other ↦ inl (record { i = one.i; below = let b = one.below in omega (arith, b, other); from = one.from; to_it = one.to_it; lets = one.lets })
  ],
  λ has. elim has [
    | inl old ↦ record { i = old.i; below = let b = old.below in omega (arith, b); from = old.from; to_it = old.to_it; lets = old.lets }
    | inr new ↦ record { i = i; below = omega arith; from = sym is ∙ sym new.0; to_it = new.1; lets = new.2 }
  ],
)
