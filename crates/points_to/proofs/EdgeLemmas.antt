-- Sets of edges that are added.
use Rattle.std.proofs.Common.{◌≡◌, ◌≢◌, ◌⊎◌, inl, inr, ℕ, ◌+◌, ◌<◌, List, [], ◌∷◌, length, refl, sym, ◌∙◌, ap, subst, arith}
use Rattle.std.specs.Prelude.{◌↔◌, Vec}
use Rattle.std.specs.Global.{Global}
use Rattle.std.proofs.Common.{set, get_or, ◌++◌}
use Rattle.std.proofs.lemmas.Bool.{cases_eq}
use Rattle.std.proofs.lemmas.List.{get_or-set_same, get_or-set_other, get_or_append_left, get_or_push, map-set, length-map, get_or-map, length-append}
use Rattle.std.proofs.Math.ListN.{length-set}
use Rattle.points_to.specs.Rows.{Has, row}
use Rattle.reach_graph.specs.Reaching.{edges_of, edge_at, no_edge, row_items, plain_rows}
use Rattle.points_to.specs.declared.flows.Places.{Places}
use Rattle.points_to.specs.Nodes.{HasEdge, all_marks, Adds, Upto, OneEdge, PlaceEdge, RegisterEdge, RowEdge, entry, end_of}
use Rattle.reach_graph.specs.declared.edges.Edge.{Edge}

pub adds_none : (S : ℕ → ℕ → Type 0) (a : List (List Edge)) → ((f t : ℕ) → S f t → ⊥) → Adds S a a
adds_none S a none = record {
  size = refl;
  edges = λ f t. (λ has. inl has, λ has. elim has [ inl old ↦ old | inr new ↦ absurd (none f t new) ]);
  full = λ full. full;
}

-- two sets one behind the other
pub adds_both : (S T U : ℕ → ℕ → Type 0) (a b c : List (List Edge)) → Adds S a b → Adds T b c → ((f t : ℕ) → U f t ↔ (S f t ⊎ T f t)) → Adds U a c
adds_both S T U a b c one other is = record {
  size = other.size ∙ one.size;
  edges = λ f t. (
    λ has. elim ((other.edges f t).0 has) [
      | inl before ↦ elim ((one.edges f t).0 before) [ inl old ↦ inl old | inr first ↦ inr ((is f t).1 (inl first)) ]
      | inr second ↦ inr ((is f t).1 (inr second))
    ],
    λ has. elim has [
      | inl old ↦ (other.edges f t).1 (inl ((one.edges f t).1 (inl old)))
      | inr new ↦ elim ((is f t).0 new) [
        | inl first ↦ (other.edges f t).1 (inl ((one.edges f t).1 (inr first)))
        | inr second ↦ (other.edges f t).1 (inr second)
      ]
    ],
  );
  full = λ full. other.full (one.full full);
}

-- the same set in other words
pub adds_same : (S U : ℕ → ℕ → Type 0) (a b : List (List Edge)) → Adds S a b → ((f t : ℕ) → U f t ↔ S f t) → Adds U a b
adds_same S U a b one is = record {
  size = one.size;
  edges = λ f t. (
    λ has. elim ((one.edges f t).0 has) [ inl old ↦ inl old | inr new ↦ inr ((is f t).1 new) ],
    λ has. (one.edges f t).1 (elim has [ inl old ↦ inl old | inr new ↦ inr ((is f t).0 new) ]),
  );
  full = one.full;
}

-- ---- one of a sequence of sets

pub upto_more : (m : ℕ) (P : ℕ → ℕ → ℕ → Type 0) (f t : ℕ) → Upto (m + 1) P f t ↔ (Upto m P f t ⊎ P m f t)
upto_more m P f t = (
  λ up. elim (cases_eq up.place m) [
    | inl same ↦ inr (subst (λ (k : ℕ). P k f t) same up.edge)
    | inr other ↦ let low = up.below in inl (record { place = up.place; below = omega (arith, low, other); edge = up.edge })
  ],
  λ has. elim has [
    | inl up ↦ let low = up.below in record { place = up.place; below = omega (arith, low); edge = up.edge }
    | inr here ↦ record { place = m; below = omega arith; edge = here }
  ],
)

pub upto_same : (m : ℕ) (P Q : ℕ → ℕ → ℕ → Type 0) (f t : ℕ) → ((k : ℕ) → k < m → P k f t ↔ Q k f t) → Upto m P f t ↔ Upto m Q f t
upto_same m P Q f t same = (
  λ up. record { place = up.place; below = up.below; edge = (same up.place up.below).0 up.edge },
  λ up. record { place = up.place; below = up.below; edge = (same up.place up.below).1 up.edge },
)

-- the next of a sequence
pub adds_more : (m : ℕ) (P : ℕ → ℕ → ℕ → Type 0) (a b c : List (List Edge)) → Adds (Upto m P) a b → Adds (P m) b c → Adds (Upto (m + 1) P) a c
adds_more m P a b c one other = adds_both (Upto m P) (P m) (Upto (m + 1) P) a b c one other (upto_more m P)

pub adds_first : (P : ℕ → ℕ → ℕ → Type 0) (a : List (List Edge)) → Adds (Upto 0 P) a a
adds_first P a = adds_none (Upto 0 P) a (λ f t up. let low = up.below in omega (arith, low))

-- ---- one edge

abbrev LeadsTo : List Edge → ℕ → Type 0
LeadsTo xs t = (i : ℕ) × (i < length xs) × ((edge_at xs i).to ≡ t)

to_push : (xs : List Edge) (a : Edge) (t : ℕ) → LeadsTo (xs ++ a ∷ []) t ↔ (LeadsTo xs t ⊎ (t ≡ a.to))
to_push xs a t =
    let long = length-append xs (a ∷ []) in (
      λ (i, below, is). elim (cases_eq i (length xs)) [
        | inl last ↦ inr (sym is ∙ ap (λ (y : Edge). y.to) (get_or_push xs a no_edge i (sym last)))
        | inr other ↦
            let inside : i < length xs = omega (arith, below, long, other) in
            inl (i, inside, ap (λ (y : Edge). y.to) (sym (get_or_append_left xs (a ∷ []) no_edge i inside)) ∙ is)
      ],
      λ has. elim has [
        | inl (i, below, is) ↦ (i, omega (arith, below, long), ap (λ (y : Edge). y.to) (get_or_append_left xs (a ∷ []) no_edge i below) ∙ is)
        | inr last ↦ (length xs, omega (arith, long), ap (λ (y : Edge). y.to) (get_or_push xs a no_edge (length xs) refl) ∙ sym last)
      ],
    )

full_push : (xs : List Edge) (a : Edge) → ((i : ℕ) → i < length xs → (edge_at xs i).mask ≡ all_marks) → a.mask ≡ all_marks → (i : ℕ) → i < length (xs ++ a ∷ []) → (edge_at (xs ++ a ∷ []) i).mask ≡ all_marks
full_push xs a full here i below =
    let long = length-append xs (a ∷ []) in
    elim (cases_eq i (length xs)) [
      | inl last ↦ ap (λ (y : Edge). y.mask) (get_or_push xs a no_edge i (sym last)) ∙ here
      | inr other ↦
          let inside : i < length xs = omega (arith, below, long, other) in
          ap (λ (y : Edge). y.mask) (get_or_append_left xs (a ∷ []) no_edge i inside) ∙ full i inside
    ]

pushed_there : (rows : List (List Edge)) (from f t : ℕ) (a : Edge) → from < length rows → f ≡ from → HasEdge (set rows from (edges_of rows from ++ a ∷ [])) f t ↔ (HasEdge rows f t ⊎ (t ≡ a.to))
pushed_there rows from f t a inside same =
    let there : edges_of (set rows from (edges_of rows from ++ a ∷ [])) f ≡ edges_of rows f ++ a ∷ [] =
    ap (edges_of (set rows from (edges_of rows from ++ a ∷ []))) same
    ∙ get_or-set_same rows from (edges_of rows from ++ a ∷ []) [] inside
    ∙ ap (λ (k : ℕ). edges_of rows k ++ a ∷ []) (sym same) in
    subst (λ (xs : List Edge). LeadsTo xs t ↔ (LeadsTo (edges_of rows f) t ⊎ (t ≡ a.to))) (sym there) (to_push (edges_of rows f) a t)

pushed_elsewhere : (rows : List (List Edge)) (from f : ℕ) (ys : List Edge) → f ≢ from → edges_of (set rows from ys) f ≡ edges_of rows f
pushed_elsewhere rows from f ys other = get_or-set_other rows from f ys [] other

pub adds_one : (rows : List (List Edge)) (from : ℕ) (a : Edge) → from < length rows → a.mask ≡ all_marks → Adds (OneEdge from a.to) rows (set rows from (edges_of rows from ++ a ∷ []))
adds_one rows from a inside mask = record {
  size = length-set rows from (edges_of rows from ++ a ∷ []);
  edges = λ f t. elim (cases_eq f from) [
    | inl same ↦
        let there = pushed_there rows from f t a inside same in (
          λ has. elim (there.0 has) [ inl old ↦ inl old | inr new ↦ inr (same, new) ],
          λ has. there.1 (elim has [ inl old ↦ inl old | inr new ↦ inr new.1 ]),
        )
    | inr other ↦
        let there = pushed_elsewhere rows from f (edges_of rows from ++ a ∷ []) other in (
          λ has. inl (subst (λ (xs : List Edge). LeadsTo xs t) there has),
          λ has. elim has [ inl old ↦ subst (λ (xs : List Edge). LeadsTo xs t) (sym there) old | inr new ↦ absurd (other new.0) ],
        )
  ];
  full = λ full f. elim (cases_eq f from) [
    | inl same ↦
        let there : edges_of (set rows from (edges_of rows from ++ a ∷ [])) f ≡ edges_of rows from ++ a ∷ [] =
        ap (edges_of (set rows from (edges_of rows from ++ a ∷ []))) same
        ∙ get_or-set_same rows from (edges_of rows from ++ a ∷ []) [] inside in
        subst (λ (xs : List Edge). (i : ℕ) → i < length xs → (edge_at xs i).mask ≡ all_marks) (sym there) (full_push (edges_of rows from) a (full from) mask)
    | inr other ↦
        subst (λ (xs : List Edge). (i : ℕ) → i < length xs → (edge_at xs i).mask ≡ all_marks) (sym (pushed_elsewhere rows from f (edges_of rows from ++ a ∷ []) other)) (full f)
  ];
}

pub push_one : (rows : List (Vec Edge Global)) (from : ℕ) (a : Edge) (old new : Vec Edge Global) → from < length rows → new.items ≡ (get_or rows from old).items ++ a ∷ [] → a.mask ≡ all_marks → Adds (OneEdge from a.to) (plain_rows rows) (plain_rows (set rows from new))
push_one rows from a old new inside pushed mask =
    let count = length-map rows row_items in
    let there : edges_of (plain_rows rows) from ≡ (get_or rows from old).items = get_or-map row_items rows from old [] inside in
    let more : new.items ≡ edges_of (plain_rows rows) from ++ a ∷ [] = pushed ∙ ap (λ (es : List Edge). es ++ a ∷ []) (sym {A = List Edge} there) in
    let whole : plain_rows (set rows from new) ≡ set (plain_rows rows) from (edges_of (plain_rows rows) from ++ a ∷ []) =
    map-set row_items rows from new ∙ ap (set (plain_rows rows) from) more in
    subst (Adds (OneEdge from a.to) (plain_rows rows)) (sym whole) (adds_one (plain_rows rows) from a (omega (arith, inside, count)) mask)

pub place_one : (from base : ℕ) (places : Places) (y f t : ℕ) → Has places y → PlaceEdge from base places y f t ↔ OneEdge from (base + y) f t
place_one from base places y f t has = (λ (_, leaves, comes). (leaves, comes), λ (leaves, comes). (has, leaves, comes))

pub register_one : (from to y f t : ℕ) → 0 < y → RegisterEdge from to y f t ↔ OneEdge (from + y) (to + y) f t
register_one from to y f t register = (λ (_, leaves, comes). (leaves, comes), λ (leaves, comes). (register, leaves, comes))

pub row_one : (n b x : ℕ) (rows : List Places) (places : Places) (f t : ℕ) → 0 < x → places ≡ row rows x → RowEdge n b rows x f t ↔ Upto 32 (PlaceEdge (entry b x) (end_of n b 0) places) f t
row_one n b x rows places f t register is = (
  λ (_, edges). subst (λ (p : Places). Upto 32 (PlaceEdge (entry b x) (end_of n b 0) p) f t) (sym is) edges,
  λ edges. (register, subst (λ (p : Places). Upto 32 (PlaceEdge (entry b x) (end_of n b 0) p) f t) is edges),
)
