-- What is read of a table of live registers, and how one is made.
use Rattle.std.proofs.Common.{◌≡◌, ◌⊎◌, inl, inr, ℕ, ◌+◌, ◌<◌, Bool, true, false, List, [], ◌∷◌, ◌++◌, length, replicate, slice_set, slice_index_or, Option, Some, None, Vec, refl, sym, ap, subst, ◌∙◌, arith}
use Rattle.std.specs.Prelude.{◌↔◌}
use Rattle.std.specs.Global.{Global}
use Rattle.std.specs.List.Sorted.{IsStrictlyIncreasing}
use Rattle.std.proofs.lemmas.Bool.{cases_eq, cases_lt}
use Rattle.std.proofs.lemmas.List.{get_or-map, length-map, get_or_past, get_or-set_same, get_or-set_other, map-append, get_or_append_left, get_or_push, length_push}
use Rattle.rv32im.specs.declared.instructions.RegSet.{RegSet}
use Rattle.code_blocks.specs.Early.{has}
use Rattle.code_blocks.specs.Blocks.{start_of}
use Rattle.code_blocks.specs.Numbers.{starts_of, start_at}
use Rattle.code_blocks.specs.declared.parts.Block.{Block}
use Rattle.code_blocks.specs.declared.parts.Code.{Code}
use Rattle.reach_graph.specs.declared.edges.Edge.{Edge}
use Rattle.reach_graph.specs.Reaching.{HasMark, word_at, edges_of, row_items, plain_rows, AreInside}
use Rattle.reach_graph.proofs.MarkLemmas.{none_in_zero, none_in_zeros}
use Rattle.code_blocks.specs.Leads.{units_in, units_at, IsBlockOf}
use Rattle.dataflow.specs.Live.{LiveAt, Live}
use Rattle.dataflow.specs.Summaries.{UsedFirst}
use Rattle.dataflow.specs.BackEdges.{Lets, Adds, BlockEdges, BackEdges, ArrivalEdges, AreBackEdges, AreEdges, AreMarks, HasNone}
use Rattle.dataflow.specs.Marks.{ReportsClear}
use Rattle.dataflow.specs.Tables.{AreLive, IsFree, IsLeastDead}
use Rattle.dataflow.proofs.EdgeLemmas.{is_start, one_start}

-- ---- a table that is read

live_of : (c : Code) (leaders : List ℕ) (leader i x : ℕ) → leaders ≡ starts_of c → IsStrictlyIncreasing leaders → IsBlockOf c i → start_at c i ≡ leader → Live c leader x → LiveAt c x i 0
live_of c leaders leader i x same ascending inside begins live =
    let is = one_start c live.block i (subst (λ (xs : List ℕ). IsStrictlyIncreasing xs) same ascending) live.is_block inside (live.begins ∙ sym begins) in
    subst (λ (b : ℕ). LiveAt c x b 0) is live.live

pub found_live : (c : Code) (leaders words : List ℕ) (leader i x : ℕ) → leaders ≡ starts_of c → AreLive c words → IsStrictlyIncreasing leaders → i < length leaders
    → slice_index_or leaders i 0 ≡ leader → x < 32 → HasMark (word_at words i) x ↔ Live c leader x
found_live c leaders words leader i x same are ascending below here low =
    let size : length leaders ≡ length (starts_of c) = ap length same in
    let inside : IsBlockOf c i = omega (arith, size, below, length-map c.blocks.items start_of) in
    let begins : start_at c i ≡ leader = ap (λ (xs : List ℕ). slice_index_or xs i 0) (sym same) ∙ here in (
      λ mark. record { block = i; is_block = inside; begins = begins; live = (are i x inside low).0 mark },
      λ live. (are i x inside low).1 (live_of c leaders leader i x same ascending inside begins live),
    )

disjoint : (b : Bool) → b ≡ true → b ≡ false → ⊥
disjoint b on off = absurd (cc)

pub none_live : (c : Code) (leaders : List ℕ) (leader x : ℕ) → leaders ≡ starts_of c → has leaders leader ≡ false → HasMark 0 x ↔ Live c leader x
none_live c leaders leader x same none = (
  λ mark. absurd (none_in_zero x mark),
  λ live. absurd (disjoint (has (starts_of c) leader)
      (subst (λ (a : ℕ). has (starts_of c) a ≡ true) live.begins (is_start c live.block live.is_block))
      (subst (λ (xs : List ℕ). has xs leader ≡ false) same none)),
)

-- ---- the least register that is dead

module _ (c : Code) (leader : ℕ) (avoid : RegSet) (word taken : ℕ) (live : (x : ℕ) → x < 32 → HasMark word x ↔ Live c leader x)
    (both : (x : ℕ) → HasMark taken x ↔ (HasMark word x ⊎ HasMark avoid.bits x)) where
  not_free : (x : ℕ) → x < 32 → HasMark taken x → IsFree c leader avoid x → ⊥
  not_free x low mark free =
      elim ((both x).0 mark) [ inl on ↦ free.dead ((live x low).0 on) | inr set ↦ free.allowed set ]

  pub least_dead : (o : Option ℕ) → ReportsClear taken o → IsLeastDead c leader avoid o
  least_dead None tells = λ x from below free. not_free x below (tells x from below) free
  least_dead (Some r) tells =
      record {
        from = tells.from;
        below = tells.below;
        free = record {
          dead = λ l. tells.clear ((both r).1 (inl ((live r tells.below).1 l)));
          allowed = λ set. tells.clear ((both r).1 (inr set));
        };
        least = λ x from less free. not_free x (let below = tells.below in omega (arith, less, below)) (tells.least x from less) free;
      }

-- ---- the marks of blocks

pub no_marks : (c : Code) (n : ℕ) (words : List ℕ) → words ≡ replicate n 0 → AreMarks c 0 words
no_marks c n words same b x low = (
  λ has. absurd (none_in_zeros n b x words same has),
  λ told. let below = told.0 in absurd (omega (arith, below)),
)

pub block_units : (c : Code) (b : ℕ) (block : Block) → IsBlockOf c b → block ≡ slice_index_or c.blocks.items b block → units_at c b ≡ units_in block
block_units c b block inside is = get_or-map units_in c.blocks.items b block [] inside ∙ ap units_in (sym is)

pub marks_more : (c : Code) (b used : ℕ) (words : List ℕ) → b < length words → AreMarks c b words
    → ((x : ℕ) → x < 32 → HasMark used x ↔ UsedFirst (units_at c b) (length (units_at c b)) x) → AreMarks c (b + 1) (slice_set words b used)
marks_more c b used words below are told j x low =
    elim (cases_eq j b) [
      | inl same ↦
          let here : word_at (slice_set words b used) j ≡ used = ap (word_at (slice_set words b used)) same ∙ get_or-set_same words b used 0 below in (
            λ has. (
              omega (arith, same),
              subst (λ (i : ℕ). UsedFirst (units_at c i) (length (units_at c i)) x) (sym same) ((told x low).0 (subst (λ (w : ℕ). HasMark w x) here has)),
            ),
            λ first. subst (λ (w : ℕ). HasMark w x) (sym here)
                ((told x low).1 (subst (λ (i : ℕ). UsedFirst (units_at c i) (length (units_at c i)) x) same first.1)),
          )
      | inr other ↦
          let there : word_at (slice_set words b used) j ≡ word_at words j = get_or-set_other words b j used 0 other in (
            λ has.
                let told_of = (are j x low).0 (subst (λ (w : ℕ). HasMark w x) there has) in
                let less = told_of.0 in (omega (arith, less), told_of.1),
            λ first.
                let less = first.0 in
                subst (λ (w : ℕ). HasMark w x) (sym there) ((are j x low).1 (omega (arith, less, other), first.1)),
          )
    ]

-- ---- the edges of a program

no_edge_in : (rows : List (List Edge)) (f t x : ℕ) → HasNone rows → Lets rows f t x → ⊥
no_edge_in rows f t x none l =
    let below : l.i < 0 = subst (λ (row : List Edge). l.i < length row) (none f) l.below in
    absurd (omega (arith, below))

none_inside : (rows : List (List Edge)) → HasNone rows → AreInside rows (length rows)
none_inside rows none n i n_below i_below =
    let below : i < 0 = subst (λ (row : List Edge). i < length row) (none n) i_below in
    absurd (omega (arith, below))

-- what two sets of edges add to rows without an edge
joined_edges : (A B : ℕ → ℕ → ℕ → Type 0) (none back all : List (List Edge)) → HasNone none → Adds A none back → Adds B back all
    → (f t x : ℕ) → x < 32 → Lets all f t x ↔ (A f t x ⊎ B f t x)
joined_edges A B none back all bare one other f t x low = (
  λ l. elim ((other.edges f t x low).0 l) [
    | inl before ↦ elim ((one.edges f t x low).0 before) [ inl old ↦ absurd (no_edge_in none f t x bare old) | inr first ↦ inl first ]
    | inr second ↦ inr second
  ],
  λ has. elim has [
    | inl first ↦ (other.edges f t x low).1 (inl ((one.edges f t x low).1 (inr first)))
    | inr second ↦ (other.edges f t x low).1 (inr second)
  ],
)

pub program_edges : (c : Code) (hub : ℕ) (none back all : List (List Edge)) → HasNone none → Adds (BlockEdges c hub hub) none back
    → Adds (ArrivalEdges c hub (length c.indirect.items)) back all → AreEdges c hub all
program_edges c hub none back all bare one other =
    record {
      edges = joined_edges (BlockEdges c hub hub) (ArrivalEdges c hub (length c.indirect.items)) none back all bare one other;
      inside = other.inside (one.inside (none_inside none bare));
    }

-- the edges against the flow of control
pub whole_back : (c : Code) (hub : ℕ) (none back all : List (List Edge)) → length none ≡ hub + 1 → HasNone none → Adds (BackEdges c hub hub) none back
    → Adds (ArrivalEdges c hub (length c.indirect.items)) back all → AreBackEdges c hub all
whole_back c hub none back all count bare one other =
    record {
      size = other.size ∙ one.size ∙ count;
      edges = joined_edges (BackEdges c hub hub) (ArrivalEdges c hub (length c.indirect.items)) none back all bare one other;
      inside = other.inside (one.inside (none_inside none bare));
    }

-- ---- rows without edges

pub no_rows : HasNone (plain_rows [])
no_rows f = refl

pub bare_more : (rows : List (Vec Edge Global)) (row : Vec Edge Global) → row.items ≡ [] → HasNone (plain_rows rows) → HasNone (plain_rows (rows ++ row ∷ []))
bare_more rows row empty bare f =
    ap (λ (rs : List (List Edge)). edges_of rs f) (map-append row_items rows (row ∷ []))
    ∙ elim (cases_lt f (length (plain_rows rows))) [
      | inl below ↦ get_or_append_left (plain_rows rows) (row.items ∷ []) [] f below ∙ bare f
      | inr past ↦ elim (cases_eq f (length (plain_rows rows))) [
        | inl same ↦ get_or_push (plain_rows rows) row.items [] f (sym same) ∙ empty
        | inr other ↦ get_or_past (plain_rows rows ++ row.items ∷ []) f [] (let more = length_append_one (plain_rows rows) row.items in omega (arith, past, other, more))
      ]
    ]
  where
    length_append_one : (xs : List (List Edge)) (x : List Edge) → length (xs ++ x ∷ []) ≡ length xs + 1
    length_append_one xs x = length_push xs x
