-- The edges of edges: the numbers of a block's successors, and the leaders that indirect jumps may reach.
use Rattle.std.proofs.Common.{◌≡◌, ◌⊎◌, inl, inr, ℕ, ◌+◌, ◌<◌, ◌==◌, Bool, true, false, ◌||◌, cond, List, [], ◌∷◌, map, length, slice_index_or, refl, sym, ap, subst, ◌∙◌, arith}
use Rattle.std.specs.Prelude.{◌↔◌}
use Rattle.std.specs.List.{Contains, filter}
use Rattle.std.specs.List.Sorted.{IsStrictlyIncreasing}
use Rattle.std.proofs.lemmas.Bool.{cases_eq, cases_order, eqb-true}
use Rattle.std.proofs.lemmas.Grind.{get_or_default_zero}
use Rattle.std.proofs.lemmas.List.{get_or-map, length-map}
use Rattle.std.proofs.lemmas.List.Kept.{AllPairs-from_increasing}
use Rattle.list_checks.proofs.TestLemmas.{either}
use Rattle.code_blocks.specs.Early.{has}
use Rattle.code_blocks.proofs.SearchLemmas.{has_found, has_at}
use Rattle.code_blocks.specs.Blocks.{start_of}
use Rattle.code_blocks.specs.declared.ends.End.TheVariants.{Stop}
use Rattle.code_blocks.specs.declared.parts.Block.{Block}
use Rattle.code_blocks.specs.Edges.{successors}
use Rattle.code_blocks.specs.Numbers.{starts_of, start_at, ending_of, end_at, AreNumbersAt}
use Rattle.code_blocks.specs.declared.parts.Code.{Code}
use Rattle.reach_graph.specs.Reaching.{HasMark}
use Rattle.code_blocks.specs.Leads.{IsBlockOf, LeadsOn, units_at}
use Rattle.dataflow.specs.Summaries.{PassesOver}
use Rattle.dataflow.specs.BackEdges.{OneEdge, ListEdges, DirectEdges, MaskEdges, LeadsBack, BlockEdges, BackEdges, ArrivalEdges}

-- ---- lists of numbers

pub listed_has : (xs : List ℕ) (a : ℕ) → Contains xs a → has xs a ≡ true
listed_has xs a (k, below, here) = has_at xs a k below here

pub has_listed : (xs : List ℕ) (a : ℕ) → has xs a ≡ true → Contains xs a
has_listed xs a found = let (k, below, here) = has_found xs a found in (k, below, get_or_default_zero xs k a below ∙ here)

first_or : (a b : Bool) → a ≡ true → a || b ≡ true
first_or true b is = refl
first_or false b is = cc

second_or : (a b : Bool) → b ≡ true → a || b ≡ true
second_or true b is = refl
second_or false b is = is

kept_behind : (b : Bool) (x : ℕ) (xs : List ℕ) (a : ℕ) → has xs a ≡ true → has (cond b (x ∷ xs) xs) a ≡ true
kept_behind true x xs a found = second_or (a == x) (has xs a) found
kept_behind false x xs a found = found

kept_first : (b : Bool) (x : ℕ) (xs : List ℕ) (a : ℕ) → b ≡ true → a == x ≡ true → has (cond b (x ∷ xs) xs) a ≡ true
kept_first true x xs a passes here = first_or (a == x) (has xs a) here
kept_first false x xs a passes here = cc

filter_has : (test : ℕ → Bool) (xs : List ℕ) (a : ℕ) → has xs a ≡ true → test a ≡ true → has (filter test xs) a ≡ true
filter_has test [] a found passes = cc
filter_has test (x ∷ xs) a found passes =
    elim (either (a == x) (has xs a) found) [
      | inl here ↦ kept_first (test x) x (filter test xs) a (ap test (sym (eqb-true a x here)) ∙ passes) here
      | inr later ↦ kept_behind (test x) x (filter test xs) a (filter_has test xs a later passes)
    ]

was_kept : (b : Bool) (x : ℕ) (xs ys : List ℕ) (a : ℕ) → (has ys a ≡ true → has xs a ≡ true) → has (cond b (x ∷ ys) ys) a ≡ true → has (x ∷ xs) a ≡ true
was_kept true x xs ys a rest found =
    elim (either (a == x) (has ys a) found) [
      | inl here ↦ first_or (a == x) (has xs a) here
      | inr later ↦ second_or (a == x) (has xs a) (rest later)
    ]
was_kept false x xs ys a rest found = second_or (a == x) (has xs a) (rest found)

has_filter : (test : ℕ → Bool) (xs : List ℕ) (a : ℕ) → has (filter test xs) a ≡ true → has xs a ≡ true
has_filter test [] a found = found
has_filter test (x ∷ xs) a found = was_kept (test x) x xs (filter test xs) a (has_filter test xs a) found

-- ---- blocks by their starts

pub is_start : (c : Code) (k : ℕ) → IsBlockOf c k → has (starts_of c) (start_at c k) ≡ true
is_start c k below =
    let count = length-map c.blocks.items start_of in
    let inside : k < length (starts_of c) = omega (arith, count, below) in
    has_at (starts_of c) (start_at c k) k inside (get_or_default_zero (starts_of c) k (start_at c k) inside)

pub one_start : (c : Code) (j k : ℕ) → IsStrictlyIncreasing (starts_of c) → IsBlockOf c j → IsBlockOf c k → start_at c j ≡ start_at c k → j ≡ k
one_start c j k ascending j_below k_below same =
    let count = length-map c.blocks.items start_of in
    elim (cases_order j k) [
      | inl is ↦ is
      | inr other ↦
          elim other [
            | inl less ↦
                let lower = AllPairs-from_increasing (starts_of c) ascending j k 0 less (omega (arith, count, k_below)) in
                absurd (omega (arith, lower, same))
            | inr more ↦
                let lower = AllPairs-from_increasing (starts_of c) ascending k j 0 more (omega (arith, count, j_below)) in
                absurd (omega (arith, lower, same))
          ]
    ]

-- ---- direct edges

module _ (c : Code) (b : ℕ) (numbers : List ℕ) (ascending : IsStrictlyIncreasing (starts_of c)) (is_block : IsBlockOf c b)
    (are : AreNumbersAt c (successors (end_at c b)) numbers) where
  pub number_below : (i : ℕ) → i < length numbers → slice_index_or numbers i 0 < length c.blocks.items
  number_below i below = are.below i 0 below

  mapped : (i : ℕ) → i < length numbers → slice_index_or (map (start_at c) numbers) i 0 ≡ start_at c (slice_index_or numbers i 0)
  mapped i below = get_or-map (start_at c) numbers i 0 0 below

  leads_there : (i : ℕ) → i < length numbers → LeadsOn c b (slice_index_or numbers i 0)
  leads_there i below =
      let n = slice_index_or numbers i 0 in
      let inside : i < length (map (start_at c) numbers) = omega (arith, length-map numbers (start_at c), below) in
      let found : has (map (start_at c) numbers) (start_at c n) ≡ true =
      has_at (map (start_at c) numbers) (start_at c n) i inside (get_or_default_zero (map (start_at c) numbers) i (start_at c n) inside ∙ mapped i below) in
      record {
        from = is_block;
        to = number_below i below;
        leads = has_listed (successors (end_at c b)) (start_at c n)
            (has_filter (has (starts_of c)) (successors (end_at c b)) (start_at c n) (subst (λ (xs : List ℕ). has xs (start_at c n) ≡ true) are.starts found));
      }

  number_there : (f : ℕ) → LeadsOn c b f → (i : ℕ) × (i < length numbers) × (slice_index_or numbers i 0 ≡ f)
  number_there f edge =
      let kept : has (filter (has (starts_of c)) (successors (end_at c b))) (start_at c f) ≡ true =
      filter_has (has (starts_of c)) (successors (end_at c b)) (start_at c f) (listed_has (successors (end_at c b)) (start_at c f) edge.leads) (is_start c f edge.to) in
      let (i, below, here) = has_found (map (start_at c) numbers) (start_at c f) (subst (λ (xs : List ℕ). has xs (start_at c f) ≡ true) (sym are.starts) kept) in
      let inside : i < length numbers = omega (arith, length-map numbers (start_at c), below) in
      (i, inside, one_start c (slice_index_or numbers i 0) f ascending (number_below i inside) edge.to (sym (mapped i inside) ∙ here))

  pub direct_is_list : (mask f t x : ℕ) → DirectEdges c b mask f t x ↔ ListEdges numbers (length numbers) b mask f t x
  direct_is_list mask f t x = (
    λ one. let (i, below, here) = number_there f one.edge in record { i = i; below = below; from = here; to_it = one.to; lets = one.lets },
    λ one. record { edge = subst (λ (g : ℕ). LeadsOn c b g) one.from (leads_there one.i one.below); to = one.to_it; lets = one.lets },
  )

-- ---- the hub

pub end_is : (c : Code) (b : ℕ) (block : Block) → IsBlockOf c b → block ≡ slice_index_or c.blocks.items b block → end_at c b ≡ block.end
end_is c b block inside is = get_or-map ending_of c.blocks.items b block Stop inside ∙ ap ending_of (sym is)

not_both : (b : Bool) → b ≡ true → b ≡ false → ⊥
not_both b on off = absurd (cc)

-- ---- blocks

pub no_blocks : (c : Code) (hub f t x : ℕ) → BlockEdges c hub 0 f t x → ⊥
no_blocks c hub f t x one = let below = one.below in omega (arith, below)

back_of : (c : Code) (hub b mask f t x : ℕ) → MaskEdges c hub b mask f t x → (t ≡ b) × LeadsBack c hub b f × HasMark mask x
back_of c hub b mask f t x (inl one) = (one.to, inl one.edge, one.lets)
back_of c hub b mask f t x (inr one) = (one.to, inr (one.ends, one.from), one.lets)

to_back : (c : Code) (hub b mask f x : ℕ) → LeadsBack c hub b f → HasMark mask x → MaskEdges c hub b mask f b x
to_back c hub b mask f x (inl edge) lets = inl (record { edge = edge; to = refl; lets = lets })
to_back c hub b mask f x (inr jump) lets = inr (record { ends = jump.0; from = jump.1; to = refl; lets = lets })

pub blocks_more : (c : Code) (hub b mask : ℕ) → ((x : ℕ) → x < 32 → HasMark mask x ↔ PassesOver (units_at c b) x) → (f t x : ℕ) → x < 32
    → BlockEdges c hub (b + 1) f t x ↔ (BlockEdges c hub b f t x ⊎ MaskEdges c hub b mask f t x)
blocks_more c hub b mask over f t x low = (
  λ one. elim (cases_eq t b) [
    | inl same ↦
        inr (subst (λ (u : ℕ). MaskEdges c hub b mask f u x) (sym same)
        (to_back c hub b mask f x (subst (λ (u : ℕ). LeadsBack c hub u f) same one.edge) ((over x low).1 (subst (λ (u : ℕ). PassesOver (units_at c u) x) same one.over))))
    | inr other ↦ inl (record { below = let below = one.below in omega (arith, below, other); edge = one.edge; over = one.over })
  ],
  λ has. elim has [
    | inl old ↦ record { below = let below = old.below in omega (arith, below); edge = old.edge; over = old.over }
    | inr new ↦
        let back = back_of c hub b mask f t x new in
        record {
          below = let is = back.0 in omega (arith, is);
          edge = subst (λ (u : ℕ). LeadsBack c hub u f) (sym back.0) back.1;
          over = subst (λ (u : ℕ). PassesOver (units_at c u) x) (sym back.0) ((over x low).0 back.2);
        }
  ],
)

pub no_back : (c : Code) (hub f t x : ℕ) → BackEdges c hub 0 f t x → ⊥
no_back c hub f t x one = let below = one.below in omega (arith, below)

pub back_more : (c : Code) (hub b mask : ℕ) → ((x : ℕ) → x < 32 → HasMark mask x) → (f t x : ℕ) → x < 32
    → BackEdges c hub (b + 1) f t x ↔ (BackEdges c hub b f t x ⊎ MaskEdges c hub b mask f t x)
back_more c hub b mask all f t x low = (
  λ one. elim (cases_eq t b) [
    | inl same ↦
        inr (subst (λ (u : ℕ). MaskEdges c hub b mask f u x) (sym same)
        (to_back c hub b mask f x (subst (λ (u : ℕ). LeadsBack c hub u f) same one.edge) (all x low)))
    | inr other ↦ inl (record { below = let below = one.below in omega (arith, below, other); edge = one.edge })
  ],
  λ has. elim has [
    | inl old ↦ record { below = let below = old.below in omega (arith, below); edge = old.edge }
    | inr new ↦
        let back = back_of c hub b mask f t x new in
        record { below = let is = back.0 in omega (arith, is); edge = subst (λ (u : ℕ). LeadsBack c hub u f) (sym back.0) back.1 }
  ],
)

-- ---- arrivals

pub no_arrivals : (c : Code) (hub f t x : ℕ) → ArrivalEdges c hub 0 f t x → ⊥
no_arrivals c hub f t x one = let below = one.below in omega (arith, below)

pub arrivals_more : (c : Code) (hub i leader : ℕ) → leader ≡ slice_index_or c.indirect.items i 0 → (f t x : ℕ) → x < 32
    → ArrivalEdges c hub (i + 1) f t x ↔ (ArrivalEdges c hub i f t x ⊎ (IsBlockOf c f × (leader ≡ start_at c f) × (t ≡ hub)))
arrivals_more c hub i leader is f t x low = (
  λ one. elim (cases_eq one.i i) [
    | inl same ↦ inr (one.is_block, is ∙ ap (λ (j : ℕ). slice_index_or c.indirect.items j 0) (sym same) ∙ one.starts, one.to)
    | inr other ↦ inl (record { i = one.i; below = let b = one.below in omega (arith, b, other); is_block = one.is_block; starts = one.starts; to = one.to })
  ],
  λ has. elim has [
    | inl old ↦ record { i = old.i; below = let b = old.below in omega (arith, b); is_block = old.is_block; starts = old.starts; to = old.to }
    | inr new ↦ record { i = i; below = omega arith; is_block = new.0; starts = sym is ∙ new.1; to = new.2 }
  ],
)

pub one_arrival : (c : Code) (hub block leader mask : ℕ) → IsStrictlyIncreasing (starts_of c) → (block < length c.blocks.items) × (start_at c block ≡ leader)
    → ((x : ℕ) → x < 32 → HasMark mask x) → (f t x : ℕ) → x < 32 → (IsBlockOf c f × (leader ≡ start_at c f) × (t ≡ hub)) ↔ OneEdge block hub mask f t x
one_arrival c hub block leader mask ascending number all f t x low = (
  λ one. (one_start c f block ascending one.0 number.0 (sym one.1 ∙ sym number.1), one.2, all x low),
  λ one. (subst (λ (g : ℕ). IsBlockOf c g) (sym one.0) number.0, sym number.1 ∙ ap (start_at c) (sym one.0), one.1),
)
