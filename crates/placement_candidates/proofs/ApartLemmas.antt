-- Candidates whose weights fit together in the rows with overlay have nothing in common: each object stands in one place in each
-- region, and each block is copied once.
use Rattle.std.proofs.Common.{◌≡◌, ◌∙◌, ◌⊎◌, inl, inr, ℕ, zero, suc, ◌+◌, ◌-◌, ◌*◌, ◌<◌, ◌≤◌, ◌==◌, ◌&&◌, ◌||◌, nat_le, Bool, true, false, List, [], ◌∷◌, ◌++◌, length, replicate, slice_index, refl, sym, ap, subst, arith, length-append}
use Rattle.std.proofs.lemmas.Bool.{cases_eq, cases_lt, eqb-true, eq-eqb}
use Rattle.std.proofs.lemmas.Bool.Decides.{nat_tests}
use Rattle.std.proofs.lemmas.List.{get_or-replicate, get_or_append_left, get_or-append_right, length-replicate}
use Rattle.list_checks.proofs.TestLemmas.{both}
use Rattle.placement_programme.specs.Bounds.{RowsWithin, row_of}
use Rattle.placement_programme.specs.Programme.{weight_in}
use Rattle.placement_programme.specs.Rows.{Layout, Part, Candidate, static_data, static_code, overlay_data, overlay_code, kept_data, name_of, first_twin, second_twin, on_capacities, on_weights, in_rows, blocks_of, space_row, patch_row, block_row, object_row, data_span, code_span, on_code_bytes, job_bytes, overlay_data_bytes, kept_data_bytes, fixed_bytes, IsRegionOf, IsCandidateOf}
use Rattle.placement_programme.proofs.RowLemmas.{rows_joined, in_rows_within, on_length, object_rows_end, pair_inside}
use Rattle.energy_model.specs.Energy.{brings, is_of_pair}
use Rattle.energy_model.specs.Together.{copies, HaveNothingInCommon}

-- ---- weights

pub in_rows_weight : (row count value r : ℕ) → row ≤ r → r < row + count → weight_in (in_rows row count value) r ≡ value
in_rows_weight row zero value r from below = absurd (omega (arith, from, below))
in_rows_weight row (suc count) value r from below =
    elim (cases_eq row r) [
      | inl same ↦ let test : (row == r) ≡ true = grind (arith, nat_tests, same) in rw test refl
      | inr differs ↦
          let test : (row == r) ≡ false = grind (arith, nat_tests, differs) in
          rw test (in_rows_weight (suc row) count value r (omega (arith, from, differs)) (omega (arith, below)))
    ]

-- a row behind some weights
behind : (low high : ℕ) (xs ys : List (ℕ × ℕ)) (row : ℕ) → RowsWithin low high xs → high ≤ row → weight_in (xs ++ ys) row ≡ weight_in ys row
behind low high [] ys row within order = refl
behind low high (x ∷ xs) ys row within order =
    let inside = within.1 in
    let other : (row_of x == row) ≡ false = grind (arith, nat_tests, inside, order) in
    rw other (behind (suc (row_of x)) high xs ys row within.2 order)

own_row : (row value : ℕ) → weight_in ((row, value) ∷ []) row ≡ value
own_row row value = let test = eq-eqb row row refl in rw test refl

-- the weights in the rows of regions and of the patch range: of something that stands in `count` regions, or in one
spaces : (l : Layout) (row count span patch : ℕ) → row + count ≤ l.regions + 1 → RowsWithin 0 (l.regions + 2) (in_rows row count span ++ (patch_row l, patch) ∷ [])
spaces l row count span patch end =
    let space = in_rows_within row count span 0 (l.regions + 1) (omega arith) end in
    let last : RowsWithin (l.regions + 1) (l.regions + 2) ((patch_row l, patch) ∷ []) = (omega arith, omega arith, tt) in
    rows_joined 0 (l.regions + 1) (l.regions + 2) (in_rows row count span) ((patch_row l, patch) ∷ []) (omega arith) (omega arith) space last

space : (l : Layout) (r span patch : ℕ) → r ≤ l.regions → RowsWithin 0 (l.regions + 2) ((space_row r, span) ∷ (patch_row l, patch) ∷ [])
space l r span patch region = (omega arith, omega (arith, region), (omega (arith, region), omega arith, tt))

-- ---- the rows of objects in regions

either : (a b : Bool) → a || b ≡ true → (a ≡ true) ⊎ (b ≡ true)
either true b is = inl refl
either false b is = inr is

object_weight : (l : Layout) (a : Candidate) (o r : ℕ) → IsCandidateOf l a → IsRegionOf l r → brings o r (name_of a) ≡ true → weight_in (on_weights l a) (object_row l o r) ≡ 1
object_weight l (static_data d) o r inside region brought =
    let own = in_rows (object_row l d.number 1) l.regions 1 in
    subst (λ (n : ℕ). weight_in (on_weights l (static_data d)) (object_row l n r) ≡ 1) (sym (eqb-true o d.number brought))
    (behind 0 (l.regions + 2) (in_rows (space_row 0) (l.regions + 1) (data_span l.grain d) ++ (patch_row l, job_bytes) ∷ []) own (object_row l d.number r)
    (spaces l 0 (l.regions + 1) (data_span l.grain d) job_bytes (omega arith)) (omega (arith, region.0))
    ∙ in_rows_weight (object_row l d.number 1) l.regions 1 (object_row l d.number r) (omega (arith, region.0)) (omega (arith, region.0, region.1)))
object_weight l (static_code p) o r inside region brought = cc
object_weight l (overlay_data s d) o r inside region brought =
    let same = both (o == d.number) (r == s) brought in
    subst (λ (n : ℕ). weight_in (on_weights l (overlay_data s d)) (object_row l n r) ≡ 1) (sym (eqb-true o d.number same.0))
    (subst (λ (n : ℕ). weight_in (on_weights l (overlay_data s d)) (object_row l d.number n) ≡ 1) (sym (eqb-true r s same.1))
    (behind 0 (l.regions + 2) ((space_row s, data_span l.grain d) ∷ (patch_row l, overlay_data_bytes d) ∷ []) ((object_row l d.number s, 1) ∷ []) (object_row l d.number s)
    (space l s (data_span l.grain d) (overlay_data_bytes d) inside.0.1) (omega (arith, inside.0.0))
    ∙ own_row (object_row l d.number s) 1))
object_weight l (overlay_code s p) o r inside region brought = cc
object_weight l (kept_data pair d) o r inside region brought =
    let same = both (o == d.number) (is_of_pair pair r) brought in
    let some = inside.0.0 in
    let end = pair_inside l.twins l.regions pair inside.0.1 in
    let own = in_rows (object_row l d.number (first_twin pair)) 2 1 in
    let twin : (r ≡ first_twin pair) ⊎ (r ≡ second_twin pair) = elim (either (r == first_twin pair) (r == second_twin pair) same.1) [
      | inl first ↦ inl (eqb-true r (first_twin pair) first)
      | inr second ↦ inr (eqb-true r (second_twin pair) second)
    ] in
    let from : first_twin pair ≤ r = elim twin [ inl first ↦ omega (arith, first) | inr second ↦ omega (arith, second) ] in
    let to : r ≤ second_twin pair = elim twin [ inl first ↦ omega (arith, first) | inr second ↦ omega (arith, second) ] in
    subst (λ (n : ℕ). weight_in (on_weights l (kept_data pair d)) (object_row l n r) ≡ 1) (sym (eqb-true o d.number same.0))
    (behind 0 (l.regions + 2) (in_rows (space_row (first_twin pair)) 2 (data_span l.grain d) ++ (patch_row l, kept_data_bytes d) ∷ []) own (object_row l d.number r)
    (spaces l (first_twin pair) 2 (data_span l.grain d) (kept_data_bytes d) (omega (arith, some, end))) (omega (arith, region.0))
    ∙ in_rows_weight (object_row l d.number (first_twin pair)) 2 1 (object_row l d.number r) (omega (arith, some, from)) (omega (arith, some, from, to)))

-- ---- the rows of blocks

part_weight : (l : Layout) (p : Part) (front : List (ℕ × ℕ)) (b : ℕ) → RowsWithin 0 (l.regions + 2) front → nat_le p.first b && nat_le b p.last ≡ true → weight_in (front ++ in_rows (block_row l p.first) (blocks_of p) 1) (block_row l b) ≡ 1
part_weight l p front b within held =
    let ends = both (nat_le p.first b) (nat_le b p.last) held in
    let first = ends.0 in
    let last = ends.1 in
    let from : p.first ≤ b = grind (arith, nat_tests, first) in
    let to : b ≤ p.last = grind (arith, nat_tests, last) in
    behind 0 (l.regions + 2) front (in_rows (block_row l p.first) (blocks_of p) 1) (block_row l b) within (omega arith)
    ∙ in_rows_weight (block_row l p.first) (blocks_of p) 1 (block_row l b) (omega (arith, from)) (omega (arith, from, to))

block_weight : (l : Layout) (a : Candidate) (b : ℕ) → IsCandidateOf l a → copies b (name_of a) ≡ true → weight_in (on_weights l a) (block_row l b) ≡ 1
block_weight l (static_data d) b inside held = cc
block_weight l (static_code p) b inside held =
    part_weight l p (in_rows (space_row 0) (l.regions + 1) (code_span l.grain p) ++ (patch_row l, on_code_bytes p) ∷ []) b
    (spaces l 0 (l.regions + 1) (code_span l.grain p) (on_code_bytes p) (omega arith)) held
block_weight l (overlay_data s d) b inside held = cc
block_weight l (overlay_code s p) b inside held =
    part_weight l p ((space_row s, code_span l.grain p) ∷ (patch_row l, on_code_bytes p) ∷ []) b
    (space l s (code_span l.grain p) (on_code_bytes p) inside.0.1) held
block_weight l (kept_data pair d) b inside held = cc

-- ---- these rows hold one thing

abbrev HoldsOne : Layout → ℕ → Type 0
HoldsOne l row = (row < length (on_capacities l)) × (slice_index (on_capacities l) row ≡ 1)

abbrev front_rows : Layout → List ℕ
front_rows l = replicate (l.regions + 1) l.scratchpad ++ (l.patch - fixed_bytes l) ∷ []

front_length : (l : Layout) → length (front_rows l) ≡ l.regions + 2
front_length l =
    let sum = length-append (replicate (l.regions + 1) l.scratchpad) ((l.patch - fixed_bytes l) ∷ []) in
    let count = length-replicate {A = ℕ} (l.regions + 1) l.scratchpad in
    omega (arith, sum, count)

block_length : (l : Layout) → length (front_rows l ++ replicate l.blocks 1) ≡ l.regions + 2 + l.blocks
block_length l =
    let sum = length-append (front_rows l) (replicate l.blocks 1) in
    let front = front_length l in
    let count = length-replicate {A = ℕ} l.blocks 1 in
    omega (arith, sum, front, count)

block_row_one : (l : Layout) (b : ℕ) → b < l.blocks → HoldsOne l (block_row l b)
block_row_one l b below =
    let all = on_length l in
    let blocks = block_length l in
    let place : block_row l b - (l.regions + 2) ≡ b = omega arith in (
      omega (arith, all, below),
      get_or_append_left (front_rows l ++ replicate l.blocks 1) (replicate (l.objects * l.regions) 1) 0 (block_row l b) (omega (arith, blocks, below))
          ∙ (get_or-append_right (front_rows l) (replicate l.blocks 1) (l.regions + 2) (block_row l b) 0 (front_length l) (omega arith)
          ∙ (ap (slice_index (replicate l.blocks 1)) place
          ∙ get_or-replicate l.blocks b 1 0 below)),
    )

object_row_one : (l : Layout) (o r : ℕ) → o < l.objects → IsRegionOf l r → HoldsOne l (object_row l o r)
object_row_one l o r below region =
    let all = on_length l in
    let end = object_rows_end l.regions o l.objects below in
    let n = l.regions + 2 + l.blocks in
    let inside : object_row l o r - n < l.objects * l.regions = omega (arith, end, region.0, region.1) in (
      omega (arith, all, end, region.0, region.1),
      get_or-append_right (front_rows l ++ replicate l.blocks 1) (replicate (l.objects * l.regions) 1) n (object_row l o r) 0 (block_length l) (omega (arith, region.0))
          ∙ get_or-replicate (l.objects * l.regions) (object_row l o r - n) 1 0 inside,
    )

-- ---- two candidates

is_region : (l : Layout) (r : ℕ) → IsRegionOf l r ⊎ (IsRegionOf l r → ⊥)
is_region l r =
    elim (cases_lt r 1) [
      | inl less ↦ inr (λ region. omega (arith, less, region.0))
      | inr from ↦ elim (cases_lt l.regions r) [
        | inl past ↦ inr (λ region. omega (arith, past, region.1))
        | inr to ↦ inl (from, to)
      ]
    ]

number_below : (l : Layout) (a : Candidate) (o r : ℕ) → IsCandidateOf l a → brings o r (name_of a) ≡ true → o < l.objects
number_below l (static_data d) o r inside brought = subst (λ (n : ℕ). n < l.objects) (sym (eqb-true o d.number brought)) inside
number_below l (static_code p) o r inside brought = absurd (cc)
number_below l (overlay_data s d) o r inside brought =
    subst (λ (n : ℕ). n < l.objects) (sym (eqb-true o d.number (both (o == d.number) (r == s) brought).0)) inside.1
number_below l (overlay_code s p) o r inside brought = absurd (cc)
number_below l (kept_data pair d) o r inside brought =
    subst (λ (n : ℕ). n < l.objects) (sym (eqb-true o d.number (both (o == d.number) (is_of_pair pair r) brought).0)) inside.1

-- what is brought outside all regions is brought throughout
throughout : (l : Layout) (a : Candidate) (o r k : ℕ) → IsCandidateOf l a → (IsRegionOf l r → ⊥) → brings o r (name_of a) ≡ true → brings o k (name_of a) ≡ true
throughout l (static_data d) o r k inside none brought = brought
throughout l (static_code p) o r k inside none brought = brought
throughout l (overlay_data s d) o r k inside none brought =
    absurd (none (subst (IsRegionOf l) (sym (eqb-true r s (both (o == d.number) (r == s) brought).1)) inside.0))
throughout l (overlay_code s p) o r k inside none brought = brought
throughout l (kept_data pair d) o r k inside none brought =
    let some = inside.0.0 in
    let end = pair_inside l.twins l.regions pair inside.0.1 in
    elim (either (r == first_twin pair) (r == second_twin pair) (both (o == d.number) (is_of_pair pair r) brought).1) [
      | inl first ↦ let is = eqb-true r (first_twin pair) first in absurd (none (omega (arith, some, is), omega (arith, some, end, is)))
      | inr second ↦ let is = eqb-true r (second_twin pair) second in absurd (none (omega (arith, some, is), omega (arith, end, is)))
    ]

module _ (l : Layout) (a b : Candidate) (some : 1 ≤ l.regions) (first : IsCandidateOf l a) (second : IsCandidateOf l b) (fit : (row : ℕ) → row < length (on_capacities l) → slice_index (on_capacities l) row ≡ 1 → weight_in (on_weights l a) row + weight_in (on_weights l b) row ≤ 1) where
  not_both_bring : (o r : ℕ) → IsRegionOf l r → brings o r (name_of a) ≡ true → brings o r (name_of b) ≡ true → ⊥
  not_both_bring o r region one other =
      let row = object_row_one l o r (number_below l a o r first one) region in
      let sum = fit (object_row l o r) row.0 row.1 in
      let left = object_weight l a o r first region one in
      let right = object_weight l b o r second region other in
      omega (arith, sum, left, right)

  no_object : (o r : ℕ) → brings o r (name_of a) ≡ true → brings o r (name_of b) ≡ true → ⊥
  no_object o r one other =
      elim (is_region l r) [
        | inl region ↦ not_both_bring o r region one other
        | inr none ↦ not_both_bring o 1 (omega arith, some) (throughout l a o r 1 first none one) (throughout l b o r 1 second none other)
      ]

  no_block : (k : ℕ) → copies k (name_of a) ≡ true → copies k (name_of b) ≡ true → ⊥
  no_block k one other =
      let row = block_row_one l k (block_below l a k first one) in
      let sum = fit (block_row l k) row.0 row.1 in
      let left = block_weight l a k first one in
      let right = block_weight l b k second other in
      omega (arith, sum, left, right)
    where
      part_below : (l : Layout) (p : Part) (k : ℕ) → p.last < l.blocks → nat_le p.first k && nat_le k p.last ≡ true → k < l.blocks
      part_below l p k below held =
          let last = (both (nat_le p.first k) (nat_le k p.last) held).1 in
          let to : k ≤ p.last = grind (arith, nat_tests, last) in
          omega (arith, to, below)

      block_below : (l : Layout) (a : Candidate) (k : ℕ) → IsCandidateOf l a → copies k (name_of a) ≡ true → k < l.blocks
      block_below l (static_data d) k inside held = absurd (cc)
      block_below l (static_code p) k inside held = part_below l p k inside.1 held
      block_below l (overlay_data s d) k inside held = absurd (cc)
      block_below l (overlay_code s p) k inside held = part_below l p k inside.1.1 held
      block_below l (kept_data pair d) k inside held = absurd (cc)

  if_not : (b : Bool) → (b ≡ true → ⊥) → b ≡ false
  if_not true not = absurd (not refl)
  if_not false not = refl

  pub nothing_in_common : HaveNothingInCommon (name_of a) (name_of b)
  nothing_in_common =
      record {
        objects = λ o r one. if_not (brings o r (name_of b)) (λ other. no_object o r one other);
        blocks = λ k one. if_not (copies k (name_of b)) (λ other. no_block k one other);
      }
