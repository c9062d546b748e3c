-- What candidates save and weigh with overlay is within the bounds of a side.
use Rattle.std.proofs.Common.{inl, inr, ℕ, zero, suc, ◌+◌, ◌-◌, ◌*◌, ◌^◌, ◌<◌, ◌≤◌, Bool, true, false, List, [], ◌∷◌, ◌++◌, length, map, replicate, slice_index_or, arith, if◌then◌else◌}
use Rattle.std.specs.List.{All, sum_by}
use Rattle.std.specs.List.Sorted.{IsStrictlyIncreasing}
use Rattle.std.specs.Prelude.{unsigned_abs}
use Rattle.std.proofs.lemmas.Bool.{cases_lt}
use Rattle.std.proofs.lemmas.List.Kept.{AllPairs-from_increasing}
use Rattle.std.proofs.lemmas.List.Elements.{All-nil, All-cons, All-append, All-replicate}
use Rattle.std.proofs.lemmas.List.Sums.{sum_by-cons}
use Rattle.std.proofs.lemmas.Nat.{mul-le}
use Rattle.placement_programme.specs.Plain.{PlainFullVar}
use Rattle.placement_programme.specs.Bounds.{AreWeights, value_of}
use Rattle.placement_programme.specs.Rows.{Layout, Candidate, static_data, static_code, overlay_data, overlay_code, kept_data, in_rows, blocks_of, block_row, object_row, patch_row, data_span, code_span, on_code_bytes, overlay_data_bytes, kept_data_bytes, first_twin, fixed_bytes, on_capacities, on_weights, IsCandidateOf}
use Rattle.placement_programme.proofs.RowLemmas.{weights_in_rows, on_length}

-- ---- sums

pub sum_few : (f : Candidate → PlainFullVar) (most : Candidate → ℕ) (cs : List Candidate) → All (λ c. unsigned_abs (f c).gain ≤ most c) cs → sum_by (λ v. unsigned_abs v.gain) (map f cs) ≤ sum_by most cs
sum_few f most [] all = omega arith
sum_few f most (c ∷ cs) all =
    let here = all 0 c (omega arith) in
    let rest = sum_few f most cs (λ k d below. all (suc k) d (omega (arith, below))) in
    let left = sum_by-cons (λ (v : PlainFullVar). unsigned_abs v.gain) (f c) (map f cs) in
    let right = sum_by-cons most c cs in
    omega (arith, here, rest, left, right)

-- numbers that ascend below `n` are few
number_at_least : (xs : List ℕ) (k : ℕ) → IsStrictlyIncreasing xs → k < length xs → k ≤ slice_index_or xs k 0
number_at_least xs zero rise below = omega arith
number_at_least xs (suc k) rise below =
    let earlier = number_at_least xs k rise (omega (arith, below)) in
    let less = AllPairs-from_increasing xs rise k (suc k) 0 (omega arith) below in
    omega (arith, earlier, less)

pub few_numbers : (xs : List ℕ) (n : ℕ) → IsStrictlyIncreasing xs → All (λ x. x < n) xs → length xs ≤ n
few_numbers xs n rise each =
    elim (cases_lt 0 (length xs)) [
      | inl some ↦
          let last = length xs - 1 in
          let inside : last < length xs = omega (arith, some) in
          let least = number_at_least xs last rise inside in
          let below = each last 0 inside in
          omega (arith, some, least, below)
      | inr none ↦ omega (arith, none)
    ]

-- ---- weights

rows_few : (row count value : ℕ) → value < 2 ^ 32 → All (λ w. value_of w < 2 ^ 32) (in_rows row count value)
rows_few row zero value few = All-nil (λ (w : ℕ × ℕ). value_of w < 2 ^ 32)
rows_few row (suc count) value few = All-cons (λ (w : ℕ × ℕ). value_of w < 2 ^ 32) (row, value) (in_rows (suc row) count value) few (rows_few (suc row) count value few)

three_few : (row count span patch_row patch own owned : ℕ) → span < 2 ^ 32 → patch < 2 ^ 32 → All (λ w. value_of w < 2 ^ 32) (in_rows row count span ++ (patch_row, patch) ∷ [] ++ in_rows own owned 1)
three_few row count span patch_row patch own owned first second =
    let IsFew = λ (w : ℕ × ℕ). value_of w < 2 ^ 32 in
    All-append IsFew (in_rows row count span ++ (patch_row, patch) ∷ []) (in_rows own owned 1)
    (All-append IsFew (in_rows row count span) ((patch_row, patch) ∷ []) (rows_few row count span first) (All-cons IsFew (patch_row, patch) [] second (All-nil IsFew)))
    (rows_few own owned 1 (omega arith))

-- the space and the patch bytes of a candidate are small
abbrev pub IsLight : Layout → Candidate → Type 0
IsLight l (static_data o) = data_span l.grain o < 2 ^ 32
IsLight l (static_code p) = (code_span l.grain p < 2 ^ 32) × (on_code_bytes p < 2 ^ 32)
IsLight l (overlay_data r o) = data_span l.grain o < 2 ^ 32
IsLight l (overlay_code r p) = (code_span l.grain p < 2 ^ 32) × (on_code_bytes p < 2 ^ 32)
IsLight l (kept_data pair o) = data_span l.grain o < 2 ^ 32

job_few : (b : Bool) → 44 + (if b then 44 else 0) ≤ 88
job_few true = omega arith
job_few false = omega arith

weights_few : (l : Layout) (a : Candidate) → IsLight l a → All (λ w. value_of w < 2 ^ 32) (on_weights l a)
weights_few l (static_data o) light = three_few 0 (l.regions + 1) (data_span l.grain o) (patch_row l) 44 (object_row l o.number 1) l.regions light (omega arith)
weights_few l (static_code p) light = three_few 0 (l.regions + 1) (code_span l.grain p) (patch_row l) (on_code_bytes p) (block_row l p.first) (blocks_of p) light.0 light.1
weights_few l (overlay_data r o) light =
    let jobs = job_few o.writable in
    three_few r 1 (data_span l.grain o) (patch_row l) (overlay_data_bytes o) (object_row l o.number r) 1 light (omega (arith, jobs))
weights_few l (overlay_code r p) light = three_few r 1 (code_span l.grain p) (patch_row l) (on_code_bytes p) (block_row l p.first) (blocks_of p) light.0 light.1
weights_few l (kept_data pair o) light =
    let jobs = job_few o.writable in
    three_few (first_twin pair) 2 (data_span l.grain o) (patch_row l) (kept_data_bytes o) (object_row l o.number (first_twin pair)) 2 light (omega (arith, jobs))

pub are_weights : (l : Layout) (a : Candidate) → IsCandidateOf l a → IsLight l a → AreWeights (length (on_capacities l)) (on_weights l a)
are_weights l a inside light = record { ascending = weights_in_rows true l a inside tt; small = weights_few l a light }

-- ---- rows

pub rows_count : (l : Layout) → l.regions ≤ 8 → l.blocks ≤ 65536 → l.objects ≤ 4096 → length (on_capacities l) < 2 ^ 17
rows_count l regions blocks objects =
    let count = on_length l in
    let product = mul-le l.objects l.regions 4096 8 objects regions in
    omega (arith, count, regions, blocks, product)

pub capacities_few : (l : Layout) → l.scratchpad < 2 ^ 32 → l.patch < 2 ^ 32 → All (λ n. n < 2 ^ 32) (on_capacities l)
capacities_few l scratchpad patch =
    let IsFew = λ (n : ℕ). n < 2 ^ 32 in
    let spaces = All-replicate IsFew (l.regions + 1) l.scratchpad scratchpad in
    let left = All-cons IsFew (l.patch - fixed_bytes l) [] (omega (arith, patch)) (All-nil IsFew) in
    let blocks = All-replicate IsFew l.blocks 1 (omega arith) in
    let objects = All-replicate IsFew (l.objects * l.regions) 1 (omega arith) in
    All-append IsFew (replicate (l.regions + 1) l.scratchpad ++ (l.patch - fixed_bytes l) ∷ [] ++ replicate l.blocks 1) (replicate (l.objects * l.regions) 1)
    (All-append IsFew (replicate (l.regions + 1) l.scratchpad ++ (l.patch - fixed_bytes l) ∷ []) (replicate l.blocks 1)
    (All-append IsFew (replicate (l.regions + 1) l.scratchpad) ((l.patch - fixed_bytes l) ∷ []) spaces left) blocks) objects
