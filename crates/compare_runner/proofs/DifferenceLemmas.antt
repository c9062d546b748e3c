-- The first place at which two lists differ.
use Rattle.std.proofs.Common.{◌≡◌, ℕ, ◌<◌, ◌≤◌, inl, inr, List, ◌++◌, length, take, drop, slice_index, sym, ◌∙◌, ap, arith, length-append}
use Rattle.std.proofs.lemmas.Bool.{cases_lt}
use Rattle.std.proofs.lemmas.List.{get_or-take, get_or_append_left, take-append-drop, take_all}
use Rattle.compare_runner.specs.Comparing.{IsFirstDifference}

-- bytes that are the same up to some place are the same before it
same_before : (xs ys : List ℕ) (k at : ℕ) → take k xs ≡ take k ys → at < k → slice_index xs at ≡ slice_index ys at
same_before xs ys k at same below =
    sym (get_or-take k xs at 0 below) ∙ (ap (λ (zs : List ℕ). slice_index zs at) same ∙ get_or-take k ys at 0 below)

-- a list that differs from another behind all of that begins with it
pub begins_with : (xs ys : List ℕ) (at : ℕ) → IsFirstDifference xs ys at → at ≡ length xs → (more : List ℕ) × (ys ≡ xs ++ more)
begins_with xs ys at is all =
    let whole : take at xs ≡ xs = take_all at xs (omega (arith, all)) in
    (drop at ys, sym (take-append-drop at ys) ∙ ap (λ (zs : List ℕ). zs ++ drop at ys) (sym is.same ∙ whole))

-- and only such a list does
pub differs_behind : (xs ys more : List ℕ) (at : ℕ) → IsFirstDifference xs ys at → ys ≡ xs ++ more → at ≡ length xs
differs_behind xs ys more at is e =
    let within = is.of_first in
    elim (cases_lt at (length xs)) [
      | inl before ↦
          let long = ap length e ∙ length-append xs more in
          let below : at < length ys = omega (arith, before, long) in
          absurd (is.differ before below (sym (ap (λ (zs : List ℕ). slice_index zs at) e ∙ get_or_append_left xs more 0 at before)))
      | inr behind ↦ omega (arith, within, behind)
    ]

-- lists that differ behind all of both are the same
pub same_lists : (xs ys : List ℕ) (at : ℕ) → IsFirstDifference xs ys at → at ≡ length xs → at ≡ length ys → ys ≡ xs
same_lists xs ys at is first second =
    sym (take_all at ys (omega (arith, second))) ∙ (sym is.same ∙ take_all at xs (omega (arith, first)))

not_behind : (xs ys : List ℕ) (at k : ℕ) → IsFirstDifference xs ys at → IsFirstDifference xs ys k → k ≤ at
not_behind xs ys at k is other =
    elim (cases_lt at k) [
      | inl before ↦
          let first = other.of_first in
          let second = other.of_second in
          absurd (is.differ (omega (arith, before, first)) (omega (arith, before, second)) (same_before xs ys k at other.same before))
      | inr behind ↦ behind
    ]

-- two lists differ first at one place
pub one_place : (xs ys : List ℕ) (at k : ℕ) → IsFirstDifference xs ys at → IsFirstDifference xs ys k → at ≡ k
one_place xs ys at k is other =
    let below = not_behind xs ys at k is other in
    let above = not_behind xs ys k at other is in
    omega (arith, below, above)
