-- No bound lies between neighbours of a list of bounds that ascend.
use Rattle.std.proofs.Common.{◌≡◌, ◌∙◌, inl, inr, ℕ, ◌+◌, ◌<◌, ◌≤◌, false, List, length, slice_index_or, min, ap, arith}
use Rattle.std.specs.List.{list_any}
use Rattle.std.specs.List.Sorted.{IsStrictlyIncreasing}
use Rattle.std.proofs.lemmas.Bool.{cases_lt}
use Rattle.std.proofs.lemmas.Bool.Decides.{nat_tests}
use Rattle.std.proofs.lemmas.List.{get_or_default}
use Rattle.std.proofs.lemmas.List.Folds.{list_any_none}
use Rattle.std.proofs.lemmas.List.Kept.{AllPairs-from_increasing}
use Rattle.object_graph.specs.Spans.{is_between}

-- the bounds before place `k` are at most `from`, and those from there on at least
pub record IsReached (bounds : List ℕ) (k from : ℕ) : Type 0 where
  pub behind : (j : ℕ) → j < k → min (slice_index_or bounds j 0) 4294967296 ≤ from
  pub ahead : (j : ℕ) → k ≤ j → j < length bounds → from ≤ slice_index_or bounds j 0
  pub limit : from ≤ 4294967296

-- the bounds do not fall
no_fall : (bounds : List ℕ) (i j : ℕ) → IsStrictlyIncreasing bounds → i ≤ j → j < length bounds → slice_index_or bounds i 0 ≤ slice_index_or bounds j 0
no_fall bounds i j rise order below =
    elim (cases_lt i j) [
      | inl before ↦ let less = AllPairs-from_increasing bounds rise i j 0 before below in omega (arith, less)
      | inr behind ↦ let same : i ≡ j = omega (arith, order, behind) in rw same (omega arith)
    ]

passed : (b from a to : ℕ) → min b 4294967296 ≤ from → a < to → to ≤ 4294967296 → is_between from a b ≡ false
passed b from a to behind below limit =
    elim (cases_lt b 4294967296) [
      | inl less ↦ let low : b ≤ from = omega (arith, behind, less) in grind (arith, nat_tests, low)
      | inr more ↦ let high : a < b = omega (arith, below, limit, more) in grind (arith, nat_tests, high)
    ]

not_reached : (b from a to : ℕ) → to ≤ b → a < to → is_between from a b ≡ false
not_reached b from a to ahead below =
    let high : a < b = omega (arith, ahead, below) in grind (arith, nat_tests, high)

-- none lies between the last that was reached and `to`, which is at most the next
pub none_between : (bounds : List ℕ) (k from to a : ℕ) → IsStrictlyIncreasing bounds → IsReached bounds k from → (k < length bounds → to ≤ slice_index_or bounds k 0) → to ≤ 4294967296 → a < to → list_any (is_between from a) bounds ≡ false
none_between bounds k from to a rise reached next limit below =
    list_any_none (is_between from a) bounds (λ j d inside.
    ap (is_between from a) (get_or_default bounds j d 0 inside)
    ∙ elim (cases_lt j k) [
      | inl before ↦ passed (slice_index_or bounds j 0) from a to (reached.behind j before) below limit
      | inr behind ↦
          let here = next (omega (arith, behind, inside)) in
          let lower = no_fall bounds k j rise behind inside in
          not_reached (slice_index_or bounds j 0) from a to (omega (arith, here, lower)) below
    ])

-- one bound more
pub reached_more : (bounds : List ℕ) (k from to : ℕ) → IsStrictlyIncreasing bounds → k < length bounds → to ≡ min (slice_index_or bounds k 0) 4294967296 → IsReached bounds k from → IsReached bounds (k + 1) to
reached_more bounds k from to rise within same reached =
    record {
      behind = λ j before. let lower = no_fall bounds j k rise (omega (arith, before)) within in omega (arith, lower, same);
      ahead = λ j behind inside. let higher = no_fall bounds k j rise (omega (arith, behind)) inside in omega (arith, higher, same);
      limit = omega (arith, same);
    }

-- the bound at place `k`, cut to the number of addresses
pub capped : (bounds : List ℕ) (k bound to : ℕ) → k < length bounds → bound ≡ slice_index_or bounds k bound → to ≡ min bound 4294967296 → to ≡ min (slice_index_or bounds k 0) 4294967296
capped bounds k bound to below here same =
    same ∙ ap (λ b. min b 4294967296) (here ∙ get_or_default bounds k bound 0 below)
