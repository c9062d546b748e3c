-- A dual node's rule by the prices that are given.
use Rattle.std.proofs.Common.{◌≡◌, ◌↔◌, IsTrue, ℕ, ◌+◌, ◌*◌, ◌<◌, ◌≤◌, List, length, ap, arith}
use Rattle.placement_programme.specs.Plain.{PlainSide}
use Rattle.placement_programme.specs.Bounds.{RowsWithin}
use Rattle.placement_programme.specs.Programme.{gain_at}
use Rattle.placement_programme.specs.Sums.{sum_below}
use Rattle.placement_programme.proofs.TakeLemmas.{below_same}
use Rattle.certificate_checker.specs.Rules.{price, bound, kept, moved, kept_at, moved_at, DualHolds}
use Rattle.certificate_checker.specs.Parts.{kept_part, moved_part, SumsHold}
use Rattle.certificate_checker.specs.Fixings.{fixing_of}
use Rattle.certificate_checker.specs.declared.fixings.Fixing.{Fixing}

pub sums_same : (s : PlainSide) (best : ℕ) (marks : List Fixing) (scale total : ℕ) (given : ℕ → ℕ) (ms : List (ℕ × ℕ)) → ((j : ℕ) → j < length s.vars → given j ≡ price s ms j) → total ≡ bound s ms → SumsHold s best marks scale total given ↔ (bound s ms + sum_below (length s.vars) (kept_at s marks scale ms) ≤ scale * (best + s.fixed) + sum_below (length s.vars) (moved_at s marks ms))
sums_same s best marks scale total given ms prices is =
    let left = below_same (kept_part s marks scale given) (kept_at s marks scale ms) (length s.vars) (λ j inside. ap (λ c. kept (fixing_of marks j) (scale * gain_at s.vars j) c) (prices j inside)) in
    let right = below_same (moved_part marks given) (moved_at s marks ms) (length s.vars) (λ j inside. ap (λ c. moved (fixing_of marks j) c) (prices j inside)) in
    (λ sums. omega (arith, left, right, is, sums), λ sums. omega (arith, left, right, is, sums))

-- a dual node's rule, by its tests and the prices that are given
pub dual_tested : (s : PlainSide) (best : ℕ) (marks : List Fixing) (scale total : ℕ) (given : ℕ → ℕ) (ms : List (ℕ × ℕ)) (b : _) → RowsWithin 0 (length s.rows) ms → ((j : ℕ) → j < length s.vars → given j ≡ price s ms j) → 1 ≤ scale → scale ≤ 65536 → total ≡ bound s ms → (IsTrue b ↔ SumsHold s best marks scale total given) → (IsTrue b ↔ DualHolds s best marks scale ms)
dual_tested s best marks scale total given ms b rows prices least most is test =
    let same = sums_same s best marks scale total given ms prices is in (
      λ found. record { least = least; most = most; rows = rows; sums = same.0 (test.0 found) },
      λ holds. test.1 (same.1 holds.sums),
    )
