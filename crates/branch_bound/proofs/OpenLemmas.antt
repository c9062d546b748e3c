-- The dual rule without multipliers, by the gains of the variables that aren't fixed to zero.
use Rattle.std.proofs.Common.{◌≡◌, ℕ, zero, suc, ◌+◌, ◌≤◌, ◌↔◌, List, [], length, refl, arith}
use Rattle.placement_programme.specs.Plain.{PlainSide}
use Rattle.placement_programme.specs.Sums.{sum_below}
use Rattle.certificate_checker.specs.Rules.{moved, kept_at, moved_at, DualHolds}
use Rattle.certificate_checker.specs.Fixings.{fixing_of}
use Rattle.certificate_checker.specs.declared.fixings.Fixing.{Fixing}
use Rattle.certificate_checker.specs.declared.fixings.Fixing.TheVariants.{Zero, One, Free}

nothing_moved : (m : Fixing) → moved m 0 ≡ 0
nothing_moved Zero = refl
nothing_moved One = refl
nothing_moved Free = refl

none_moved : (s : PlainSide) (marks : List Fixing) (n : ℕ) → sum_below n (moved_at s marks []) ≡ 0
none_moved s marks zero = refl
none_moved s marks (suc n) =
    let rest = none_moved s marks n in
    let here = nothing_moved (fixing_of marks n) in
    omega (arith, rest, here)

pub plain_dual_is : (s : PlainSide) (best total : ℕ) (marks : List Fixing) → total ≡ sum_below (length s.vars) (kept_at s marks 1 []) → (total ≤ best + s.fixed) ↔ DualHolds s best marks 1 []
plain_dual_is s best total marks is =
    let none = none_moved s marks (length s.vars) in (
      λ within. record { least = omega arith; most = omega arith; rows = tt; sums = omega (arith, is, within, none) },
      λ dual. let sums = dual.sums in omega (arith, is, sums, none),
    )
