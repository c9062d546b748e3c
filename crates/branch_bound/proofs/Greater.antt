-- What holds with a best holds with a greater one.
use Rattle.std.proofs.Common.{ℕ, ◌+◌, ◌*◌, ◌≤◌, List, slice_set, arith}
use Rattle.std.proofs.Math.Nat.{mul-le-mul_left}
use Rattle.placement_programme.specs.Plain.{PlainSide}
use Rattle.certificate_checker.specs.Nodes.{PlainTree, branch, over, dual, leaf}
use Rattle.certificate_checker.specs.declared.fixings.Fixing.{Fixing}
use Rattle.certificate_checker.specs.declared.fixings.Fixing.TheVariants.{Zero, One}
use Rattle.certificate_checker.specs.Rules.{Holds, DualHolds, LeafHolds}

pub leaf_more : (s : PlainSide) (best more : ℕ) (marks : List Fixing) → best ≤ more → LeafHolds s best marks → LeafHolds s more marks
leaf_more s best more marks order holds =
    record { full = holds.full; gains = let gains = holds.gains in omega (arith, gains, order) }

pub dual_more : (s : PlainSide) (best more : ℕ) (marks : List Fixing) (scale : ℕ) (ms : List (ℕ × ℕ)) → best ≤ more → DualHolds s best marks scale ms → DualHolds s more marks scale ms
dual_more s best more marks scale ms order holds =
    let wider : best + s.fixed ≤ more + s.fixed = omega (arith, order) in
    let scaled : scale * (best + s.fixed) ≤ scale * (more + s.fixed) = mul-le-mul_left scale wider in
    record {
      least = holds.least;
      most = holds.most;
      rows = holds.rows;
      sums = let sums = holds.sums in omega (arith, sums, scaled);
    }

pub holds_more : (s : PlainSide) (best more : ℕ) (marks : List Fixing) (t : PlainTree) → best ≤ more → Holds s best marks t → Holds s more marks t
holds_more s best more marks (branch j l r) order holds =
    (holds.0, holds_more s best more (slice_set marks j Zero) l order holds.1, holds_more s best more (slice_set marks j One) r order holds.2)
holds_more s best more marks (over row) order holds = holds
holds_more s best more marks (dual scale ms) order holds = dual_more s best more marks scale ms order holds
holds_more s best more marks leaf order holds = leaf_more s best more marks order holds
