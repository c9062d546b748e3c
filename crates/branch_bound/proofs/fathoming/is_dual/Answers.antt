use Rattle.std.proofs.Common.{◌^◌, ◌<◌, subst}
use Rattle.std.specs.List.{All}
use Rattle.placement_programme.specs.Bounds.{value_of}
use Rattle.placement_programme.specs.Views.{plain_side}
use Rattle.certificate_checker.specs.Rules.{DualHolds}
use Rattle.branch_bound.proofs.Ranges.{dual_in_range}
use Rattle.branch_bound.proofs.fathoming.is_dual.Goals as goal

pub returns-then-holds : goal.returns-then-holds
returns-then-holds c =
    λ small.
    let s = plain_side c.args.weighed.now.side.now in
    let dual = c.args.dual.now in
    let holds = subst (λ ms. DualHolds s c.args.best c.args.marks.now dual.scale ms) c.deref.ensures.value (c.in_ok-holds.ensures.0 c.if-holds.true) in
    let all = subst (λ ms. All (λ m. value_of m < 2 ^ 64) ms) c.deref-then-holds.ensures.value (c.are_small.ensures.0 small) in
    (holds, dual_in_range s c.args.best c.args.marks.now dual.scale dual.multipliers.items c.args.weighed.now.side.now.bounds holds all)
