use Rattle.std.proofs.Common.{◌≤◌, ◌^◌}
use Rattle.placement_programme.specs.Views.{plain_side}
use Rattle.branch_bound.specs.Stands.{Stands, ahead}
use Rattle.certificate_checker.specs.Tallies.{AreTallies}
use Rattle.branch_bound.proofs.searching.search.Given as goal

abbrev pub invariant-loop-node : goal.invariant-loop-node
invariant-loop-node g l = record {
  stands : Stands l.task.on (plain_side l.task.side.now) l.task.ranking.now l.fn.node.marks.items l.fn.run l.trail l.node.marks.items l.run l.stand;
  tallies : AreTallies (plain_side l.task.side.now) l.node;
  small : l.run.best.gain ≤ 2 ^ 104;
}

abbrev pub decreases-loop-node : goal.decreases-loop-node
decreases-loop-node g l = ahead l.run l.trail l.stand
