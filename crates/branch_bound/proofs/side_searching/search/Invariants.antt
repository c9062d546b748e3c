use Rattle.placement_programme.specs.Views.{plain_side, plain_programme}
use Rattle.branch_bound.specs.Rounds.{IsReady}
use Rattle.branch_bound.specs.SideStands.{SideStands, side_ahead}
use Rattle.branch_bound.proofs.side_searching.search.Given as goal

abbrev pub invariant-loop-guide : goal.invariant-loop-guide
invariant-loop-guide g l = record {
  stands : SideStands g.G.Guide.answers (plain_programme l.task.programme.now) l.task.on (plain_side l.task.side.now) l.fn.marks (l.fn.guide, l.fn.best) l.trail l.marks (l.guide, l.best) l.at;
  ready : IsReady l.task l.marks l.best;
}

abbrev pub decreases-loop-guide : goal.decreases-loop-guide
decreases-loop-guide g l = side_ahead l.best l.trail l.at
