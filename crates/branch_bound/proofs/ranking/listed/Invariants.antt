use Rattle.placement_programme.specs.Views.{plain_side}
use Rattle.branch_bound.specs.Ranking.{AreListed}
use Rattle.branch_bound.proofs.ranking.listed.Given as goal

abbrev pub invariant-loop-number : goal.invariant-loop-number
invariant-loop-number l = AreListed (plain_side l.side) l.number l.ranked.items
