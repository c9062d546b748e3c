use Rattle.placement_programme.specs.Programme.{Fits}
use Rattle.placement_programme.specs.Views.{plain_side}
use Rattle.branch_bound.specs.Assignments.{taken}
use Rattle.branch_bound.specs.Greedy.{Grows}
use Rattle.certificate_checker.specs.Tallies.{AreTallies}
use Rattle.branch_bound.proofs.greedy.grow.Given as goal

abbrev pub invariant-loop-number : goal.invariant-loop-number
invariant-loop-number l = record {
  grows : Grows (plain_side l.side) l.fn.node.marks.items l.number l.node.marks.items;
  tallies : AreTallies (plain_side l.side) l.node;
  fits : Fits (plain_side l.side) (taken (plain_side l.side) l.node.marks.items);
}
