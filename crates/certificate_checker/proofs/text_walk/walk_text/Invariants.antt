use Rattle.std.proofs.Common.{◌≡◌, ◌≤◌, length}
use Rattle.placement_programme.specs.Views.{plain_side}
use Rattle.certificate_checker.specs.Prices.{AreFrom}
use Rattle.certificate_checker.specs.Tallies.{IsAssignmentOf}
use Rattle.certificate_checker.specs.LastDuals.{IsLast}
use Rattle.certificate_checker.specs.Ways.{text_of, Stands, left}
use Rattle.certificate_checker.proofs.text_walk.walk_text.Given as goal

abbrev pub invariant-loop-assignment : goal.invariant-loop-assignment
invariant-loop-assignment l = record {
  stands : Stands (text_of (plain_side l.task.side.now) l.task.judged l.task.best l.task.total l.task.levels l.bytes) l.path l.assignment.marks.items l.progress l.rest;
  depth : l.progress.depth ≤ l.task.levels;
  exact : IsAssignmentOf (plain_side l.task.side.now) l.assignment;
  fresh : AreFrom (length l.rest) l.prices.list.items;
  same : length l.prices.list.items ≡ length l.fn.prices.list.items;
  last : IsLast (plain_side l.task.side.now) l.assignment.marks.items l.prices;
}

abbrev pub decreases-loop-assignment : goal.decreases-loop-assignment
decreases-loop-assignment l = left l.progress l.rest
