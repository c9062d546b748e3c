-- What a round of searches of both sides begins with, and what it finds.
use Rattle.std.specs.Prelude.{◌≤◌, List, length}
use Rattle.placement_programme.specs.Plain.{PlainProgramme}
use Rattle.placement_programme.specs.Views.{plain_side, plain_programme}
use Rattle.certificate_checker.specs.RowWise.{rows_of, IsOfSide}
use Rattle.certificate_checker.specs.Shows.{Shows}
use Rattle.certificate_checker.specs.Spelling.{IsInRange}
use Rattle.certificate_checker.specs.Views.{plain_certificate}
use Rattle.certificate_checker.specs.declared.fixings.Fixing.{Fixing}
use Rattle.branch_bound.specs.Incumbents.{IsSound}
use Rattle.branch_bound.specs.declared.side_incumbents.Incumbent.{Incumbent}
use Rattle.branch_bound.specs.declared.side_searching.Task.{Task}
use Rattle.branch_bound.specs.declared.side_visiting.Round.{Round}
use Rattle.branch_bound.specs.declared.side_visiting.Round.TheVariants.{Certified, Unfinished}

-- a certificate that shows its choice to be best, within the ranges of its text, or a sound incumbent
abbrev pub IsRound : PlainProgramme → Round → Type 0
IsRound p (Certified c) = Shows p (plain_certificate c) × IsInRange (plain_certificate c)
IsRound p (Unfinished best) = IsSound p best

-- a side can be searched: its weights by rows are its own, each variable has a mark, and the best choice so far is sound
pub record IsReady (task : Task) (marks : List Fixing) (best : Incumbent) : Type 0 where
  pub by_row : IsOfSide (plain_side task.side.now) (rows_of task.by_row.now)
  pub marked : length (plain_side task.side.now).vars ≤ length marks
  pub sound : IsSound (plain_programme task.programme.now) best
