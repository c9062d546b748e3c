use Rattle.std.proofs.Common.{◌↔◌, drop}
use Rattle.placement_programme.specs.Bounds.{RowsWithin}
use Rattle.placement_programme.proofs.rows.rows_ascend.Given as goal

abbrev pub invariant-loop-entry : goal.invariant-loop-entry
invariant-loop-entry l =
    RowsWithin 0 l.count l.entries ↔ RowsWithin l.least l.count (drop l.entry-index l.entries)
