use Rattle.std.proofs.Common.{◌≡◌, replicate}
use Rattle.profile_runner.specs.Counts.{plain_rows}
use Rattle.profile_runner.proofs.filling.zeros.Given as goal

abbrev pub invariant-loop : goal.invariant-loop
invariant-loop l = plain_rows l.rows.items ≡ replicate l.counter (replicate l.width 0)
