use Rattle.std.proofs.Common.{drop}
use Rattle.relocator.specs.Placing.{rows_of, IsTable}
use Rattle.relocator.proofs.table.table.Given as goal

-- the slots from k on were put
abbrev pub invariant-loop-k : goal.invariant-loop-k
invariant-loop-k l = IsTable l.graph l.regions (drop l.k l.slots) (rows_of l.rows.items)
