use Rattle.std.proofs.Common.{◌≡◌, map, take}
use Rattle.relocator.specs.Placing.{rows_of}
use Rattle.relocator.proofs.TableLemmas.{home_row}
use Rattle.relocator.proofs.table.homes.Given as goal

abbrev pub invariant-loop-object : goal.invariant-loop-object
invariant-loop-object l = rows_of l.rows.items ≡ map (home_row l.regions) (take l.object-index l.graph.objects.items)
