use Rattle.hex_image.specs.Runs.{map_runs}
use Rattle.hex_image.specs.Reading.{given_by}
use Rattle.hex_image.proofs.EntryLemmas.{Goes}
use Rattle.hex_image.proofs.reading.runs_of.Given as goal

-- the runs, and the entries that are left behind them, have the bytes of the map
abbrev pub invariant-loop-address : goal.invariant-loop-address
invariant-loop-address l = Goes (map_runs l.runs.items) l.address-iterator (given_by l.map)
