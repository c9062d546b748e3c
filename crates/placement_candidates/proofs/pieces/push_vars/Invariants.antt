use Rattle.std.proofs.Common.{◌≡◌, ◌++◌, map, take}
use Rattle.placement_candidates.specs.FullVars.{plain_full_var}
use Rattle.placement_candidates.specs.Counted.{counted_code_var}
use Rattle.placement_candidates.proofs.pieces.push_vars.Given as goal

abbrev pub invariant-loop-k : goal.invariant-loop-k
invariant-loop-k l =
    map plain_full_var l.vars.items
    ≡ map plain_full_var l.initial.vars.items ++ map (counted_code_var l.tables.board.now.prices l.tables.profile.now l.tables.code.now l.tables.graph.now l.tables.board.now.grain) (take l.k l.pieces)
