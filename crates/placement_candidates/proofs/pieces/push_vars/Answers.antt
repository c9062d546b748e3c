use Rattle.std.proofs.Common.{map}
use Rattle.placement_candidates.specs.FullVars.{plain_full_var}
use Rattle.placement_candidates.specs.Counted.{counted_code_var}
use Rattle.placement_candidates.proofs.PieceLemmas.{one_var}
use Rattle.placement_candidates.proofs.pieces.push_vars.Goals as goal

pub loop-k-preserved : goal.loop-k-preserved
loop-k-preserved c =
    one_var (counted_code_var c.args.tables.now.board.now.prices c.args.tables.now.profile.now c.args.tables.now.code.now c.args.tables.now.graph.now c.args.tables.now.board.now.grain)
    (map plain_full_var c.args.vars.now.items) (map plain_full_var c.loop-k.vars.items) (map plain_full_var c.push_var.new.vars.items) c.args.pieces.now c.loop-k.k c.index-pieces-k.result
    c.loop-k-test.true c.index-pieces-k.is c.loop-k.invariant c.in_ok-push_var.ensures
