use Rattle.elf_reader.specs.File.{plain_view}
use Rattle.relink_core.proofs.MovedRangeLemmas.{moves_more}
use Rattle.relink_core.proofs.symbol_moves.symbol_moves.Goals as goal

pub loop-k-preserved : goal.loop-k-preserved
loop-k-preserved c =
    moves_more (plain_view c.in_ok-file.file.view.now) c.args.graph.now c.args.places.now c.args.objects.now c.in_ok-ranges.ranges c.loop-k.k c.symbol_value-value.result _ _ c.in_ok-ranges.ensures c.symbol_value-value.ensures c.loop-k.invariant c.in_ok-push_move.ensures
