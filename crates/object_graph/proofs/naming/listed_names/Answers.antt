use Rattle.std.proofs.Common.{arith}
use Rattle.object_graph.proofs.NameLemmas.{names_more}
use Rattle.object_graph.proofs.naming.listed_names.Goals as goal

pub loop-listed-preserved : goal.loop-listed-preserved
loop-listed-preserved c name =
    names_more name c.args.board.now.fix.items c.deref-listed-items.result.now c.loop-listed.listed-index c.listed-item.result c.as_bytes.result c.loop-listed.names c.insert.new.self c.deref-listed-items.ensures.value (omega arith) c.listed-item.is c.as_bytes.ensures.value c.in_ok-insert.ensures.updates (c.loop-listed.invariant name)
