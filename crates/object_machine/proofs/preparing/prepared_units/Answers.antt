use Rattle.std.proofs.Common.{◌<◌, length, arith}
use Rattle.elf_reader.specs.File.{plain_view}
use Rattle.object_machine.proofs.BlockUnitsLemmas.{prepared_more}
use Rattle.object_machine.proofs.preparing.prepared_units.Goals as goal

pub loop-k-preserved : goal.loop-k-preserved
loop-k-preserved c =
    let below : c.loop-k.k < length c.args.units.now = omega arith in
    prepared_more (plain_view c.args.file.now.view.now) c.args.graph.now c.args.units.now c.loop-k.k c.loop-k.out.items c.push.new.self.items c.prepared.result _ below c.loop-k.invariant c.prepared.ensures c.in_ok-push.ensures.items
