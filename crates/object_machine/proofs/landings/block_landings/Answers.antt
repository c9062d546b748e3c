use Rattle.object_machine.proofs.landings.block_landings.Goals as goal

pub loop-k-preserved : goal.loop-k-preserved
loop-k-preserved c = c.add_start.ensures c.args.block_units.now.starts.items c.address_in-start.ensures c.loop-k.invariant
