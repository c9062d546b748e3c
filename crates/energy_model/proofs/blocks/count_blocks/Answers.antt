use Rattle.energy_model.proofs.blocks.count_blocks.Goals as goal

pub stretches-requires : goal.stretches-requires
stretches-requires c = record { code = (c.args.graph.now, (c.requires, c.in_ok-counts.ensures)) }
