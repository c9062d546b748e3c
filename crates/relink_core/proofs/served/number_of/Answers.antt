use Rattle.std.proofs.Common.{refl}
use Rattle.code_blocks.proofs.NumberLemmas.{number_fits}
use Rattle.relink_core.proofs.served.number_of.Goals as goal

pub number_below-requires : goal.number_below-requires
number_below-requires c =
    number_fits c.args.code.now.blocks.items c.index.result.now.start c.args.block c.index.result.now c.requires.ascending c.requires.below c.index.ensures refl
