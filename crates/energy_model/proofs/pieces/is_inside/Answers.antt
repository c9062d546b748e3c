use Rattle.std.proofs.Common.{◌∙◌}
use Rattle.block_splitter.proofs.MeasureLemmas.{within_is}
use Rattle.energy_model.proofs.pieces.is_inside.Goals as goal

pub returns : goal.returns
returns c =
    c.holds.ensures ∙ within_is c.args.code.now c.args.range.now c.extent_of.result c.args.address c.requires.ascending c.requires.range c.extent_of.ensures c.requires.block
