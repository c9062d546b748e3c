use Rattle.std.proofs.Common.{◌∙◌, List, length, ap, sym}
use Rattle.code_blocks.specs.declared.parts.Unit.{Unit}
use Rattle.energy_model.specs.Priced.{units_price}
use Rattle.energy_model.proofs.PriceLemmas.{units_here}
use Rattle.energy_model.proofs.units.block_price.Goals as goal

pub returns : goal.returns
returns c =
    let same = units_here c.args.blocks.now c.args.k c.index-blocks-k.result c.requires c.index-blocks-k.is in
    c.whole_price.ensures ∙ ap (λ (us : List Unit). units_price c.args.prices.now us (length us)) (sym same)
