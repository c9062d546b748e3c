use Rattle.std.proofs.Common.{List, subst}
use Rattle.code_blocks.specs.declared.parts.Block.{Block}
use Rattle.energy_model.specs.Base.{IsCounted}
use Rattle.placement_candidates.proofs.counting.base.Goals as goal

pub returns-clause-small : goal.returns-clause-small
returns-clause-small c =
    c.requires.small c.base_of.result
    (subst (λ (bs : List Block). IsCounted c.args.board.now.prices bs c.args.profile.now c.base_of.result) c.deref.ensures.value c.base_of.ensures)
