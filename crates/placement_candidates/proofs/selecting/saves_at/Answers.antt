use Rattle.std.proofs.Common.{◌∙◌, sym}
use Rattle.placement_candidates.proofs.SelectLemmas.{saves_here}
use Rattle.placement_candidates.proofs.selecting.saves_at.Goals as goal

pub returns : goal.returns
returns c = c.saves_by_overlay.ensures ∙ sym (saves_here c.args.vars.now c.args.k c.index-vars-k.result c.requires c.index-vars-k.is)
