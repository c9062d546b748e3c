use Rattle.std.proofs.Common.{◌∙◌, sym}
use Rattle.placement_candidates.proofs.SelectLemmas.{worth_here}
use Rattle.placement_candidates.proofs.selecting.worth_at.Goals as goal

pub returns : goal.returns
returns c = c.worth.ensures ∙ sym (worth_here c.args.vars.now c.args.k c.index-vars-k.result c.requires c.index-vars-k.is)
