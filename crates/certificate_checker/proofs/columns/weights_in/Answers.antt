use Rattle.std.proofs.Common.{◌∙◌, sym}
use Rattle.placement_programme.proofs.WeightLemmas.{weights_at_is}
use Rattle.certificate_checker.proofs.columns.weights_in.Goals as goal

pub returns : goal.returns
returns c =
    c.deref.ensures.value
    ∙ sym (weights_at_is c.args.vars.now c.args.number c.index-vars-number.result c.requires)
