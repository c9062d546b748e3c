use Rattle.std.proofs.lemmas.List.Elements.{All-map}
use Rattle.placement_programme.specs.Plain.{PlainVar, plain_var}
use Rattle.placement_programme.specs.Bounds.{AreWeights}
use Rattle.placement_programme.proofs.WeightLemmas.{all_mapped}
use Rattle.placement_programme.proofs.limits.weights_fit.Goals as goal

pub returns : goal.returns
returns c = (
  λ found. All-map (λ (v : PlainVar). AreWeights c.args.count v.weights) plain_var c.args.vars.now (c.all_weigh.ensures.0 found),
  λ all. c.all_weigh.ensures.1 (all_mapped (λ (v : PlainVar). AreWeights c.args.count v.weights) plain_var c.args.vars.now all),
)
