use Rattle.std.proofs.Common.{◌^◌, arith}
use Rattle.placement_programme.proofs.WeightLemmas.{weight_small}
use Rattle.placement_programme.proofs.fitting.weight_of.Goals as goal

pub returns-clause-small : goal.returns-clause-small
returns-clause-small c =
    let small = weight_small (2 ^ 32) c.args.weights.now c.args.row (omega arith) c.requires.1.small in
    let is = c.value_in.ensures in
    omega (arith, small, is)
