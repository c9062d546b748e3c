use Rattle.std.proofs.Common.{◌≡◌, true, false, option_map, ap, arith}
use Rattle.std.proofs.lemmas.Bool.Decides.{nat_tests}
use Rattle.placement_candidates.specs.FullViews.{plain_full_side}
use Rattle.placement_candidates.specs.Parts.{plain_part}
use Rattle.placement_candidates.proofs.SumLemmas.{off_var_there, on_var_there}
use Rattle.placement_candidates.proofs.sums.part_gain.Goals as goal

pub weighted_gain-requires-clause-inside : goal.weighted_gain-requires-clause-inside
weighted_gain-requires-clause-inside c =
    let is : c.args.on ≡ false = grind (arith, nat_tests, c.if-not-on.true) in
    off_var_there c.args.on c.args.k (plain_part c.args.part.now) is c.requires.inside

pub weighted_gain-requires-in-Some-clause-inside : goal.weighted_gain-requires-in-Some-clause-inside
weighted_gain-requires-in-Some-clause-inside c =
    let is : c.args.on ≡ true = grind (arith, nat_tests, c.if-not-on.false) in
    on_var_there c.args.on c.args.k (plain_part c.args.part.now) (plain_full_side c.in-Some.side) is (ap (option_map plain_full_side) c.in-Some.is) c.requires.inside
