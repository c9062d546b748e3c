use Rattle.std.proofs.Common.{◌*◌, ◌^◌, ap, arith}
use Rattle.std.proofs.lemmas.Bool.Decides.{nat_tests}
use Rattle.placement_programme.specs.Views.{plain_side}
use Rattle.certificate_checker.proofs.CreditLemmas.{credit_tested}
use Rattle.certificate_checker.proofs.Limits.{product_small}
use Rattle.certificate_checker.proofs.StreamLemmas.{listed_tested}
use Rattle.certificate_checker.proofs.duals.loaded_holds.Goals as goal

pub overflow_mul-left : goal.overflow_mul-left
overflow_mul-left c =
    let scale = c.from.ensures in
    let few = c.requires.most in
    let small = c.requires.open_gain in
    let most = product_small c.from.result c.args.open_gain 65536 (2 ^ 104) (omega (arith, scale, few)) (omega (arith, small)) in
    omega (arith, most)

pub returns : goal.returns
returns c marks price ms loaded is_gain is_credit =
    let s = plain_side c.args.side.now in
    let scaled = c.scaled_bound.ensures.value in
    let scale = ap (λ n. n * c.args.open_gain) c.from.ensures in
    let test = credit_tested s c.args.best marks c.args.scale c.args.loaded.now.bound c.args.open_gain c.args.loaded.now.credit price is_gain is_credit in
    listed_tested s c.args.best marks price c.args.scale c.args.loaded.now.row_end c.args.loaded.now.bound ms _ loaded (omega arith) c.requires.least c.requires.most (
      λ holds. test.0 (grind (arith, nat_tests, holds, scaled, scale)),
      λ sums. let less = test.1 sums in grind (arith, nat_tests, less, scaled, scale),
    )
