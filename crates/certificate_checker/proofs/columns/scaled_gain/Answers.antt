use Rattle.std.proofs.Common.{◌^◌, map, arith}
use Rattle.placement_programme.specs.Plain.{plain_var}
use Rattle.certificate_checker.proofs.Limits.{gain_small, product_small}
use Rattle.certificate_checker.proofs.columns.scaled_gain.Goals as goal

pub overflow_mul-result : goal.overflow_mul-result
overflow_mul-result c =
    let side = c.args.side.now in
    let small = gain_small (map plain_var side.vars.items) c.args.number c.requires.number in
    let total = side.bounds.gains in
    let gain = c.gain_of_var.ensures in
    let scale = c.from.ensures in
    let few = c.requires.scale in
    let most = product_small c.from.result c.gain_of_var.result 65536 (2 ^ 104) (omega (arith, scale, few)) (omega (arith, small, total, gain)) in
    omega (arith, most)
