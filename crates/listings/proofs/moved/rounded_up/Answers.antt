use Rattle.std.proofs.Common.{◌+◌, ◌-◌, arith}
use Rattle.std.proofs.Math.Nat.{div-mul-le_self}
use Rattle.listings.proofs.moved.rounded_up.Goals as goal

pub overflow_mul-result : goal.overflow_mul-result
overflow_mul-result c =
    let most = div-mul-le_self (c.args.n + (c.args.grain - 1)) c.args.grain in
    omega (arith, most)
