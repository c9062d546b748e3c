use Rattle.std.proofs.Common.{◌+◌, ◌*◌, arith}
use Rattle.std.proofs.lemmas.Nat.{mul-le}
use Rattle.compare_runner.proofs.comparing.most_steps.Goals as goal

-- fewer than 2 ^ 64 steps, and a size below 2 ^ 32
pub overflow_mul-result-2 : goal.overflow_mul-result-2
overflow_mul-result-2 c =
    let bound = mul-le (c.from.result + 1) (12 * c.from-2.result + 256) 18446744073709551616 68719476736 (omega arith) (omega arith) in
    omega (arith, bound)
