use Rattle.std.proofs.Common.{subst, sym}
use Rattle.rv32im.specs.RegSet.{HasExactly}
use Rattle.rv32im.proofs.Sets.{more}
use Rattle.rv32im.proofs.registers.set_of.Goals as goal

pub loop-k-preserved : goal.loop-k-preserved
loop-k-preserved c =
    subst (λ ks. HasExactly c.with_register-set.result ks) (sym (more c.args.registers.now c.loop-k.k-index c.loop-k-test.true))
    (c.with_register-set.ensures _ c.loop-k.invariant)
