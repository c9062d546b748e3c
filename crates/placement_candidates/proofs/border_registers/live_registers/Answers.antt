use Rattle.std.proofs.Common.{arith}
use Rattle.dataflow.specs.Live.{Live}
use Rattle.placement_candidates.proofs.FoundLemmas.{live_more, live_upto}
use Rattle.placement_candidates.proofs.border_registers.live_registers.Goals as goal

pub loop-register-preserved : goal.loop-register-preserved
loop-register-preserved c code table x =
    live_more (Live code c.args.leader) c.loop-register.register c.loop-register.bits c.with_register-bits.result x c.is_live.result (c.is_live.ensures code table) (c.with_register-bits.ensures x) (c.loop-register.invariant code table x)

pub returns : goal.returns
returns c code table x low =
    live_upto (Live code c.args.leader) c.loop-register.register c.loop-register.bits x (omega (arith, c.loop-register-test.false)) low (c.loop-register.invariant code table x)
