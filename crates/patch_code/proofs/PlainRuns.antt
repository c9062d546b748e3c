-- A plain stub on the flat machine.
use Rattle.std.proofs.Common.{◌*◌, ◌%◌}
use Rattle.rv32im.specs.Words.{upper_half}
use Rattle.flat_machine.proofs.LineWords.{words_here}
use Rattle.flat_machine.proofs.SilentLines.{upper_set, set_other, absolute_ran}
use Rattle.patch_code.specs.PlainStubs.{stub_code}
use Rattle.patch_code.specs.StubLaws.{PlainStubRuns}

pub plain_stub_runs_so : PlainStubRuns
plain_stub_runs_so stub words at s some even within aligned below mean here =
    let code = words_here s at words (stub_code stub) here aligned mean in (
      upper_set s.hart.regs stub.temp stub.to,
      (
        absolute_ran s stub.temp stub.to at here.going here.pc below within even some code,
        λ k other. set_other s.hart.regs stub.temp (upper_half stub.to * 4096 % 4294967296) k other,
      ),
    )
