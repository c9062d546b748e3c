use Rattle.std.proofs.Common.{ap, arith}
use Rattle.rv32im.specs.Acts.{Registers}
use Rattle.flat_machine.specs.Machine.{state_of}
use Rattle.flat_machine.proofs.Registers.{regs-set}
use Rattle.flat_machine.proofs.machine.Flat.set_register.Goals as goal

pub returns : goal.returns
returns g c =
    let s = state_of g.S.ByteStore.byte_at c.args.self.now in
    ap (λ (regs : Registers). record s { hart = record s.hart { regs = regs } })
    (regs-set c.args.self.now.regs c.from.result c.args.rd c.args.value c.from.ensures c.args.self.now.zero (omega arith))
