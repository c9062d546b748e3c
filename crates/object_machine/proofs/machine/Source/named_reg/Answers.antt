use Rattle.std.proofs.Common.{None, refl, sym, ◌∙◌, ap}
use Rattle.cell_values.specs.Objects.{objects_of}
use Rattle.cell_values.specs.declared.values.Val.TheVariants.{Int}
use Rattle.rv32im.specs.declared.instructions.Instr.TheVariants.{OpReg}
use Rattle.object_machine.specs.State.{value}
use Rattle.object_machine.specs.Machine.{seen_state}
use Rattle.object_machine.proofs.NumberLemmas.{numbers_operated}
use Rattle.object_machine.proofs.NamedLemmas.{wrote_on}
use Rattle.object_machine.proofs.machine.Source.named_reg.Goals as goal

pub returns-in-Int-register : goal.returns-in-Int-register
returns-in-Int-register g c =
    let m = c.args.self.now in
    let regs = (seen_state m).regs in
    let first = sym c.register.ensures.value ∙ c.in-Int.is in
    let second = sym c.register-in-Int.ensures.value ∙ c.in-Int-register.is in
    wrote_on m c.write_on.new.self (OpReg c.args.kind c.args.rd c.args.rs1 c.args.rs2) c.args.rd _ _ None c.requires.named refl c.write_on.ensures refl
    (ap Int c.reg_result.ensures ∙ numbers_operated (objects_of m.tables.graph) c.args.kind c.in-Int.a c.in-Int-register.b (value regs c.args.rs1) (value regs c.args.rs2) first second) refl
