-- The arm is the method of its instruction.
use Rattle.std.proofs.Common.{◌≡◌, ◌∙◌, ℤ, rules, ap, w32, of_z, to_z}
use Rattle.std.specs.Prelude.{FitsSigned}
use Rattle.std.proofs.lemmas.Int.{to_z-of_z}
use Rattle.rv32im.specs.declared.instructions.Instr.TheVariants.{OpImm}
use Rattle.object_machine.specs.Step.{acts}
use Rattle.object_machine.specs.Units.{target_of}
use Rattle.object_machine.specs.Machine.{here, seen, seen_state}
use Rattle.object_machine.proofs.machine.Source.perform_one.Goals as goal

pub returns-in-Store-clause-state : goal.returns-in-Store-clause-state
returns-in-Store-clause-state c =
    let fits : FitsSigned w32 c.in-Store.imm = search rules in rw c.in-Store.is (simp to_z-of_z at c.store.ensures.state)

pub returns-in-OpImm-clause-state : goal.returns-in-OpImm-clause-state
returns-in-OpImm-clause-state c =
    let m = c.args.self.now in
    let fits : FitsSigned w32 c.in-OpImm.imm = search rules in
    let same : to_z w32 (of_z w32 c.in-OpImm.imm) ≡ c.in-OpImm.imm = to_z-of_z w32 c.in-OpImm.imm fits in
    let is = ap (λ (n : ℤ). acts (seen m) (seen_state m) (OpImm c.in-OpImm.kind c.in-OpImm.rd c.in-OpImm.rs1 n) (target_of (here m).site)) same in
    rw c.in-OpImm.is (c.op_imm.ensures.0, c.op_imm.ensures.1 ∙ is)
