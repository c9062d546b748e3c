-- Each arm is the method of its instruction.
use Rattle.std.proofs.Common.{rules, w32}
use Rattle.std.specs.Prelude.{FitsSigned}
use Rattle.std.proofs.lemmas.Int.{to_z-of_z}
use Rattle.flat_machine.proofs.machine.Flat.perform_near.Goals as goal

pub returns-in-Lui-clause-state : goal.returns-in-Lui-clause-state
returns-in-Lui-clause-state g c = rw c.in-Lui.is c.lui_near.ensures

pub returns-in-Auipc-clause-state : goal.returns-in-Auipc-clause-state
returns-in-Auipc-clause-state g c = rw c.in-Auipc.is c.auipc_near.ensures

pub returns-in-Jal-clause-state : goal.returns-in-Jal-clause-state
returns-in-Jal-clause-state g c =
    let fits : FitsSigned w32 c.in-Jal.off = search rules in rw c.in-Jal.is (simp to_z-of_z at c.jal_near.ensures)

pub returns-in-Jalr-clause-state : goal.returns-in-Jalr-clause-state
returns-in-Jalr-clause-state g c =
    let fits : FitsSigned w32 c.in-Jalr.imm = search rules in rw c.in-Jalr.is (simp to_z-of_z at c.jalr_near.ensures)

pub returns-in-Lb-clause-state : goal.returns-in-Lb-clause-state
returns-in-Lb-clause-state g c =
    let fits : FitsSigned w32 c.in-Lb.imm = search rules in rw c.in-Lb.is (simp to_z-of_z at c.load_near.ensures.state)

pub returns-in-Lh-clause-state : goal.returns-in-Lh-clause-state
returns-in-Lh-clause-state g c =
    let fits : FitsSigned w32 c.in-Lh.imm = search rules in rw c.in-Lh.is (simp to_z-of_z at c.load_near-in-Lh.ensures.state)

pub returns-in-Lw-clause-state : goal.returns-in-Lw-clause-state
returns-in-Lw-clause-state g c =
    let fits : FitsSigned w32 c.in-Lw.imm = search rules in rw c.in-Lw.is (simp to_z-of_z at c.load_near-in-Lw.ensures.state)

pub returns-in-Lbu-clause-state : goal.returns-in-Lbu-clause-state
returns-in-Lbu-clause-state g c =
    let fits : FitsSigned w32 c.in-Lbu.imm = search rules in rw c.in-Lbu.is (simp to_z-of_z at c.load_near-in-Lbu.ensures.state)

pub returns-in-Lhu-clause-state : goal.returns-in-Lhu-clause-state
returns-in-Lhu-clause-state g c =
    let fits : FitsSigned w32 c.in-Lhu.imm = search rules in rw c.in-Lhu.is (simp to_z-of_z at c.load_near-in-Lhu.ensures.state)

pub returns-in-Addi-clause-state : goal.returns-in-Addi-clause-state
returns-in-Addi-clause-state g c =
    let fits : FitsSigned w32 c.in-Addi.imm = search rules in rw c.in-Addi.is (simp to_z-of_z at c.op_imm_near.ensures)

pub returns-in-Slti-clause-state : goal.returns-in-Slti-clause-state
returns-in-Slti-clause-state g c =
    let fits : FitsSigned w32 c.in-Slti.imm = search rules in rw c.in-Slti.is (simp to_z-of_z at c.op_imm_near-in-Slti.ensures)

pub returns-in-Sltiu-clause-state : goal.returns-in-Sltiu-clause-state
returns-in-Sltiu-clause-state g c =
    let fits : FitsSigned w32 c.in-Sltiu.imm = search rules in rw c.in-Sltiu.is (simp to_z-of_z at c.op_imm_near-in-Sltiu.ensures)

pub returns-in-Xori-clause-state : goal.returns-in-Xori-clause-state
returns-in-Xori-clause-state g c =
    let fits : FitsSigned w32 c.in-Xori.imm = search rules in rw c.in-Xori.is (simp to_z-of_z at c.op_imm_near-in-Xori.ensures)

pub returns-in-Ori-clause-state : goal.returns-in-Ori-clause-state
returns-in-Ori-clause-state g c =
    let fits : FitsSigned w32 c.in-Ori.imm = search rules in rw c.in-Ori.is (simp to_z-of_z at c.op_imm_near-in-Ori.ensures)

pub returns-in-Andi-clause-state : goal.returns-in-Andi-clause-state
returns-in-Andi-clause-state g c =
    let fits : FitsSigned w32 c.in-Andi.imm = search rules in rw c.in-Andi.is (simp to_z-of_z at c.op_imm_near-in-Andi.ensures)

pub returns-in-Slli-clause-state : goal.returns-in-Slli-clause-state
returns-in-Slli-clause-state g c =
    let fits : FitsSigned w32 c.in-Slli.imm = search rules in rw c.in-Slli.is (simp to_z-of_z at c.op_imm_near-in-Slli.ensures)

pub returns-in-Srli-clause-state : goal.returns-in-Srli-clause-state
returns-in-Srli-clause-state g c =
    let fits : FitsSigned w32 c.in-Srli.imm = search rules in rw c.in-Srli.is (simp to_z-of_z at c.op_imm_near-in-Srli.ensures)

pub returns-in-Srai-clause-state : goal.returns-in-Srai-clause-state
returns-in-Srai-clause-state g c =
    let fits : FitsSigned w32 c.in-Srai.imm = search rules in rw c.in-Srai.is (simp to_z-of_z at c.op_imm_near-in-Srai.ensures)

pub returns-in-Add-clause-state : goal.returns-in-Add-clause-state
returns-in-Add-clause-state g c = rw c.in-Add.is c.op_reg_near.ensures

pub returns-in-Sub-clause-state : goal.returns-in-Sub-clause-state
returns-in-Sub-clause-state g c = rw c.in-Sub.is c.op_reg_near-in-Sub.ensures

pub returns-in-Sll-clause-state : goal.returns-in-Sll-clause-state
returns-in-Sll-clause-state g c = rw c.in-Sll.is c.op_reg_near-in-Sll.ensures

pub returns-in-Slt-clause-state : goal.returns-in-Slt-clause-state
returns-in-Slt-clause-state g c = rw c.in-Slt.is c.op_reg_near-in-Slt.ensures

pub returns-in-Sltu-clause-state : goal.returns-in-Sltu-clause-state
returns-in-Sltu-clause-state g c = rw c.in-Sltu.is c.op_reg_near-in-Sltu.ensures

pub returns-in-Xor-clause-state : goal.returns-in-Xor-clause-state
returns-in-Xor-clause-state g c = rw c.in-Xor.is c.op_reg_near-in-Xor.ensures

pub returns-in-Srl-clause-state : goal.returns-in-Srl-clause-state
returns-in-Srl-clause-state g c = rw c.in-Srl.is c.op_reg_near-in-Srl.ensures

pub returns-in-Sra-clause-state : goal.returns-in-Sra-clause-state
returns-in-Sra-clause-state g c = rw c.in-Sra.is c.op_reg_near-in-Sra.ensures

pub returns-in-Or-clause-state : goal.returns-in-Or-clause-state
returns-in-Or-clause-state g c = rw c.in-Or.is c.op_reg_near-in-Or.ensures

pub returns-in-And-clause-state : goal.returns-in-And-clause-state
returns-in-And-clause-state g c = rw c.in-And.is c.op_reg_near-in-And.ensures

pub returns-in-Mul-clause-state : goal.returns-in-Mul-clause-state
returns-in-Mul-clause-state g c = rw c.in-Mul.is c.op_reg_near-in-Mul.ensures

pub returns-in-OpReg-clause-state : goal.returns-in-OpReg-clause-state
returns-in-OpReg-clause-state g c = rw c.in-OpReg.is c.op_reg_near-in-OpReg.ensures
