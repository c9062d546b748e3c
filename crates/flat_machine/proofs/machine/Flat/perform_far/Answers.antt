-- Each arm is the method of its instruction.
use Rattle.std.proofs.Common.{rules, w32}
use Rattle.std.specs.Prelude.{FitsSigned}
use Rattle.std.proofs.lemmas.Int.{to_z-of_z}
use Rattle.flat_machine.proofs.machine.Flat.perform_far.Goals as goal

pub returns-in-Lui-clause-state : goal.returns-in-Lui-clause-state
returns-in-Lui-clause-state g c = rw c.in-Lui.is c.lui.ensures

pub returns-in-Auipc-clause-state : goal.returns-in-Auipc-clause-state
returns-in-Auipc-clause-state g c = rw c.in-Auipc.is c.auipc.ensures

pub returns-in-Jal-clause-state : goal.returns-in-Jal-clause-state
returns-in-Jal-clause-state g c =
    let fits : FitsSigned w32 c.in-Jal.off = search rules in rw c.in-Jal.is (simp to_z-of_z at c.jal.ensures)

pub returns-in-Jalr-clause-state : goal.returns-in-Jalr-clause-state
returns-in-Jalr-clause-state g c =
    let fits : FitsSigned w32 c.in-Jalr.imm = search rules in rw c.in-Jalr.is (simp to_z-of_z at c.jalr.ensures)

pub returns-in-OpImm-clause-state : goal.returns-in-OpImm-clause-state
returns-in-OpImm-clause-state g c =
    let fits : FitsSigned w32 c.in-OpImm.imm = search rules in rw c.in-OpImm.is (simp to_z-of_z at c.op_imm.ensures)

pub returns-in-OpReg-clause-state : goal.returns-in-OpReg-clause-state
returns-in-OpReg-clause-state g c = rw c.in-OpReg.is c.op_reg.ensures

pub returns-in-Load-clause-state : goal.returns-in-Load-clause-state
returns-in-Load-clause-state g c =
    let fits : FitsSigned w32 c.in-Load.imm = search rules in rw c.in-Load.is (simp to_z-of_z at c.load_far.ensures)
