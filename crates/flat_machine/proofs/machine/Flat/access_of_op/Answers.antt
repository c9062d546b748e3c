-- Each arm is that of its instruction.
use Rattle.std.proofs.Common.{rules, w32}
use Rattle.std.specs.Prelude.{FitsSigned}
use Rattle.std.proofs.lemmas.Int.{to_z-of_z}
use Rattle.flat_machine.proofs.machine.Flat.access_of_op.Goals as goal

pub returns-in-Lb : goal.returns-in-Lb
returns-in-Lb g c =
    let fits : FitsSigned w32 c.in-Lb.imm = search rules in rw c.in-Lb.is (simp to_z-of_z at (c.load_access.ensures c.in-Lb.rd))

pub returns-in-Lh : goal.returns-in-Lh
returns-in-Lh g c =
    let fits : FitsSigned w32 c.in-Lh.imm = search rules in rw c.in-Lh.is (simp to_z-of_z at (c.load_access-in-Lh.ensures c.in-Lh.rd))

pub returns-in-Lw : goal.returns-in-Lw
returns-in-Lw g c =
    let fits : FitsSigned w32 c.in-Lw.imm = search rules in rw c.in-Lw.is (simp to_z-of_z at (c.load_access-in-Lw.ensures c.in-Lw.rd))

pub returns-in-Lbu : goal.returns-in-Lbu
returns-in-Lbu g c =
    let fits : FitsSigned w32 c.in-Lbu.imm = search rules in rw c.in-Lbu.is (simp to_z-of_z at (c.load_access-in-Lbu.ensures c.in-Lbu.rd))

pub returns-in-Lhu : goal.returns-in-Lhu
returns-in-Lhu g c =
    let fits : FitsSigned w32 c.in-Lhu.imm = search rules in rw c.in-Lhu.is (simp to_z-of_z at (c.load_access-in-Lhu.ensures c.in-Lhu.rd))

pub returns-in-Sb : goal.returns-in-Sb
returns-in-Sb g c =
    let fits : FitsSigned w32 c.in-Sb.imm = search rules in rw c.in-Sb.is (simp to_z-of_z at (c.store_access.ensures c.in-Sb.rs2))

pub returns-in-Sh : goal.returns-in-Sh
returns-in-Sh g c =
    let fits : FitsSigned w32 c.in-Sh.imm = search rules in rw c.in-Sh.is (simp to_z-of_z at (c.store_access-in-Sh.ensures c.in-Sh.rs2))

pub returns-in-Sw : goal.returns-in-Sw
returns-in-Sw g c =
    let fits : FitsSigned w32 c.in-Sw.imm = search rules in rw c.in-Sw.is (simp to_z-of_z at (c.store_access-in-Sw.ensures c.in-Sw.rs2))
