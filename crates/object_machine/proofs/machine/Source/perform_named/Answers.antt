-- Each arm is the method of its name.
use Rattle.object_machine.proofs.machine.Source.perform_named.Goals as goal

pub returns-in-Lui : goal.returns-in-Lui
returns-in-Lui g c = c.named_lui.ensures

pub returns-in-Jal : goal.returns-in-Jal
returns-in-Jal g c = c.named_jal.ensures

pub returns-in-Jalr : goal.returns-in-Jalr
returns-in-Jalr g c = c.named_jalr.ensures

pub returns-in-Beq : goal.returns-in-Beq
returns-in-Beq g c = c.named_branch.ensures

pub returns-in-Bne : goal.returns-in-Bne
returns-in-Bne g c = c.named_branch-in-Bne.ensures

pub returns-in-Blt : goal.returns-in-Blt
returns-in-Blt g c = c.named_branch-in-Blt.ensures

pub returns-in-Bge : goal.returns-in-Bge
returns-in-Bge g c = c.named_branch-in-Bge.ensures

pub returns-in-Bltu : goal.returns-in-Bltu
returns-in-Bltu g c = c.named_branch-in-Bltu.ensures

pub returns-in-Bgeu : goal.returns-in-Bgeu
returns-in-Bgeu g c = c.named_branch-in-Bgeu.ensures

pub returns-in-Lb : goal.returns-in-Lb
returns-in-Lb g c = c.named_load.ensures

pub returns-in-Lh : goal.returns-in-Lh
returns-in-Lh g c = c.named_load-in-Lh.ensures

pub returns-in-Lw : goal.returns-in-Lw
returns-in-Lw g c = c.named_load-in-Lw.ensures

pub returns-in-Lbu : goal.returns-in-Lbu
returns-in-Lbu g c = c.named_load-in-Lbu.ensures

pub returns-in-Lhu : goal.returns-in-Lhu
returns-in-Lhu g c = c.named_load-in-Lhu.ensures

pub returns-in-Sb : goal.returns-in-Sb
returns-in-Sb g c = c.named_store.ensures

pub returns-in-Sh : goal.returns-in-Sh
returns-in-Sh g c = c.named_store-in-Sh.ensures

pub returns-in-Sw : goal.returns-in-Sw
returns-in-Sw g c = c.named_store-in-Sw.ensures

pub returns-in-Addi : goal.returns-in-Addi
returns-in-Addi g c = c.named_imm.ensures

pub returns-in-Andi : goal.returns-in-Andi
returns-in-Andi g c = c.named_imm-in-Andi.ensures

pub returns-in-Slli : goal.returns-in-Slli
returns-in-Slli g c = c.named_imm-in-Slli.ensures

pub returns-in-Srli : goal.returns-in-Srli
returns-in-Srli g c = c.named_imm-in-Srli.ensures

pub returns-in-OpImm : goal.returns-in-OpImm
returns-in-OpImm g c = c.named_imm-in-OpImm.ensures

pub returns-in-Add : goal.returns-in-Add
returns-in-Add g c = c.named_reg.ensures

pub returns-in-Sub : goal.returns-in-Sub
returns-in-Sub g c = c.named_reg-in-Sub.ensures

pub returns-in-Xor : goal.returns-in-Xor
returns-in-Xor g c = c.named_reg-in-Xor.ensures

pub returns-in-Or : goal.returns-in-Or
returns-in-Or g c = c.named_reg-in-Or.ensures

pub returns-in-And : goal.returns-in-And
returns-in-And g c = c.named_reg-in-And.ensures

pub returns-in-Mul : goal.returns-in-Mul
returns-in-Mul g c = c.named_reg-in-Mul.ensures

pub returns-in-OpReg : goal.returns-in-OpReg
returns-in-OpReg g c = c.named_reg-in-OpReg.ensures
