-- What words that mean an instruction are, and which of these lead to the next word.
use Rattle.std.proofs.Common.{◌≡◌, ◌⊎◌, inl, inr, ℕ, ◌<◌, ◌==◌, nat_lt, Bool, true, false, not, ◌&&◌, ◌||◌, Option, Some, None, refl, sym, ◌∙◌, ap, arith}
use Rattle.std.proofs.lemmas.Bool.Decides.{nat_tests}
use Rattle.rv32im.specs.Fields.{opcode_of, funct3_of}
use Rattle.rv32im.specs.Table.{Means}
use Rattle.rv32im.specs.declared.instructions.Instr.{Instr}
use Rattle.rv32im.specs.declared.instructions.Instr.TheVariants.{Lui, Auipc, Jal, Jalr, Branch, Load, Store, OpImm, OpReg, Fence, FenceI, Ecall, Ebreak}
use Rattle.code_blocks.specs.Words.{is_branch, is_jal, is_jalr}
use Rattle.code_blocks.specs.Meanings.{is_ebreak}
use Rattle.object_machine.specs.Units.{fits, leads_on}

-- registers are below 32
pub means_fits : (w : ℕ) (i : Instr) → Means w i → fits i ≡ true
means_fits w (Lui rd imm) m = grind (arith, nat_tests)
means_fits w (Auipc rd imm) m = grind (arith, nat_tests)
means_fits w (Jal rd off) m = grind (arith, nat_tests)
means_fits w (Jalr rd rs1 imm) m = grind (arith, nat_tests)
means_fits w (Branch kind rs1 rs2 off) m = grind (arith, nat_tests)
means_fits w (Load kind rd rs1 imm) m = grind (arith, nat_tests)
means_fits w (Store kind rs1 rs2 imm) m = grind (arith, nat_tests)
means_fits w (OpImm kind rd rs1 imm) m = grind (arith, nat_tests)
means_fits w (OpReg kind rd rs1 rs2) m = grind (arith, nat_tests)
means_fits w (Fence bits) m = refl
means_fits w (FenceI bits) m = refl
means_fits w Ecall m = refl
means_fits w Ebreak m = refl

-- a word that leads on is no branch, no jump and not EBREAK
pub record LeadsOn (w : ℕ) : Type 0 where
  pub branch : is_branch w ≡ false
  pub jal : is_jal w ≡ false
  pub jalr : is_jalr w ≡ false
  pub ebreak : is_ebreak w ≡ false

off : (a n : ℕ) → (a ≡ n → ⊥) → (a == n) ≡ false
off a n differs = grind (arith, nat_tests, differs)

by_opcode : (w n : ℕ) → opcode_of w ≡ n → (n ≡ 99 → ⊥) → (n ≡ 111 → ⊥) → (n ≡ 103 → ⊥) → (w ≡ 1048691 → ⊥) → LeadsOn w
by_opcode w n is branch jal jalr ebreak =
    let no_branch : (opcode_of w == 99) ≡ false = off (opcode_of w) 99 (λ e. branch (sym is ∙ e)) in
    let no_jalr : (opcode_of w == 103) ≡ false = off (opcode_of w) 103 (λ e. jalr (sym is ∙ e)) in
    record {
      branch = ap (λ (b : Bool). b && not ((funct3_of w == 2) || (funct3_of w == 3))) no_branch;
      jal = off (opcode_of w) 111 (λ e. jal (sym is ∙ e));
      jalr = ap (λ (b : Bool). b && (funct3_of w == 0)) no_jalr;
      ebreak = off w 1048691 ebreak;
    }

not_ebreak : (w n : ℕ) → opcode_of w ≡ n → (n ≡ 115 → ⊥) → w ≡ 1048691 → ⊥
not_ebreak w n is other same = other (omega (arith, is, same))

-- by an opcode of none of these
pub by_other : (w n : ℕ) → opcode_of w ≡ n → (n ≡ 99 → ⊥) → (n ≡ 111 → ⊥) → (n ≡ 103 → ⊥) → (n ≡ 115 → ⊥) → LeadsOn w
by_other w n is branch jal jalr system = by_opcode w n is branch jal jalr (not_ebreak w n is system)

pub leads_further : (w : ℕ) (i : Instr) → Means w i → leads_on i ≡ true → LeadsOn w
leads_further w (Lui rd imm) m leads = by_other w 55 m.0 (omega arith) (omega arith) (omega arith) (omega arith)
leads_further w (Auipc rd imm) m leads = by_other w 23 m.0 (omega arith) (omega arith) (omega arith) (omega arith)
leads_further w (Jal rd off) m leads = cc
leads_further w (Jalr rd rs1 imm) m leads = cc
leads_further w (Branch kind rs1 rs2 off) m leads = cc
leads_further w (Load kind rd rs1 imm) m leads = by_other w 3 m.0 (omega arith) (omega arith) (omega arith) (omega arith)
leads_further w (Store kind rs1 rs2 imm) m leads = by_other w 35 m.0 (omega arith) (omega arith) (omega arith) (omega arith)
leads_further w (OpImm kind rd rs1 imm) m leads = by_other w 19 m.0 (omega arith) (omega arith) (omega arith) (omega arith)
leads_further w (OpReg kind rd rs1 rs2) m leads = by_other w 51 m.0 (omega arith) (omega arith) (omega arith) (omega arith)
leads_further w (Fence bits) m leads = by_other w 15 m.0 (omega arith) (omega arith) (omega arith) (omega arith)
leads_further w (FenceI bits) m leads = by_other w 15 m.0 (omega arith) (omega arith) (omega arith) (omega arith)
leads_further w Ecall m leads = by_opcode w 115 (omega (arith, m)) (omega arith) (omega arith) (omega arith) (λ e. omega (arith, m, e))
leads_further w Ebreak m leads = cc
