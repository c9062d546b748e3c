-- What an instruction does depends on the registers that it reads, and changes those that it writes.
use Rattle.std.proofs.Common.{◌≡◌, ◌≢◌, ℕ, ◌*◌, ◌/◌, inl, inr, List, [], ◌∷◌, refl, sym, ap, subst, arith}
use Rattle.std.specs.Prelude.{Contains}
use Rattle.std.proofs.lemmas.Bool.{cases_eq}
use Rattle.std.proofs.lemmas.Bool.Decides.{nat_tests}
use Rattle.std.proofs.lemmas.List.Elements.{Contains-append_right, Contains-push_cases}
use Rattle.rv32im.specs.Words.{plus, offset}
use Rattle.rv32im.specs.Memory.{put}
use Rattle.rv32im.specs.Acts.{Registers, register, with_register, Hart, at_next, after_write, after_jump, imm_value, without_zero, AgreeOn, ActsUsesOnly, ActsDefinesOnly}
use Rattle.rv32im.specs.declared.instructions.Instr.TheVariants.{Lui, Auipc, Jal, Jalr, Branch, Load, Store, OpImm, OpReg, Fence, FenceI, Ecall, Ebreak}

-- ---- lists of registers

none : (k : ℕ) → Contains [] k → ⊥
none k has = omega (arith, has.1)

-- x0 is left out of a list, and any other register is not
zero_out : (k : ℕ) (ks : List ℕ) → k ≡ 0 → without_zero ks ≡ without_zero (k ∷ ks)
zero_out k ks is_zero = grind (arith, nat_tests)

other_in : (k : ℕ) (ks : List ℕ) → k ≢ 0 → k ∷ without_zero ks ≡ without_zero (k ∷ ks)
other_in k ks nonzero = grind (arith, nat_tests)

first : (k : ℕ) (ks : List ℕ) → k ≢ 0 → Contains (without_zero (k ∷ ks)) k
first k ks nonzero = subst (λ all. Contains all k) (other_in k ks nonzero) (0, omega arith, refl)

later : (k : ℕ) (ks : List ℕ) (j : ℕ) → Contains (without_zero ks) j → Contains (without_zero (k ∷ ks)) j
later k ks j has =
    elim (cases_eq k 0) [
      | inl is_zero ↦ subst (λ all. Contains all j) (zero_out k ks is_zero) has
      | inr nonzero ↦ subst (λ all. Contains all j) (other_in k ks nonzero) (Contains-append_right (k ∷ []) (without_zero ks) j has)
    ]

-- the only register of a list of one
only : (k j : ℕ) → Contains (without_zero (k ∷ [])) j → (k ≢ 0) × (j ≡ k)
only k j has =
    elim (cases_eq k 0) [
      | inl is_zero ↦ absurd (none j (subst (λ all. Contains all j) (sym (zero_out k [] is_zero)) has))
      | inr nonzero ↦
          elim (Contains-push_cases [] k j (subst (λ all. Contains all j) (sym (other_in k [] nonzero)) has)) [
            | inl before ↦ absurd (none j before)
            | inr same ↦ (nonzero, sym same)
          ]
    ]

-- ---- registers

-- a register reads the same where its word is the same, or where it is x0
read : (f g : Registers) (k : ℕ) → (k ≢ 0 → f k ≡ g k) → register f k ≡ register g k
read f g k same =
    elim (cases_eq k 0) [
      | inl is_zero ↦ grind (arith, nat_tests)
      | inr nonzero ↦ let e : f k ≡ g k = same nonzero in grind (arith, nat_tests)
    ]

-- a write is read back
written : (f g : Registers) (rd a b k : ℕ) → a ≡ b → Contains (without_zero (rd ∷ [])) k → with_register f rd a k ≡ with_register g rd b k
unfolding put
written f g rd a b k same has = let nonzero = (only rd k has).0 in let is_rd = (only rd k has).1 in grind (arith, nat_tests)

-- and leaves every other register
unwritten : (f : Registers) (rd a k : ℕ) → (Contains (without_zero (rd ∷ [])) k → ⊥) → with_register f rd a k ≡ f k
unfolding put
unwritten f rd a k other =
    elim (cases_eq rd 0) [
      | inl is_zero ↦ grind (arith, nat_tests)
      | inr nonzero ↦
          let disjoint : k ≢ rd = λ same. other (subst (λ j. Contains (without_zero (rd ∷ [])) j) (sym same) (first rd [] nonzero)) in
          grind (arith, nat_tests)
    ]

-- ---- instructions

-- harts that agree on a list of one or two registers read the same there
sole : (g h : Hart) (rs1 : ℕ) → AgreeOn (without_zero (rs1 ∷ [])) g h → register g.regs rs1 ≡ register h.regs rs1
sole g h rs1 same = read g.regs h.regs rs1 (λ nonzero. same.2 rs1 (first rs1 [] nonzero))

left : (g h : Hart) (rs1 rs2 : ℕ) → AgreeOn (without_zero (rs1 ∷ rs2 ∷ [])) g h → register g.regs rs1 ≡ register h.regs rs1
left g h rs1 rs2 same = read g.regs h.regs rs1 (λ nonzero. same.2 rs1 (first rs1 (rs2 ∷ []) nonzero))

right : (g h : Hart) (rs1 rs2 : ℕ) → AgreeOn (without_zero (rs1 ∷ rs2 ∷ [])) g h → register g.regs rs2 ≡ register h.regs rs2
right g h rs1 rs2 same = read g.regs h.regs rs2 (λ nonzero. same.2 rs2 (later rs1 (rs2 ∷ []) rs2 (first rs2 [] nonzero)))

-- they agree after going on, after a write and after a jump
goes : (g h : Hart) → g.pc ≡ h.pc → g.mem ≡ h.mem → AgreeOn [] (at_next g) (at_next h)
goes g h pc mem = (ap (λ a. plus a 4) pc, mem, λ k has. absurd (none k has))

writes : (g h : Hart) (rd a b : ℕ) → g.pc ≡ h.pc → g.mem ≡ h.mem → a ≡ b → AgreeOn (without_zero (rd ∷ [])) (after_write g rd a) (after_write h rd b)
writes g h rd a b pc mem value = (ap (λ x. plus x 4) pc, mem, λ k has. written g.regs h.regs rd a b k value has)

jumps : (g h : Hart) (rd a b : ℕ) → g.pc ≡ h.pc → g.mem ≡ h.mem → a ≡ b → AgreeOn (without_zero (rd ∷ [])) (after_jump g rd a) (after_jump h rd b)
jumps g h rd a b pc mem target = (target, mem, λ k has. written g.regs h.regs rd _ _ k (ap (λ x. plus x 4) pc) has)

pub uses_only : ActsUsesOnly
uses_only (Lui rd imm) g h same = writes g h rd _ _ same.0 same.1 refl
uses_only (Auipc rd imm) g h same = writes g h rd _ _ same.0 same.1 (ap (λ pc. plus pc (imm * 4096)) same.0)
uses_only (Jal rd off) g h same = jumps g h rd _ _ same.0 same.1 (ap (λ pc. offset pc off) same.0)
uses_only (Jalr rd rs1 imm) g h same =
    jumps g h rd _ _ same.0 same.1 (ap (λ a. offset a imm / 2 * 2) (sole g h rs1 same))
uses_only (Branch kind rs1 rs2 off) g h same =
    let a = left g h rs1 rs2 same in
    let b = right g h rs1 rs2 same in
    let pc = same.0 in
    (cc, same.1, λ k has. absurd (none k has))
uses_only (Load kind rd rs1 imm) g h same =
    let a = sole g h rs1 same in
    let mem = same.1 in
    writes g h rd _ _ same.0 mem cc
uses_only (Store kind rs1 rs2 imm) g h same =
    let a = left g h rs1 rs2 same in
    let b = right g h rs1 rs2 same in
    let mem = same.1 in
    (ap (λ pc. plus pc 4) same.0, cc, λ k has. absurd (none k has))
uses_only (OpImm kind rd rs1 imm) g h same =
    writes g h rd _ _ same.0 same.1 (ap (λ a. imm_value kind a imm) (sole g h rs1 same))
uses_only (OpReg kind rd rs1 rs2) g h same =
    let a = left g h rs1 rs2 same in
    let b = right g h rs1 rs2 same in
    writes g h rd _ _ same.0 same.1 cc
uses_only (Fence bits) g h same = goes g h same.0 same.1
uses_only (FenceI bits) g h same = goes g h same.0 same.1
uses_only Ecall g h same =
    let is_ten : (k : ℕ) → Contains (10 ∷ []) k → k ≡ 10 = λ k has. (only 10 k has).1 in
    (ap (λ pc. plus pc 4) same.0, same.1, λ k has. subst (λ j. g.regs j ≡ h.regs j) (sym (is_ten k has)) (same.2 10 (0, omega arith, refl)))
uses_only Ebreak g h same = goes g h same.0 same.1

pub defines_only : ActsDefinesOnly
defines_only (Lui rd imm) h k other = unwritten h.regs rd _ k other
defines_only (Auipc rd imm) h k other = unwritten h.regs rd _ k other
defines_only (Jal rd off) h k other = unwritten h.regs rd _ k other
defines_only (Jalr rd rs1 imm) h k other = unwritten h.regs rd _ k other
defines_only (Branch kind rs1 rs2 off) h k other = refl
defines_only (Load kind rd rs1 imm) h k other = unwritten h.regs rd _ k other
defines_only (Store kind rs1 rs2 imm) h k other = refl
defines_only (OpImm kind rd rs1 imm) h k other = unwritten h.regs rd _ k other
defines_only (OpReg kind rd rs1 rs2) h k other = unwritten h.regs rd _ k other
defines_only (Fence bits) h k other = refl
defines_only (FenceI bits) h k other = refl
defines_only Ecall h k other = refl
defines_only Ebreak h k other = refl
