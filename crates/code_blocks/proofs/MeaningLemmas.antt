-- Each row of the instruction table passes the test for a meaning, and each word that passes has a row.
use Rattle.std.proofs.Common.{◌≡◌, ◌⊎◌, inl, inr, ℕ, zero, suc, ◌<◌, ◌==◌, nat_lt, Bool, true, false, not, ◌&&◌, ◌||◌, ℤ, pos, Option, Some, None, refl, sym, subst, arith}
use Rattle.std.specs.Option.{is_some, MatchOption}
use Rattle.std.proofs.lemmas.Bool.{eqb-true, ltb-true, both_ways, cases_Bool}
use Rattle.std.proofs.lemmas.Grind.{common_steps}
use Rattle.list_checks.proofs.TestLemmas.{either, both}
use Rattle.rv32im.specs.Fields.{opcode_of, rd_of, funct3_of, rs1_of, rs2_of, funct7_of, u_immediate, i_immediate, s_immediate, b_immediate, j_immediate, fence_bits_of}
use Rattle.rv32im.specs.Table.{Means, MeansNothing, HasImm, imm_funct3, branch_funct3, load_funct3, store_funct3, reg_funct3, reg_funct7}
use Rattle.rv32im.specs.declared.instructions.Instr.{Instr}
use Rattle.rv32im.specs.declared.instructions.Instr.TheVariants.{Lui, Auipc, Jal, Jalr, Branch, Load, Store, OpImm, OpReg, Fence, FenceI, Ecall, Ebreak}
use Rattle.rv32im.specs.declared.instructions.BranchKind.{BranchKind}
use Rattle.rv32im.specs.declared.instructions.BranchKind.TheVariants.{Beq, Bne, Blt, Bge, Bltu, Bgeu}
use Rattle.rv32im.specs.declared.instructions.LoadKind.{LoadKind}
use Rattle.rv32im.specs.declared.instructions.LoadKind.TheVariants.{Lb, Lh, Lw, Lbu, Lhu}
use Rattle.rv32im.specs.declared.instructions.StoreKind.{StoreKind}
use Rattle.rv32im.specs.declared.instructions.StoreKind.TheVariants.{Sb, Sh, Sw}
use Rattle.rv32im.specs.declared.instructions.ImmKind.{ImmKind}
use Rattle.rv32im.specs.declared.instructions.ImmKind.TheVariants.{Addi, Slti, Sltiu, Xori, Ori, Andi, Slli, Srli, Srai}
use Rattle.rv32im.specs.declared.instructions.RegKind.{RegKind}
use Rattle.rv32im.specs.declared.instructions.RegKind.TheVariants.{Add, Sub, Sll, Slt, Sltu, Xor, Srl, Sra, Or, And, Mul, Mulh, Mulhsu, Mulhu, Div, Divu, Rem, Remu}
use Rattle.code_blocks.specs.Words.{is_branch, is_jal, is_jalr, is_auipc}
use Rattle.code_blocks.specs.Meanings.{is_load, is_store, is_immediate_operation, is_register_operation, is_fence, is_ebreak, is_system, has_meaning}
use Rattle.code_blocks.specs.Laws.{MeaningIsDecided}

-- a word that means an instruction passes
pub passes_test : (w : ℕ) (i : Instr) → Means w i → has_meaning w ≡ true
passes_test w (Lui rd imm) means = rw (means.0) refl
passes_test w (Auipc rd imm) means = rw (means.0) refl
passes_test w (Jal rd off) means = rw (means.0) refl
passes_test w (Jalr rd rs1 imm) means = rw (means.0, means.1) refl
passes_test w (Branch Beq rs1 rs2 off) means = rw (means.0, means.1) refl
passes_test w (Branch Bne rs1 rs2 off) means = rw (means.0, means.1) refl
passes_test w (Branch Blt rs1 rs2 off) means = rw (means.0, means.1) refl
passes_test w (Branch Bge rs1 rs2 off) means = rw (means.0, means.1) refl
passes_test w (Branch Bltu rs1 rs2 off) means = rw (means.0, means.1) refl
passes_test w (Branch Bgeu rs1 rs2 off) means = rw (means.0, means.1) refl
passes_test w (Load kind rd rs1 imm) means = grind (arith, common_steps, means)
passes_test w (Store kind rs1 rs2 imm) means = grind (arith, common_steps, means)
passes_test w (OpImm kind rd rs1 imm) means = grind (arith, common_steps, means)
passes_test w (OpReg kind rd rs1 rs2) means = grind (arith, common_steps, means)
passes_test w (Fence bits) means = rw (means.0, means.1) refl
passes_test w (FenceI bits) means = rw (means.0, means.1) refl
passes_test w Ecall means = rw means refl
passes_test w Ebreak means = rw means refl

-- each number of three bits
eight : (f : ℕ) → f < 8 → (P : ℕ → Type 0) → P 0 → P 1 → P 2 → P 3 → P 4 → P 5 → P 6 → P 7 → P f
eight zero below P p0 p1 p2 p3 p4 p5 p6 p7 = p0
eight (suc zero) below P p0 p1 p2 p3 p4 p5 p6 p7 = p1
eight (suc (suc zero)) below P p0 p1 p2 p3 p4 p5 p6 p7 = p2
eight (suc (suc (suc zero))) below P p0 p1 p2 p3 p4 p5 p6 p7 = p3
eight (suc (suc (suc (suc zero)))) below P p0 p1 p2 p3 p4 p5 p6 p7 = p4
eight (suc (suc (suc (suc (suc zero))))) below P p0 p1 p2 p3 p4 p5 p6 p7 = p5
eight (suc (suc (suc (suc (suc (suc zero)))))) below P p0 p1 p2 p3 p4 p5 p6 p7 = p6
eight (suc (suc (suc (suc (suc (suc (suc zero))))))) below P p0 p1 p2 p3 p4 p5 p6 p7 = p7
eight (suc (suc (suc (suc (suc (suc (suc (suc n)))))))) below P p0 p1 p2 p3 p4 p5 p6 p7 = absurd (omega arith)

-- ---- the kind that funct3 and funct7 tell

branch_kind : (f : ℕ) → f < 8 → not ((f == 2) || (f == 3)) ≡ true → (k : BranchKind) × (f ≡ branch_funct3 k)
branch_kind f below =
    eight f below (λ n. not ((n == 2) || (n == 3)) ≡ true → (k : BranchKind) × (n ≡ branch_funct3 k))
    (λ test. (Beq, refl)) (λ test. (Bne, refl)) (λ test. cc) (λ test. cc)
    (λ test. (Blt, refl)) (λ test. (Bge, refl)) (λ test. (Bltu, refl)) (λ test. (Bgeu, refl))

load_kind : (f : ℕ) → f < 8 → nat_lt f 3 || (f == 4) || (f == 5) ≡ true → (k : LoadKind) × (f ≡ load_funct3 k)
load_kind f below =
    eight f below (λ n. nat_lt n 3 || (n == 4) || (n == 5) ≡ true → (k : LoadKind) × (n ≡ load_funct3 k))
    (λ test. (Lb, refl)) (λ test. (Lh, refl)) (λ test. (Lw, refl)) (λ test. cc)
    (λ test. (Lbu, refl)) (λ test. (Lhu, refl)) (λ test. cc) (λ test. cc)

store_kind : (f : ℕ) → f < 8 → nat_lt f 3 ≡ true → (k : StoreKind) × (f ≡ store_funct3 k)
store_kind f below =
    eight f below (λ n. nat_lt n 3 ≡ true → (k : StoreKind) × (n ≡ store_funct3 k))
    (λ test. (Sb, refl)) (λ test. (Sh, refl)) (λ test. (Sw, refl)) (λ test. cc)
    (λ test. cc) (λ test. cc) (λ test. cc) (λ test. cc)

-- an operation with an immediate, with its kind and immediate
abbrev ImmRow : ℕ → ℕ → Type 0
ImmRow w f = (k : ImmKind) × (imm : ℤ) × ((f ≡ imm_funct3 k) × HasImm w k imm)

abbrev imm_test : ℕ → ℕ → Bool
imm_test w f =
    not ((f == 1) || (f == 5))
    || ((f == 1) && (funct7_of w == 0) || (f == 5) && ((funct7_of w == 0) || (funct7_of w == 32)))

left_shift : (w : ℕ) → imm_test w 1 ≡ true → ImmRow w 1
left_shift w test =
    elim (either (funct7_of w == 0) false test) [
      | inl clear ↦ (Slli, pos (rs2_of w), (refl, (eqb-true (funct7_of w) 0 clear, refl)))
      | inr none ↦ cc
    ]

right_shift : (w : ℕ) → imm_test w 5 ≡ true → ImmRow w 5
right_shift w test =
    elim (either (funct7_of w == 0) (funct7_of w == 32) test) [
      | inl clear ↦ (Srli, pos (rs2_of w), (refl, (eqb-true (funct7_of w) 0 clear, refl)))
      | inr signed ↦ (Srai, pos (rs2_of w), (refl, (eqb-true (funct7_of w) 32 signed, refl)))
    ]

imm_kind : (w f : ℕ) → f < 8 → imm_test w f ≡ true → ImmRow w f
imm_kind w f below =
    eight f below (λ n. imm_test w n ≡ true → ImmRow w n)
    (λ test. (Addi, i_immediate w, (refl, refl))) (left_shift w) (λ test. (Slti, i_immediate w, (refl, refl))) (λ test. (Sltiu, i_immediate w, (refl, refl)))
    (λ test. (Xori, i_immediate w, (refl, refl))) (right_shift w) (λ test. (Ori, i_immediate w, (refl, refl))) (λ test. (Andi, i_immediate w, (refl, refl)))

-- an operation on registers
abbrev RegRow : ℕ → ℕ → Type 0
RegRow f3 f7 = (k : RegKind) × ((f3 ≡ reg_funct3 k) × (f7 ≡ reg_funct7 k))

base_kind : (f : ℕ) → f < 8 → RegRow f 0
base_kind f below =
    eight f below (λ n. RegRow n 0)
    (Add, (refl, refl)) (Sll, (refl, refl)) (Slt, (refl, refl)) (Sltu, (refl, refl))
    (Xor, (refl, refl)) (Srl, (refl, refl)) (Or, (refl, refl)) (And, (refl, refl))

product_kind : (f : ℕ) → f < 8 → RegRow f 1
product_kind f below =
    eight f below (λ n. RegRow n 1)
    (Mul, (refl, refl)) (Mulh, (refl, refl)) (Mulhsu, (refl, refl)) (Mulhu, (refl, refl))
    (Div, (refl, refl)) (Divu, (refl, refl)) (Rem, (refl, refl)) (Remu, (refl, refl))

other_kind : (f : ℕ) → (f == 0) || (f == 5) ≡ true → RegRow f 32
other_kind f test =
    elim (either (f == 0) (f == 5) test) [
      | inl first ↦ (Sub, (eqb-true f 0 first, refl))
      | inr fifth ↦ (Sra, (eqb-true f 5 fifth, refl))
    ]

one_bit : (f : ℕ) → f < 2 → (f ≡ 0) ⊎ (f ≡ 1)
one_bit zero below = inl refl
one_bit (suc zero) below = inr refl
one_bit (suc (suc n)) below = absurd (omega arith)

reg_kind : (f3 f7 : ℕ) → f3 < 8 → nat_lt f7 2 || (f7 == 32) && ((f3 == 0) || (f3 == 5)) ≡ true → RegRow f3 f7
reg_kind f3 f7 below test =
    elim (either (nat_lt f7 2) ((f7 == 32) && ((f3 == 0) || (f3 == 5))) test) [
      | inl low ↦ elim (one_bit f7 (ltb-true f7 2 low)) [
        | inl base ↦ subst (RegRow f3) (sym base) (base_kind f3 below)
        | inr product ↦ subst (RegRow f3) (sym product) (product_kind f3 below)
      ]
      | inr other ↦
          let parts = both (f7 == 32) ((f3 == 0) || (f3 == 5)) other in
          subst (RegRow f3) (sym (eqb-true f7 32 parts.0)) (other_kind f3 parts.1)
    ]

-- ---- the row of a word that passes

abbrev Row : ℕ → Type 0
Row w = (i : Instr) × Means w i

three_bits : (w : ℕ) → funct3_of w < 8
three_bits w = omega arith

upper_row : (w : ℕ) → (opcode_of w == 55) ≡ true → Row w
upper_row w test = (Lui (rd_of w) (u_immediate w), (eqb-true (opcode_of w) 55 test, refl, refl))

auipc_row : (w : ℕ) → is_auipc w ≡ true → Row w
auipc_row w test = (Auipc (rd_of w) (u_immediate w), (eqb-true (opcode_of w) 23 test, refl, refl))

jal_row : (w : ℕ) → is_jal w ≡ true → Row w
jal_row w test = (Jal (rd_of w) (j_immediate w), (eqb-true (opcode_of w) 111 test, refl, refl))

jalr_row : (w : ℕ) → is_jalr w ≡ true → Row w
jalr_row w test =
    let parts = both (opcode_of w == 103) (funct3_of w == 0) test in
    (Jalr (rd_of w) (rs1_of w) (i_immediate w), (eqb-true (opcode_of w) 103 parts.0, eqb-true (funct3_of w) 0 parts.1, refl, refl, refl))

branch_row : (w : ℕ) → is_branch w ≡ true → Row w
branch_row w test =
    let parts = both (opcode_of w == 99) (not ((funct3_of w == 2) || (funct3_of w == 3))) test in
    let (kind, is) = branch_kind (funct3_of w) (three_bits w) parts.1 in
    (Branch kind (rs1_of w) (rs2_of w) (b_immediate w), (eqb-true (opcode_of w) 99 parts.0, is, refl, refl, refl))

load_row : (w : ℕ) → is_load w ≡ true → Row w
load_row w test =
    let parts = both (opcode_of w == 3) (nat_lt (funct3_of w) 3 || (funct3_of w == 4) || (funct3_of w == 5)) test in
    let (kind, is) = load_kind (funct3_of w) (three_bits w) parts.1 in
    (Load kind (rd_of w) (rs1_of w) (i_immediate w), (eqb-true (opcode_of w) 3 parts.0, is, refl, refl, refl))

store_row : (w : ℕ) → is_store w ≡ true → Row w
store_row w test =
    let parts = both (opcode_of w == 35) (nat_lt (funct3_of w) 3) test in
    let (kind, is) = store_kind (funct3_of w) (three_bits w) parts.1 in
    (Store kind (rs1_of w) (rs2_of w) (s_immediate w), (eqb-true (opcode_of w) 35 parts.0, is, refl, refl, refl))

immediate_row : (w : ℕ) → is_immediate_operation w ≡ true → Row w
immediate_row w test =
    let parts = both (opcode_of w == 19) (imm_test w (funct3_of w)) test in
    let (kind, imm, is) = imm_kind w (funct3_of w) (three_bits w) parts.1 in
    (OpImm kind (rd_of w) (rs1_of w) imm, (eqb-true (opcode_of w) 19 parts.0, is.0, refl, refl, is.1))

register_row : (w : ℕ) → is_register_operation w ≡ true → Row w
register_row w test =
    let parts = both (opcode_of w == 51) (nat_lt (funct7_of w) 2 || (funct7_of w == 32) && ((funct3_of w == 0) || (funct3_of w == 5))) test in
    let (kind, is) = reg_kind (funct3_of w) (funct7_of w) (three_bits w) parts.1 in
    (OpReg kind (rd_of w) (rs1_of w) (rs2_of w), (eqb-true (opcode_of w) 51 parts.0, is.0, is.1, refl, refl, refl))

fence_row : (w : ℕ) → is_fence w ≡ true → Row w
fence_row w test =
    let parts = both (opcode_of w == 15) (nat_lt (funct3_of w) 2) test in
    let is = eqb-true (opcode_of w) 15 parts.0 in
    elim (one_bit (funct3_of w) (ltb-true (funct3_of w) 2 parts.1)) [
      | inl zeroth ↦ (Fence (fence_bits_of w), (is, zeroth, refl))
      | inr first ↦ (FenceI (fence_bits_of w), (is, first, refl))
    ]

system_row : (w : ℕ) → is_system w ≡ true → Row w
system_row w test =
    elim (either (w == 115) (is_ebreak w) test) [
      | inl call ↦ (Ecall, eqb-true w 115 call)
      | inr break ↦ (Ebreak, eqb-true w 1048691 break)
    ]

-- rows by one of two tests
or_row : (w : ℕ) (a b : Bool) → (a ≡ true → Row w) → (b ≡ true → Row w) → a || b ≡ true → Row w
or_row w a b first second test = elim (either a b test) [ inl left ↦ first left | inr right ↦ second right ]

pub row_of : (w : ℕ) → has_meaning w ≡ true → (i : Instr) × Means w i
row_of w =
    or_row w _ (is_system w) (or_row w _ (is_fence w) (or_row w _ (is_register_operation w)
    (or_row w _ (is_immediate_operation w) (or_row w _ (is_store w) (or_row w _ (is_load w)
    (or_row w _ (is_branch w) (or_row w _ (is_jalr w) (or_row w _ (is_jal w)
    (or_row w (opcode_of w == 55) (is_auipc w) (upper_row w) (auipc_row w)) (jal_row w)) (jalr_row w)) (branch_row w))
    (load_row w)) (store_row w)) (immediate_row w)) (register_row w)) (fence_row w)) (system_row w)

pub meaning_is_decided : MeaningIsDecided
meaning_is_decided w below = (row_of w, λ none i means. both_ways _ none (passes_test w i means))

-- ---- the decoder's answer

pub decoded : (w : ℕ) (o : Option Instr) → MatchOption o (MeansNothing w) (Means w) → is_some o ≡ has_meaning w
decoded w None nothing =
    elim (cases_Bool (has_meaning w)) [
      | inl passes ↦ let (i, means) = row_of w passes in absurd (nothing i means)
      | inr fails ↦ sym fails
    ]
decoded w (Some i) means = sym (passes_test w i means)
