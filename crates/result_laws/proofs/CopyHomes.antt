-- What the instructions of a unit do at home, by its kind.
use Rattle.std.proofs.Common.{◌≡◌, ◌⊎◌, inl, inr, ◌∙◌, ℕ, ◌+◌, ◌*◌, ◌%◌, ◌<◌, Bool, true, false, ◌&&◌, ◌||◌, if◌then◌else◌, List, [], ◌∷◌, refl, sym, ap, subst, arith, ℤ}
use Rattle.std.specs.Prelude.{Option, Some, None, MatchOption, is_some, not, ◌==◌}
use Rattle.std.proofs.lemmas.Bool.{cond_both}
use Rattle.std.proofs.lemmas.Bool.Decides.{nat_tests}
use Rattle.list_checks.proofs.TestLemmas.{either, both}
use Rattle.rv32im.specs.Words.{plus, offset}
use Rattle.rv32im.specs.declared.instructions.Instr.{Instr}
use Rattle.rv32im.specs.declared.instructions.Instr.TheVariants as instr
use Rattle.rv32im.specs.declared.instructions.BranchKind.{BranchKind}
use Rattle.rv32im.specs.declared.instructions.BranchKind.TheVariants.{Beq, Bne, Blt, Bge, Bltu, Bgeu}
use Rattle.rv32im.specs.Fields.{opcode_of, rd_of, rs1_of, funct3_of, u_immediate, i_immediate, j_immediate}
use Rattle.rv32im.specs.Table.{Means, MeansNothing, branch_funct3}
use Rattle.rv32im.specs.Acts.{Hart, register, with_register, is_taken}
use Rattle.rv32im.specs.Sequences.{MeanAll}
use Rattle.rv32im.proofs.Meaning.{same_instruction}
use Rattle.elf_reader.specs.File.{PlainView}
use Rattle.loaded_file.specs.Code.{image_word}
use Rattle.code_blocks.specs.Words.{is_branch, is_jal, is_jalr, is_auipc, links, branch_target, jal_target}
use Rattle.code_blocks.specs.Meanings.{is_ebreak}
use Rattle.code_blocks.specs.Leaders.{is_call_pair}
use Rattle.code_blocks.proofs.PairLemmas.{pair_parts}
use Rattle.block_splitter.specs.declared.unit_kind.UnitKind.TheVariants.{Plain, Upper, Branch, Jump}
use Rattle.block_splitter.specs.Forms.{straight_kind, branch_kind}
use Rattle.result_laws.specs.HomeUnits.{home_words, ActsAnywhere, LeadsAtHome, IsHomeOf}
use Rattle.result_laws.proofs.Alike.{acts_anywhere}
use Rattle.result_laws.proofs.Ends.{NoJump}

-- ---- tests of words

pub equal : (a b : ℕ) → (a == b) ≡ true → a ≡ b
equal a b test = grind (arith, nat_tests, test)

pub unlinked : (w : ℕ) → links w ≡ false → rd_of w ≡ 0
unlinked w test = grind (arith, nat_tests, test)

pub linked : (w : ℕ) → links w ≡ true → rd_of w ≡ 0 → ⊥
linked w test none = let less : 0 < rd_of w = grind (arith, nat_tests, test) in omega (arith, less, none)

pub branch_test : (kind : BranchKind) (w : ℕ) → opcode_of w ≡ 99 → funct3_of w ≡ branch_funct3 kind → is_branch w ≡ true
branch_test Beq w o f = rw (o, f) refl
branch_test Bne w o f = rw (o, f) refl
branch_test Blt w o f = rw (o, f) refl
branch_test Bge w o f = rw (o, f) refl
branch_test Bltu w o f = rw (o, f) refl
branch_test Bgeu w o f = rw (o, f) refl

pub branch_opcode : (w : ℕ) → is_branch w ≡ true → opcode_of w ≡ 99
branch_opcode w test = equal (opcode_of w) 99 (both (opcode_of w == 99) (not ((funct3_of w == 2) || (funct3_of w == 3))) test).0

pub jal_is : (w : ℕ) → is_jal w ≡ true → Means w (instr.Jal (rd_of w) (j_immediate w))
jal_is w test = (equal (opcode_of w) 111 test, refl, refl)

pub jalr_is : (w : ℕ) → is_jalr w ≡ true → Means w (instr.Jalr (rd_of w) (rs1_of w) (i_immediate w))
jalr_is w test =
    let parts = both (opcode_of w == 103) (funct3_of w == 0) test in
    (equal (opcode_of w) 103 parts.0, equal (funct3_of w) 0 parts.1, refl, refl, refl)

pub auipc_is : (w : ℕ) → is_auipc w ≡ true → Means w (instr.Auipc (rd_of w) (u_immediate w))
auipc_is w test = (equal (opcode_of w) 23 test, refl, refl)

-- the two words of a call pair
pub record PairWords (v w : ℕ) : Type 0 where
  pub auipc : is_auipc v ≡ true
  pub jalr : is_jalr w ≡ true
  pub links : links v ≡ true
  pub base : rs1_of w ≡ rd_of v
  pub writes : (rd_of w ≡ rd_of v) ⊎ (rd_of w ≡ 0)

record Five (a b c d e : Bool) : Type 0 where
  first : a ≡ true
  second : b ≡ true
  third : c ≡ true
  fourth : d ≡ true
  fifth : e ≡ true

all_five : (a b c d e : Bool) → a && b && c && d && e ≡ true → Five a b c d e
all_five true true true true true is = record { first = refl; second = refl; third = refl; fourth = refl; fifth = refl }
all_five false b c d e is = cc
all_five true false c d e is = cc
all_five true true false d e is = cc
all_five true true true false e is = cc
all_five true true true true false is = cc

pub pair_words : (v : PlainView) (a : ℕ) → is_call_pair v a ≡ true → PairWords (image_word v a) (image_word v (a + 4))
pair_words v a pair =
    let x : ℕ = image_word v a in
    let y : ℕ = image_word v (a + 4) in
    let f = all_five (is_auipc x) (is_jalr y) (links x) (rs1_of y == rd_of x) ((rd_of y == rd_of x) || (rd_of y == 0)) (pair_parts v a pair).words in
    record {
      auipc = f.first;
      jalr = f.second;
      links = f.third;
      base = equal (rs1_of y) (rd_of x) f.fourth;
      writes = elim (either (rd_of y == rd_of x) (rd_of y == 0) f.fifth) [
        | inl same ↦ inl (equal (rd_of y) (rd_of x) same)
        | inr none ↦ inr (equal (rd_of y) 0 none)
      ];
    }

-- ---- the instructions of a unit

one_of : (w : ℕ) (i : Instr) (is : List Instr) → Means w i → MeanAll (w ∷ []) is → is ≡ i ∷ []
one_of w i [] means all = absurd all
one_of w i (j ∷ []) means all = ap (λ (x : Instr). x ∷ []) (same_instruction w j i all.0 means)
one_of w i (j ∷ k ∷ is) means all = absurd all.1

two_of : (w x : ℕ) (i j : Instr) (is : List Instr) → Means w i → Means x j → MeanAll (w ∷ x ∷ []) is → is ≡ i ∷ j ∷ []
two_of w x i j [] first second all = absurd all
two_of w x i j (k ∷ []) first second all = absurd all.1
two_of w x i j (k ∷ l ∷ []) first second all =
    ap (λ (y : Instr). y ∷ l ∷ []) (same_instruction w k i all.0 first) ∙ ap (λ (y : Instr). i ∷ y ∷ []) (same_instruction x l j all.1.0 second)
two_of w x i j (k ∷ l ∷ m ∷ is) first second all = absurd all.1.1

-- what doesn't go straight on
abbrev pub Goes : Instr → Type 0
Goes instr.Ebreak = Unit {0}
Goes (instr.Jal rd off) = Unit {0}
Goes (instr.Jalr rd rs1 imm) = Unit {0}
Goes (instr.Branch kind rs1 rs2 off) = Unit {0}
Goes i = ⊥

pub jumps_not : (v : PlainView) (a : ℕ) (i : Instr) → NoJump v a → Means (image_word v a) i → Goes i → ⊥
jumps_not v a instr.Ebreak none means goes =
    let stops : is_ebreak (image_word v a) ≡ true = ap (λ (x : ℕ). x == 1048691) means in let other = none.ebreak in cc (stops, other)
jumps_not v a (instr.Jal rd off) none means goes =
    let jumps : is_jal (image_word v a) ≡ true = ap (λ (o : ℕ). o == 111) means.0 in let other = none.jal in cc (jumps, other)
jumps_not v a (instr.Jalr rd rs1 imm) none means goes =
    let o = means.0 in
    let f = means.1 in
    let jumps : is_jalr (image_word v a) ≡ true = rw (o, f) refl in
    let other = none.jalr in
    cc (jumps, other)
jumps_not v a (instr.Branch kind rs1 rs2 off) none means goes =
    let jumps = branch_test kind (image_word v a) means.0 means.1 in let other = none.branch in cc (jumps, other)
jumps_not v a i none means goes = goes

module _ (v : PlainView) (site : ℕ → Bool) (a : ℕ) where
  abbrev w : ℕ
  w = image_word v a

  pub single_is : (i : Instr) (is : List Instr) → is_call_pair v a ≡ false → Means w i → MeanAll (home_words v a) is → is ≡ i ∷ []
  single_is i is single means all =
      let one : home_words v a ≡ w ∷ [] = rw single refl in
      one_of w i is means (subst (λ (ws : List ℕ). MeanAll ws is) one all)

  pub pair_is : (i j : Instr) (is : List Instr) → is_call_pair v a ≡ true → Means w i → Means (image_word v (a + 4)) j → MeanAll (home_words v a) is → is ≡ i ∷ j ∷ []
  pair_is i j is pair first second all =
      let two : home_words v a ≡ w ∷ image_word v (a + 4) ∷ [] = rw pair refl in
      two_of w (image_word v (a + 4)) i j is first second (subst (λ (ws : List ℕ). MeanAll ws is) two all)

  -- ---- plain units, and AUIPC

  plain_home : (i : Instr) → is_call_pair v a ≡ false → Means w i → (site a ≡ true) ⊎ ActsAnywhere i → IsHomeOf v site a Plain
  plain_home i single means same = record { fits = tt; runs = λ is all. (i, (single_is i is single means all, same)) }

  upper_leads : (rd imm : ℕ) (h : Hart) → a + 4 < 4294967296 → h.pc ≡ a → LeadsAtHome a (Upper rd (plus a (imm * 4096))) (instr.Auipc rd imm ∷ []) h
  upper_leads rd imm h fits at =
      record {
        pc = ap (λ (x : ℕ). plus x 4) at ∙ omega (arith, fits);
        regs = λ k. inl (ap (λ (x : ℕ). with_register h.regs rd (plus x (imm * 4096)) k) at);
        mem = refl;
      }

  upper_home : (rd imm : ℕ) → is_call_pair v a ≡ false → a + 4 < 4294967296 → Means w (instr.Auipc rd imm) → IsHomeOf v site a (Upper rd (plus a (imm * 4096)))
  upper_home rd imm single fits means =
      record {
        fits = omega arith;
        runs = λ is all h at.
            subst (λ (js : List Instr). LeadsAtHome a (Upper rd (plus a (imm * 4096))) js h) (sym (single_is (instr.Auipc rd imm) is single means all))
            (upper_leads rd imm h fits at);
      }

  pub straight_home : (o : Option Instr) → is_some o ≡ true → MatchOption o (MeansNothing w) (Means w) → NoJump v a → a + 4 < 4294967296 → IsHomeOf v site a (straight_kind site a o)
  straight_home None some means none fits = absurd (cc (some))
  straight_home (Some (instr.Auipc rd imm)) some means none fits =
      cond_both (site a) Plain (Upper rd (plus a (imm * 4096))) (IsHomeOf v site a)
      (λ there. plain_home (instr.Auipc rd imm) none.pair means (inl there))
      (λ elsewhere. upper_home rd imm none.pair fits means)
  straight_home (Some instr.Ebreak) some means none fits = absurd (jumps_not v a instr.Ebreak none means tt)
  straight_home (Some (instr.Jal rd off)) some means none fits = absurd (jumps_not v a (instr.Jal rd off) none means tt)
  straight_home (Some (instr.Jalr rd rs1 imm)) some means none fits = absurd (jumps_not v a (instr.Jalr rd rs1 imm) none means tt)
  straight_home (Some (instr.Branch kind rs1 rs2 off)) some means none fits = absurd (jumps_not v a (instr.Branch kind rs1 rs2 off) none means tt)
  straight_home (Some (instr.Lui rd imm)) some means none fits =
      plain_home (instr.Lui rd imm) none.pair means (inr (acts_anywhere (instr.Lui rd imm) tt))
  straight_home (Some (instr.Load kind rd rs1 imm)) some means none fits =
      plain_home (instr.Load kind rd rs1 imm) none.pair means (inr (acts_anywhere (instr.Load kind rd rs1 imm) tt))
  straight_home (Some (instr.Store kind rs1 rs2 imm)) some means none fits =
      plain_home (instr.Store kind rs1 rs2 imm) none.pair means (inr (acts_anywhere (instr.Store kind rs1 rs2 imm) tt))
  straight_home (Some (instr.OpImm kind rd rs1 imm)) some means none fits =
      plain_home (instr.OpImm kind rd rs1 imm) none.pair means (inr (acts_anywhere (instr.OpImm kind rd rs1 imm) tt))
  straight_home (Some (instr.OpReg kind rd rs1 rs2)) some means none fits =
      plain_home (instr.OpReg kind rd rs1 rs2) none.pair means (inr (acts_anywhere (instr.OpReg kind rd rs1 rs2) tt))
  straight_home (Some (instr.Fence bits)) some means none fits =
      plain_home (instr.Fence bits) none.pair means (inr (acts_anywhere (instr.Fence bits) tt))
  straight_home (Some (instr.FenceI bits)) some means none fits =
      plain_home (instr.FenceI bits) none.pair means (inr (acts_anywhere (instr.FenceI bits) tt))
  straight_home (Some instr.Ecall) some means none fits =
      plain_home instr.Ecall none.pair means (inr (acts_anywhere instr.Ecall tt))

  -- ---- branches and jumps

  branch_leads : (kind : BranchKind) (rs1 rs2 target : ℕ) (off : ℤ) (h : Hart) → a + 4 < 4294967296 → target ≡ offset a off → h.pc ≡ a → LeadsAtHome a (Branch kind rs1 rs2 target) (instr.Branch kind rs1 rs2 off ∷ []) h
  branch_leads kind rs1 rs2 target off h fits there at =
      let on : plus a 4 ≡ a + 4 = omega (arith, fits) in
      record {
        pc = ap (λ (x : ℕ). if is_taken kind (register h.regs rs1) (register h.regs rs2) then offset x off else plus x 4) at
            ∙ (ap (λ (x : ℕ). if is_taken kind (register h.regs rs1) (register h.regs rs2) then x else plus a 4) (sym there)
            ∙ ap (λ (x : ℕ). if is_taken kind (register h.regs rs1) (register h.regs rs2) then target else x) on);
        regs = λ k. inl refl;
        mem = refl;
      }

  pub branch_home : (o : Option Instr) (target : ℕ) → is_some o ≡ true → is_branch w ≡ true → MatchOption o (MeansNothing w) (Means w) → is_call_pair v a ≡ false → a + 4 < 4294967296 → target ≡ branch_target v a → target % 2 ≡ 0 → IsHomeOf v site a (branch_kind target o)
  branch_home (Some (instr.Branch kind rs1 rs2 off)) target some test means single fits is even =
      let there : target ≡ offset a off = is ∙ ap (offset a) (sym means.4) in
      record {
        fits = (omega (arith, is), even);
        runs = λ js all h at.
            subst (λ (ks : List Instr). LeadsAtHome a (Branch kind rs1 rs2 target) ks h) (sym (single_is (instr.Branch kind rs1 rs2 off) js single means all))
            (branch_leads kind rs1 rs2 target off h fits there at);
      }
  branch_home None target some test means single fits is even = absurd (cc (some))
  branch_home (Some instr.Ecall) target some test means single fits is even = let o = branch_opcode w test in absurd (omega (arith, means, o))
  branch_home (Some instr.Ebreak) target some test means single fits is even = let o = branch_opcode w test in absurd (omega (arith, means, o))
  branch_home (Some other) target some test means single fits is even =
      let o = branch_opcode w test in let m = means.0 in absurd (omega (arith, m, o))

  jump_leads : (target : ℕ) (off : ℤ) (h : Hart) → target ≡ offset a off → h.pc ≡ a → LeadsAtHome a (Jump target) (instr.Jal 0 off ∷ []) h
  jump_leads target off h there at = record { pc = ap (λ (x : ℕ). offset x off) at ∙ sym there; regs = λ k. inl refl; mem = refl }

  pub jump_home : (target : ℕ) → is_call_pair v a ≡ false → is_jal w ≡ true → links w ≡ false → target ≡ jal_target v a → target % 2 ≡ 0 → IsHomeOf v site a (Jump target)
  jump_home target single jal none is even =
      let told = jal_is w jal in
      let means : Means w (instr.Jal 0 (j_immediate w)) = (told.0, sym (unlinked w none), refl) in
      record {
        fits = (omega (arith, is), even);
        runs = λ js all h at.
            subst (λ (ks : List Instr). LeadsAtHome a (Jump target) ks h) (sym (single_is (instr.Jal 0 (j_immediate w)) js single means all))
            (jump_leads target (j_immediate w) h is at);
      }
