-- Rows of words that stand for a unit: a copy's.
use Rattle.std.proofs.Common.{◌≡◌, ◌⊎◌, inl, inr, ℕ, zero, suc, ◌+◌, ◌*◌, ◌/◌, ◌%◌, ◌<◌, Bool, true, false, not, if◌then◌else◌, List, [], ◌∷◌, ◌++◌, ℤ, pos, refl, sym, ◌∙◌, ap, subst, arith}
use Rattle.std.specs.Prelude.{int_lt, nat_lt, ◌==◌}
use Rattle.std.proofs.lemmas.Bool.{cases_eq}
use Rattle.std.specs.Int.{cast_signed, w32}
use Rattle.rv32im.specs.Words.{plus, offset, upper_half}
use Rattle.rv32im.specs.declared.instructions.Instr.{Instr}
use Rattle.rv32im.specs.declared.instructions.Instr.TheVariants as instr
use Rattle.rv32im.specs.declared.instructions.BranchKind.{BranchKind}
use Rattle.rv32im.specs.declared.instructions.BranchKind.TheVariants.{Beq, Bne, Blt, Bge, Bltu, Bgeu}
use Rattle.rv32im.specs.Acts.{Registers, register, with_register, is_taken}
use Rattle.rv32im.specs.Sequences.{load_immediate, jump_absolute, distance, inverse, MeanAll}
use Rattle.rv32im.proofs.SequenceLemmas.{arrives}
use Rattle.flat_machine.specs.declared.events.FlatOutcome.TheVariants.{GoesOn}
use Rattle.flat_machine.specs.State.{State}
use Rattle.code_blocks.specs.declared.parts.Code.{Code}
use Rattle.block_splitter.specs.declared.unit_kind.UnitKind.TheVariants.{Upper, Branch, Jump, Call, Tail, Linking}
use Rattle.block_splitter.specs.Pieces.{IsTemporary}
use Rattle.block_splitter.specs.Copies.{Copy, JumpsOut, BranchesInside}
use Rattle.flat_machine.specs.Lines.{CodeAt, words_from, went, Ran}
use Rattle.result_laws.specs.Kinds.{IsAddress, next_after, RowRuns}
use Rattle.flat_machine.proofs.SilentLines.{one_ran, more_ran, two_ran, set_other, read_other, immediate_ran, absolute_ran, upper_set}

-- ---- tests

not_twice : (b : Bool) → b ≡ not (not b)
not_twice true = refl
not_twice false = refl

-- a branch is taken just where its inverse is not
pub inverse_taken : (kind : BranchKind) (a b : ℕ) → is_taken (inverse kind) a b ≡ not (is_taken kind a b)
inverse_taken Beq a b = refl
inverse_taken Bne a b = not_twice (a == b)
inverse_taken Blt a b = refl
inverse_taken Bge a b = not_twice (int_lt (cast_signed w32 a) (cast_signed w32 b))
inverse_taken Bltu a b = refl
inverse_taken Bgeu a b = not_twice (nat_lt a b)

temporary_some : (c : Code) (target link t : ℕ) → IsTemporary c target link t → t ≡ 0 → ⊥
temporary_some c target link t is none = let from = is.from in absurd (omega (arith, from, none))

-- a register that one write changed
pub one_differs : (P : ℕ → Type 0) (regs : Registers) (t value k : ℕ) → P t → (with_register regs t value k ≡ regs k) ⊎ P k
one_differs P regs t value k is =
    elim (cases_eq k t) [
      | inl same ↦ inr (subst P (sym same) is)
      | inr other ↦ inl (set_other regs t value k other)
    ]

module _ (s : State) (at : ℕ) (ws : List ℕ) (going : s.outcome ≡ GoesOn) (here : s.hart.pc ≡ at) (code : (is : List Instr) → MeanAll ws is → CodeAt s.map s.hart.mem at is) where
  -- ---- one branch or jump

  pub jump_ran : (off : ℤ) (to : ℕ) → MeanAll ws (instr.Jal 0 off ∷ []) → offset at off ≡ to → Ran s (at ∷ []) s.hart.regs to
  jump_ran off to means there =
      let arrived : offset s.hart.pc off ≡ to = ap (λ a. offset a off) here ∙ there in
      one_ran s (instr.Jal 0 off) at to going here (code (instr.Jal 0 off ∷ []) means).0 tt arrived

  -- ---- jumps out

  -- a jump by a register, behind nothing
  out_ran : (c : Code) (target link : ℕ) → IsAddress target → at + 8 < 4294967296 → (out : JumpsOut c [] target link ws) → Ran s (at ∷ (at + 4) ∷ []) (upper_set s.hart.regs out.temporary target) target
  out_ran c target link address fits out =
      absolute_ran s out.temporary target at going here (omega (arith, fits)) address.0 address.1
      (temporary_some c target link out.temporary out.free) (code (jump_absolute out.temporary target) out.words)

  -- ---- rows of a copy

  pub upper_row : (P : ℕ → Type 0) (rd value to : ℕ) → value < 4294967296 → at + 8 < 4294967296 → at + 8 ≡ to → MeanAll ws (load_immediate rd value) → RowRuns s (Upper rd value) P (words_from at 2) to
  upper_row P rd value to below fits there means =
      let ran = immediate_ran s rd value at going here fits below (code (load_immediate rd value) means) in
      let behind : at + 4 + 4 ≡ to = omega (arith, there) in
      record {
        regs = with_register s.hart.regs rd value;
        ran = subst (λ x. Ran s (words_from at 2) (with_register s.hart.regs rd value) x) behind ran;
        alike = λ k. inl refl;
      }

  pub out_row : (c : Code) (target : ℕ) → IsAddress target → at + 8 < 4294967296 → JumpsOut c [] target 0 ws → RowRuns s (Jump target) (λ k. IsTemporary c target 0 k) (words_from at 2) target
  out_row c target address fits out =
      record {
        regs = upper_set s.hart.regs out.temporary target;
        ran = out_ran c target 0 address fits out;
        alike = λ k. one_differs (λ j. IsTemporary c target 0 j) s.hart.regs out.temporary (upper_half target * 4096 % 4294967296) k out.free;
      }

  pub inside_row : (P : ℕ → Type 0) (x : Copy) (target : ℕ) → at < 4294967296 → (inside : BranchesInside x at (λ to. instr.Jal 0 (distance at to)) target ws) → inside.to < 4294967296 → RowRuns s (Jump target) P (words_from at 1) inside.to
  inside_row P x target fits inside below =
      record {
        regs = s.hart.regs;
        ran = jump_ran (distance at inside.to) inside.to inside.words (arrives at inside.to fits below);
        alike = λ k. inl refl;
      }

  pub tail_row : (target register : ℕ) → IsAddress target → (register ≡ 0 → ⊥) → at + 8 < 4294967296 → MeanAll ws (jump_absolute register target) → RowRuns s (Tail target register) (λ k. k ≡ register) (words_from at 2) target
  tail_row target register address some fits means =
      record {
        regs = upper_set s.hart.regs register target;
        ran = absolute_ran s register target at going here (omega (arith, fits)) address.0 address.1 some (code (jump_absolute register target) means);
        alike = λ k. one_differs (λ j. j ≡ register) s.hart.regs register (upper_half target * 4096 % 4294967296) k refl;
      }

  -- the way back, and then more words
  pub linked_ran : (link back : ℕ) (later : List ℕ) (last : Registers) (to : ℕ) → back < 4294967296 → at + 8 < 4294967296 → CodeAt s.map s.hart.mem at (load_immediate link back) → Ran (went s (with_register s.hart.regs link back) (at + 4 + 4)) later last to → Ran s (at ∷ (at + 4) ∷ later) last to
  linked_ran link back later last to below fits words rest =
      two_ran s at (at + 4) later (with_register s.hart.regs link back) last (at + 4 + 4) to
      (immediate_ran s link back at going here fits below words) rest

  pub call_row : (c : Code) (target back link : ℕ) → IsAddress target → back < 4294967296 → at + 16 < 4294967296 → JumpsOut c (load_immediate link back) target link ws → RowRuns s (Call target back link) (λ k. IsTemporary c target link k) (words_from at 4) target
  call_row c target back link address below fits out =
      let words = code (load_immediate link back ++ jump_absolute out.temporary target) out.words in
      let linked : Registers = with_register s.hart.regs link back in
      let jump =
      absolute_ran (went s linked (at + 4 + 4)) out.temporary target (at + 4 + 4) going refl (omega (arith, fits)) address.0 address.1
      (temporary_some c target link out.temporary out.free) words.1.1 in
      record {
        regs = upper_set linked out.temporary target;
        ran = linked_ran link back ((at + 4 + 4) ∷ (at + 4 + 4 + 4) ∷ []) (upper_set linked out.temporary target) target below
            (omega (arith, fits)) (words.0, (words.1.0, tt)) jump;
        alike = λ k. one_differs (λ j. IsTemporary c target link j) linked out.temporary (upper_half target * 4096 % 4294967296) k out.free;
      }

  link_apart : (regs : Registers) (link back base : ℕ) → (link ≡ 0) ⊎ (base ≡ link → ⊥) → register (with_register regs link back) base ≡ register regs base
  link_apart regs zero back base apart = refl
  link_apart regs (suc link) back base (inl none) = absurd (omega (arith, none))
  link_apart regs (suc link) back base (inr other) = read_other regs (suc link) back base other

  pub linking_row : (P : ℕ → Type 0) (behind back link base : ℕ) (imm : ℤ) → back < 4294967296 → (link ≡ 0) ⊎ (base ≡ link → ⊥) → at + 12 < 4294967296 → MeanAll ws (load_immediate link back ++ instr.Jalr 0 base imm ∷ []) → RowRuns s (Linking back link base imm) P (words_from at 3) (next_after behind (Linking back link base imm) s.hart.regs)
  linking_row P behind back link base imm below apart fits means =
      let words = code (load_immediate link back ++ instr.Jalr 0 base imm ∷ []) means in
      let linked : Registers = with_register s.hart.regs link back in
      let to : ℕ = offset (register s.hart.regs base) imm / 2 * 2 in
      let there : offset (register linked base) imm / 2 * 2 ≡ to = ap (λ a. offset a imm / 2 * 2) (link_apart s.hart.regs link back base apart) in
      let jump = one_ran (went s linked (at + 4 + 4)) (instr.Jalr 0 base imm) (at + 4 + 4) to going refl words.1.1.0 tt there in
      record {
        regs = linked;
        ran = linked_ran link back ((at + 4 + 4) ∷ []) linked to below (omega (arith, fits)) (words.0, (words.1.0, tt)) jump;
        alike = λ k. inl refl;
      }

  -- ---- branches

  -- a branch that is the first word
  pub branch_ran : (kind : BranchKind) (rs1 rs2 : ℕ) (off : ℤ) (is : List Instr) (taken : Bool) (to : ℕ) → MeanAll ws (instr.Branch kind rs1 rs2 off ∷ is) → is_taken kind (register s.hart.regs rs1) (register s.hart.regs rs2) ≡ taken → (if taken then offset at off else plus at 4) ≡ to → Ran s (at ∷ []) s.hart.regs to
  branch_ran kind rs1 rs2 off is taken to means test there =
      let arrived : (if is_taken kind (register s.hart.regs rs1) (register s.hart.regs rs2) then offset s.hart.pc off else plus s.hart.pc 4) ≡ to =
      ap (λ (b : Bool). if b then offset s.hart.pc off else plus s.hart.pc 4) test ∙ (ap (λ a. if taken then offset a off else plus a 4) here ∙ there) in
      one_ran s (instr.Branch kind rs1 rs2 off) at to going here (code (instr.Branch kind rs1 rs2 off ∷ is) means).0 tt arrived

  pub branch_inside : (P : ℕ → Type 0) (x : Copy) (kind : BranchKind) (rs1 rs2 target : ℕ) → at < 4294967296 → (inside : BranchesInside x at (λ to. instr.Branch kind rs1 rs2 (distance at to)) target ws) → inside.to < 4294967296 → is_taken kind (register s.hart.regs rs1) (register s.hart.regs rs2) ≡ true → RowRuns s (Branch kind rs1 rs2 target) P (words_from at 1) inside.to
  branch_inside P x kind rs1 rs2 target fits inside below test =
      record {
        regs = s.hart.regs;
        ran = branch_ran kind rs1 rs2 (distance at inside.to) [] true inside.to inside.words test (arrives at inside.to fits below);
        alike = λ k. inl refl;
      }

  pub branch_passes : (P : ℕ → Type 0) (x : Copy) (kind : BranchKind) (rs1 rs2 target to : ℕ) → at + 4 < 4294967296 → at + 4 ≡ to → BranchesInside x at (λ to. instr.Branch kind rs1 rs2 (distance at to)) target ws → is_taken kind (register s.hart.regs rs1) (register s.hart.regs rs2) ≡ false → RowRuns s (Branch kind rs1 rs2 target) P (words_from at 1) to
  branch_passes P x kind rs1 rs2 target to fits there inside test =
      record {
        regs = s.hart.regs;
        ran = branch_ran kind rs1 rs2 (distance at inside.to) [] false to inside.words test (omega (arith, fits, there));
        alike = λ k. inl refl;
      }

  pub branch_out : (c : Code) (kind : BranchKind) (rs1 rs2 target : ℕ) → IsAddress target → at + 12 < 4294967296 → JumpsOut c (instr.Branch (inverse kind) rs1 rs2 (pos 12) ∷ []) target 0 ws → is_taken kind (register s.hart.regs rs1) (register s.hart.regs rs2) ≡ true → RowRuns s (Branch kind rs1 rs2 target) (λ k. (true ≡ true) × IsTemporary c target 0 k) (words_from at 3) target
  branch_out c kind rs1 rs2 target address fits out test =
      let passed : is_taken (inverse kind) (register s.hart.regs rs1) (register s.hart.regs rs2) ≡ false =
      inverse_taken kind (register s.hart.regs rs1) (register s.hart.regs rs2) ∙ ap not test in
      let first = branch_ran (inverse kind) rs1 rs2 (pos 12) (jump_absolute out.temporary target) false (at + 4) out.words passed (omega (arith, fits)) in
      let words = code (instr.Branch (inverse kind) rs1 rs2 (pos 12) ∷ jump_absolute out.temporary target) out.words in
      let jump =
      absolute_ran (went s s.hart.regs (at + 4)) out.temporary target (at + 4) going refl (omega (arith, fits)) address.0 address.1
      (temporary_some c target 0 out.temporary out.free) words.1 in
      record {
        regs = upper_set s.hart.regs out.temporary target;
        ran = more_ran s at ((at + 4) ∷ (at + 4 + 4) ∷ []) s.hart.regs (upper_set s.hart.regs out.temporary target) (at + 4) target first jump;
        alike = λ k. one_differs (λ j. (true ≡ true) × IsTemporary c target 0 j) s.hart.regs out.temporary (upper_half target * 4096 % 4294967296) k (refl, out.free);
      }

  pub branch_skips : (P : ℕ → Type 0) (c : Code) (kind : BranchKind) (rs1 rs2 target to : ℕ) → at + 12 < 4294967296 → at + 12 ≡ to → JumpsOut c (instr.Branch (inverse kind) rs1 rs2 (pos 12) ∷ []) target 0 ws → is_taken kind (register s.hart.regs rs1) (register s.hart.regs rs2) ≡ false → RowRuns s (Branch kind rs1 rs2 target) P (words_from at 1) to
  branch_skips P c kind rs1 rs2 target to fits there out test =
      let taken : is_taken (inverse kind) (register s.hart.regs rs1) (register s.hart.regs rs2) ≡ true =
      inverse_taken kind (register s.hart.regs rs1) (register s.hart.regs rs2) ∙ ap not test in
      let first = branch_ran (inverse kind) rs1 rs2 (pos 12) (jump_absolute out.temporary target) true to out.words taken (omega (arith, fits, there)) in
      record { regs = s.hart.regs; ran = first; alike = λ k. inl refl }
