-- Rows of words that stand for a unit: a displaced unit's.
use Rattle.std.proofs.Common.{◌≡◌, inl, ℕ, ◌+◌, ◌<◌, subst, Bool, true, false, if◌then◌else◌, List, [], ◌∷◌, ◌++◌, pos, refl, ◌∙◌, ap, arith}
use Rattle.rv32im.specs.Words.{offset}
use Rattle.rv32im.specs.declared.instructions.Instr.{Instr}
use Rattle.rv32im.specs.declared.instructions.Instr.TheVariants as instr
use Rattle.rv32im.specs.declared.instructions.BranchKind.{BranchKind}
use Rattle.rv32im.specs.Acts.{Registers, register, with_register, is_taken}
use Rattle.rv32im.specs.Sequences.{load_immediate, distance, MeanAll}
use Rattle.rv32im.proofs.SequenceLemmas.{arrives}
use Rattle.flat_machine.specs.declared.events.FlatOutcome.TheVariants.{GoesOn}
use Rattle.flat_machine.specs.State.{State}
use Rattle.block_splitter.specs.declared.unit_kind.UnitKind.TheVariants.{Upper, Branch, Jump, Call, Tail}
use Rattle.flat_machine.specs.Lines.{CodeAt, words_from, went, Ran}
use Rattle.result_laws.specs.Kinds.{RowRuns}
use Rattle.flat_machine.proofs.SilentLines.{one_ran, more_ran}
use Rattle.result_laws.proofs.Rows.{jump_ran, linked_ran, branch_ran}

-- a JAL whose distance is told from the same address in another form
same_place : (here at to : ℕ) → here ≡ at → at < 4294967296 → to < 4294967296 → offset here (distance at to) ≡ to
same_place here at to same fits below = ap (λ a. offset a (distance at to)) same ∙ arrives at to fits below

module _ (s : State) (at : ℕ) (ws : List ℕ) (going : s.outcome ≡ GoesOn) (here : s.hart.pc ≡ at) (code : (is : List Instr) → MeanAll ws is → CodeAt s.map s.hart.mem at is) where
  -- a word in a register, and a JAL
  linked_jump : (link back to : ℕ) → back < 4294967296 → to < 4294967296 → at + 12 < 4294967296 → MeanAll ws (load_immediate link back ++ instr.Jal 0 (distance (at + 8) to) ∷ []) → Ran s (words_from at 3) (with_register s.hart.regs link back) to
  linked_jump link back to below to_below fits means =
      let words = code (load_immediate link back ++ instr.Jal 0 (distance (at + 8) to) ∷ []) means in
      let linked : Registers = with_register s.hart.regs link back in
      let there = same_place (at + 4 + 4) (at + 8) to (omega arith) (omega (arith, fits)) to_below in
      let jump = one_ran (went s linked (at + 4 + 4)) (instr.Jal 0 (distance (at + 8) to)) (at + 4 + 4) to going refl words.1.1.0 tt there in
      linked_ran s at ws going here code link back ((at + 4 + 4) ∷ []) linked to below (omega (arith, fits)) (words.0, (words.1.0, tt)) jump

  pub displaced_upper : (rd value next : ℕ) → value < 4294967296 → next < 4294967296 → at + 12 < 4294967296 → MeanAll ws (load_immediate rd value ++ instr.Jal 0 (distance (at + 8) next) ∷ []) → RowRuns s (Upper rd value) (λ k. ⊥) (words_from at 3) next
  displaced_upper rd value next below next_below fits means =
      record { regs = with_register s.hart.regs rd value; ran = linked_jump rd value next below next_below fits means; alike = λ k. inl refl }

  pub displaced_call : (target back link : ℕ) → target < 4294967296 → back < 4294967296 → at + 12 < 4294967296 → MeanAll ws (load_immediate link back ++ instr.Jal 0 (distance (at + 8) target) ∷ []) → RowRuns s (Call target back link) (λ k. ⊥) (words_from at 3) target
  displaced_call target back link below back_below fits means =
      record { regs = with_register s.hart.regs link back; ran = linked_jump link back target back_below below fits means; alike = λ k. inl refl }

  far_jump : (target : ℕ) → target < 4294967296 → at < 4294967296 → MeanAll ws (instr.Jal 0 (distance at target) ∷ []) → Ran s (words_from at 1) s.hart.regs target
  far_jump target below fits means = jump_ran s at ws going here code (distance at target) target means (arrives at target fits below)

  pub displaced_jump : (target : ℕ) → target < 4294967296 → at < 4294967296 → MeanAll ws (instr.Jal 0 (distance at target) ∷ []) → RowRuns s (Jump target) (λ k. ⊥) (words_from at 1) target
  displaced_jump target below fits means = record { regs = s.hart.regs; ran = far_jump target below fits means; alike = λ k. inl refl }

  pub displaced_tail : (target register : ℕ) → target < 4294967296 → at < 4294967296 → MeanAll ws (instr.Jal 0 (distance at target) ∷ []) → RowRuns s (Tail target register) (λ k. ⊥) (words_from at 1) target
  displaced_tail target register below fits means = record { regs = s.hart.regs; ran = far_jump target below fits means; alike = λ k. inl refl }

  -- ---- branches: over the way to the next unit, if it is taken

  pub displaced_branch : (kind : BranchKind) (rs1 rs2 target next : ℕ) (taken : Bool) → is_taken kind (register s.hart.regs rs1) (register s.hart.regs rs2) ≡ taken → target < 4294967296 → next < 4294967296 → at + 12 < 4294967296
      → MeanAll ws (instr.Branch kind rs1 rs2 (pos 8) ∷ instr.Jal 0 (distance (at + 4) next) ∷ instr.Jal 0 (distance (at + 8) target) ∷ [])
      → RowRuns s (Branch kind rs1 rs2 target) (λ k. ⊥) (at ∷ (if taken then at + 8 else at + 4) ∷ []) (if taken then target else next)
  displaced_branch kind rs1 rs2 target next true test below next_below fits means =
      let js : List Instr = instr.Jal 0 (distance (at + 4) next) ∷ instr.Jal 0 (distance (at + 8) target) ∷ [] in
      let words = code (instr.Branch kind rs1 rs2 (pos 8) ∷ js) means in
      let first = branch_ran s at ws going here code kind rs1 rs2 (pos 8) js true (at + 4 + 4) means test (omega (arith, fits)) in
      let there = same_place (at + 4 + 4) (at + 8) target (omega arith) (omega (arith, fits)) below in
      let same : at + 4 + 4 ≡ at + 8 = omega arith in
      let jump = one_ran (went s s.hart.regs (at + 4 + 4)) (instr.Jal 0 (distance (at + 8) target)) (at + 4 + 4) target going refl words.1.1.0 tt there in
      let both = more_ran s at ((at + 4 + 4) ∷ []) s.hart.regs s.hart.regs (at + 4 + 4) target first jump in
      record { regs = s.hart.regs; ran = subst (λ x. Ran s (at ∷ x ∷ []) s.hart.regs target) same both; alike = λ k. inl refl }
  displaced_branch kind rs1 rs2 target next false test below next_below fits means =
      let js : List Instr = instr.Jal 0 (distance (at + 4) next) ∷ instr.Jal 0 (distance (at + 8) target) ∷ [] in
      let words = code (instr.Branch kind rs1 rs2 (pos 8) ∷ js) means in
      let first = branch_ran s at ws going here code kind rs1 rs2 (pos 8) js false (at + 4) means test (omega (arith, fits)) in
      let jump =
      one_ran (went s s.hart.regs (at + 4)) (instr.Jal 0 (distance (at + 4) next)) (at + 4) next going refl words.1.0 tt
      (arrives (at + 4) next (omega (arith, fits)) next_below) in
      record { regs = s.hart.regs; ran = more_ran s at ((at + 4) ∷ []) s.hart.regs s.hart.regs (at + 4) next first jump; alike = λ k. inl refl }
