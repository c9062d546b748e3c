-- The words of each kind of unit run as they should.
use Rattle.std.proofs.Common.{◌≡◌, ℕ, ◌+◌, ◌*◌, ◌%◌, ◌<◌, Bool, true, false, not, ◌&&◌, if◌then◌else◌, List, [], ◌∷◌, length, pos, refl, sym, subst, arith}
use Rattle.std.specs.Prelude.{Option}
use Rattle.std.specs.Bool.{MatchBool}
use Rattle.rv32im.specs.Memory.{word_at}
use Rattle.rv32im.specs.declared.instructions.Instr.{Instr}
use Rattle.rv32im.specs.declared.instructions.Instr.TheVariants as instr
use Rattle.rv32im.specs.declared.instructions.BranchKind.{BranchKind}
use Rattle.rv32im.specs.Acts.{register, is_taken}
use Rattle.rv32im.specs.Sequences.{distance, inverse, MeanAll}
use Rattle.flat_machine.specs.declared.events.FlatOutcome.TheVariants.{GoesOn}
use Rattle.flat_machine.specs.declared.events.FlatEvent.{FlatEvent}
use Rattle.flat_machine.specs.Mapping.{can_access}
use Rattle.flat_machine.specs.State.{State, trap}
use Rattle.flat_machine.specs.Step.{next_state, Performs, ReadsNothing, StepAt}
use Rattle.code_blocks.specs.declared.parts.Unit.{Unit}
use Rattle.block_splitter.specs.declared.unit_kind.UnitKind.{UnitKind}
use Rattle.block_splitter.specs.declared.unit_kind.UnitKind.TheVariants.{Plain, Upper, Branch, Jump, Call, Tail, Indirect, Linking, Halt}
use Rattle.block_splitter.specs.Forms.{holds_block, copy_size}
use Rattle.block_splitter.specs.Pieces.{IsTemporary}
use Rattle.block_splitter.specs.Copies.{Copy, is_inside, words_before, address_of, LeadsInside, JumpsOut, BranchesInside, IsUnitCopy, word_of_unit}
use Rattle.flat_machine.specs.Lines.{CodeAt, words_from, IsAtWords}
use Rattle.result_laws.specs.Kinds.{IsAddress, IsKind, told, PerformsWord, RowRuns}
use Rattle.result_laws.specs.Copied.{CopyRuns}
use Rattle.flat_machine.proofs.LineWords.{word_accessed, words_here}
use Rattle.result_laws.proofs.Rows as rows

-- ---- one word

performs_here : (s : State) → s.outcome ≡ GoesOn → can_access s.map s.hart.pc 4 ≡ true → PerformsWord s (word_at s.hart.mem s.hart.pc)
performs_here s going fetches read reads =
    let e : FlatEvent = told s (word_at s.hart.mem s.hart.pc) read in
    let t : State = next_state s read in
    let step : Performs s e t read = record { reads = reads; state = refl; event = refl } in
    subst (λ o. StepAt o s e t) (sym going)
    (subst (λ b. MatchBool b ((r : Option Instr) × Performs s e t r) (ReadsNothing s e t (trap s))) (sym fetches) (read, step))

-- the first of some words
pub performs_first : (s : State) (at word : ℕ) (more : List ℕ) → at % 4 ≡ 0 → IsAtWords s at (word ∷ more) → PerformsWord s word
performs_first s at word more aligned here =
    let first : at + 4 * 0 ≡ s.hart.pc = let pc = here.pc in omega (arith, pc) in
    let held : word_at s.hart.mem s.hart.pc ≡ word = subst (λ a. word_at s.hart.mem a ≡ word) first (here.stand 0 (omega arith)) in
    let fetches : can_access s.map s.hart.pc 4 ≡ true =
    subst (λ a. can_access s.map a 4 ≡ true) first (word_accessed s.map at (4 * length (word ∷ more)) 0 here.fetched aligned (omega arith)) in
    subst (λ w. PerformsWord s w) held (performs_here s here.going fetches)

pub performs_one : (s : State) (at word : ℕ) (ws : List ℕ) → at % 4 ≡ 0 → ws ≡ word ∷ [] → IsAtWords s at ws → PerformsWord s word
performs_one s at word ws aligned one here = performs_first s at word [] aligned (subst (λ xs. IsAtWords s at xs) one here)

-- ---- a copy's

-- the copies of blocks stand below 2 ^ 32
abbrev pub StandsLow : Copy → Type 0
StandsLow x = (b : ℕ) → holds_block b x.range ≡ true → address_of x (words_before x b) < 4294967296

low_there : (x : Copy) (target to : ℕ) → StandsLow x → LeadsInside x target to → to < 4294967296
low_there x target to low leads = let below = low leads.block leads.inside in let there = leads.there in omega (arith, there, below)

module _ (x : Copy) (s : State) (at : ℕ) (ws : List ℕ) (aligned : at % 4 ≡ 0) (low : StandsLow x) (here : IsAtWords s at ws) where
  code : (is : List Instr) → MeanAll ws is → CodeAt s.map s.hart.mem at is
  code is means = words_here s at ws is here aligned means

  branch_copy : (kind : BranchKind) (rs1 rs2 target : ℕ) (inside taken : Bool) → is_taken kind (register s.hart.regs rs1) (register s.hart.regs rs2) ≡ taken → IsAddress target → at + 4 * (if inside then 1 else 3) < 4294967296
      → MatchBool inside (BranchesInside x at (λ to. instr.Branch kind rs1 rs2 (distance at to)) target ws) (JumpsOut x.code (instr.Branch (inverse kind) rs1 rs2 (pos 12) ∷ []) target 0 ws)
      → (to : ℕ) × (MatchBool taken (MatchBool inside (LeadsInside x target to) (to ≡ target)) (to ≡ at + 4 * (if inside then 1 else 3)) × RowRuns s (Branch kind rs1 rs2 target) (λ k. (taken ≡ true) × IsTemporary x.code target 0 k) (words_from at (if taken && not inside then 3 else 1)) to)
  branch_copy kind rs1 rs2 target true true test address fits form =
      let below = low_there x target form.to low form.leads in
      (form.to, (form.leads, rows.branch_inside s at ws here.going here.pc code (λ k. (true ≡ true) × IsTemporary x.code target 0 k) x kind rs1 rs2 target (omega (arith, fits)) form below test))
  branch_copy kind rs1 rs2 target true false test address fits form =
      (at + 4 * 1, (refl, rows.branch_passes s at ws here.going here.pc code (λ k. (false ≡ true) × IsTemporary x.code target 0 k) x kind rs1 rs2 target (at + 4 * 1) (omega (arith, fits)) (omega arith) form test))
  branch_copy kind rs1 rs2 target false true test address fits form =
      (target, (refl, rows.branch_out s at ws here.going here.pc code x.code kind rs1 rs2 target address (omega (arith, fits)) form test))
  branch_copy kind rs1 rs2 target false false test address fits form =
      (at + 4 * 3, (refl, rows.branch_skips s at ws here.going here.pc code (λ k. (false ≡ true) × IsTemporary x.code target 0 k) x.code kind rs1 rs2 target (at + 4 * 3) (omega (arith, fits)) (omega arith) form test))

  jump_copy : (target : ℕ) (inside : Bool) → IsAddress target → at + 4 * (if inside then 1 else 2) < 4294967296 → MatchBool inside (BranchesInside x at (λ to. instr.Jal 0 (distance at to)) target ws) (JumpsOut x.code [] target 0 ws)
      → (to : ℕ) × (MatchBool inside (LeadsInside x target to) (to ≡ target) × RowRuns s (Jump target) (λ k. IsTemporary x.code target 0 k) (words_from at (if inside then 1 else 2)) to)
  jump_copy target true address fits form =
      let below = low_there x target form.to low form.leads in
      (form.to, (form.leads, rows.inside_row s at ws here.going here.pc code (λ k. IsTemporary x.code target 0 k) x target (omega (arith, fits)) form below))
  jump_copy target false address fits form =
      (target, (refl, rows.out_row s at ws here.going here.pc code x.code target address (omega (arith, fits)) form))

  pub copy_runs : (u : Unit) (kind : UnitKind) → IsKind kind → at + 4 * copy_size (is_inside x) kind < 4294967296 → IsUnitCopy x at u kind ws → CopyRuns x s at u kind
  copy_runs u Plain is fits form = performs_one s at (word_of_unit x.sites u) ws aligned form here
  copy_runs u (Upper rd value) is fits form =
      (at + 4 * 2, (refl, rows.upper_row s at ws here.going here.pc code (λ k. ⊥) rd value (at + 4 * 2) is (omega (arith, fits)) (omega arith) form))
  copy_runs u (Branch kind rs1 rs2 target) is fits form =
      branch_copy kind rs1 rs2 target (is_inside x target) (is_taken kind (register s.hart.regs rs1) (register s.hart.regs rs2)) refl is fits form
  copy_runs u (Jump target) is fits form = jump_copy target (is_inside x target) is fits form
  copy_runs u (Call target back link) is fits form =
      (target, (refl, rows.call_row s at ws here.going here.pc code x.code target back link is.0 is.1 (omega (arith, fits)) form))
  copy_runs u (Tail target register) is fits form =
      (target, (refl, rows.tail_row s at ws here.going here.pc code target register is.0 is.1 (omega (arith, fits)) form))
  copy_runs u Indirect is fits form = performs_one s at u.raw ws aligned form here
  copy_runs u (Linking back link base imm) is fits form =
      (_, (refl, rows.linking_row s at ws here.going here.pc code (λ k. ⊥) (at + 4 * 3) back link base imm is.0 is.1 (omega (arith, fits)) form))
  copy_runs u Halt is fits form = performs_one s at u.raw ws aligned form here
