-- The checking stub: it passes, or switches.
use Rattle.std.proofs.Common.{◌≡◌, ◌⊎◌, inl, inr, ℕ, ◌+◌, ◌*◌, ◌<◌, ◌≤◌, ◌==◌, Bool, true, false, List, [], ◌∷◌, ◌++◌, slice_index_or, if◌then◌else◌, pos, refl, sym, ◌∙◌, ap, subst, arith}
use Rattle.std.specs.Prelude.{All, Option, Some, None}
use Rattle.std.proofs.lemmas.Int.{ints}
use Rattle.std.proofs.lemmas.List.{append_assoc}
use Rattle.std.proofs.lemmas.Bool.{cases_eq}
use Rattle.std.proofs.lemmas.Bool.Decides.{nat_tests}
use Rattle.rv32im.specs.Words.{plus, offset, upper_half, lower_half}
use Rattle.rv32im.specs.Memory.{Memory, word_at, put_word}
use Rattle.rv32im.proofs.Bytes.{word_at-put_word}
use Rattle.rv32im.specs.declared.instructions.Instr.{Instr}
use Rattle.rv32im.specs.declared.instructions.Instr.TheVariants.{Lui, Load, OpImm, Branch, Jal}
use Rattle.rv32im.specs.declared.instructions.LoadKind.TheVariants.{Lw}
use Rattle.rv32im.specs.declared.instructions.ImmKind.TheVariants.{Addi}
use Rattle.rv32im.specs.declared.instructions.BranchKind.TheVariants.{Beq}
use Rattle.rv32im.specs.Acts.{Hart, Registers, acts, register}
use Rattle.rv32im.specs.Sequences.{distance}
use Rattle.rv32im.proofs.SequenceLemmas.{arrives}
use Rattle.flat_machine.specs.declared.events.FlatAccess.{FlatAccess}
use Rattle.flat_machine.specs.State.{State}
use Rattle.flat_machine.specs.Lines.{with_hart, acted, CodeAt}
use Rattle.flat_machine.proofs.LineWords.{code_front, code_behind, word_kept}
use Rattle.flat_machine.proofs.SilentLines.{set_there, set_other, read_there}
use Rattle.patch_code.specs.declared.job.CopyJob.{CopyJob}
use Rattle.patch_code.specs.Jobs.{AreDisjoint, IsOutside, all_copied}
use Rattle.patch_code.proofs.ByteLemmas.{jobs_copy_so}
use Rattle.patch_code.specs.Parts.{Kept, SwitchPlan, minus_imm, all_parts}
use Rattle.patch_code.specs.Switching.{switch_jobs, routine_run, asked}
use Rattle.patch_code.specs.Checking.{saved_registers, saves, restores, tests, calls, checking, saves_accesses, restores_accesses}
use Rattle.patch_code.specs.Told.{read_at, write_at, jobs_accesses}
use Rattle.patch_code.specs.Switches.{FitsJob, HasRoutine, IsAtStub, StubWay, routine_bytes, CameTo, Switched, StubPasses, StubSwitches, switch_accesses}
use Rattle.patch_code.proofs.Ways.{StandsStill, Passed, line_accesses, follow, straight, step_way, lui_follows, addi_follows, load_follows, passed_on, passed_as}
use Rattle.patch_code.proofs.JobWays.{CanRun}
use Rattle.patch_code.proofs.PartWays.{zero_where}
use Rattle.patch_code.proofs.TestedParts.{IsSome, IsPart}
use Rattle.patch_code.proofs.Control.{upper, word_fits, control_at, control_access, saved, saved_outside, saved_small, saved_holds, in_or, saved_some, Holds, holds_kept, word_outside, IsKnown, Saves, saves_do, Restores, restores_do}
use Rattle.patch_code.proofs.Whole.{RoutineDone, routine_way}
use Rattle.patch_code.proofs.StubWays.{in_stub, in_routine, join_own, recount_own}
use Rattle.patch_code.proofs.SwitchJobs.{IsApart, jobs_have, all_are, jobs_spare, jobs_alike}

in_pieces : (base t r a switch : ℕ) → checking base t r a switch ≡ tests base t r ++ (Lui t (upper_half base) ∷ saves t saved_registers (base + 4) ++ (calls r (a + 52) switch ++ (Lui t (upper_half base) ∷ restores t saved_registers (base + 4))))
unfolding checking
in_pieces base t r a switch = refl

check_by : (x pc a : ℕ) (b : Bool) → (x == 0) ≡ b → pc ≡ a + 12 → a + 88 < 4294967296 → (if x == 0 then offset pc (pos 76) else plus pc 4) ≡ (if b then a + 88 else a + 16)
check_by x pc a true test at below = rw (test, at) (grind (arith, ints, nat_tests))
check_by x pc a false test at below = rw (test, at) (omega (arith, below))

number_is : (r : ℕ) → r < 2048 → offset 0 (pos r) ≡ r
number_is r small = grind (arith, ints, nat_tests)

-- ---- the stub

module _ (w : SwitchPlan (List CopyJob)) (lo size switch t r a : ℕ) (s : State) (has : HasRoutine w lo size switch s) (is : IsAtStub w.base lo size switch t r a s) where
  abbrev base : ℕ
  base = w.base

  abbrev first : Memory
  first = s.hart.mem

  abbrev word : ℕ
  word = word_at first base

  abbrev rest_1 : List Instr
  rest_1 =
      Lui t (upper_half base) ∷ saves t saved_registers (base + 4)
      ++ (calls r (a + 52) switch ++ (Lui t (upper_half base) ∷ restores t saved_registers (base + 4)))

  abbrev rest_2 : List Instr
  rest_2 = calls r (a + 52) switch ++ (Lui t (upper_half base) ∷ restores t saved_registers (base + 4))

  whole : CodeAt s.map first a (tests base t r ++ rest_1)
  whole = subst (λ xs. CodeAt s.map first a xs) (in_pieces base t r a switch) is.code

  test_code : CodeAt s.map first a (tests base t r)
  test_code = code_front (tests base t r) rest_1 s.map first a whole

  save_code : CodeAt s.map first (a + 16) rest_1
  save_code =
      let place : a + 4 * 4 ≡ a + 16 = omega arith in
      subst (λ x. CodeAt s.map first x rest_1) place (code_behind (tests base t r) rest_1 s.map first a whole)

  saves_code : CodeAt s.map first (a + 20) (saves t saved_registers (base + 4) ++ rest_2)
  saves_code =
      let place : a + 16 + 4 ≡ a + 20 = omega arith in
      subst (λ x. CodeAt s.map first x (saves t saved_registers (base + 4) ++ rest_2)) place save_code.1

  call_code : CodeAt s.map first (a + 48) rest_2
  call_code =
      let place : a + 20 + 4 * 7 ≡ a + 48 = omega arith in
      subst (λ x. CodeAt s.map first x rest_2) place (code_behind (saves t saved_registers (base + 4)) rest_2 s.map first (a + 20) saves_code)

  last_code : CodeAt s.map first (a + 56) (Lui t (upper_half base) ∷ restores t saved_registers (base + 4))
  last_code =
      let place : a + 48 + 4 + 4 ≡ a + 56 = omega arith in
      subst (λ x. CodeAt s.map first x (Lui t (upper_half base) ∷ restores t saved_registers (base + 4))) place call_code.1.1

  restores_code : CodeAt s.map first (a + 60) (restores t saved_registers (base + 4))
  restores_code =
      let place : a + 56 + 4 ≡ a + 60 = omega arith in
      subst (λ x. CodeAt s.map first x (restores t saved_registers (base + 4))) place last_code.1

  -- ---- the stub's own words, and those of the routine

  abbrev bytes : ℕ
  bytes = routine_bytes w

  stub_ends : a + 88 < 4294967296
  stub_ends = let high = is.high in let below = has.below in omega (arith, high, below)

  stub_behind : base + 64 ≤ a
  stub_behind = let behind = has.behind in let low = is.low in omega (arith, behind, low)

  routine_ends : switch + bytes < 4294967296
  routine_ends = let high = has.high in let below = has.below in omega (arith, high, below)

  routine_behind : base + 64 ≤ switch
  routine_behind = let behind = has.behind in let low = has.low in omega (arith, behind, low)

  routine_low : switch ≤ switch
  routine_low = omega arith

  routine_high : switch + bytes ≤ switch + bytes
  routine_high = omega arith

  stands : StandsStill s is.going a 88 stub_ends first first
  stands x low high = refl

  -- ---- the test

  abbrev h0 : Hart
  h0 = s.hart

  abbrev h1 : Hart
  h1 = acts (Lui t (upper_half base)) h0

  abbrev h2 : Hart
  h2 = acts (Load Lw t t (lower_half base)) h1

  abbrev h3 : Hart
  h3 = acts (OpImm Addi t t (minus_imm r)) h2

  abbrev h4 : Hart
  h4 = acts (Branch Beq t 0 (pos 76)) h3

  -- an address in the stub's register leads to the first control word
  leads_t : (regs : Registers) → register regs t ≡ upper base → offset (register regs t) (lower_half base) ≡ base
  leads_t regs up =
      let aligned = has.aligned in
      let behind = has.behind in
      let below = has.below in
      ap (λ x. offset x (lower_half base)) up ∙ control_at base base aligned (omega arith) (omega arith) (omega (arith, behind, below))

  load_at : offset (register h1.regs t) (lower_half base) ≡ base
  load_at = leads_t h1.regs (read_there h0.regs t (upper base) is.some)

  difference : register h3.regs t ≡ offset word (minus_imm r)
  difference =
      read_there h2.regs t (offset (register h2.regs t) (minus_imm r)) is.some
      ∙ ap (λ x. offset x (minus_imm r)) (read_there h1.regs t (word_at first (offset (register h1.regs t) (lower_half base))) is.some ∙ ap (λ x. word_at first x) load_at)

  is_current : (register h3.regs t == 0) ≡ (word == r)
  is_current =
      ap (λ x. x == 0) difference ∙ zero_where word r (word_fits first base is.words.mem) is.small

  tested : (b : Bool) → (word == r) ≡ b → Passed s is.going a 88 stub_ends first 4 (read_at base ∷ []) (if b then a + 88 else a + 16) h0 h4
  tested b test =
      let aligned = has.aligned in
      let here = load_at in
      let three =
      passed_as s is.going a 88 stub_ends first 3 3 (read_at (offset (register h1.regs t) (lower_half base)) ∷ []) (read_at base ∷ []) (a + 4 * 3) (a + 12) h0 h3 refl
      (λ i. read_at (here i) ∷ []) (omega arith)
      (straight s is.going a 88 stub_ends first (Lui t (upper_half base) ∷ Load Lw t t (lower_half base) ∷ OpImm Addi t t (minus_imm r) ∷ []) h0 a (
        lui_follows s is.going a 88 stub_ends first t (upper_half base) h0,
        (
          load_follows s is.going a 88 stub_ends first Lw t t (lower_half base) h1 base here
              (control_access s is.going a 88 stub_ends first base has.aligned stub_behind has.control base (omega (arith, aligned)) (omega arith) (omega arith)),
          (addi_follows s is.going a 88 stub_ends first t t (minus_imm r) h2, tt),
        ),
      ) stands (let code = test_code in (code.0, (code.1.0, (code.1.1.0, tt)))) is.pc (omega arith) (omega arith)) in
      let place : a + 4 + 4 + 4 ≡ a + 12 = omega arith in
      let fetch : CodeAt s.map first (a + 12) (Branch Beq t 0 (pos 76) ∷ []) =
      subst (λ x. CodeAt s.map first x (Branch Beq t 0 (pos 76) ∷ [])) place test_code.1.1.1 in
      let step =
      step_way s is.going a 88 stub_ends first (Branch Beq t 0 (pos 76)) h3 (a + 12) tt refl three.still fetch.0 three.pc
      (omega arith) (omega arith) in
      passed_on s is.going a 88 stub_ends first 3 1 (read_at base ∷ []) [] (a + 12) (if b then a + 88 else a + 16) h0 h3 h4 three
      (record {
        way = step;
        pc = check_by (register h3.regs t) h3.pc a b (is_current ∙ test) three.pc stub_ends;
        still = three.still;
      })

  others_4 : (k : ℕ) → (k ≡ t → ⊥) → h4.regs k ≡ s.hart.regs k
  others_4 k other =
      set_other h2.regs t (offset (register h2.regs t) (minus_imm r)) k other
      ∙ (set_other h1.regs t (word_at first (offset (register h1.regs t) (lower_half base))) k other ∙ set_other h0.regs t (upper base) k other)

  pub passes_so : word ≡ r → (n : State) × (StubWay lo size a switch bytes 4 (read_at base ∷ []) s n × (CameTo (a + 88) t s n × (n.hart.mem ≡ s.hart.mem)))
  passes_so same =
      let test : (word == r) ≡ true = grind (arith, nat_tests, same) in
      let run = tested true test in
      (with_hart s h4, (in_stub lo size a switch bytes 4 (read_at base ∷ []) s (with_hart s h4) is.low is.high run.way, (record { pc = run.pc; registers = others_4; rest = refl }, refl)))

  -- ---- the switch

  abbrev jobs : List CopyJob
  jobs = switch_jobs w word r

  plan_fits : All (IsPart (FitsJob base lo size s)) (all_parts w)
  plan_fits =
      all_are (FitsJob base lo size s) w has.few (λ i below. (has.jobs i below).leave) (λ i below. (has.jobs i below).enter)
      (λ i below. (has.jobs i below).kept_leave) (λ i below. (has.jobs i below).kept_enter)

  jobs_fit : All (FitsJob base lo size s) jobs
  jobs_fit = jobs_have (FitsJob base lo size s) (asked word r) (all_parts w) plan_fits

  can_run : (js : List CopyJob) → All (FitsJob base lo size s) js → All (CanRun s is.going switch bytes routine_ends first) js
  can_run js fit k d below = let one = fit k d below in record { is = one.is; can = one.can; spares = by (slice_index_or js k d) one.spares }
    where
      by : (job : CopyJob) → AreDisjoint job.to job.bytes lo size → AreDisjoint job.to job.bytes switch bytes
      by job (inl before) = let low = has.low in inl (omega (arith, before, low))
      by job (inr past) = let high = has.high in inr (omega (arith, past, high))

  abbrev current_fits : word < 4294967296
  current_fits = word_fits first base is.words.mem

  abbrev region_fits : r < 4294967296
  region_fits = let small = is.small in omega (arith, small)

  some_fits : (kept : Option (Kept (List CopyJob))) → IsSome (FitsJob base lo size s) kept → IsSome (CanRun s is.going switch bytes routine_ends first) kept
  some_fits None fit = tt
  some_fits (Some k) fit = record { test = fit.test; few = fit.few; jobs = can_run k.jobs fit.jobs }

  parts_fit : All (IsPart (CanRun s is.going switch bytes routine_ends first)) (all_parts w)
  parts_fit k d below =
      let one = plan_fits k d below in
      record { test = one.test; few = one.few; jobs = can_run _ one.jobs; kept = some_fits _ one.kept }

  abbrev h5 : Hart
  h5 = acts (Lui t (upper_half base)) h4

  abbrev h6 : Hart
  h6 = acted (saves t saved_registers (base + 4)) h5

  abbrev h7 : Hart
  h7 = acts (OpImm Addi 30 0 (pos r)) h6

  abbrev h8 : Hart
  h8 = acts (Jal 29 (distance (a + 52) switch)) h7

  -- memory when the routine is called
  abbrev called : Memory
  called = saved h5.regs saved_registers (base + 4) first

  others_5 : (k : ℕ) → (k ≡ t → ⊥) → h5.regs k ≡ s.hart.regs k
  others_5 k other = set_other h4.regs t (upper base) k other ∙ others_4 k other

  fits_5 : (k : ℕ) → h5.regs k < 4294967296
  fits_5 k =
      elim (cases_eq k t) [
        | inl same ↦ subst (λ x. h5.regs x < 4294967296) (sym same)
            (let up = set_there h4.regs t (upper base) is.some in omega (arith, up))
        | inr other ↦ (let kept = others_5 k other in let fits = is.words.regs k in omega (arith, kept, fits))
      ]

  did_save : Saves s is.going a 88 stub_ends first base has.aligned stub_behind has.control t is.some saved_registers (base + 4) h5
  did_save =
      let aligned = has.aligned in
      saves_do s is.going a 88 stub_ends first base has.aligned stub_behind has.control t is.some saved_registers (base + 4) h5
      (set_there h4.regs t (upper base) is.some) (omega (arith, aligned)) (omega arith) (omega arith)

  called_fits : base + 4 + 4 * 7 ≤ 4294967296
  called_fits = let behind = has.behind in let below = has.below in omega (arith, behind, below)

  called_apart : (x : ℕ) → IsApart base x → called x ≡ first x
  called_apart x apart = saved_outside h5.regs saved_registers (base + 4) first x called_fits (by apart)
    where
      by : IsApart base x → (x < base + 4) ⊎ (base + 4 + 4 * 7 ≤ x)
      by (inl before) = inl (omega (arith, before))
      by (inr past) = inr (omega (arith, past))

  -- the code is as it was when the routine is called
  called_still : (x : ℕ) → base + 64 ≤ x → h8.mem x ≡ first x
  called_still x past = ap (λ (m : Memory). m x) did_save.mem ∙ called_apart x (inr past)

  called_word : word_at called base ≡ word
  called_word =
      word_kept first called base (let fits = called_fits in omega (arith, fits))
      (λ x low high. saved_outside h5.regs saved_registers (base + 4) first x called_fits (inl high))

  -- from the test to the call
  to_call : (word == r) ≡ false → Passed s is.going a 88 stub_ends first 13 (read_at base ∷ saves_accesses saved_registers (base + 4)) (a + 52) h0 h7
  to_call test =
      let one = tested false test in
      let two =
      follow s is.going a 88 stub_ends first (Lui t (upper_half base)) h4 (a + 16) (lui_follows s is.going a 88 stub_ends first t (upper_half base) h4) one.still
      save_code.0 one.pc (omega arith) (omega arith) in
      let at_20 : a + 16 + 4 ≡ a + 20 = omega arith in
      let three =
      passed_as s is.going a 88 stub_ends first 7 7 (line_accesses s is.going a 88 stub_ends first (saves t saved_registers (base + 4)) h5) (saves_accesses saved_registers (base + 4)) (a + 20 + 4 * 7) (a + 48)
      h5 h6 refl did_save.told (omega arith)
      (straight s is.going a 88 stub_ends first (saves t saved_registers (base + 4)) h5 (a + 20) did_save.follows two.still
      (code_front (saves t saved_registers (base + 4)) rest_2 s.map first (a + 20) saves_code) (two.pc ∙ at_20) (omega arith) (omega arith)) in
      let four =
      follow s is.going a 88 stub_ends first (OpImm Addi 30 0 (pos r)) h6 (a + 48) (addi_follows s is.going a 88 stub_ends first 30 0 (pos r) h6) three.still
      call_code.0 three.pc (omega arith) (omega arith) in
      let ends_it = passed_as s is.going a 88 stub_ends first 1 1 [] [] (a + 48 + 4) (a + 52) h6 h7 refl refl (omega arith) four in
      let saves_and =
      passed_on s is.going a 88 stub_ends first 7 1 (saves_accesses saved_registers (base + 4)) [] (a + 48) (a + 52) h5 h6 h7 three ends_it in
      let behind_test =
      passed_on s is.going a 88 stub_ends first 1 8 [] (saves_accesses saved_registers (base + 4)) (a + 16 + 4) (a + 52) h4 h5 h7 two saves_and in
      passed_on s is.going a 88 stub_ends first 4 9 (read_at base ∷ []) (saves_accesses saved_registers (base + 4)) (a + 16) (a + 52) h0 h4 h7 one behind_test

  to_routine : (word == r) ≡ false → Passed s is.going a 88 stub_ends first 14 (read_at base ∷ saves_accesses saved_registers (base + 4)) switch h0 h8
  to_routine test =
      let ends = stub_ends in
      let routine = routine_ends in
      let one = to_call test in
      let place : a + 48 + 4 ≡ a + 52 = omega arith in
      let fetch : CodeAt s.map first (a + 52) (Jal 29 (distance (a + 52) switch) ∷ Lui t (upper_half base) ∷ restores t saved_registers (base + 4)) =
      subst (λ x. CodeAt s.map first x (Jal 29 (distance (a + 52) switch) ∷ Lui t (upper_half base) ∷ restores t saved_registers (base + 4))) place call_code.1 in
      let step =
      step_way s is.going a 88 stub_ends first (Jal 29 (distance (a + 52) switch)) h7 (a + 52) tt refl one.still fetch.0 one.pc
      (omega arith) (omega arith) in
      passed_on s is.going a 88 stub_ends first 13 1 (read_at base ∷ saves_accesses saved_registers (base + 4)) [] (a + 52) switch h0 h7 h8 one
      (record {
        way = step;
        pc = ap (λ x. offset x (distance (a + 52) switch)) one.pc
            ∙ arrives (a + 52) switch (omega (arith, ends)) (omega (arith, routine));
        still = one.still;
      })

  -- ---- the routine, as the stub calls it

  thirty_is : h8.regs 30 ≡ r
  thirty_is =
      set_other h7.regs 29 (plus h7.pc 4) 30 (λ e. absurd (omega arith))
      ∙ (set_there h6.regs 30 (offset 0 (pos r)) (λ e. absurd (omega arith)) ∙ number_is r is.small)

  returns_to : (word == r) ≡ false → h8.regs 29 ≡ a + 56
  returns_to test =
      let high = is.high in
      let below = has.below in
      set_there h7.regs 29 (plus h7.pc 4) (λ e. absurd (omega arith))
      ∙ (ap (λ x. plus x 4) (to_call test).pc ∙ omega (arith, high, below))

  switched_by : (word == r) ≡ false → (k : Hart) × RoutineDone s is.going switch bytes routine_ends first w has.aligned routine_behind has.control switch has.code routine_low routine_high word r (a + 56) h8 k
  switched_by test =
      let high = is.high in
      let below = has.below in
      let aligned = is.aligned in
      let before = to_routine test in
      let behind = routine_behind in
      let kept = did_save.mem in
      let small : ((x : ℕ) → h8.mem x < 256) =
      subst (λ (m : Memory). (x : ℕ) → m x < 256) (sym kept) (saved_small h5.regs saved_registers (base + 4) first is.words.mem) in
      let current : word_at h8.mem base ≡ word = ap (λ (m : Memory). word_at m base) kept ∙ called_word in
      routine_way s is.going switch bytes routine_ends first w has.aligned routine_behind has.control switch has.code routine_low routine_high h8 word r (a + 56)
      current_fits region_fits before.pc (λ x low high. called_still x (omega (arith, low, behind))) small current thirty_is (returns_to test) (omega (arith, aligned)) (omega (arith, high, below)) parts_fit

  -- the registers that neither the stub nor the routine uses
  others_8 : (k : ℕ) → (k ≡ 29 → ⊥) → (k ≡ 30 → ⊥) → h8.regs k ≡ h5.regs k
  others_8 k no29 no30 =
      set_other h7.regs 29 (plus h7.pc 4) k no29
      ∙ (set_other h6.regs 30 (offset 0 (pos r)) k no30 ∙ ap (λ (regs : Registers). regs k) did_save.regs)

  -- ---- behind the routine

  module _ (h9 : Hart) (done : RoutineDone s is.going switch bytes routine_ends first w has.aligned routine_behind has.control switch has.code routine_low routine_high word r (a + 56) h8 h9) where
    abbrev h10 : Hart
    h10 = acts (Lui t (upper_half base)) h9

    abbrev h11 : Hart
    h11 = acted (restores t saved_registers (base + 4)) h10

    abbrev left : Memory
    left = put_word (all_copied called jobs) base r

    left_is : h9.mem ≡ left
    left_is = done.mem ∙ ap (λ (m : Memory). put_word (all_copied m jobs) base r) did_save.mem

    base_fits : base + 4 ≤ 4294967296
    base_fits = let fits = called_fits in omega (arith, fits)

    still_saved : Holds h5.regs saved_registers (base + 4) h10.mem
    still_saved =
        let fits = called_fits in
        let held = saved_holds h5.regs saved_registers (base + 4) first fits_5 called_fits in
        let held_left =
        holds_kept h5.regs saved_registers (base + 4) called left called_fits
        (λ x low high. word_outside (all_copied called jobs) base r x base_fits (inr low)
        ∙ jobs_spare base lo size s called jobs x (omega (arith, low)) (omega (arith, high)) jobs_fit) held in
        subst (λ (m : Memory). Holds h5.regs saved_registers (base + 4) m) (sym left_is) held_left

    did_restore : Restores s is.going a 88 stub_ends first base has.aligned stub_behind has.control t is.some h5.regs saved_registers (base + 4) h10
    did_restore =
        let aligned = has.aligned in
        restores_do s is.going a 88 stub_ends first base has.aligned stub_behind has.control t is.some h5.regs saved_registers (base + 4) h10
        (set_there h9.regs t (upper base) is.some) (omega (arith, aligned)) (omega arith) (omega arith) still_saved

    known : (k : ℕ) → (k ≡ t → ⊥) → IsKnown s is.going a 88 stub_ends first base has.aligned stub_behind has.control t is.some h5.regs saved_registers h10.regs k
    known k other =
        elim (in_or saved_registers k) [
          | inl here ↦ inr (saved_some k here, here)
          | inr none ↦
              inl (set_other h9.regs t (upper base) k other
              ∙ (done.others k (λ e. none (inl e)) (λ e. none (inr (inl e))) (λ e. none (inr (inr (inl e))))
              (λ e. none (inr (inr (inr (inl e))))) (λ e. none (inr (inr (inr (inr (inr (inr (inl e))))))))
              ∙ others_8 k (λ e. none (inr (inr (inr (inr (inl e)))))) (λ e. none (inr (inr (inr (inr (inr (inl e)))))))))
        ]

    left_others : (x : ℕ) → IsApart base x → h9.mem x ≡ all_copied first jobs x
    left_others x apart =
        ap (λ (m : Memory). m x) left_is
        ∙ (word_outside (all_copied called jobs) base r x base_fits (by apart)
        ∙ jobs_alike base lo size s called first jobs jobs_fit called_apart x apart)
      where
        by : IsApart base x → (x < base) ⊎ (base + 4 ≤ x)
        by (inl before) = inl before
        by (inr past) = inr (omega (arith, past))

    -- and so it is behind the jobs
    code_left : (x : ℕ) → lo ≤ x → x < lo + size → h9.mem x ≡ first x
    code_left x low high =
        let behind = has.behind in
        left_others x (inr (omega (arith, behind, low)))
        ∙ jobs_copy_so.elsewhere first jobs x (λ k d below. by (slice_index_or jobs k d) (jobs_fit k d below).spares)
      where
        by : (job : CopyJob) → AreDisjoint job.to job.bytes lo size → IsOutside x job
        by job (inl before) = inr (omega (arith, before, low))
        by job (inr past) = inl (omega (arith, past, high))

    from_routine : Passed s is.going a 88 stub_ends first 8 (restores_accesses saved_registers (base + 4)) (a + 88) h9 h11
    from_routine =
        let low = is.low in
        let high = is.high in
        let one =
        follow s is.going a 88 stub_ends first (Lui t (upper_half base)) h9 (a + 56) (lui_follows s is.going a 88 stub_ends first t (upper_half base) h9)
        (λ x from to. code_left x (omega (arith, low, from)) (omega (arith, high, to)))
        last_code.0 done.passed.pc (omega (arith, low)) (omega (arith, high)) in
        let at_60 : a + 56 + 4 ≡ a + 60 = omega arith in
        let two =
        passed_as s is.going a 88 stub_ends first 7 7 (line_accesses s is.going a 88 stub_ends first (restores t saved_registers (base + 4)) h10) (restores_accesses saved_registers (base + 4)) (a + 60 + 4 * 7) (a + 88)
        h10 h11 refl did_restore.told (omega arith)
        (straight s is.going a 88 stub_ends first (restores t saved_registers (base + 4)) h10 (a + 60) did_restore.follows one.still restores_code (one.pc ∙ at_60)
        (omega (arith, low)) (omega (arith, high))) in
        passed_on s is.going a 88 stub_ends first 1 7 [] (restores_accesses saved_registers (base + 4)) (a + 56 + 4) (a + 88) h9 h10 h11 one two

    switched : Switched base lo size r jobs first h11.mem
    switched =
        let fits = base_fits in
        record {
          current = ap (λ (m : Memory). word_at m base) (did_restore.mem ∙ left_is)
              ∙ word_at-put_word (all_copied called jobs) base r (omega (arith, fits)) region_fits;
          others = λ x apart. ap (λ (m : Memory). m x) did_restore.mem ∙ left_others x apart;
          elsewhere = λ x apart outside. ap (λ (m : Memory). m x) did_restore.mem
              ∙ (left_others x apart ∙ jobs_copy_so.elsewhere first jobs x outside);
          code = λ x low high. ap (λ (m : Memory). m x) did_restore.mem ∙ code_left x low high;
        }

    finished : (word == r) ≡ false → (n : State) × (StubWay lo size a switch bytes (22 + routine_run w word r) (switch_accesses w word r) s n × (CameTo (a + 88) t s n × Switched base lo size r jobs s.hart.mem n.hart.mem))
    finished test =
        let n : ℕ = routine_run w word r in
        let before : List FlatAccess = read_at base ∷ saves_accesses saved_registers (base + 4) in
        let within : List FlatAccess = read_at base ∷ jobs_accesses jobs ++ write_at base ∷ [] in
        let after : List FlatAccess = restores_accesses saved_registers (base + 4) in
        let one = in_stub lo size a switch bytes 14 before s (with_hart s h8) is.low is.high (to_routine test).way in
        let two = in_routine lo size a switch bytes n within (with_hart s h8) (with_hart s h9) has.low has.high done.passed.way in
        let three = in_stub lo size a switch bytes 8 after (with_hart s h9) (with_hart s h11) is.low is.high from_routine.way in
        let ends_it = join_own lo size a switch bytes n 8 within after (with_hart s h8) (with_hart s h9) (with_hart s h11) two three in
        let all = join_own lo size a switch bytes 14 (n + 8) before (within ++ after) s (with_hart s h8) (with_hart s h11) one ends_it in
        let inner = append_assoc (jobs_accesses jobs) (write_at base ∷ []) after in
        let same : before ++ (within ++ after) ≡ switch_accesses w word r =
        ap (λ (xs : List FlatAccess). before ++ (read_at base ∷ xs)) inner in (
          with_hart s h11,
          (
            recount_own lo size a switch bytes (14 + (n + 8)) (22 + n) (before ++ (within ++ after)) (switch_accesses w word r) s (with_hart s h11) (omega arith) same all,
            (
              record {
                pc = from_routine.pc;
                registers = λ k other. did_restore.regs k other (known k other) ∙ others_5 k other;
                rest = refl;
              },
              switched,
            ),
          ),
        )

pub stub_passes_so : StubPasses
stub_passes_so w lo size switch t r a s has is same = passes_so w lo size switch t r a s has is same

pub stub_switches_so : StubSwitches
stub_switches_so w lo size switch t r a s has is other =
    let test : (word_at s.hart.mem w.base == r) ≡ false = grind (arith, nat_tests, other) in
    let done = switched_by w lo size switch t r a s has is test in
    finished w lo size switch t r a s has is done.0 done.1 test
