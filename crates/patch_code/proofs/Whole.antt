-- The routine as a whole.
use Rattle.std.proofs.Common.{◌≡◌, inl, ℕ, ◌+◌, ◌*◌, ◌/◌, ◌%◌, ◌<◌, ◌≤◌, Bool, true, false, List, [], ◌∷◌, ◌++◌, length, pos, refl, ◌∙◌, ap, subst, arith}
use Rattle.std.specs.Prelude.{All}
use Rattle.std.specs.List.{flat_map, sum_by}
use Rattle.std.proofs.lemmas.Int.{ints}
use Rattle.std.proofs.lemmas.List.{length-append}
use Rattle.std.proofs.lemmas.Bool.Decides.{nat_tests}
use Rattle.rv32im.specs.Words.{offset, upper_half, lower_half}
use Rattle.rv32im.specs.Memory.{Memory, put, word_at, put_word}
use Rattle.rv32im.specs.declared.instructions.Instr.{Instr}
use Rattle.rv32im.specs.declared.instructions.Instr.TheVariants.{Lui, Store, Jalr}
use Rattle.rv32im.specs.declared.instructions.LoadKind.TheVariants.{Lw}
use Rattle.rv32im.specs.declared.instructions.StoreKind.TheVariants.{Sw}
use Rattle.rv32im.specs.Acts.{Hart, Registers, acts, register}
use Rattle.flat_machine.specs.declared.events.FlatOutcome.TheVariants.{GoesOn}
use Rattle.flat_machine.specs.State.{State}
use Rattle.flat_machine.specs.Lines.{acted, CodeAt, AreMapped}
use Rattle.flat_machine.proofs.LineWords.{code_front, code_behind}
use Rattle.flat_machine.proofs.SilentLines.{set_there, set_other}
use Rattle.patch_code.specs.declared.job.CopyJob.{CopyJob}
use Rattle.patch_code.specs.Jobs.{fences, all_copied}
use Rattle.patch_code.specs.Parts.{SwitchPlan, part_code, all_parts}
use Rattle.patch_code.specs.Switching.{begins, ends, routine, jobs_code, asked, part_run, switch_jobs, routine_run}
use Rattle.patch_code.specs.Told.{read_at, write_at, jobs_accesses}
use Rattle.patch_code.proofs.Ways.{StandsStill, Passed, Straight, step_way, lui_follows, load_follows, store_follows, fence_follows, straight, passed_on, passed_as, line_accesses}
use Rattle.patch_code.proofs.JobWays.{CanRun}
use Rattle.patch_code.proofs.PartWays.{Asks, parts_way}
use Rattle.patch_code.proofs.TestedParts.{IsPart}
use Rattle.patch_code.proofs.Control.{upper, control_at, control_access}

back_to : (to : ℕ) → to < 4294967296 → to % 2 ≡ 0 → offset to (pos 0) / 2 * 2 ≡ to
back_to to below even = let same : offset to (pos 0) ≡ to = grind (arith, ints, nat_tests) in ap (λ a. a / 2 * 2) same ∙ omega (arith, even)

in_four : (w : SwitchPlan (List CopyJob)) → routine jobs_code w ≡ begins w.base ++ (flat_map (part_code jobs_code) (all_parts w) ++ (fences w.fence_i ++ ends w.base))
unfolding routine
in_four w = refl

module _ (s : State) (going : s.outcome ≡ GoesOn) (lo size : ℕ) (inside : lo + size < 4294967296) (first : Memory) where
  fences_follow : (fence : Bool) (h : Hart) → Straight s going lo size inside first (fences fence) h
  fences_follow true h = (fence_follows s going lo size inside first 0 h, tt)
  fences_follow false h = tt

  fences_told : (fence : Bool) (h : Hart) → line_accesses s going lo size inside first (fences fence) h ≡ []
  fences_told true h = refl
  fences_told false h = refl

  fences_regs : (fence : Bool) (h : Hart) → (acted (fences fence) h).regs ≡ h.regs
  fences_regs true h = refl
  fences_regs false h = refl

  fences_mem : (fence : Bool) (h : Hart) → (acted (fences fence) h).mem ≡ h.mem
  fences_mem true h = refl
  fences_mem false h = refl

  module _ (w : SwitchPlan (List CopyJob)) (aligned : w.base % 64 ≡ 0) (behind : w.base + 64 ≤ lo) (control : AreMapped s.map w.base 64) (switch : ℕ) (code : CodeAt s.map first switch (routine jobs_code w)) (low : lo ≤ switch) (high : switch + 4 * length (routine jobs_code w) ≤ lo + size) where
    abbrev base : ℕ
    base = w.base

    abbrev mids : List Instr
    mids = flat_map (part_code jobs_code) (all_parts w)

    abbrev lasts : List Instr
    lasts = fences w.fence_i ++ ends base

    abbrev mids_at : ℕ
    mids_at = switch + 8

    abbrev lasts_at : ℕ
    lasts_at = mids_at + 4 * length mids

    abbrev ends_at : ℕ
    ends_at = lasts_at + 4 * length (fences w.fence_i)

    whole : CodeAt s.map first switch (begins base ++ (mids ++ lasts))
    whole = subst (λ is. CodeAt s.map first switch is) (in_four w) code

    fits_all : ends_at + 12 ≤ lo + size
    fits_all =
        let size_is = ap (λ (is : List Instr). length is) (in_four w) in
        let two = length-append mids lasts in
        let three = length-append (fences w.fence_i) (ends base) in
        omega (arith, size_is, two, three, high)

    rest_code : CodeAt s.map first mids_at (mids ++ lasts)
    rest_code =
        let place : switch + 4 * 2 ≡ mids_at = omega arith in
        subst (λ a. CodeAt s.map first a (mids ++ lasts)) place (code_behind (begins base) (mids ++ lasts) s.map first switch whole)

    lasts_code : CodeAt s.map first lasts_at lasts
    lasts_code = code_behind mids lasts s.map first mids_at rest_code

    ends_code : CodeAt s.map first ends_at (ends base)
    ends_code = code_behind (fences w.fence_i) (ends base) s.map first lasts_at lasts_code

    -- an address in x5 leads to the first control word
    leads_5 : (regs : Registers) → offset (register (put regs 5 (upper base)) 5) (lower_half base) ≡ base
    leads_5 regs =
        ap (λ a. offset a (lower_half base)) (set_there regs 5 (upper base) (λ e. absurd (omega arith)))
        ∙ control_at base base aligned (omega arith) (omega arith) (omega (arith, behind, inside))

    control_first : (at : ℕ) → at ≡ base → at % 4 ≡ 0
    control_first at same = omega (arith, same, aligned)

    -- ---- the beginning

    module _ (h : Hart) (at : h.pc ≡ switch) (still : StandsStill s going lo size inside first h.mem) where
      abbrev b1 : Hart
      b1 = acts (Lui 5 (upper_half base)) h

      abbrev b2 : Hart
      b2 = acted (begins base) h

      begun : Passed s going lo size inside first 2 (read_at base ∷ []) mids_at h b2
      begun =
          let here = leads_5 h.regs in
          passed_as s going lo size inside first 2 2 (read_at (offset (register b1.regs 5) (lower_half base)) ∷ []) (read_at base ∷ [])
          (switch + 4 * 2) mids_at h b2 refl (λ i. read_at (here i) ∷ []) (omega arith)
          (straight s going lo size inside first (begins base) h switch (
            lui_follows s going lo size inside first 5 (upper_half base) h,
            (
              load_follows s going lo size inside first Lw 6 5 (lower_half base) b1 base here
                  (control_access s going lo size inside first base aligned behind control base (control_first base refl) (omega arith) (omega arith)),
              tt,
            ),
          ) still (code_front (begins base) (mids ++ lasts) s.map first switch whole) at low
          (let fits = fits_all in omega (arith, fits)))

      six_is : b2.regs 6 ≡ word_at h.mem base
      six_is =
          set_there b1.regs 6 (word_at h.mem (offset (register b1.regs 5) (lower_half base))) (λ e. absurd (omega arith)) ∙ ap (λ a. word_at h.mem a) (leads_5 h.regs)

      b_others : (k : ℕ) → (k ≡ 5 → ⊥) → (k ≡ 6 → ⊥) → b2.regs k ≡ h.regs k
      b_others k no5 no6 =
          set_other b1.regs 6 (word_at h.mem (offset (register b1.regs 5) (lower_half base))) k no6 ∙ set_other h.regs 5 (upper base) k no5

    -- ---- the end

    module _ (h : Hart) (at : h.pc ≡ lasts_at) (still : StandsStill s going lo size inside first h.mem) (back : ℕ) (returns : h.regs 29 ≡ back) (even : back % 2 ≡ 0) (near : back < 4294967296) where
      abbrev e0 : Hart
      e0 = acted (fences w.fence_i) h

      abbrev e1 : Hart
      e1 = acts (Lui 5 (upper_half base)) e0

      abbrev e2 : Hart
      e2 = acts (Store Sw 5 30 (lower_half base)) e1

      abbrev e3 : Hart
      e3 = acts (Jalr 0 29 (pos 0)) e2

      fenced : Passed s going lo size inside first (length (fences w.fence_i)) [] ends_at h e0
      fenced =
          let fits = fits_all in
          passed_as s going lo size inside first (length (fences w.fence_i)) (length (fences w.fence_i))
          (line_accesses s going lo size inside first (fences w.fence_i) h) [] ends_at ends_at h e0 refl (fences_told w.fence_i h) refl
          (straight s going lo size inside first (fences w.fence_i) h lasts_at (fences_follow w.fence_i h) still
          (code_front (fences w.fence_i) (ends base) s.map first lasts_at lasts_code) at (omega (arith, low)) (omega (arith, fits)))

      stored_there : Passed s going lo size inside first 2 (write_at base ∷ []) (ends_at + 8) e0 e2
      stored_there =
          let fits = fits_all in
          let before = fenced in
          let here = leads_5 e0.regs in
          passed_as s going lo size inside first 2 2 (write_at (offset (register e1.regs 5) (lower_half base)) ∷ []) (write_at base ∷ [])
          (ends_at + 4 * 2) (ends_at + 8) e0 e2 refl (λ i. write_at (here i) ∷ []) (omega arith)
          (straight s going lo size inside first (Lui 5 (upper_half base) ∷ Store Sw 5 30 (lower_half base) ∷ []) e0 ends_at (
            lui_follows s going lo size inside first 5 (upper_half base) e0,
            (
              store_follows s going lo size inside first Sw 5 30 (lower_half base) e1 base here
                  (control_access s going lo size inside first base aligned behind control base (control_first base refl) (omega arith) (omega arith))
                  (omega (arith, behind, inside)) (inl (omega (arith, behind))),
              tt,
            ),
          ) before.still (let code = ends_code in (code.0, (code.1.0, tt))) before.pc (omega (arith, low)) (omega (arith, fits)))

      e_regs : (k : ℕ) → (k ≡ 5 → ⊥) → e3.regs k ≡ h.regs k
      e_regs k no5 =
          set_other e0.regs 5 (upper base) k no5 ∙ ap (λ (regs : Registers). regs k) (fences_regs w.fence_i h)

      thirty_in : register e1.regs 30 ≡ h.regs 30
      thirty_in = e_regs 30 (λ e. absurd (omega arith))

      e_mem : e3.mem ≡ put_word h.mem base (h.regs 30)
      e_mem =
          let here = leads_5 e0.regs in
          ap (λ (m : Memory). put_word m (offset (register e1.regs 5) (lower_half base)) (register e1.regs 30)) (fences_mem w.fence_i h)
          ∙ (ap (λ a. put_word h.mem a (register e1.regs 30)) here ∙ ap (λ v. put_word h.mem base v) thirty_in)

      goes_back : e3.pc ≡ back
      goes_back =
          let there : register e2.regs 29 ≡ back = e_regs 29 (λ e. absurd (omega arith)) ∙ returns in
          ap (λ a. offset a (pos 0) / 2 * 2) there ∙ back_to back near even

      ended : Passed s going lo size inside first (length (fences w.fence_i) + 3) (write_at base ∷ []) back h e3
      ended =
          let fits = fits_all in
          let zero_one = fenced in
          let two = stored_there in
          let place : ends_at + 4 + 4 ≡ ends_at + 8 = omega arith in
          let fetch : CodeAt s.map first (ends_at + 8) (Jalr 0 29 (pos 0) ∷ []) =
          subst (λ a. CodeAt s.map first a (Jalr 0 29 (pos 0) ∷ [])) place ends_code.1.1 in
          let step =
          step_way s going lo size inside first (Jalr 0 29 (pos 0)) e2 (ends_at + 8) tt refl two.still fetch.0 two.pc
          (omega (arith, low)) (omega (arith, fits)) in
          let last : Passed s going lo size inside first 1 [] back e2 e3 = record { way = step; pc = goes_back; still = two.still } in
          let three =
          passed_on s going lo size inside first 2 1 (write_at base ∷ []) [] (ends_at + 8) back e0 e2 e3 two last in
          passed_on s going lo size inside first (length (fences w.fence_i)) 3 [] (write_at base ∷ []) ends_at back h e0 e3 zero_one three

    -- ---- the whole

    pub record RoutineDone (left entered back : ℕ) (h k : Hart) : Type 0 where
      pub passed : Passed s going lo size inside first (routine_run w left entered)
          (read_at base ∷ jobs_accesses (switch_jobs w left entered) ++ write_at base ∷ []) back h k
      pub mem : k.mem ≡ put_word (all_copied h.mem (switch_jobs w left entered)) base entered
      pub others : (x : ℕ) → (x ≡ 5 → ⊥) → (x ≡ 6 → ⊥) → (x ≡ 7 → ⊥) → (x ≡ 28 → ⊥) → (x ≡ 31 → ⊥) → k.regs x ≡ h.regs x

    pub routine_way : (h : Hart) (left entered back : ℕ) (left_fits : left < 4294967296) (entered_fits : entered < 4294967296) → h.pc ≡ switch → StandsStill s going lo size inside first h.mem → ((x : ℕ) → h.mem x < 256) → word_at h.mem base ≡ left → h.regs 30 ≡ entered → h.regs 29 ≡ back → back % 2 ≡ 0 → back < 4294967296 → All (IsPart (CanRun s going lo size inside first)) (all_parts w) → (k : Hart) × RoutineDone left entered back h k
    routine_way h left entered back left_fits entered_fits at still small current thirty returns even near fits =
        let fits_in = fits_all in
        let one = begun h at still in
        let h2 : Hart = b2 h at still in
        let asks : Asks s going lo size inside first left entered left_fits entered_fits h2 =
        record {
          six = six_is h at still ∙ current;
          thirty = b_others h at still 30 (λ e. absurd (omega arith)) (λ e. absurd (omega arith)) ∙ thirty;
        } in
        let two =
        parts_way s going lo size inside first left entered left_fits entered_fits (all_parts w) mids_at h2 fits asks small one.still one.pc
        (code_front mids lasts s.map first mids_at rest_code) (omega (arith, low)) (omega (arith, fits_in)) in
        let h3 : Hart = two.0 in
        let done = two.1 in
        let returns_3 : h3.regs 29 ≡ back =
        done.others 29 (λ e. absurd (omega arith)) (λ e. absurd (omega arith)) (λ e. absurd (omega arith)) (λ e. absurd (omega arith))
        ∙ (b_others h at still 29 (λ e. absurd (omega arith)) (λ e. absurd (omega arith)) ∙ returns) in
        let thirty_3 : h3.regs 30 ≡ entered =
        done.others 30 (λ e. absurd (omega arith)) (λ e. absurd (omega arith)) (λ e. absurd (omega arith)) (λ e. absurd (omega arith)) ∙ asks.thirty in
        let three = ended h3 done.passed.pc done.passed.still back returns_3 even near in
        let k : Hart = e3 h3 done.passed.pc done.passed.still back returns_3 even near in
        let jobs : List CopyJob = switch_jobs w left entered in
        let n : ℕ = sum_by (part_run (asked left entered)) (all_parts w) in
        let behind_jobs = passed_on s going lo size inside first n (length (fences w.fence_i) + 3) (jobs_accesses jobs) (write_at base ∷ []) lasts_at back h2 h3 k done.passed three in (
          k,
          record {
            passed = passed_on s going lo size inside first 2 (n + (length (fences w.fence_i) + 3)) (read_at base ∷ []) (jobs_accesses jobs ++ write_at base ∷ []) mids_at back h h2 k one behind_jobs;
            mem = by h3 k (e_mem h3 done.passed.pc done.passed.still back returns_3 even near) done.mem thirty_3;
            others = λ x no5 no6 no7 no28 no31. e_regs h3 done.passed.pc done.passed.still back returns_3 even near x no5
                ∙ (done.others x no5 no7 no28 no31 ∙ b_others h at still x no5 no6);
          },
        )
      where
        by : (h3 k : Hart) → k.mem ≡ put_word h3.mem base (h3.regs 30) → h3.mem ≡ all_copied h.mem (switch_jobs w left entered) → h3.regs 30 ≡ entered → k.mem ≡ put_word (all_copied h.mem (switch_jobs w left entered)) base entered
        by h3 k last memory thirty_3 =
            last
            ∙ (ap (λ (m : Memory). put_word m base (h3.regs 30)) memory ∙ ap (λ v. put_word (all_copied h.mem (switch_jobs w left entered)) base v) thirty_3)
