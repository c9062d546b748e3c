-- The start stub as a whole.
use Rattle.std.proofs.Common.{◌≡◌, inl, inr, ℕ, zero, suc, ◌+◌, ◌*◌, ◌<◌, Bool, true, false, List, [], ◌∷◌, ◌++◌, length, slice_index, slice_index_or, refl, ◌∙◌, ap, subst, arith, append-nil, pos}
use Rattle.std.specs.Prelude.{All, replicate}
use Rattle.std.specs.List.{flat_map}
use Rattle.std.proofs.lemmas.Grind.{common_steps}
use Rattle.std.proofs.lemmas.List.{length-append}
use Rattle.std.proofs.lemmas.Bool.Decides.{nat_tests}
use Rattle.rv32im.specs.Words.{offset}
use Rattle.rv32im.specs.Memory.{put, word_at}
use Rattle.rv32im.specs.declared.instructions.Instr.{Instr}
use Rattle.rv32im.specs.declared.instructions.Instr.TheVariants.{Jal}
use Rattle.rv32im.specs.Acts.{Hart, Registers, acts}
use Rattle.rv32im.specs.Sequences.{distance}
use Rattle.rv32im.proofs.SequenceLemmas.{arrives, mean_count}
use Rattle.flat_machine.specs.Mapping.{can_access}
use Rattle.flat_machine.specs.State.{State}
use Rattle.flat_machine.specs.declared.events.FlatAccess.{FlatAccess}
use Rattle.flat_machine.specs.Lines.{with_hart, acted, CodeAt, HoldsAt}
use Rattle.flat_machine.proofs.Lines.{ArePlain, plain_mem}
use Rattle.flat_machine.proofs.LineWords.{code_front, code_behind, words_fetched, accessed}
use Rattle.patch_code.specs.declared.job.CopyJob.{CopyJob}
use Rattle.patch_code.specs.Jobs.{copying, fences, jobs_run, all_copied, AreDisjoint}
use Rattle.patch_code.specs.Start.{StartPlan, CanStart, Spares, AreStartWords, clears, start_at, jump_at, start_stub, start_bytes, start_run, cleared}
use Rattle.patch_code.specs.Told.{Way, jobs_accesses}
use Rattle.patch_code.proofs.Ways.{join, recount, Straight, line_accesses, fence_follows, addi_follows, straight, step_way}
use Rattle.patch_code.proofs.JobWays.{CanRun, jobs_way}
use Rattle.patch_code.specs.StubLaws.{IsAtStart, started, StartRuns}
use Rattle.patch_code.proofs.Held.{held_front}

-- ---- the end of the stub

ends_plain : (fence : Bool) → ArePlain (fences fence ++ clears)
ends_plain true = (tt, (tt, (tt, (tt, (tt, tt)))))
ends_plain false = (tt, (tt, (tt, (tt, tt))))

ends_cleared : (fence : Bool) (h : Hart) → (acted (fences fence ++ clears) h).regs ≡ cleared h.regs
ends_cleared true h = refl
ends_cleared false h = refl

ends_count : (fence : Bool) → length (fences fence ++ clears) ≡ length (fences fence) + 4
ends_count true = refl
ends_count false = refl

-- registers that differ only where they are cleared
clears_at : (old new : Registers) → ((k : ℕ) → (k ≡ 5 → ⊥) → (k ≡ 7 → ⊥) → (k ≡ 28 → ⊥) → (k ≡ 31 → ⊥) → new k ≡ old k) → (k : ℕ) → cleared new k ≡ cleared old k
unfolding put
clears_at old new same k = grind (arith, nat_tests, same k)

clears_alike : (old new : Registers) → ((k : ℕ) → (k ≡ 5 → ⊥) → (k ≡ 7 → ⊥) → (k ≡ 28 → ⊥) → (k ≡ 31 → ⊥) → new k ≡ old k) → cleared new ≡ cleared old
clears_alike old new same = λ t k. clears_at old new same k t

-- ---- the words in memory

behind_control : (n : ℕ) (xs : List ℕ) (k : ℕ) → slice_index (replicate n 0 ++ xs) (n + k) ≡ slice_index xs k
behind_control zero xs k = ap (slice_index xs) (omega arith)
behind_control (suc n) xs k =
    let place : suc n + k ≡ suc (n + k) = omega arith in
    ap (slice_index (0 ∷ (replicate n 0 ++ xs))) place ∙ behind_control n xs k

module _ (p : StartPlan) (words : List ℕ) (s : State) (can : CanStart p) (are : AreStartWords p words) (here : IsAtStart p words s) where
  abbrev stub : List ℕ
  stub = are.0

  counted : length stub ≡ length (start_stub p)
  counted = mean_count stub (start_stub p) are.1.1

  all_counted : length words ≡ 16 + length stub
  all_counted = ap (λ (xs : List ℕ). length xs) are.1.0 ∙ omega arith

  stands : (k : ℕ) → k < length stub → word_at s.hart.mem (start_at p + 4 * k) ≡ slice_index stub k
  stands k below =
      let count = all_counted in
      let held = here.words (16 + k) (omega arith) in
      let place : p.base + 4 * (16 + k) ≡ start_at p + 4 * k = omega arith in
      subst (λ x. word_at s.hart.mem x ≡ slice_index stub k) place
      (held ∙ (ap (λ (xs : List ℕ). slice_index xs (16 + k)) are.1.0 ∙ behind_control 16 stub k))

  fetched : (k : ℕ) → k < length stub → can_access s.map (start_at p + 4 * k) 4 ≡ true
  fetched k below =
      let count = all_counted in
      let aligned = can.aligned in
      let place : p.base + (64 + 4 * k) ≡ start_at p + 4 * k = omega arith in
      subst (λ x. can_access s.map x 4 ≡ true) place
      (accessed s.map p.base (4 * length words) 4 (64 + 4 * k) here.fetched (omega arith) (omega arith))

  code : CodeAt s.map s.hart.mem (start_at p) (start_stub p)
  code = words_fetched stub (start_stub p) s.map s.hart.mem (start_at p) are.1.1 stands fetched

  abbrev tail : List Instr
  tail = (fences p.fence_i ++ clears) ++ Jal 0 (distance (jump_at p) p.entry) ∷ []

  in_order : start_stub p ≡ flat_map copying p.jobs ++ tail
  in_order = grind (arith, common_steps)

  spares : (job : CopyJob) → Spares p job → AreDisjoint job.to job.bytes (start_at p) (start_bytes p)
  spares job (inl before) = inl (omega (arith, before))
  spares job (inr past) = inr (omega (arith, past))

  can_run : All (CanRun s here.going (start_at p) (start_bytes p) can.ends s.hart.mem) p.jobs
  can_run k d below =
      record {
        is = can.jobs k d below;
        can = here.copied k d below;
        spares = spares (slice_index_or p.jobs k d) (can.spared k d below);
      }

  -- the words behind the jobs
  ends_follow : (lo size : ℕ) (inside : lo + size < 4294967296) (fence : Bool) (h : Hart) → Straight s here.going lo size inside s.hart.mem (fences fence ++ clears) h
  ends_follow lo size inside true h = (
    fence_follows s here.going lo size inside s.hart.mem _ h,
    (
      addi_follows s here.going lo size inside s.hart.mem 5 0 (pos 0) _,
      (
        addi_follows s here.going lo size inside s.hart.mem 7 0 (pos 0) _,
        (
          addi_follows s here.going lo size inside s.hart.mem 28 0 (pos 0) _,
          (addi_follows s here.going lo size inside s.hart.mem 31 0 (pos 0) _, tt),
        ),
      ),
    ),
  )
  ends_follow lo size inside false h = (
    addi_follows s here.going lo size inside s.hart.mem 5 0 (pos 0) _,
    (
      addi_follows s here.going lo size inside s.hart.mem 7 0 (pos 0) _,
      (
        addi_follows s here.going lo size inside s.hart.mem 28 0 (pos 0) _,
        (addi_follows s here.going lo size inside s.hart.mem 31 0 (pos 0) _, tt),
      ),
    ),
  )

  ends_silent : (lo size : ℕ) (inside : lo + size < 4294967296) (fence : Bool) (h : Hart) → line_accesses s here.going lo size inside s.hart.mem (fences fence ++ clears) h ≡ []
  ends_silent lo size inside true h = refl
  ends_silent lo size inside false h = refl

  pub runs : Way (start_at p) (start_bytes p) (start_run p) (jobs_accesses p.jobs) s (started p s)
  runs =
      let order = in_order in
      let size = ap (λ (is : List Instr). length is) order in
      let ends_at = can.ends in
      let length_all = length-append (flat_map copying p.jobs) tail in
      let whole : CodeAt s.map s.hart.mem (start_at p) (flat_map copying p.jobs ++ tail) =
      subst (λ is. CodeAt s.map s.hart.mem (start_at p) is) order code in
      let lo : ℕ = start_at p in
      let room : ℕ = start_bytes p in
      let jobs =
      jobs_way s here.going lo room ends_at s.hart.mem p.jobs (start_at p) s.hart can_run here.bytes
      (λ x low high. refl) here.pc (code_front (flat_map copying p.jobs) tail s.map s.hart.mem (start_at p) whole) (omega arith) (omega (arith, size, length_all)) in
      let h1 : Hart = jobs.0 in
      let done = jobs.1 in
      let a1 : ℕ = start_at p + 4 * length (flat_map copying p.jobs) in
      let behind : CodeAt s.map s.hart.mem a1 tail =
      code_behind (flat_map copying p.jobs) tail s.map s.hart.mem (start_at p) whole in
      let length_tail = length-append (fences p.fence_i ++ clears) (Jal 0 (distance (jump_at p) p.entry) ∷ []) in
      let length_before = length-append (flat_map copying p.jobs) (fences p.fence_i ++ clears) in
      let count_ends = ends_count p.fence_i in
      let fits : a1 + 4 * length (fences p.fence_i ++ clears) < 4294967296 = omega arith in
      let plain = ends_plain p.fence_i in
      let h2 : Hart = acted (fences p.fence_i ++ clears) h1 in
      let line =
      straight s here.going lo room ends_at s.hart.mem (fences p.fence_i ++ clears) h1 a1 (ends_follow lo room ends_at p.fence_i h1) done.passed.still
      (code_front (fences p.fence_i ++ clears) (Jal 0 (distance (jump_at p) p.entry) ∷ []) s.map s.hart.mem a1 behind) done.passed.pc (omega arith)
      (omega (arith, size, length_all, length_tail)) in
      let at_jump : a1 + 4 * length (fences p.fence_i ++ clears) ≡ jump_at p = omega arith in
      let pc_2 : h2.pc ≡ jump_at p = line.pc ∙ at_jump in
      let mem_2 = plain_mem (fences p.fence_i ++ clears) s h1 plain in
      let jump_code : CodeAt s.map s.hart.mem (jump_at p) (Jal 0 (distance (jump_at p) p.entry) ∷ []) =
      subst (λ x. CodeAt s.map s.hart.mem x (Jal 0 (distance (jump_at p) p.entry) ∷ [])) at_jump
      (code_behind (fences p.fence_i ++ clears) (Jal 0 (distance (jump_at p) p.entry) ∷ []) s.map s.hart.mem a1 behind) in
      let jump =
      step_way s here.going lo room ends_at s.hart.mem (Jal 0 (distance (jump_at p) p.entry)) h2 (jump_at p) tt refl line.still jump_code.0 pc_2 (omega arith)
      (omega (arith, size, length_all, length_tail)) in
      let h3 : Hart = acts (Jal 0 (distance (jump_at p) p.entry)) h2 in
      let pc_3 : h3.pc ≡ p.entry =
      ap (λ x. offset x (distance (jump_at p) p.entry)) pc_2 ∙ arrives (jump_at p) p.entry (omega arith) can.entry in
      let regs_3 : h3.regs ≡ cleared s.hart.regs =
      ends_cleared p.fence_i h1 ∙ clears_alike s.hart.regs h1.regs done.others in
      let mem_3 : h3.mem ≡ all_copied s.hart.mem p.jobs = mem_2 ∙ done.mem in
      let last : h3 ≡ record { pc = p.entry; regs = cleared s.hart.regs; mem = all_copied s.hart.mem p.jobs } =
      λ t. record { pc = pc_3 t; regs = regs_3 t; mem = mem_3 t } in
      let ended =
      join lo room (length (fences p.fence_i ++ clears)) 1 (line_accesses s here.going lo room ends_at s.hart.mem (fences p.fence_i ++ clears) h1) []
      (with_hart s h1) (with_hart s h2) (with_hart s h3) line.way jump in
      let silent : line_accesses s here.going lo room ends_at s.hart.mem (fences p.fence_i ++ clears) h1 ++ [] ≡ [] =
      ap (λ (told : List FlatAccess). told ++ []) (ends_silent lo room ends_at p.fence_i h1) in
      let all =
      join lo room (jobs_run p.jobs) (length (fences p.fence_i ++ clears) + 1) (jobs_accesses p.jobs) _ s (with_hart s h1) (with_hart s h3)
      done.passed.way ended in
      let count : jobs_run p.jobs + (length (fences p.fence_i ++ clears) + 1) ≡ start_run p = omega arith in
      subst (λ h. Way lo room (start_run p) (jobs_accesses p.jobs) s (with_hart s h)) last
      (recount lo room (jobs_run p.jobs + (length (fences p.fence_i ++ clears) + 1)) (start_run p) _ (jobs_accesses p.jobs) s (with_hart s h3) count
      (ap (λ (told : List FlatAccess). jobs_accesses p.jobs ++ told) silent ∙ append-nil (jobs_accesses p.jobs)) all)

-- words that are those of a start stub alone
pub start_alone_runs : (p : StartPlan) (words : List ℕ) (s : State) → CanStart p → AreStartWords p words → IsAtStart p words s → Way (start_at p) (start_bytes p) (start_run p) (jobs_accesses p.jobs) s (started p s)
start_alone_runs p words s can are here = runs p words s can are here

pub start_runs_so : StartRuns
start_runs_so p words s can (first, (rest, (are, whole))) here =
    let count : length words ≡ length first + length rest = ap (λ (xs : List ℕ). length xs) whole ∙ length-append first rest in
    start_alone_runs p first s can are
    (record {
      going = here.going;
      pc = here.pc;
      bytes = here.bytes;
      words = held_front s.hart.mem p.base first rest (subst (λ xs. HoldsAt s.hart.mem p.base xs) whole here.words);
      fetched = λ i below. here.fetched i (omega (arith, count, below));
      copied = here.copied;
    })
