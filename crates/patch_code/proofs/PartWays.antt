-- Parts of the routine: a test, and what it guards.
use Rattle.std.proofs.Common.{◌≡◌, inl, inr, ℕ, zero, suc, ◌+◌, ◌*◌, ◌<◌, ◌≤◌, ◌==◌, Bool, true, false, not, List, [], ◌∷◌, ◌++◌, length, if◌then◌else◌, pos, refl, sym, ◌∙◌, ap, subst, arith}
use Rattle.std.specs.Prelude.{Option, Some, None, All}
use Rattle.std.specs.List.{flat_map, sum_by}
use Rattle.std.proofs.lemmas.Int.{ints}
use Rattle.std.proofs.lemmas.List.{length-append}
use Rattle.std.proofs.lemmas.List.Sums.{sum_by-cons}
use Rattle.std.proofs.lemmas.List.Elements.{All-head, All-tail}
use Rattle.std.proofs.lemmas.Bool.Decides.{nat_tests}
use Rattle.rv32im.specs.Words.{plus, offset}
use Rattle.rv32im.specs.Memory.{Memory}
use Rattle.rv32im.specs.declared.instructions.Instr.{Instr}
use Rattle.rv32im.specs.declared.instructions.Instr.TheVariants.{Branch, Jal, OpImm}
use Rattle.rv32im.specs.declared.instructions.BranchKind.{BranchKind}
use Rattle.rv32im.specs.declared.instructions.BranchKind.TheVariants.{Beq, Bne}
use Rattle.rv32im.specs.declared.instructions.ImmKind.TheVariants.{Addi}
use Rattle.rv32im.specs.Acts.{Hart, Registers, acts, register, is_taken}
use Rattle.flat_machine.specs.declared.events.FlatOutcome.TheVariants.{GoesOn}
use Rattle.flat_machine.specs.State.{State}
use Rattle.flat_machine.specs.Lines.{CodeAt}
use Rattle.flat_machine.proofs.LineWords.{code_front, code_behind}
use Rattle.flat_machine.proofs.SilentLines.{set_there, set_other}
use Rattle.patch_code.specs.declared.job.CopyJob.{CopyJob}
use Rattle.patch_code.specs.Jobs.{jobs_run}
use Rattle.patch_code.specs.Parts.{Kept, Part, minus_imm, guarded, kept_code, part_code}
use Rattle.patch_code.specs.Switching.{jobs_code, asked, kept_jobs, part_jobs, kept_run, part_run}
use Rattle.patch_code.proofs.TestedParts.{IsTest, IsKept, IsSome, IsPart}
use Rattle.patch_code.proofs.Ways.{StandsStill, Passed, step_way, addi_follows, follow, passed_on}
use Rattle.patch_code.proofs.JobWays.{Done, CanRun, nothing_done, done_on, done_as, jobs_way}

-- the difference is 0 just where both are equal
pub zero_where : (v n : ℕ) → v < 4294967296 → n < 2048 → (offset v (minus_imm n) == 0) ≡ (v == n)
zero_where v zero fits small = grind (arith, ints, nat_tests)
zero_where v (suc n) fits small = grind (arith, ints, nat_tests)

branch_by : (t b : Bool) (pc a : ℕ) → t ≡ b → pc ≡ a + 4 → a + 12 < 4294967296 → (if t then offset pc (pos 8) else plus pc 4) ≡ (if b then a + 12 else a + 8)
branch_by t true pc a test at below = rw (at, test) (grind (arith, ints, nat_tests))
branch_by t false pc a test at below = rw (at, test) (omega (arith, below))

jump_by : (pc a n : ℕ) → pc ≡ a + 8 → a + 12 + 4 * n < 4294967296 → offset pc (pos (4 + 4 * n)) ≡ a + 12 + 4 * n
jump_by pc a n at below = rw at (grind (arith, ints, nat_tests))

module _ (s : State) (going : s.outcome ≡ GoesOn) (lo size : ℕ) (inside : lo + size < 4294967296) (first : Memory) where
  -- ---- a test

  module _ (kind : BranchKind) (tested n : ℕ) (body : List Instr) (a : ℕ) (h : Hart) (small : (x : ℕ) → h.mem x < 256) (still : StandsStill s going lo size inside first h.mem) (at : h.pc ≡ a) (code : CodeAt s.map first a (guarded kind tested n body)) (low : lo ≤ a) (high : a + 12 + 4 * length body ≤ lo + size) where
    abbrev v : ℕ
    v = offset (register h.regs tested) (minus_imm n)

    abbrev h1 : Hart
    h1 = acts (OpImm Addi 7 tested (minus_imm n)) h

    abbrev h2 : Hart
    h2 = acts (Branch kind 7 0 (pos 8)) h1

    abbrev h3 : Hart
    h3 = acts (Jal 0 (pos (4 + 4 * length body))) h2

    subtracts : Passed s going lo size inside first 1 [] (a + 4) h h1
    subtracts =
        follow s going lo size inside first (OpImm Addi 7 tested (minus_imm n)) h a
        (addi_follows s going lo size inside first 7 tested (minus_imm n) h) still code.0 at low (omega (arith, high))

    branches : (b : Bool) → is_taken kind v 0 ≡ b → Passed s going lo size inside first 2 [] (if b then a + 12 else a + 8) h h2
    branches b test =
        let before = subtracts in
        let taken : is_taken kind (register h1.regs 7) 0 ≡ b = ap (λ x. is_taken kind x 0) (set_there h.regs 7 v (λ e. absurd (omega arith))) ∙ test in
        let step =
        step_way s going lo size inside first (Branch kind 7 0 (pos 8)) h1 (a + 4) tt refl before.still code.1.0 before.pc
        (omega (arith, low)) (omega (arith, high)) in
        passed_on s going lo size inside first 1 1 [] [] (a + 4) (if b then a + 12 else a + 8) h h1 h2 before
        (record {
          way = step;
          pc = branch_by (is_taken kind (register h1.regs 7) 0) b h1.pc a taken before.pc (omega (arith, high, inside));
          still = before.still;
        })

    pub passes : is_taken kind v 0 ≡ true → Done s going lo size inside first 2 [] (a + 12) h h2
    passes test =
        record {
          passed = branches true test;
          mem = refl;
          others = λ x no5 no7 no28 no31. set_other h.regs 7 v x no7;
          small = small;
        }

    pub skips : is_taken kind v 0 ≡ false → Done s going lo size inside first 3 [] (a + 12 + 4 * length body) h h3
    skips test =
        let before = branches false test in
        let place : a + 4 + 4 ≡ a + 8 = omega arith in
        let fetch : CodeAt s.map first (a + 8) (Jal 0 (pos (4 + 4 * length body)) ∷ body) =
        subst (λ x. CodeAt s.map first x (Jal 0 (pos (4 + 4 * length body)) ∷ body)) place code.1.1 in
        let step =
        step_way s going lo size inside first (Jal 0 (pos (4 + 4 * length body))) h2 (a + 8) tt refl before.still fetch.0 before.pc
        (omega (arith, low)) (omega (arith, high)) in
        record {
          passed = passed_on s going lo size inside first 2 1 [] [] (a + 8) (a + 12 + 4 * length body) h h2 h3 before
              (record {
                way = step;
                pc = jump_by h2.pc a (length body) before.pc (omega (arith, high, inside));
                still = before.still;
              });
          mem = refl;
          others = λ x no5 no7 no28 no31. set_other h.regs 7 v x no7;
          small = small;
        }

    pub body_code : CodeAt s.map first (a + 12) body
    body_code =
        let place : a + 4 + 4 + 4 ≡ a + 12 = omega arith in subst (λ x. CodeAt s.map first x body) place code.1.1.1

  -- ---- parts, where x6 and x30 hold two regions

  module _ (left entered : ℕ) (left_fits : left < 4294967296) (entered_fits : entered < 4294967296) where
    pub record Asks (h : Hart) : Type 0 where
      pub six : h.regs 6 ≡ left
      pub thirty : h.regs 30 ≡ entered

    asks_on : (n : ℕ) (jobs : List CopyJob) (a : ℕ) (h k : Hart) → Done s going lo size inside first n jobs a h k → Asks h → Asks k
    asks_on n jobs a h k done asks =
        record {
          six = done.others 6 (λ e. absurd (omega arith)) (λ e. absurd (omega arith)) (λ e. absurd (omega arith)) (λ e. absurd (omega arith)) ∙ asks.six;
          thirty = done.others 30 (λ e. absurd (omega arith)) (λ e. absurd (omega arith)) (λ e. absurd (omega arith)) (λ e. absurd (omega arith))
              ∙ asks.thirty;
        }

    abbrev asking : Registers
    asking = asked left entered

    held : (h : Hart) (k : ℕ) → IsTest k → Asks h → register h.regs k ≡ asking k
    held h k (inl six) asks = ap (λ x. register h.regs x) six ∙ (asks.six ∙ sym (ap (λ x. asking x) six))
    held h k (inr thirty) asks = ap (λ x. register h.regs x) thirty ∙ (asks.thirty ∙ sym (ap (λ x. asking x) thirty))

    fits_asked : (k : ℕ) → IsTest k → asking k < 4294967296
    fits_asked k (inl six) = subst (λ x. asking x < 4294967296) (sym six) left_fits
    fits_asked k (inr thirty) = subst (λ x. asking x < 4294967296) (sym thirty) entered_fits

    equal_where : (h : Hart) (k n : ℕ) → IsTest k → Asks h → n < 2048 → (offset (register h.regs k) (minus_imm n) == 0) ≡ (asking k == n)
    equal_where h k n test asks few =
        ap (λ x. offset x (minus_imm n) == 0) (held h k test asks) ∙ zero_where (asking k) n (fits_asked k test) few

    -- a job that the routine can run
    abbrev Runs : CopyJob → Type 0
    Runs = CanRun s going lo size inside first

    -- jobs behind a test that passes
    guarded_way : (kind : BranchKind) (tested n : ℕ) (jobs : List CopyJob) (a : ℕ) (h : Hart) → All (CanRun s going lo size inside first) jobs → ((x : ℕ) → h.mem x < 256) → StandsStill s going lo size inside first h.mem → h.pc ≡ a → CodeAt s.map first a (guarded kind tested n (jobs_code jobs)) → lo ≤ a → a + 12 + 4 * length (jobs_code jobs) ≤ lo + size → is_taken kind (offset (register h.regs tested) (minus_imm n)) 0 ≡ true → (k : Hart) × Done s going lo size inside first (2 + jobs_run jobs) jobs (a + 12 + 4 * length (jobs_code jobs)) h k
    guarded_way kind tested n jobs a h run small still at code low high test =
        let body : List Instr = jobs_code jobs in
        let k : Hart = h2 kind tested n body a h small still at code low high in
        let one = passes kind tested n body a h small still at code low high test in
        let rest =
        jobs_way s going lo size inside first jobs (a + 12) k run one.small one.passed.still one.passed.pc
        (body_code kind tested n body a h small still at code low high) (omega (arith, low)) high in
        (rest.0, done_on s going lo size inside first 2 (jobs_run jobs) [] jobs (a + 12) (a + 12 + 4 * length body) h k rest.0 one rest.1)

    kept_by : (k : Kept (List CopyJob)) (a : ℕ) (h : Hart) (b : Bool) → IsKept Runs k → Asks h → ((x : ℕ) → h.mem x < 256) → StandsStill s going lo size inside first h.mem → h.pc ≡ a → CodeAt s.map first a (kept_code jobs_code (Some k)) → lo ≤ a → a + 4 * length (kept_code jobs_code (Some k)) ≤ lo + size → (asking k.tested == k.twin) ≡ b → (l : Hart) × Done s going lo size inside first (if b then 3 else 2 + jobs_run k.jobs) (if b then [] else k.jobs) (a + 12 + 4 * length (jobs_code k.jobs)) h l
    kept_by k a h true fits asks small still at code low high test =
        let untaken : is_taken Bne (offset (register h.regs k.tested) (minus_imm k.twin)) 0 ≡ false =
        ap (λ b. not b) (equal_where h k.tested k.twin fits.test asks fits.few ∙ test) in (
          h3 Bne k.tested k.twin (jobs_code k.jobs) a h small still at code low (omega (arith, high)),
          skips Bne k.tested k.twin (jobs_code k.jobs) a h small still at code low (omega (arith, high)) untaken,
        )
    kept_by k a h false fits asks small still at code low high test =
        let taken : is_taken Bne (offset (register h.regs k.tested) (minus_imm k.twin)) 0 ≡ true =
        ap (λ b. not b) (equal_where h k.tested k.twin fits.test asks fits.few ∙ test) in
        guarded_way Bne k.tested k.twin k.jobs a h fits.jobs small still at code low (omega (arith, high)) taken

    kept_way : (kept : Option (Kept (List CopyJob))) (a : ℕ) (h : Hart) → IsSome Runs kept → Asks h → ((x : ℕ) → h.mem x < 256) → StandsStill s going lo size inside first h.mem → h.pc ≡ a → CodeAt s.map first a (kept_code jobs_code kept) → lo ≤ a → a + 4 * length (kept_code jobs_code kept) ≤ lo + size → (l : Hart) × Done s going lo size inside first (kept_run asking kept) (kept_jobs asking kept) (a + 4 * length (kept_code jobs_code kept)) h l
    kept_way None a h fits asks small still at code low high =
        (h, done_as s going lo size inside first 0 0 [] [] a (a + 4 * 0) h h refl refl (omega arith) (nothing_done s going lo size inside first a h at still small))
    kept_way (Some k) a h fits asks small still at code low high =
        let run = kept_by k a h (asking k.tested == k.twin) fits asks small still at code low high refl in
        let there : a + 12 + 4 * length (jobs_code k.jobs) ≡ a + 4 * length (kept_code jobs_code (Some k)) = omega arith in (
          run.0,
          done_as s going lo size inside first (kept_run asking (Some k)) (kept_run asking (Some k)) (kept_jobs asking (Some k)) (kept_jobs asking (Some k)) (a + 12 + 4 * length (jobs_code k.jobs))
              (a + 4 * length (kept_code jobs_code (Some k))) h run.0 refl refl there run.1,
        )

    part_by : (p : Part (List CopyJob)) (a : ℕ) (h : Hart) (b : Bool) → IsPart Runs p → Asks h → ((x : ℕ) → h.mem x < 256) → StandsStill s going lo size inside first h.mem → h.pc ≡ a → CodeAt s.map first a (part_code jobs_code p) → lo ≤ a → a + 4 * length (part_code jobs_code p) ≤ lo + size → (asking p.tested == p.region) ≡ b → (l : Hart) × Done s going lo size inside first (if b then 2 + (jobs_run p.jobs + kept_run asking p.kept) else 3) (if b then p.jobs ++ kept_jobs asking p.kept else []) (a + 4 * length (part_code jobs_code p)) h l
    part_by p a h false fits asks small still at code low high test =
        let untaken : is_taken Beq (offset (register h.regs p.tested) (minus_imm p.region)) 0 ≡ false =
        equal_where h p.tested p.region fits.test asks fits.few ∙ test in
        let body : List Instr = jobs_code p.jobs ++ kept_code jobs_code p.kept in
        let l : Hart = h3 Beq p.tested p.region body a h small still at code low (omega (arith, high)) in
        let there : a + 12 + 4 * length body ≡ a + 4 * length (part_code jobs_code p) = omega arith in (
          l,
          done_as s going lo size inside first 3 3 [] [] (a + 12 + 4 * length body) (a + 4 * length (part_code jobs_code p)) h l refl refl there
              (skips Beq p.tested p.region body a h small still at code low (omega (arith, high)) untaken),
        )
    part_by p a h true fits asks small still at code low high test =
        let taken : is_taken Beq (offset (register h.regs p.tested) (minus_imm p.region)) 0 ≡ true =
        equal_where h p.tested p.region fits.test asks fits.few ∙ test in
        let body : List Instr = jobs_code p.jobs ++ kept_code jobs_code p.kept in
        let counts = length-append (jobs_code p.jobs) (kept_code jobs_code p.kept) in
        let k : Hart = h2 Beq p.tested p.region body a h small still at code low (omega (arith, high)) in
        let one = passes Beq p.tested p.region body a h small still at code low (omega (arith, high)) taken in
        let behind : CodeAt s.map first (a + 12) body = body_code Beq p.tested p.region body a h small still at code low (omega (arith, high)) in
        let two =
        jobs_way s going lo size inside first p.jobs (a + 12) k fits.jobs one.small one.passed.still one.passed.pc
        (code_front (jobs_code p.jobs) (kept_code jobs_code p.kept) s.map first (a + 12) behind) (omega (arith, low)) (omega (arith, high, counts)) in
        let both = done_on s going lo size inside first 2 (jobs_run p.jobs) [] p.jobs (a + 12) (a + 12 + 4 * length (jobs_code p.jobs)) h k two.0 one two.1 in
        let kept_at : ℕ = a + 12 + 4 * length (jobs_code p.jobs) in
        let three =
        kept_way p.kept kept_at two.0 fits.kept (asks_on (2 + jobs_run p.jobs) p.jobs kept_at h two.0 both asks) both.small both.passed.still both.passed.pc
        (code_behind (jobs_code p.jobs) (kept_code jobs_code p.kept) s.map first (a + 12) behind) (omega (arith, low)) (omega (arith, high, counts)) in
        let there : kept_at + 4 * length (kept_code jobs_code p.kept) ≡ a + 4 * length (part_code jobs_code p) = omega (arith, counts) in (
          three.0,
          done_as s going lo size inside first (2 + jobs_run p.jobs + kept_run asking p.kept) (2 + (jobs_run p.jobs + kept_run asking p.kept))
              (p.jobs ++ kept_jobs asking p.kept) (p.jobs ++ kept_jobs asking p.kept) (kept_at + 4 * length (kept_code jobs_code p.kept))
              (a + 4 * length (part_code jobs_code p)) h three.0 (omega arith) refl there
              (done_on s going lo size inside first (2 + jobs_run p.jobs) (kept_run asking p.kept) p.jobs (kept_jobs asking p.kept) kept_at
              (kept_at + 4 * length (kept_code jobs_code p.kept)) h two.0 three.0 both three.1),
        )

    pub parts_way : (parts : List (Part (List CopyJob))) (a : ℕ) (h : Hart) → All (IsPart Runs) parts → Asks h → ((x : ℕ) → h.mem x < 256) → StandsStill s going lo size inside first h.mem → h.pc ≡ a → CodeAt s.map first a (flat_map (part_code jobs_code) parts) → lo ≤ a → a + 4 * length (flat_map (part_code jobs_code) parts) ≤ lo + size → (l : Hart) × Done s going lo size inside first (sum_by (part_run asking) parts) (flat_map (part_jobs asking) parts) (a + 4 * length (flat_map (part_code jobs_code) parts)) h l
    parts_way [] a h fits asks small still at code low high =
        (h, done_as s going lo size inside first 0 0 [] [] a (a + 4 * 0) h h refl refl (omega arith) (nothing_done s going lo size inside first a h at still small))
    parts_way (p ∷ parts) a h fits asks small still at code low high =
        let head : List Instr = part_code jobs_code p in
        let rest_code : List Instr = flat_map (part_code jobs_code) parts in
        let counts = length-append head rest_code in
        let one =
        part_by p a h (asking p.tested == p.region) (All-head (IsPart Runs) p parts fits) asks small still at (code_front head rest_code s.map first a code) low
        (omega (arith, high, counts)) refl in
        let next : ℕ = a + 4 * length head in
        let rest =
        parts_way parts next one.0 (All-tail (IsPart Runs) p parts fits) (asks_on (part_run asking p) (part_jobs asking p) next h one.0 one.1 asks)
        one.1.small one.1.passed.still one.1.passed.pc (code_behind head rest_code s.map first a code) (omega (arith, low)) (omega (arith, high, counts)) in
        let there : next + 4 * length rest_code ≡ a + 4 * length (head ++ rest_code) = omega (arith, counts) in (
          rest.0,
          done_as s going lo size inside first (part_run asking p + sum_by (part_run asking) parts) (sum_by (part_run asking) (p ∷ parts))
              (part_jobs asking p ++ flat_map (part_jobs asking) parts) (flat_map (part_jobs asking) (p ∷ parts)) (next + 4 * length rest_code)
              (a + 4 * length (flat_map (part_code jobs_code) (p ∷ parts))) h rest.0 (sym (sum_by-cons (part_run asking) p parts)) refl there
              (done_on s going lo size inside first (part_run asking p) (sum_by (part_run asking) parts) (part_jobs asking p)
              (flat_map (part_jobs asking) parts) next (next + 4 * length rest_code) h one.0 rest.0 one.1 rest.1),
        )
