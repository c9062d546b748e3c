-- Copy jobs, with what their steps tell.
use Rattle.std.proofs.Common.{◌≡◌, ◌⊎◌, inl, inr, ℕ, zero, suc, ◌+◌, ◌-◌, ◌*◌, ◌/◌, ◌%◌, ◌<◌, ◌≤◌, ◌==◌, Bool, true, false, not, List, [], ◌∷◌, ◌++◌, length, if◌then◌else◌, pos, negsuc, refl, sym, ◌∙◌, ap, subst, arith}
use Rattle.std.specs.Prelude.{All}
use Rattle.std.specs.List.{flat_map}
use Rattle.std.proofs.Math.Nat.{suc-mul}
use Rattle.std.proofs.lemmas.Grind.{flat_map-append}
use Rattle.std.proofs.lemmas.Int.{ints}
use Rattle.std.proofs.lemmas.List.{append-nil, length-append}
use Rattle.std.proofs.lemmas.List.Elements.{All-head, All-tail}
use Rattle.std.proofs.lemmas.Bool.Decides.{nat_tests}
use Rattle.rv32im.specs.Words.{plus, offset, upper_half, lower_half}
use Rattle.rv32im.specs.Memory.{Memory, put}
use Rattle.rv32im.specs.declared.instructions.Instr.{Instr}
use Rattle.rv32im.specs.declared.instructions.Instr.TheVariants.{Lui, Branch, Load, Store, OpImm}
use Rattle.rv32im.specs.declared.instructions.BranchKind.TheVariants.{Bne}
use Rattle.rv32im.specs.declared.instructions.ImmKind.TheVariants.{Addi}
use Rattle.rv32im.specs.Acts.{Hart, Registers, acts, register, loaded, stored, load_width, store_width}
use Rattle.rv32im.specs.Sequences.{load_immediate}
use Rattle.flat_machine.specs.declared.events.FlatAccess.{FlatAccess}
use Rattle.flat_machine.specs.declared.events.FlatOutcome.TheVariants.{GoesOn}
use Rattle.flat_machine.specs.Mapping.{can_access}
use Rattle.flat_machine.specs.State.{State}
use Rattle.flat_machine.specs.Lines.{with_hart, acted, CodeAt, AreMapped}
use Rattle.flat_machine.proofs.LineWords.{code_front, code_behind, accessed}
use Rattle.flat_machine.proofs.SilentLines.{immediate_here, immediate_others}
use Rattle.patch_code.specs.declared.job.CopyJob.{CopyJob}
use Rattle.patch_code.specs.Jobs.{copies_words, unit_bytes, unit_load, unit_store, turn, copying, turns, job_run, AreDisjoint, IsJob, jobs_run, all_copied, CanCopy}
use Rattle.patch_code.proofs.Copies.{after, after_disjoint, after_small, unit_more}
use Rattle.patch_code.proofs.ByteLemmas.{in_order}
use Rattle.patch_code.proofs.JobRanges.{eleven}
use Rattle.patch_code.specs.Told.{read_at, write_at, turn_accesses, job_accesses, jobs_accesses}
use Rattle.patch_code.proofs.Ways.{StandsStill, Passed, Straight, step_way, lui_follows, addi_follows, load_follows, store_follows, straight, passed_on, passed_as, stay}

-- how many words jobs run
pub jobs_run-append : (js ks : List CopyJob) → jobs_run (js ++ ks) ≡ jobs_run js + jobs_run ks
jobs_run-append [] ks = omega arith
jobs_run-append (job ∷ js) ks = let rest = jobs_run-append js ks in omega (arith, rest)

load_is : (words : Bool) → load_width (unit_load words) ≡ unit_bytes words
load_is true = refl
load_is false = refl

store_is : (words : Bool) → store_width (unit_store words) ≡ unit_bytes words
store_is true = refl
store_is false = refl

further : (a u : ℕ) → a + u < 4294967296 → offset a (pos u) ≡ a + u
further a u below = grind (arith, ints, nat_tests)

at_once : (a : ℕ) → a < 4294967296 → offset a (pos 0) ≡ a
at_once a below = further a 0 (omega arith) ∙ omega arith

-- the registers behind the four words before the branch, by what is loaded
abbrev moved : Registers → ℕ → ℕ → Registers
moved regs v u =
    put (put (put regs 31 v) 5 (offset (put regs 31 v 5) (pos u))) 7
    (offset (put (put regs 31 v) 5 (offset (put regs 31 v 5) (pos u)) 7) (pos u))

from_there : (regs : Registers) (v u : ℕ) → moved regs v u 5 ≡ offset (regs 5) (pos u)
unfolding put
from_there regs v u = refl

to_there : (regs : Registers) (v u : ℕ) → moved regs v u 7 ≡ offset (regs 7) (pos u)
unfolding put
to_there regs v u = refl

end_there : (regs : Registers) (v u : ℕ) → moved regs v u 28 ≡ regs 28
unfolding put
end_there regs v u = refl

target_there : (regs : Registers) (v : ℕ) → put regs 31 v 7 ≡ regs 7
unfolding put
target_there regs v = refl

value_there : (regs : Registers) (v : ℕ) → put regs 31 v 31 ≡ v
unfolding put
value_there regs v = refl

others_there : (regs : Registers) (v u k : ℕ) → (k ≡ 5 → ⊥) → (k ≡ 7 → ⊥) → (k ≡ 31 → ⊥) → moved regs v u k ≡ regs k
unfolding put
others_there regs v u k no5 no7 no31 = grind (arith, nat_tests)

branch_to : (x y pc top : ℕ) (b : Bool) → pc ≡ top + 16 → top + 20 < 4294967296 → not (x == y) ≡ b → (if not (x == y) then offset pc (negsuc 15) else plus pc 4) ≡ (if b then top else top + 20)
branch_to x y pc top true at below test = rw (at, test) (grind (arith, ints, nat_tests))
branch_to x y pc top false at below test = rw (at, test) (omega (arith, below))

module _ (s : State) (going : s.outcome ≡ GoesOn) (lo size : ℕ) (inside : lo + size < 4294967296) (first : Memory) where
  -- ---- the turns of a job, the first of whose words stands at `top`
  module _ (words : Bool) (from to total top : ℕ) (source : from + total < 4294967296) (target : to + total < 4294967296) (disjoint : AreDisjoint from total to total) (reads : AreMapped s.map from total) (writes : AreMapped s.map to total) (old : Registers) (mem : Memory) (small : (a : ℕ) → mem a < 256) (still : StandsStill s going lo size inside first mem) (spared : AreDisjoint to total lo size) (code : CodeAt s.map first top (turn words)) (low : lo ≤ top) (high : top + 20 ≤ lo + size) where
    -- `d` bytes were copied
    record Copied (d : ℕ) (h : Hart) : Type 0 where
      x5 : h.regs 5 ≡ from + d
      x7 : h.regs 7 ≡ to + d
      x28 : h.regs 28 ≡ from + total
      others : (k : ℕ) → (k ≡ 5 → ⊥) → (k ≡ 7 → ⊥) → (k ≡ 28 → ⊥) → (k ≡ 31 → ⊥) → h.regs k ≡ old k
      memory : h.mem ≡ after mem from to d

    still_at : (d : ℕ) → d ≤ total → StandsStill s going lo size inside first (after mem from to d)
    still_at d some x above under = after_disjoint mem from to d total lo size x some spared above under ∙ still x above under

    -- one turn
    module _ (d : ℕ) (h : Hart) (here : Copied d h) (at : h.pc ≡ top) (fits : d + unit_bytes words ≤ total) (from_aligned : (from + d) % unit_bytes words ≡ 0) (to_aligned : (to + d) % unit_bytes words ≡ 0) where
      abbrev u : ℕ
      u = unit_bytes words

      abbrev v : ℕ
      v = loaded (unit_load words) h.mem (offset (register h.regs 5) (pos 0))

      abbrev four : List Instr
      four =
          Load (unit_load words) 31 5 (pos 0) ∷ Store (unit_store words) 7 31 (pos 0) ∷ OpImm Addi 5 5 (pos u) ∷ OpImm Addi 7 7 (pos u)
          ∷ []

      abbrev h1 : Hart
      h1 = acts (Load (unit_load words) 31 5 (pos 0)) h

      abbrev h4 : Hart
      h4 = acted four h

      abbrev h5 : Hart
      h5 = acts (Branch Bne 5 28 (negsuc 15)) h4

      load_at : offset (register h.regs 5) (pos 0) ≡ from + d
      load_at = ap (λ a. offset a (pos 0)) here.x5 ∙ at_once (from + d) (omega arith)

      store_at : offset (register h1.regs 7) (pos 0) ≡ to + d
      store_at =
          ap (λ a. offset a (pos 0)) (target_there h.regs v ∙ here.x7) ∙ at_once (to + d) (omega arith)

      may_load : can_access s.map (from + d) (load_width (unit_load words)) ≡ true
      may_load =
          ap (λ n. can_access s.map (from + d) n) (load_is words)
          ∙ accessed s.map from total (unit_bytes words) d reads fits from_aligned

      may_store : can_access s.map (to + d) (store_width (unit_store words)) ≡ true
      may_store =
          ap (λ n. can_access s.map (to + d) n) (store_is words)
          ∙ accessed s.map to total (unit_bytes words) d writes fits to_aligned

      apart : AreDisjoint to total lo size → (to + d + store_width (unit_store words) ≤ lo) ⊎ (lo + size ≤ to + d)
      apart (inl before) = let width = store_is words in inl (omega (arith, before, fits, width))
      apart (inr past) = inr (omega (arith, past))

      follows : Straight s going lo size inside first four h
      follows =
          let width = store_is words in (
            load_follows s going lo size inside first (unit_load words) 31 5 (pos 0) h (from + d) load_at may_load,
            (
              store_follows s going lo size inside first (unit_store words) 7 31 (pos 0) h1 (to + d) store_at may_store
                  (omega (arith, target, fits, width)) (apart spared),
              (
                addi_follows s going lo size inside first 5 5 (pos u) (acts (Store (unit_store words) 7 31 (pos 0)) h1),
                (
                  addi_follows s going lo size inside first 7 7 (pos u) (acts (OpImm Addi 5 5 (pos u)) (acts (Store (unit_store words) 7 31 (pos 0)) h1)),
                  tt,
                ),
              ),
            ),
          )

      value_is : register h1.regs 31 ≡ loaded (unit_load words) (after mem from to d) (from + d)
      value_is =
          value_there h.regs v
          ∙ (ap (λ (m : Memory). loaded (unit_load words) m (offset (register h.regs 5) (pos 0))) here.memory
          ∙ ap (λ a. loaded (unit_load words) (after mem from to d) a) load_at)

      memory_is : h4.mem ≡ after mem from to (d + unit_bytes words)
      memory_is =
          ap (λ (m : Memory). stored (unit_store words) m (offset (register h1.regs 7) (pos 0)) (register h1.regs 31)) here.memory
          ∙ (ap (λ a. stored (unit_store words) (after mem from to d) a (register h1.regs 31)) store_at
          ∙ (ap (λ x. stored (unit_store words) (after mem from to d) (to + d) x) value_is
          ∙ unit_more mem small from to total source target disjoint words d fits))

      x5_is : h4.regs 5 ≡ from + (d + unit_bytes words)
      x5_is =
          from_there h.regs v u
          ∙ (ap (λ a. offset a (pos u)) here.x5 ∙ (further (from + d) u (omega arith) ∙ omega arith))

      x7_is : h4.regs 7 ≡ to + (d + unit_bytes words)
      x7_is =
          to_there h.regs v u
          ∙ (ap (λ a. offset a (pos u)) here.x7 ∙ (further (to + d) u (omega arith) ∙ omega arith))

      turn_copied : Copied (d + unit_bytes words) h5
      turn_copied =
          record {
            x5 = x5_is;
            x7 = x7_is;
            x28 = end_there h.regs v u ∙ here.x28;
            others = λ k no5 no7 no28 no31. others_there h.regs v u k no5 no7 no31 ∙ here.others k no5 no7 no28 no31;
            memory = memory_is;
          }

      lines : Passed s going lo size inside first 4 (read_at (from + d) ∷ write_at (to + d) ∷ []) (top + 16) h h4
      lines =
          passed_as s going lo size inside first 4 4
          (read_at (offset (register h.regs 5) (pos 0)) ∷ write_at (offset (register h1.regs 7) (pos 0)) ∷ [])
          (read_at (from + d) ∷ write_at (to + d) ∷ []) (top + 4 * 4) (top + 16) h h4 refl
          (λ t. read_at (load_at t) ∷ write_at (store_at t) ∷ []) (omega arith)
          (straight s going lo size inside first four h top follows
          (λ x above under. ap (λ (m : Memory). m x) here.memory ∙ still_at d (omega (arith, fits)) x above under)
          (code_front four (Branch Bne 5 28 (negsuc 15) ∷ []) s.map first top code) at low (omega (arith, high)))

      -- the branch goes back until all is copied
      turn_way : (b : Bool) → not (h4.regs 5 == h4.regs 28) ≡ b → Passed s going lo size inside first 5 (read_at (from + d) ∷ write_at (to + d) ∷ []) (if b then top else top + 20) h h5
      turn_way b test =
          let before = lines in
          let place : top + 4 * 4 ≡ top + 16 = omega arith in
          let fetch : CodeAt s.map first (top + 16) (Branch Bne 5 28 (negsuc 15) ∷ []) =
          subst (λ x. CodeAt s.map first x (Branch Bne 5 28 (negsuc 15) ∷ [])) place
          (code_behind four (Branch Bne 5 28 (negsuc 15) ∷ []) s.map first top code) in
          let step =
          step_way s going lo size inside first (Branch Bne 5 28 (negsuc 15)) h4 (top + 16) tt refl before.still fetch.0 before.pc
          (omega (arith, low)) (omega (arith, high)) in
          passed_on s going lo size inside first 4 1 (read_at (from + d) ∷ write_at (to + d) ∷ []) [] (top + 16)
          (if b then top else top + 20) h h4 h5 before
          (record {
            way = step;
            pc = branch_to (h4.regs 5) (h4.regs 28) h4.pc top b before.pc (omega (arith, high, inside)) test;
            still = before.still;
          })

      more_to_come : (d + unit_bytes words ≡ total → ⊥) → not (h4.regs 5 == h4.regs 28) ≡ true
      more_to_come other =
          let five = x5_is in
          let end : h4.regs 28 ≡ from + total = end_there h.regs v u ∙ here.x28 in
          rw (five, end) (grind (arith, nat_tests, other))

      no_more : d + unit_bytes words ≡ total → not (h4.regs 5 == h4.regs 28) ≡ false
      no_more same =
          let five = x5_is in
          let end : h4.regs 28 ≡ from + total = end_there h.regs v u ∙ here.x28 in
          rw (five, end) (grind (arith, nat_tests, same))

    -- ---- all turns

    aligned_at : (w : Bool) (a d m : ℕ) → a % unit_bytes w ≡ 0 → total % unit_bytes w ≡ 0 → d + suc m * unit_bytes w ≡ total → (a + d) % unit_bytes w ≡ 0
    aligned_at true a d m one two end = omega arith
    aligned_at false a d m one two end = omega arith

    positive : (w : Bool) → 1 ≤ unit_bytes w
    positive true = omega arith
    positive false = omega arith

    turns_way : (m d : ℕ) (h : Hart) → from % unit_bytes words ≡ 0 → to % unit_bytes words ≡ 0 → total % unit_bytes words ≡ 0 → Copied d h → h.pc ≡ top → d + suc m * unit_bytes words ≡ total → (k : Hart) × (Passed s going lo size inside first (5 * suc m) (turn_accesses (unit_bytes words) (from + d) (to + d) (suc m)) (top + 20) h k × Copied total k)
    turns_way zero d h f t n here at end =
        let more = suc-mul zero (unit_bytes words) in
        let last : d + unit_bytes words ≡ total = omega (arith, more, end) in
        let fit : d + unit_bytes words ≤ total = omega (arith, last) in
        let fa = aligned_at words from d zero f n end in
        let ta = aligned_at words to d zero t n end in
        let k : Hart = h5 d h here at fit fa ta in
        (k, (turn_way d h here at fit fa ta false (no_more d h here at fit fa ta last), subst (λ n. Copied n k) last (turn_copied d h here at fit fa ta)))
    turns_way (suc m) d h f t n here at end =
        let more = suc-mul (suc m) (unit_bytes words) in
        let again = suc-mul m (unit_bytes words) in
        let some = positive words in
        let left : d + unit_bytes words + suc m * unit_bytes words ≡ total = omega (arith, more, end) in
        let fit : d + unit_bytes words ≤ total = omega (arith, left) in
        let other : (d + unit_bytes words ≡ total → ⊥) = λ same. absurd (omega (arith, same, left, again, some)) in
        let fa = aligned_at words from d (suc m) f n end in
        let ta = aligned_at words to d (suc m) t n end in
        let k : Hart = h5 d h here at fit fa ta in
        let one = turn_way d h here at fit fa ta true (more_to_come d h here at fit fa ta other) in
        let rest = turns_way m (d + unit_bytes words) k f t n (turn_copied d h here at fit fa ta) one.pc left in
        let from_on : from + (d + unit_bytes words) ≡ from + d + unit_bytes words = omega arith in
        let to_on : to + (d + unit_bytes words) ≡ to + d + unit_bytes words = omega arith in
        let told : List FlatAccess = turn_accesses (unit_bytes words) (from + (d + unit_bytes words)) (to + (d + unit_bytes words)) (suc m) in
        let more_told : List FlatAccess = turn_accesses (unit_bytes words) (from + d + unit_bytes words) (to + d + unit_bytes words) (suc m) in
        let same : told ≡ more_told = λ t. turn_accesses (unit_bytes words) (from_on t) (to_on t) (suc m) in
        let pair : List FlatAccess = read_at (from + d) ∷ write_at (to + d) ∷ [] in
        let whole : pair ++ told ≡ pair ++ more_told = ap (λ (xs : List FlatAccess). pair ++ xs) same in (
          rest.0,
          (
            passed_as s going lo size inside first (5 + 5 * suc m) (5 * suc (suc m)) (pair ++ told) (pair ++ more_told) (top + 20) (top + 20) h rest.0 (omega arith) whole refl
                (passed_on s going lo size inside first 5 (5 * suc m) pair told top (top + 20) h k rest.0 one rest.1.0),
            rest.1.1,
          ),
        )

  -- ---- a job

  -- what a job does before its turns
  abbrev heads : CopyJob → List Instr
  heads job = load_immediate 5 job.from ++ load_immediate 7 job.to ++ load_immediate 28 (job.from + job.bytes)

  in_parts : (job : CopyJob) → copying job ≡ heads job ++ turn (copies_words job)
  unfolding copying
  in_parts job = refl

  told_job : (job : CopyJob) → turn_accesses (unit_bytes (copies_words job)) job.from job.to (turns job) ≡ job_accesses job
  unfolding job_accesses
  told_job job = refl

  -- a job copies words only where all its numbers are multiples of four
  record Fits (w : Bool) (job : CopyJob) : Type 0 where
    from : job.from % unit_bytes w ≡ 0
    to : job.to % unit_bytes w ≡ 0
    bytes : job.bytes % unit_bytes w ≡ 0
    count : job.bytes ≡ job.bytes / unit_bytes w * unit_bytes w
    some : 1 ≤ job.bytes / unit_bytes w

  units_fit : (job : CopyJob) (w : Bool) → copies_words job ≡ w → 1 ≤ job.bytes → Fits w job
  units_fit job true words some =
      let by_from : job.from % 4 ≡ 0 = grind (arith, nat_tests) in
      let by_to : job.to % 4 ≡ 0 = grind (arith, nat_tests) in
      let by_bytes : job.bytes % 4 ≡ 0 = grind (arith, nat_tests) in
      record { from = by_from; to = by_to; bytes = by_bytes; count = omega arith; some = omega arith }
  units_fit job false words some =
      record { from = omega arith; to = omega arith; bytes = omega arith; count = omega arith; some = omega arith }

  -- jobs have run in `n` steps, and control has come to `a`
  pub record Done (n : ℕ) (jobs : List CopyJob) (a : ℕ) (h k : Hart) : Type 0 where
    pub passed : Passed s going lo size inside first n (jobs_accesses jobs) a h k
    pub mem : k.mem ≡ all_copied h.mem jobs
    pub others : (x : ℕ) → (x ≡ 5 → ⊥) → (x ≡ 7 → ⊥) → (x ≡ 28 → ⊥) → (x ≡ 31 → ⊥) → k.regs x ≡ h.regs x
    pub small : (x : ℕ) → k.mem x < 256

  -- code can run a job
  pub record CanRun (job : CopyJob) : Type 0 where
    pub is : IsJob job
    pub can : CanCopy s.map job
    pub spares : AreDisjoint job.to job.bytes lo size

  module _ (job : CopyJob) (run : CanRun job) (a : ℕ) (h : Hart) (small : (x : ℕ) → h.mem x < 256) (still : StandsStill s going lo size inside first h.mem) (at : h.pc ≡ a) (code : CodeAt s.map first a (copying job)) (low : lo ≤ a) (high : a + 44 ≤ lo + size) where
    parts : CodeAt s.map first a (heads job ++ turn (copies_words job))
    parts = subst (λ xs. CodeAt s.map first a xs) (in_parts job) code

    abbrev one : Hart
    one = acted (load_immediate 5 job.from) h

    abbrev two : Hart
    two = acted (load_immediate 7 job.to) one

    abbrev behind : Hart
    behind = acted (heads job) h

    immediate_follows : (rd word : ℕ) (k : Hart) → Straight s going lo size inside first (load_immediate rd word) k
    immediate_follows rd word k =
        (lui_follows s going lo size inside first rd (upper_half word) k, (addi_follows s going lo size inside first rd rd (lower_half word) (acts (Lui rd (upper_half word)) k), tt))

    heads_way : Passed s going lo size inside first 6 [] (a + 24) h behind
    heads_way =
        let f5 = immediate_follows 5 job.from h in
        let f7 = immediate_follows 7 job.to one in
        let f28 = immediate_follows 28 (job.from + job.bytes) two in
        passed_as s going lo size inside first 6 6 [] [] (a + 4 * 6) (a + 24) h behind refl refl (omega arith)
        (straight s going lo size inside first (heads job) h a (f5.0, (f5.1.0, (f7.0, (f7.1.0, (f28.0, (f28.1.0, tt)))))) still
        (code_front (heads job) (turn (copies_words job)) s.map first a parts) at low (omega (arith, high)))

    x5_set : behind.regs 5 ≡ job.from
    x5_set =
        let source = run.is.source in
        immediate_others 28 (job.from + job.bytes) two 5 (λ e. absurd (omega arith))
        ∙ (immediate_others 7 job.to one 5 (λ e. absurd (omega arith)) ∙ immediate_here 5 job.from h (λ e. absurd (omega arith)) (omega (arith, source)))

    x7_set : behind.regs 7 ≡ job.to
    x7_set =
        let target = run.is.target in
        immediate_others 28 (job.from + job.bytes) two 7 (λ e. absurd (omega arith))
        ∙ immediate_here 7 job.to one (λ e. absurd (omega arith)) (omega (arith, target))

    others_kept : (k : ℕ) → (k ≡ 5 → ⊥) → (k ≡ 7 → ⊥) → (k ≡ 28 → ⊥) → behind.regs k ≡ h.regs k
    others_kept k no5 no7 no28 =
        immediate_others 28 (job.from + job.bytes) two k no28
        ∙ (immediate_others 7 job.to one k no7 ∙ immediate_others 5 job.from h k no5)

    pub job_way : (k : Hart) × Done (job_run job) (job ∷ []) (a + 44) h k
    job_way =
        let w : Bool = copies_words job in
        let fits = units_fit job w refl run.is.some in
        let heads_passed = heads_way in
        let place : a + 4 * 6 ≡ a + 24 = omega arith in
        let turn_code : CodeAt s.map first (a + 24) (turn w) =
        subst (λ x. CodeAt s.map first x (turn w)) place (code_behind (heads job) (turn w) s.map first a parts) in
        let start : Copied w job.from job.to job.bytes (a + 24) run.is.source run.is.target run.is.disjoint run.can.0 run.can.1 h.regs h.mem small still run.spares turn_code (omega (arith, low)) (omega (arith, high)) 0 behind =
        record {
          x5 = x5_set ∙ omega arith;
          x7 = x7_set ∙ omega arith;
          x28 = immediate_here 28 (job.from + job.bytes) two (λ e. absurd (omega arith)) run.is.source;
          others = λ k no5 no7 no28 no31. others_kept k no5 no7 no28;
          memory = refl;
        } in
        let n : ℕ = turns job in
        let some = fits.some in
        let again : suc (n - 1) ≡ n = omega (arith, some) in
        let end : 0 + suc (n - 1) * unit_bytes w ≡ job.bytes =
        ap (λ k. 0 + k * unit_bytes w) again ∙ (omega arith ∙ sym fits.count) in
        let loops =
        turns_way w job.from job.to job.bytes (a + 24) run.is.source run.is.target run.is.disjoint run.can.0 run.can.1 h.regs h.mem small still run.spares turn_code (omega (arith, low)) (omega (arith, high))
        (n - 1) 0 behind fits.from fits.to fits.bytes start heads_passed.pc end in
        let k : Hart = loops.0 in
        let count : 6 + 5 * suc (n - 1) ≡ job_run job = ap (λ k. 6 + 5 * k) again in
        let from_0 : job.from + 0 ≡ job.from = omega arith in
        let to_0 : job.to + 0 ≡ job.to = omega arith in
        let told : [] ++ turn_accesses (unit_bytes w) (job.from + 0) (job.to + 0) (suc (n - 1)) ≡ jobs_accesses (job ∷ []) =
        (λ t. turn_accesses (unit_bytes w) (from_0 t) (to_0 t) (again t)) ∙ (told_job job ∙ sym (append-nil (job_accesses job))) in (
          k,
          record {
            passed = passed_as s going lo size inside first (6 + 5 * suc (n - 1)) (job_run job)
                ([] ++ turn_accesses (unit_bytes w) (job.from + 0) (job.to + 0) (suc (n - 1))) (jobs_accesses (job ∷ [])) (a + 24 + 20) (a + 44) h k count told (omega arith)
                (passed_on s going lo size inside first 6 (5 * suc (n - 1)) [] (turn_accesses (unit_bytes w) (job.from + 0) (job.to + 0) (suc (n - 1))) (a + 24) (a + 24 + 20) h behind k heads_passed loops.1.0);
            mem = loops.1.1.memory;
            others = loops.1.1.others;
            small = subst (λ (m : Memory). (x : ℕ) → m x < 256) (sym loops.1.1.memory) (after_small h.mem job.from job.to job.bytes small);
          },
        )

  -- ---- jobs in order

  pub nothing_done : (a : ℕ) (h : Hart) → h.pc ≡ a → StandsStill s going lo size inside first h.mem → ((x : ℕ) → h.mem x < 256) → Done 0 [] a h h
  nothing_done a h at still small =
      record {
        passed = record { way = stay lo size (with_hart s h); pc = at; still = still };
        mem = refl;
        others = λ x no5 no7 no28 no31. refl;
        small = small;
      }

  pub done_on : (m n : ℕ) (js ks : List CopyJob) (a b : ℕ) (h k l : Hart) → Done m js a h k → Done n ks b k l → Done (m + n) (js ++ ks) b h l
  done_on m n js ks a b h k l one two =
      record {
        passed = passed_as s going lo size inside first (m + n) (m + n) (jobs_accesses js ++ jobs_accesses ks) (jobs_accesses (js ++ ks)) b b h l refl (sym (flat_map-append job_accesses js ks)) refl
            (passed_on s going lo size inside first m n (jobs_accesses js) (jobs_accesses ks) a b h k l one.passed two.passed);
        mem = two.mem ∙ (ap (λ (x : Memory). all_copied x ks) one.mem ∙ sym (in_order h.mem js ks));
        others = λ x no5 no7 no28 no31. two.others x no5 no7 no28 no31 ∙ one.others x no5 no7 no28 no31;
        small = two.small;
      }

  pub done_as : (m n : ℕ) (js ks : List CopyJob) (a b : ℕ) (h k : Hart) → m ≡ n → js ≡ ks → a ≡ b → Done m js a h k → Done n ks b h k
  done_as m n js ks a b h k count same there one =
      record {
        passed = passed_as s going lo size inside first m n (jobs_accesses js) (jobs_accesses ks) a b h k count (ap (λ (xs : List CopyJob). jobs_accesses xs) same) there one.passed;
        mem = one.mem ∙ ap (λ (xs : List CopyJob). all_copied h.mem xs) same;
        others = one.others;
        small = one.small;
      }

  pub jobs_way : (jobs : List CopyJob) (a : ℕ) (h : Hart) → All CanRun jobs → ((x : ℕ) → h.mem x < 256) → StandsStill s going lo size inside first h.mem → h.pc ≡ a → CodeAt s.map first a (flat_map copying jobs) → lo ≤ a → a + 4 * length (flat_map copying jobs) ≤ lo + size → (k : Hart) × Done (jobs_run jobs) jobs (a + 4 * length (flat_map copying jobs)) h k
  jobs_way [] a h run small still at code low high =
      (h, done_as 0 0 [] [] a (a + 4 * 0) h h refl refl (omega arith) (nothing_done a h at still small))
  jobs_way (job ∷ jobs) a h run small still at code low high =
      let eleven_words = eleven job in
      let lengths = length-append (copying job) (flat_map copying jobs) in
      let one =
      job_way job (All-head CanRun job jobs run) a h small still at (code_front (copying job) (flat_map copying jobs) s.map first a code) low
      (omega (arith, eleven_words, lengths, high)) in
      let k : Hart = one.0 in
      let step : a + 4 * length (copying job) ≡ a + 44 = omega (arith, eleven_words) in
      let rest_code : CodeAt s.map first (a + 44) (flat_map copying jobs) =
      subst (λ x. CodeAt s.map first x (flat_map copying jobs)) step (code_behind (copying job) (flat_map copying jobs) s.map first a code) in
      let rest =
      jobs_way jobs (a + 44) k (All-tail CanRun job jobs run) one.1.small one.1.passed.still one.1.passed.pc rest_code (omega (arith, low))
      (omega (arith, eleven_words, lengths, high)) in
      let there : a + 44 + 4 * length (flat_map copying jobs) ≡ a + 4 * length (copying job ++ flat_map copying jobs) = omega (arith, eleven_words, lengths) in (
        rest.0,
        done_as (job_run job + jobs_run jobs) (jobs_run (job ∷ jobs)) (job ∷ [] ++ jobs) (job ∷ jobs) (a + 44 + 4 * length (flat_map copying jobs))
            (a + 4 * length (flat_map copying (job ∷ jobs))) h rest.0 refl refl there
            (done_on (job_run job) (jobs_run jobs) (job ∷ []) jobs (a + 44) (a + 44 + 4 * length (flat_map copying jobs)) h k rest.0 one.1 rest.1),
      )
