-- Parts of the proofs of one step: what is fetched and read, and what a written register leaves.
use Rattle.std.proofs.Common.{◌≡◌, ◌⊎◌, inl, inr, ℕ, ◌+◌, ◌<◌, ◌==◌, true, false, not, List, [], ◌∷◌, length, Option, Some, None, refl, sym, ◌∙◌, subst, arith}
use Rattle.std.specs.Prelude.{Contains}
use Rattle.std.specs.Bool.{MatchBool}
use Rattle.std.proofs.lemmas.Grind.{common_steps}
use Rattle.std.proofs.lemmas.List.Elements.{filter-append, Contains-append_right}
use Rattle.std.proofs.lemmas.Bool.{cases_eq, cond_both, cond-true}
use Rattle.std.proofs.lemmas.Bool.Decides.{nat_tests}
use Rattle.rv32im.specs.Words.{plus}
use Rattle.rv32im.specs.Memory.{put, word_at}
use Rattle.rv32im.specs.Table.{Means}
use Rattle.rv32im.specs.Acts.{Registers, register, with_register, used, defined, without_zero}
use Rattle.rv32im.specs.declared.instructions.Instr.{Instr}
use Rattle.rv32im.proofs.WordLemmas.{keeps_words}
use Rattle.flat_machine.specs.declared.events.FlatEvent.{FlatEvent}
use Rattle.flat_machine.specs.Mapping.{can_access}
use Rattle.flat_machine.specs.State.{State, trap}
use Rattle.flat_machine.specs.Step.{Performs, ReadsNothing, StepAt, Step, performed, event_of}
use Rattle.flat_machine.specs.Step.{Reads as FlatReads}
use Rattle.flat_machine.specs.Lines.{Fetches, went}
use Rattle.flat_machine.specs.Runs.{Does}
use Rattle.flat_machine.specs.Sizes.{HasWords}
use Rattle.flat_machine.proofs.Runs.{performs_meaning, steps_of_events}
use Rattle.flat_machine.proofs.SilentLines.{read_there, read_other}
use Rattle.flat_machine.proofs.Words.{step_words, steps_words}
use Rattle.cell_values.specs.Laws.{HoldsWord}
use Rattle.cell_values.specs.declared.values.Val.{Val}
use Rattle.cell_values.specs.declared.values.Val.TheVariants.{Int}
use Rattle.cell_values.specs.Origins.{Origin}
use Rattle.cell_values.specs.Stands.{Stands, CellStands}
use Rattle.cell_values.specs.Cells.{put_at}
use Rattle.object_machine.specs.declared.events.Outcome.{Outcome}
use Rattle.object_machine.specs.declared.events.Outcome.TheVariants.{GoesOn, Exited, Trapped, AddressFault}
use Rattle.object_machine.specs.Program.{Program}
use Rattle.object_machine.specs.State.{Values, SourceState, value, with_value, wrote, faulted}
use Rattle.object_machine.specs.Flow.{falls_on, jumps}
use Rattle.object_machine.specs.Step.{Reads, acts, next_state}
use Rattle.object_machine.specs.Paired.{Origins, origins_by, origins_after, is_paired_by, is_paired_step}
use Rattle.simulation.specs.Setups.{Setup}
use Rattle.simulation.specs.Units.{StandsAt}
use Rattle.simulation.specs.Relation.{Alike, After, Tells, LeadsTold}
use Rattle.simulation.specs.Forms.{IsAt, IsFollowed}
use Rattle.simulation.proofs.OneUnit.{Before, StepPremises}

-- ---- what is fetched

module _ (l : Setup) (r u w : ℕ) (t : State) (here : IsAt l r u t) (stands : StandsAt l r u w) where
  word_still : u < 4294967296 → word_at t.hart.mem u ≡ w
  word_still below =
      let first : plus u 0 ≡ u = omega arith in
      let at_first = stands.still 0 (omega arith) in
      let byte_0 = here.still u (rw first at at_first) in
      let byte_1 = here.still (plus u 1) (stands.still 1 (omega arith)) in
      let byte_2 = here.still (plus u 2) (stands.still 2 (omega arith)) in
      let byte_3 = here.still (plus u 3) (stands.still 3 (omega arith)) in
      let whole = stands.word in
      rw (byte_0, byte_1, byte_2, byte_3) whole

  word_there : word_at t.hart.mem t.hart.pc ≡ w
  word_there =
      let below : u < 4294967296 = subst (λ a. a < 4294967296) here.at here.words.hart.pc in
      subst (λ a. word_at t.hart.mem a ≡ w) (sym here.at) (word_still below)

  may_fetch : can_access t.map t.hart.pc 4 ≡ true
  may_fetch =
      subst (λ q. can_access q t.hart.pc 4 ≡ true) (sym here.map)
      (subst (λ a. can_access l.map a 4 ≡ true) (sym here.at) stands.fetched)

  -- the word can be fetched where it stands
  pub fetched_at : (j : Instr) → Means w j → Fetches t.map t.hart.mem u j
  fetched_at j means =
      let below : u < 4294967296 = subst (λ a. a < 4294967296) here.at here.words.hart.pc in
      (subst (λ q. can_access q u 4 ≡ true) (sym here.map) stands.fetched, subst (λ x. Means x j) (sym (word_still below)) means)

  -- the instruction that a word means is performed
  pub fetches : (j : Instr) → Means w j → Step t (event_of t j) (performed t j)
  fetches j means = performs_meaning t j here.going may_fetch (subst (λ x. Means x j) (sym word_there) means)

  pub fetched_words : (j : Instr) → Means w j → HasWords (performed t j)
  fetched_words j means = step_words keeps_words t (performed t j) (event_of t j) here.words (fetches j means)

  -- one that means nothing is a trap
  pub fetches_nothing : FlatReads w None → (e : FlatEvent) × Step t e (trap t)
  fetches_nothing means =
      let e : FlatEvent = record { at = t.hart.pc; outcome = (trap t).outcome; word = word_at t.hart.mem t.hart.pc; access = None } in
      let step : Performs t e (trap t) None =
      record { reads = subst (λ x. FlatReads x None) (sym word_there) means; state = refl; event = refl } in (
        e,
        subst (λ o. StepAt o t e (trap t)) (sym here.going)
            (subst (λ b. MatchBool b ((read : Option Instr) × Performs t e (trap t) read) (ReadsNothing t e (trap t) (trap t)))
            (sym may_fetch) (None, step)),
      )

-- steps leave words
pub does_words : (es : List FlatEvent) (t t' : State) → HasWords t → Does es t t' → HasWords t'
does_words es t t' words does = steps_words keeps_words (length es) t t' words (steps_of_events es t t' does)

-- where states are alike the flat machine is at its pc
pub is_at : (p : Program) (l : Setup) (live : ℕ → ℕ → Type 0) (r u : ℕ) (s : SourceState) (m : Origins) (t : State) → Alike p l live r u s m t → IsAt l r t.hart.pc t
is_at p l live r u s m t alike =
    record { at = refl; map = alike.map; going = alike.going; words = alike.words; still = alike.still }

-- ---- where steps lead

module _ (p : Program) (l : Setup) (live arrive : ℕ → ℕ → Type 0) (tells : List FlatEvent → Type 0) (r : ℕ) (t : State) where
  told_by : (o : Outcome) (es : List FlatEvent) → tells es → Tells o tells es
  told_by GoesOn es told = told
  told_by (Exited code) es told = told
  told_by (Trapped pc) es told = told
  told_by (AddressFault pc why) es told = tt

  -- by these events
  pub leads_does : (n : SourceState) (m : Origins) (es : List FlatEvent) (t' : State) → Does es t t' → tells es → After n.outcome p l live arrive r n m t' → LeadsTold tells p l live arrive r n m t
  leads_does n m es t' does told after = (es, (t', (does, (told_by n.outcome es told, after))))

  -- a fault promises nothing
  pub fault_leads : (n : SourceState) (m : Origins) (pc why : ℕ) → n.outcome ≡ AddressFault pc why → LeadsTold tells p l live arrive r n m t
  fault_leads n m pc why fault =
      let none : Tells n.outcome tells [] = subst (λ o. Tells o tells []) (sym fault) tt in
      ([], (t, (refl, (none, subst (λ o. After o p l live arrive r n m t) (sym fault) tt))))

  -- to the next word, to a block, or into a fault
  pub falls_leads : (s s' : SourceState) (m : Origins) → (p.falls s.pc ≡ true → falls_on p s s' ≡ record s' { pc = s.pc + 4 } → LeadsTold tells p l live arrive r (record s' { pc = s.pc + 4 }) m t) → LeadsTold tells p l live arrive r (falls_on p s s') m t
  falls_leads s s' m on =
      cond_both (p.falls s.pc) (record s' { pc = s.pc + 4 }) (faulted s 6) (λ n. LeadsTold tells p l live arrive r n m t)
      (λ falls. on falls (cond-true (p.falls s.pc) (record s' { pc = s.pc + 4 }) (faulted s 6) falls))
      (λ other. fault_leads (faulted s 6) m s.pc 6 refl)

  pub jumps_leads : (s s' : SourceState) (a : ℕ) (m : Origins) → (p.is_block a ≡ true → jumps p s a s' ≡ record s' { pc = a } → LeadsTold tells p l live arrive r (record s' { pc = a }) m t) → LeadsTold tells p l live arrive r (jumps p s a s') m t
  jumps_leads s s' a m on =
      cond_both (p.is_block a) (record s' { pc = a }) (faulted s 6) (λ n. LeadsTold tells p l live arrive r n m t)
      (λ block. on block (cond-true (p.is_block a) (record s' { pc = a }) (faulted s 6) block))
      (λ other. fault_leads (faulted s 6) m s.pc 6 refl)

  -- where the other machine goes on
  pub after_going : (n : SourceState) (m : Origins) (t' : State) → n.outcome ≡ GoesOn → Alike p l live r n.pc n m t' → arrive n.pc t'.hart.pc → After n.outcome p l live arrive r n m t'
  after_going n m t' going alike arrives = subst (λ o. After o p l live arrive r n m t') (sym going) (alike, arrives)

-- ---- registers

pub value_zero : (regs : Values) (k : ℕ) → k ≡ 0 → value regs k ≡ Int 0
value_zero regs k zero_register = grind (arith, nat_tests)

pub register_zero : (f : Registers) (k : ℕ) → k ≡ 0 → register f k ≡ 0
register_zero f k zero_register = grind (arith, nat_tests)

-- a register holds a word
pub register_word : (f : Registers) (k : ℕ) → ((j : ℕ) → f j < 4294967296) → register f k < 4294967296
register_word f k words = let here = words k in grind (arith, nat_tests)

pub value_wrote : (regs : Values) (rd k : ℕ) (x : Val) → k ≡ rd → (k ≡ 0 → ⊥) → value (with_value regs rd x) k ≡ x
unfolding put_at
value_wrote regs rd k x same other = grind (arith, nat_tests)

pub value_other : (regs : Values) (rd k : ℕ) (x : Val) → (k ≡ rd → ⊥) → value (with_value regs rd x) k ≡ value regs k
unfolding put_at
value_other regs rd k x other = grind (arith, nat_tests)

pub put_there : (table : ℕ → Origin) (k : ℕ) (origin : Origin) → put_at table k origin k ≡ origin
unfolding put_at
put_there table k origin = grind (arith, nat_tests)

pub put_other : (table : ℕ → Origin) (k : ℕ) (origin : Origin) (j : ℕ) → (j ≡ k → ⊥) → put_at table k origin j ≡ table j
unfolding put_at
put_other table k origin j other = grind (arith, nat_tests)

-- of these registers none but `rd` was written: the flat machine has `w` there, if it isn't x0
pub record WritesAt (lives : ℕ → Type 0) (rd w : ℕ) (old new : Registers) : Type 0 where
  pub here : (rd ≡ 0 → ⊥) → lives rd → register new rd ≡ w
  pub others : (k : ℕ) → lives k → (k ≡ rd → ⊥) → register new k ≡ register old k

pub with_writes : (lives : ℕ → Type 0) (f : Registers) (rd w : ℕ) → WritesAt lives rd w f (with_register f rd w)
with_writes lives f rd w =
    record { here = λ other lives. read_there f rd w other; others = λ k lives. read_other f rd w k }

-- states that were alike, with other registers and pcs, and other origins
pub alike_on : (p : Program) (l : Setup) (live : ℕ → ℕ → Type 0) (r u v : ℕ) (s : SourceState) (m n : Origins) (t : State) (regs : Values) (pc : ℕ) (f : Registers) (c : ℕ) → Alike p l live r u s m t → ((k : ℕ) → live v k → Stands p.objects (l.place r) (l.upper r) (n.regs k) (value regs k) (register f k)) → ((k : ℕ) → live v k → HoldsWord (value regs k)) → ((a : ℕ) → p.is_fixed a ≡ true → CellStands (l.place r) (l.upper r) (n.fixed a) (s.fixed a) (t.hart.mem a)) → ((o i : ℕ) → i < p.objects.size o → CellStands (l.place r) (l.upper r) (n.cells o i) (s.cells o i) (t.hart.mem (l.place r o + i))) → HasWords (went t f c) → Alike p l live r v (record s { pc = pc; regs = regs }) n (went t f c)
alike_on p l live r u v s m n t regs pc f c alike regs_stand values fixed cells words =
    record {
      regs = regs_stand;
      values = values;
      fixed = fixed;
      cells = cells;
      fixed_words = alike.fixed_words;
      cell_words = alike.cell_words;
      still = alike.still;
      map = alike.map;
      going = alike.going;
      source_going = alike.source_going;
      words = words;
      input = alike.input;
      output = alike.output;
    }

-- the registers of a state `s` and of one that is like it at `u`, after a write of `x` and `w`, for a unit at `v`
module _ (p : Program) (l : Setup) (live : ℕ → ℕ → Type 0) (r u v : ℕ) (s : SourceState) (m : Origins) (t : State) (alike : Alike p l live r u s m t) (rd w : ℕ) (x : Val) (origins : ℕ → Origin) (f : Registers) (keeps : (k : ℕ) → live v k → (k ≡ rd → ⊥) → live u k) (made : (k : ℕ) → (k ≡ rd → ⊥) → origins k ≡ m.regs k) (writes : WritesAt (live v) rd w t.hart.regs f) (stands : Stands p.objects (l.place r) (l.upper r) (origins rd) x w) (holds : HoldsWord x) where
  zero_stands : (k : ℕ) → k ≡ 0 → Stands p.objects (l.place r) (l.upper r) (origins k) (value (with_value s.regs rd x) k) (register f k)
  zero_stands k is =
      let first = value_zero (with_value s.regs rd x) k is in
      let second = register_zero f k is in
      rw (first, second) refl

  there_stands : (k : ℕ) → live v k → k ≡ rd → (k ≡ 0 → ⊥) → Stands p.objects (l.place r) (l.upper r) (origins k) (value (with_value s.regs rd x) k) (register f k)
  there_stands k lives same other =
      let first = value_wrote s.regs rd k x same other in
      let second : register f k ≡ w = subst (λ j. (j ≡ 0 → ⊥) → live v j → register f j ≡ w) (sym same) writes.here other lives in
      let third : Stands p.objects (l.place r) (l.upper r) (origins k) x w =
      subst (λ j. Stands p.objects (l.place r) (l.upper r) (origins j) x w) (sym same) stands in
      rw (first, second) third

  other_stands : (k : ℕ) → live v k → (k ≡ rd → ⊥) → Stands p.objects (l.place r) (l.upper r) (origins k) (value (with_value s.regs rd x) k) (register f k)
  other_stands k lives other =
      let first = value_other s.regs rd k x other in
      let second = writes.others k lives other in
      let third = made k other in
      rw (first, second, third) (alike.regs k (keeps k lives other))

  pub regs_wrote : (k : ℕ) → live v k → Stands p.objects (l.place r) (l.upper r) (origins k) (value (with_value s.regs rd x) k) (register f k)
  regs_wrote k lives =
      elim (cases_eq k 0) [
        | inl is ↦ zero_stands k is
        | inr nonzero ↦ elim (cases_eq k rd) [ inl same ↦ there_stands k lives same nonzero | inr other ↦ other_stands k lives other ]
      ]

  pub values_wrote : (k : ℕ) → live v k → HoldsWord (value (with_value s.regs rd x) k)
  values_wrote k lives =
      elim (cases_eq k 0) [
        | inl is ↦ let zero_value = value_zero (with_value s.regs rd x) k is in rw zero_value (omega arith)
        | inr nonzero ↦ elim (cases_eq k rd) [
          | inl same ↦ let first = value_wrote s.regs rd k x same nonzero in rw first holds
          | inr other ↦ let first = value_other s.regs rd k x other in rw first (alike.values k (keeps k lives other))
        ]
      ]

  -- the states are alike again, with the pc's anywhere
  pub wrote_on : (c : ℕ) → HasWords (record t { hart = record { pc = c; regs = f; mem = t.hart.mem } }) → Alike p l live r v (record (wrote s rd x) { pc = v }) (record m { regs = origins }) (record t { hart = record { pc = c; regs = f; mem = t.hart.mem } })
  wrote_on c words =
      alike_on p l live r u v s m (record m { regs = origins }) t (with_value s.regs rd x) v f c alike regs_wrote values_wrote alike.fixed alike.cells words

-- ---- what an instruction reads and writes

pub one_read : (k : ℕ) → (k ≡ 0) ⊎ Contains (without_zero (k ∷ [])) k
one_read k = elim (cases_eq k 0) [ inl is ↦ inl is | inr other ↦ inr (grind (arith, nat_tests, common_steps)) ]

pub first_read : (k j : ℕ) → (k ≡ 0) ⊎ Contains (without_zero (k ∷ j ∷ [])) k
first_read k j =
    elim (cases_eq k 0) [
      | inl is ↦ inl is
      | inr other ↦
          let listed : k ∷ without_zero (j ∷ []) ≡ without_zero (k ∷ j ∷ []) = grind (arith, nat_tests, common_steps) in
          inr (subst (λ ks. Contains ks k) listed (0, omega arith, refl))
    ]

pub second_read : (k j : ℕ) → (j ≡ 0) ⊎ Contains (without_zero (k ∷ j ∷ [])) j
second_read k j =
    elim (one_read j) [
      | inl is ↦ inl is
      | inr has ↦
          inr (subst (λ ks. Contains ks j) (sym (filter-append (λ n. not (n == 0)) (k ∷ []) (j ∷ [])))
          (Contains-append_right (without_zero (k ∷ [])) (without_zero (j ∷ [])) j has))
    ]

pub one_written : (k j : ℕ) → Contains (without_zero (k ∷ [])) j → j ≡ k
one_written k j has = grind (arith, nat_tests, common_steps)

pub none_written : (j : ℕ) → Contains [] j → ⊥
none_written j has = grind (arith, common_steps)

-- what makes the step of one instruction a paired one
pub paired_by : (p : Program) (s : SourceState) (m : Origins) (i : Instr) → p.is_pair s.pc ≡ false → is_paired_step p s m (Some i) ≡ true → is_paired_by p s m i ≡ true
paired_by p s m i single paired = rw single at paired

-- what both machines read in a register
pub record Operand (p : Program) (l : Setup) (r k : ℕ) (s : SourceState) (m : Origins) (t : State) : Type 0 where
  pub stands : Stands p.objects (l.place r) (l.upper r) (m.regs k) (value s.regs k) (register t.hart.regs k)
  pub holds : HoldsWord (value s.regs k)
  pub word : register t.hart.regs k < 4294967296

-- an instruction that is no call of two words
module _ (p : Program) (l : Setup) (live : ℕ → ℕ → Type 0) (r : ℕ) (s : SourceState) (m : Origins) (t : State) (i : Instr) (before : Before p l live r s m t) (single : p.is_pair s.pc ≡ false) (reads : Reads (p.word s.pc) (Some i)) where
  live_read : (k : ℕ) → live s.pc k → Operand p l r k s m t
  live_read k lives =
      record {
        stands = before.alike.regs k lives;
        holds = before.alike.values k lives;
        word = register_word t.hart.regs k before.alike.words.hart.regs;
      }

  zero_read : (k : ℕ) → k ≡ 0 → Operand p l r k s m t
  zero_read k is =
      let first = value_zero s.regs k is in
      let second = register_zero t.hart.regs k is in
      record {
        stands = rw (first, second) refl;
        holds = rw first (omega arith);
        word = rw second (omega arith);
      }

  pub reads_on : (k : ℕ) → (k ≡ 0) ⊎ Contains (used i) k → Operand p l r k s m t
  reads_on k (inl is) = zero_read k is
  reads_on k (inr has) = live_read k (before.rules.uses s.pc k i single reads has)

  pub next_acts : next_state p s (Some i) ≡ acts p s i (p.site s.pc)
  next_acts = rw single refl

  pub next_origins : origins_after p s m (Some i) ≡ origins_by p s m i
  next_origins = rw single refl

  -- what matters behind it and isn't written matters at it
  pub keeps_on : (n : SourceState) → acts p s i (p.site s.pc) ≡ n → n.outcome ≡ GoesOn → (k : ℕ) → live n.pc k → (Contains (defined i) k → ⊥) → live s.pc k
  keeps_on n is =
      subst (λ q. q.outcome ≡ GoesOn → (k : ℕ) → live q.pc k → (Contains (defined i) k → ⊥) → live s.pc k) (next_acts ∙ is)
      (λ going k lives other. before.rules.keeps s i k before.alike.source_going single reads going lives other)

module _ (p : Program) (l : Setup) (live arrive : ℕ → ℕ → Type 0) (tells : List FlatEvent → Type 0) (r : ℕ) (s : SourceState) (m : Origins) (t : State) (i : Instr) (before : Before p l live r s m t) (single : p.is_pair s.pc ≡ false) (reads : Reads (p.word s.pc) (Some i)) where
  -- it leads where its own effect leads
  pub acts_leads : LeadsTold tells p l live arrive r (acts p s i (p.site s.pc)) (origins_by p s m i) t → LeadsTold tells p l live arrive r (next_state p s (Some i)) (origins_after p s m (Some i)) t
  acts_leads leads = rw (next_acts p l live r s m t i before single reads, next_origins p l live r s m t i before single reads) leads

  -- into a fault
  pub faults_both : (why : ℕ) → acts p s i (p.site s.pc) ≡ faulted s why → LeadsTold tells p l live arrive r (next_state p s (Some i)) (origins_after p s m (Some i)) t
  faults_both why effect =
      acts_leads
      (subst (λ n. LeadsTold tells p l live arrive r n (origins_by p s m i) t) (sym effect)
      (fault_leads p l live arrive tells r t (faulted s why) (origins_by p s m i) s.pc why refl))

module _ (p : Program) (l : Setup) (live arrive : ℕ → ℕ → Type 0) (tells : List FlatEvent → Type 0) (r : ℕ) (s : SourceState) (m : Origins) (t : State) (i : Instr) (premises : StepPremises p l live arrive tells r s m t) (single : p.is_pair s.pc ≡ false) (reads : Reads (p.word s.pc) (Some i)) where
  -- the flat machine performs an instruction that stands for it
  pub performs_leads : (w : ℕ) (j : Instr) (n : SourceState) (m' : Origins) → StandsAt l r t.hart.pc w → Means w j → After n.outcome p l live arrive r n m' (performed t j) → LeadsTold tells p l live arrive r n m' t
  performs_leads w j n m' stands means after =
      let step = fetches l r t.hart.pc w t (is_at p l live r s.pc s m t premises.before.alike) stands j means in
      leads_does p l live arrive tells r t n m' (event_of t j ∷ []) (performed t j) (performed t j, (step, refl))
      (premises.told.one single (event_of t j) (performed t j) step) after

  -- it may arrive at the next word
  pub falls_home : IsFollowed i → p.falls s.pc ≡ true → arrive (s.pc + 4) (plus t.hart.pc 4)
  falls_home = premises.unit.falls i single reads
