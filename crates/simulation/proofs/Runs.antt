-- Whole runs: what each paired step keeps, `n` of them keep.
use Rattle.std.proofs.Common.{◌≡◌, ℕ, zero, suc, ◌+◌, ◌*◌, ◌≤◌, true, List, [], ◌++◌, length, Option, refl, sym, subst, arith}
use Rattle.std.proofs.lemmas.List.{length-append}
use Rattle.rv32im.specs.declared.instructions.Instr.{Instr}
use Rattle.flat_machine.specs.declared.events.FlatOutcome as flat
use Rattle.flat_machine.specs.declared.events.FlatEvent.{FlatEvent}
use Rattle.flat_machine.specs.State.{State}
use Rattle.flat_machine.specs.Runs.{Does}
use Rattle.flat_machine.specs.Runs as flat_runs
use Rattle.flat_machine.proofs.Runs.{does_joined, steps_joined, steps_of_events}
use Rattle.object_machine.specs.declared.events.Outcome.{Outcome}
use Rattle.object_machine.specs.declared.events.Outcome.TheVariants.{GoesOn, Exited, Trapped, AddressFault}
use Rattle.object_machine.specs.Program.{Program}
use Rattle.object_machine.specs.State.{SourceState}
use Rattle.object_machine.specs.Step.{Reads, next_state}
use Rattle.object_machine.specs.Runs.{HasEnded}
use Rattle.object_machine.specs.Paired.{Origins, origins_after, is_paired_step, PairedFrom, PairedSteps}
use Rattle.simulation.specs.Relation.{KeepsPace, Tells}
use Rattle.simulation.specs.Laws.{EndsAlike, Keeps}
use Rattle.simulation.specs.Folds.{PairedBy, Folds, KeepsTold, few_each, pace_of}

-- what a relation says of two machines that go on
pub record Going (s : SourceState) (t : State) : Type 0 where
  pub source : s.outcome ≡ GoesOn
  pub flat : t.outcome ≡ flat.TheVariants.GoesOn
  pub output : t.output ≡ s.output

-- behind a step the machines are related again, or ended alike
abbrev pub Ends : Outcome → (SourceState → Origins → State → Type 0) → SourceState → Origins → State → Type 0
Ends GoesOn Related s m t = Related s m t
Ends outcome Related s m t = EndsAlike outcome s t

abbrev pub Stepped : (List FlatEvent → Type 0) → (SourceState → Origins → State → Type 0) → SourceState → Origins → State → Type 0
Stepped tells Related s m t =
    (es : List FlatEvent) × ((t' : State) × (Does es t t' × (Tells s.outcome tells es × Ends s.outcome Related s m t')))

-- each paired step leads to related states, with the origins set anew
abbrev pub KeptBySteps : Program → (Origins → Origins) → (SourceState → Option Instr → State → List FlatEvent → Type 0) → (SourceState → Origins → State → Type 0) → Type 0
KeptBySteps p reset tells Related =
    (s : SourceState) (m : Origins) (t : State) (read : Option Instr) → Related s m t → Reads (p.word s.pc) read
    → is_paired_step p s m read ≡ true
    → Stepped (tells s read t) Related (next_state p s read) (reset (origins_after p s m read)) t

-- ---- steps of the flat machine

-- `j` more before
pub keeps_behind : (m n bound rest j : ℕ) (s : SourceState) (t t' : State) → flat_runs.Steps j t t' → (s.outcome ≡ GoesOn → m ≤ j + n) → j + rest ≤ bound → Keeps n rest s t' → Keeps m bound s t
keeps_behind m n bound rest j s t t' steps least most keeps =
    let pace = keeps.1.1.0 in
    let short = pace.most in
    let joined : KeepsPace m bound s.outcome (j + keeps.0) =
    record {
      least = λ going. let more = least going in let long = pace.least going in omega (arith, more, long);
      most = omega (arith, most, short);
    } in
    (j + keeps.0, (keeps.1.0, (joined, (steps_joined j keeps.0 t t' keeps.1.0 steps keeps.1.1.1.0, keeps.1.1.1.1))))

-- within a greater bound
pub keeps_within : (n few many : ℕ) (s : SourceState) (t : State) → few ≤ many → Keeps n few s t → Keeps n many s t
keeps_within n few many s t more keeps =
    let pace = keeps.1.1.0 in
    let short = pace.most in
    (keeps.0, (keeps.1.0, (record { least = pace.least; most = omega (arith, short, more) }, keeps.1.1.1)))

-- ---- steps of the other machine

-- one that has ended goes on no more
ended_at : (o : Outcome) (s : SourceState) → s.outcome ≡ o → HasEnded o → s.outcome ≡ GoesOn → ⊥
ended_at GoesOn s is ended going = absurd ended
ended_at (Exited code) s is ended going = absurd (cc)
ended_at (Trapped pc) s is ended going = absurd (cc)
ended_at (AddressFault pc why) s is ended going = absurd (cc)

-- ---- runs

module _ (p : Program) (reset : Origins → Origins) where
  stays_from : (o : Outcome) (rest : SourceState → Origins → SourceState → Type 0) (s s' : SourceState) (m : Origins) → HasEnded o → PairedFrom o rest p s m s' → s' ≡ s
  stays_from GoesOn rest s s' m ended steps = absurd ended
  stays_from (Exited code) rest s s' m ended steps = steps
  stays_from (Trapped pc) rest s s' m ended steps = steps
  stays_from (AddressFault pc why) rest s s' m ended steps = steps

  stays_by : (n : ℕ) (s s' : SourceState) (m : Origins) → HasEnded s.outcome → PairedBy reset p n s m s' → s' ≡ s
  stays_by zero s s' m ended steps = steps
  stays_by (suc n) s s' m ended steps =
      stays_from s.outcome (λ x k u. PairedBy reset p n x (reset k) u) s s' m ended steps

  module _ (tells : SourceState → Option Instr → State → List FlatEvent → Type 0) (run : ℕ → SourceState → SourceState → State → List FlatEvent → Type 0) (folds : Folds p tells run) where
    -- a step goes before those behind it
    module _ (n : ℕ) (s s' : SourceState) (read : Option Instr) (t t' : State) (es : List FlatEvent) (does : Does es t t') (going : s.outcome ≡ GoesOn) (reads : Reads (p.word s.pc) read) where
      more_told : (o : Outcome) (fs : List FlatEvent) → tells s read t es → Tells o (run n (next_state p s read) s' t') fs → Tells o (run (suc n) s s' t) (es ++ fs)
      more_told GoesOn fs told rest = folds.more n s s' read t t' es fs going reads told does rest
      more_told (Exited code) fs told rest = folds.more n s s' read t t' es fs going reads told does rest
      more_told (Trapped pc) fs told rest = folds.more n s s' read t t' es fs going reads told does rest
      more_told (AddressFault pc why) fs told rest = tt

      behind_told : tells s read t es → KeepsTold run n (next_state p s read) s' t' → KeepsTold run (suc n) s s' t
      behind_told told rest =
          (es ++ rest.0, (rest.1.0, (does_joined es rest.0 t t' rest.1.0 does rest.1.1.0, (more_told s'.outcome rest.0 told rest.1.1.1.0, rest.1.1.1.1))))

    -- where it ended, none follow
    module _ (n : ℕ) (s : SourceState) (read : Option Instr) (t t' : State) (es : List FlatEvent) (does : Does es t t') (going : s.outcome ≡ GoesOn) (reads : Reads (p.word s.pc) read) where
      last_told : (o : Outcome) → HasEnded (next_state p s read).outcome → HasEnded o → Tells o (tells s read t) es → Tells o (run (suc n) s (next_state p s read) t) (es ++ [])
      last_told GoesOn ended has told = absurd has
      last_told (Exited code) ended has told =
          folds.more n s (next_state p s read) read t t' es [] going reads told does (folds.ended n (next_state p s read) t' ended)
      last_told (Trapped pc) ended has told =
          folds.more n s (next_state p s read) read t t' es [] going reads told does (folds.ended n (next_state p s read) t' ended)
      last_told (AddressFault pc why) ended has told = tt

      ended_told : (s' : SourceState) (m : Origins) → HasEnded (next_state p s read).outcome → Tells (next_state p s read).outcome (tells s read t) es → EndsAlike (next_state p s read).outcome (next_state p s read) t' → PairedBy reset p n (next_state p s read) m s' → KeepsTold run (suc n) s s' t
      ended_told s' m ended told ends steps =
          let next : SourceState = next_state p s read in
          let stays : s' ≡ next = stays_by n next s' m ended steps in (
            es ++ [],
            (
              t',
              (
                does_joined es [] t t' t' does refl,
                subst (λ (x : SourceState). Tells x.outcome (run (suc n) s x t) (es ++ []) × EndsAlike x.outcome x t') (sym stays)
                    (last_told next.outcome ended ended told, ends),
              ),
            ),
          )

    module _ (Related : SourceState → Origins → State → Type 0) (goes : (s : SourceState) (m : Origins) (t : State) → Related s m t → Going s t) (step : KeptBySteps p reset tells Related) where
      module _ (n : ℕ) (s s' : SourceState) (read : Option Instr) (m : Origins) (t t' : State) (es : List FlatEvent) (does : Does es t t') (going : s.outcome ≡ GoesOn) (reads : Reads (p.word s.pc) read) where
        rest_told : (o : Outcome) → (next_state p s read).outcome ≡ o → (Related (next_state p s read) m t' → KeepsTold run n (next_state p s read) s' t') → Tells o (tells s read t) es → Ends o Related (next_state p s read) m t' → PairedBy reset p n (next_state p s read) m s' → KeepsTold run (suc n) s s' t
        rest_told GoesOn is more told ends steps = behind_told n s s' read t t' es does going reads told (more ends)
        rest_told (Exited code) is more told ends steps =
            ended_told n s read t t' es does going reads s' m (subst HasEnded (sym is) tt)
            (subst (λ o. Tells o (tells s read t) es) (sym is) told)
            (subst (λ o. EndsAlike o (next_state p s read) t') (sym is) ends) steps
        rest_told (Trapped pc) is more told ends steps =
            ended_told n s read t t' es does going reads s' m (subst HasEnded (sym is) tt)
            (subst (λ o. Tells o (tells s read t) es) (sym is) told)
            (subst (λ o. EndsAlike o (next_state p s read) t') (sym is) ends) steps
        rest_told (AddressFault pc why) is more told ends steps =
            ended_told n s read t t' es does going reads s' m (subst HasEnded (sym is) tt)
            (subst (λ o. Tells o (tells s read t) es) (sym is) told)
            (subst (λ o. EndsAlike o (next_state p s read) t') (sym is) ends) steps

      pub runs_told : (n : ℕ) (s s' : SourceState) (m : Origins) (t : State) → Related s m t → PairedBy reset p n s m s' → KeepsTold run n s s' t
      runs_told zero s s' m t related steps =
          let here = goes s m t related in (
            [],
            (
              t,
              (
                refl,
                subst (λ (x : SourceState). Tells x.outcome (run 0 s x t) [] × EndsAlike x.outcome x t) (sym steps)
                    (subst (λ o. Tells o (run 0 s s t) [] × EndsAlike o s t) (sym here.source) (folds.none s t, (here.flat, here.output))),
              ),
            ),
          )
      runs_told (suc n) s s' m t related steps =
          let here = goes s m t related in
          let going : PairedFrom GoesOn (λ x k u. PairedBy reset p n x (reset k) u) p s m s' =
          subst (λ o. PairedFrom o (λ x k u. PairedBy reset p n x (reset k) u) p s m s') here.source steps in
          let read : Option Instr = going.0 in
          let next : SourceState = next_state p s read in
          let after : Origins = reset (origins_after p s m read) in
          let one = step s m t read related going.1.0 going.1.1.0 in
          rest_told n s s' read after t one.1.0 one.0 one.1.1.0 here.source going.1.0 next.outcome refl
          (λ again. runs_told n next s' after one.1.0 again going.1.1.1) one.1.1.1.0 one.1.1.1.1 going.1.1.1

-- ---- how many steps

pub counts_fold : (p : Program) (bound : ℕ) → Folds p (few_each bound) (pace_of bound)
counts_fold p bound =
    record {
      none = λ s t. record { least = λ going. omega arith; most = omega arith };
      ended = λ n s t ended. record { least = λ going. absurd (ended_at s.outcome s refl ended going); most = omega arith };
      more = λ n s s' read t t' es fs going reads few does rest.
          let both = length-append es fs in
          let count : bound + n * bound ≡ suc n * bound = omega arith in
          let some = few.0 in
          let short = few.1 in
          let most = rest.most in
          record {
            least = λ on. let least = rest.least on in omega (arith, both, some, least);
            most = omega (arith, both, count, short, most);
          };
    }

-- a run of which that is told is kept
kept_by : (o : Outcome) (n bound : ℕ) (s s' : SourceState) (t t' : State) (es : List FlatEvent) → s'.outcome ≡ o → Does es t t' → Tells o (pace_of bound n s s' t) es → EndsAlike o s' t' → Keeps n (n * bound) s' t
kept_by GoesOn n bound s s' t t' es is does told ends =
    (length es, (t', (told, (steps_of_events es t t' does, subst (λ o. EndsAlike o s' t') (sym is) ends))))
kept_by (Exited code) n bound s s' t t' es is does told ends =
    (length es, (t', (told, (steps_of_events es t t' does, subst (λ o. EndsAlike o s' t') (sym is) ends))))
kept_by (Trapped pc) n bound s s' t t' es is does told ends =
    (length es, (t', (told, (steps_of_events es t t' does, subst (λ o. EndsAlike o s' t') (sym is) ends))))
kept_by (AddressFault pc why) n bound s s' t t' es is does told ends =
    let none : KeepsPace n (n * bound) s'.outcome 0 = record { least = λ going. absurd (cc); most = omega arith } in
    (0, (t, (none, (refl, subst (λ o. EndsAlike o s' t) (sym is) tt))))

pub keeps_of_told : (n bound : ℕ) (s s' : SourceState) (t : State) → KeepsTold (pace_of bound) n s s' t → Keeps n (n * bound) s' t
keeps_of_told n bound s s' t told =
    kept_by s'.outcome n bound s s' t told.1.0 told.0 refl told.1.1.0 told.1.1.1.0 told.1.1.1.1

-- paired runs keep their origins
paired_on : (o : Outcome) (p : Program) (n : ℕ) (s s' : SourceState) (m : Origins) → ((x : SourceState) (k : Origins) → PairedSteps p n x k s' → PairedBy (λ y. y) p n x k s') → PairedFrom o (PairedSteps p n) p s m s' → PairedFrom o (λ x k u. PairedBy (λ y. y) p n x k u) p s m s'
paired_on GoesOn p n s s' m more steps =
    (steps.0, (steps.1.0, (steps.1.1.0, more (next_state p s steps.0) (origins_after p s m steps.0) steps.1.1.1)))
paired_on (Exited code) p n s s' m more steps = steps
paired_on (Trapped pc) p n s s' m more steps = steps
paired_on (AddressFault pc why) p n s s' m more steps = steps

pub kept_origins : (p : Program) (n : ℕ) (s s' : SourceState) (m : Origins) → PairedSteps p n s m s' → PairedBy (λ y. y) p n s m s'
kept_origins p zero s s' m steps = steps
kept_origins p (suc n) s s' m steps = paired_on s.outcome p n s s' m (λ x k. kept_origins p n x s' k) steps
