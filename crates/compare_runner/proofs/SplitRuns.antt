-- Runs from one start that are of different lengths: the longer one goes on where the shorter one stopped.
use Rattle.std.proofs.Common.{◌≡◌, ℕ, zero, suc, ◌+◌, ◌-◌, ◌<◌, ◌≤◌, inl, inr, List, ◌++◌, refl, sym, ◌∙◌, ap, subst, arith}
use Rattle.std.proofs.lemmas.Bool.{cases_lt}
use Rattle.rv32im.proofs.Meaning.{same_instruction}
use Rattle.flat_machine.specs.State.{State}
use Rattle.flat_machine.specs.Runs as flat_runs
use Rattle.flat_machine.specs.declared.events.FlatOutcome.{FlatOutcome}
use Rattle.flat_machine.specs.declared.events.FlatOutcome.TheVariants as flat
use Rattle.flat_machine.proofs.Runs as flat_lemmas
use Rattle.flat_machine.proofs.Outputs.{steps_extend}
use Rattle.object_machine.specs.declared.events.Outcome.{Outcome}
use Rattle.object_machine.specs.declared.events.Outcome.TheVariants.{GoesOn, Exited, Trapped, AddressFault}
use Rattle.object_machine.specs.Program.{Program}
use Rattle.object_machine.specs.State.{SourceState}
use Rattle.object_machine.specs.Step.{next_state}
use Rattle.object_machine.specs.Runs.{Steps, HasEnded}
use Rattle.object_machine.specs.Paired.{Origins, origins_after, PairedFrom, PairedSteps}
use Rattle.object_machine.proofs.RunLemmas.{ended_steps, steps_to_end}
use Rattle.simulation.proofs.PairedRuns.{paired_first}
use Rattle.result_laws.specs.Walks.{IsNoFault}

-- ---- of the flat machine

-- what is left of a longer run behind a shorter one
pub steps_between : (j k : ℕ) (s t u : State) → j ≤ k → flat_runs.Steps j s t → flat_runs.Steps k s u → flat_runs.Steps (k - j) t u
steps_between j k s t u le first all =
    let sum : k ≡ j + (k - j) = omega (arith, le) in
    let parts = flat_lemmas.steps_cut j (k - j) s u (subst (λ (i : ℕ). flat_runs.Steps i s u) sum all) in
    subst (λ (x : State). flat_runs.Steps (k - j) x u) (flat_lemmas.one_run same_instruction j s parts.0 t parts.1.0 first) parts.1.1

-- a machine that goes on went on before
goes_at : (o : FlatOutcome) (k : ℕ) (t u : State) → t.outcome ≡ o → flat_runs.Steps k t u → u.outcome ≡ flat.GoesOn → t.outcome ≡ flat.GoesOn
goes_at flat.GoesOn k t u is rest going = is
goes_at (flat.Exited code) k t u is rest going =
    ap (λ (x : State). x.outcome) (sym (flat_lemmas.ended_steps k t u (subst flat_runs.HasEnded (sym is) tt) rest)) ∙ going
goes_at (flat.Trapped pc) k t u is rest going =
    ap (λ (x : State). x.outcome) (sym (flat_lemmas.ended_steps k t u (subst flat_runs.HasEnded (sym is) tt) rest)) ∙ going

pub going_before : (j k : ℕ) (s t u : State) → j ≤ k → flat_runs.Steps j s t → flat_runs.Steps k s u → u.outcome ≡ flat.GoesOn → t.outcome ≡ flat.GoesOn
going_before j k s t u le first all going =
    goes_at t.outcome (k - j) t u refl (steps_between j k s t u le first all) going

-- the first steps of a run lead to a state
pub first_steps : (j k : ℕ) (s u : State) → j ≤ k → flat_runs.Steps k s u → (t : State) × flat_runs.Steps j s t
first_steps j k s u le all =
    let sum : k ≡ j + (k - j) = omega (arith, le) in
    let parts = flat_lemmas.steps_cut j (k - j) s u (subst (λ (i : ℕ). flat_runs.Steps i s u) sum all) in
    (parts.0, parts.1.0)

-- it ends in one state
pub one_end : (j k : ℕ) (s t u : State) → flat_runs.HasEnded t.outcome → flat_runs.HasEnded u.outcome → flat_runs.Steps j s t → flat_runs.Steps k s u → u ≡ t
one_end j k s t u ended other_ended first other =
    elim (cases_lt j k) [
      | inl before ↦
          let le : j ≤ k = omega (arith, before) in
          flat_lemmas.ended_steps (k - j) t u ended (steps_between j k s t u le first other)
      | inr behind ↦ sym (flat_lemmas.ended_steps (j - k) u t other_ended (steps_between k j s u t behind other first))
    ]

-- what it has written begins with what it had written before, and where it has ended with all that it ever writes
pub grown : (j k : ℕ) (s t u : State) → (k < j → flat_runs.HasEnded u.outcome) → flat_runs.Steps j s t → flat_runs.Steps k s u → (more : List ℕ) × (u.output ≡ t.output ++ more)
grown j k s t u ended first other =
    elim (cases_lt k j) [
      | inl before ↦
          let le : k ≤ j = omega (arith, before) in
          let same = flat_lemmas.ended_steps (j - k) u t (ended before) (steps_between k j s u t le other first) in
          steps_extend 0 t u (sym same)
      | inr behind ↦ steps_extend (k - j) t u (steps_between j k s t u behind first other)
    ]

-- ---- of the program

-- a run of two parts is cut between them
steps_cut : (p : Program) (j k : ℕ) (s t : SourceState) → Steps p (j + k) s t → (m : SourceState) × (Steps p j s m × Steps p k m t)
steps_cut p zero k s t r = let e : zero + k ≡ k = omega arith in (s, (refl, subst (λ n. Steps p n s t) e r))
steps_cut p (suc j) k s t r =
    let e : suc j + k ≡ suc (j + k) = omega arith in
    let whole = subst (λ n. Steps p n s t) e r in
    let rest = steps_cut p j k whole.0 t whole.1.1 in
    (rest.0, ((whole.0, (whole.1.0, rest.1.0)), rest.1.1))

-- one that meets no fault met none before
fine_at : (o : Outcome) (p : Program) (k : ℕ) (s t : SourceState) → s.outcome ≡ o → Steps p k s t → IsNoFault t.outcome → IsNoFault o
fine_at GoesOn p k s t is rest fine = tt
fine_at (Exited code) p k s t is rest fine = tt
fine_at (Trapped pc) p k s t is rest fine = tt
fine_at (AddressFault pc why) p k s t is rest fine =
    let same = ended_steps p k s t (subst HasEnded (sym is) tt) rest in
    subst IsNoFault (ap (λ (x : SourceState). x.outcome) same ∙ is) fine

-- where a run of it ended without a fault, each number of steps leads to no fault
pub ended_is_fine : (p : Program) (k : ℕ) (s t : SourceState) → Steps p k s t → HasEnded t.outcome → IsNoFault t.outcome
    → (n : ℕ) → (u : SourceState) × (Steps p n s u × IsNoFault u.outcome)
ended_is_fine p k s t steps ended fine n =
    elim (cases_lt n k) [
      | inl before ↦
          let sum : k ≡ n + (k - n) = omega (arith, before) in
          let parts = steps_cut p n (k - n) s t (subst (λ (i : ℕ). Steps p i s t) sum steps) in
          (parts.0, (parts.1.0, fine_at parts.0.outcome p (k - n) parts.0 t refl parts.1.1 fine))
      | inr behind ↦ (t, (steps_to_end p k n s t behind ended steps, fine))
    ]

-- ---- of paired steps

stays_from : (o : Outcome) (rest : SourceState → Origins → SourceState → Type 0) (p : Program) (s : SourceState) (m : Origins) → HasEnded o → PairedFrom o rest p s m s
stays_from GoesOn rest p s m ended = absurd ended
stays_from (Exited code) rest p s m ended = refl
stays_from (Trapped pc) rest p s m ended = refl
stays_from (AddressFault pc why) rest p s m ended = refl

ended_paired : (p : Program) (n : ℕ) (s : SourceState) (m : Origins) → HasEnded s.outcome → PairedSteps p n s m s
ended_paired p zero s m ended = refl
ended_paired p (suc n) s m ended = stays_from s.outcome (PairedSteps p n) p s m ended

more_from : (o : Outcome) (p : Program) (n k : ℕ) (s t : SourceState) (m : Origins) → ((x : SourceState) (l : Origins) → PairedSteps p n x l t → PairedSteps p k x l t) → PairedFrom o (PairedSteps p n) p s m t → PairedFrom o (PairedSteps p k) p s m t
more_from GoesOn p n k s t m more r =
    (r.0, (r.1.0, (r.1.1.0, more (next_state p s r.0) (origins_after p s m r.0) r.1.1.1)))
more_from (Exited code) p n k s t m more r = r
more_from (Trapped pc) p n k s t m more r = r
more_from (AddressFault pc why) p n k s t m more r = r

paired_to_end : (p : Program) (n j : ℕ) (s t : SourceState) (m : Origins) → HasEnded t.outcome → PairedSteps p n s m t → PairedSteps p (n + j) s m t
paired_to_end p zero j s t m ended r =
    let e : j ≡ zero + j = omega arith in
    subst (λ (x : SourceState). PairedSteps p (zero + j) s m x) (sym r)
    (subst (λ (i : ℕ). PairedSteps p i s m s) e (ended_paired p j s m (subst (λ (x : SourceState). HasEnded x.outcome) r ended)))
paired_to_end p (suc n) j s t m ended r =
    let e : suc (n + j) ≡ suc n + j = omega arith in
    subst (λ (i : ℕ). PairedSteps p i s m t) e
    (more_from s.outcome p n (n + j) s t m (λ x l q. paired_to_end p n j x t l ended q) r)

-- the same of them
pub ended_is_paired : (p : Program) (k : ℕ) (s t : SourceState) (m : Origins) → PairedSteps p k s m t → Steps p k s t → HasEnded t.outcome → IsNoFault t.outcome
    → (n : ℕ) → (u : SourceState) × (PairedSteps p n s m u × IsNoFault u.outcome)
ended_is_paired p k s t m paired steps ended fine n =
    elim (cases_lt n k) [
      | inl before ↦
          let le : n ≤ k = omega (arith, before) in
          let run = ended_is_fine p k s t steps ended fine n in
          (run.0, (paired_first same_instruction p k n s t run.0 m le paired run.1.0, run.1.1))
      | inr behind ↦
          let sum : k + (n - k) ≡ n = omega (arith, behind) in
          (t, (subst (λ (i : ℕ). PairedSteps p i s m t) sum (paired_to_end p k (n - k) s t m ended paired), fine))
    ]
