-- A trace that isn't lost, step by step: what is left to show of each step of a run.
use Rattle.std.proofs.Common.{◌≡◌, ℕ, zero, suc, false, List, [], ◌∷◌, Option, refl, sym, subst}
use Rattle.std.proofs.lemmas.List.Elements.{All-nil, All-cons}
use Rattle.rv32im.specs.declared.instructions.Instr.{Instr}
use Rattle.flat_machine.specs.State.{State}
use Rattle.cell_values.specs.Stands.{Places}
use Rattle.object_machine.specs.declared.events.Outcome.{Outcome}
use Rattle.object_machine.specs.declared.events.Outcome.TheVariants.{GoesOn, Exited, Trapped, AddressFault}
use Rattle.object_machine.specs.State.{SourceState}
use Rattle.object_machine.specs.Step.{Reads, next_state}
use Rattle.object_machine.specs.Runs.{HasEnded}
use Rattle.compare_runner.specs.declared.marks.TracedStep.{TracedStep}
use Rattle.compare_runner.specs.TraceLaws.{IsAtPlace, AreAtPlaces}
use Rattle.compare_runner.specs.Tracing.{TracedProgram, region_in, IsTracedStep, Traces, Done, Ended, Goes}

-- a step of a program is traced, its access is at the place of its object, and so are the steps that are left
pub record StepIsTraced (w : TracedProgram) (places : ℕ → Places) (Left : ℕ → ℕ → SourceState → State → Type 0) (n region : ℕ) (s : SourceState) (t : State) : Type 0 where
  pub read : Option Instr
  pub reads : Reads (w.program.word s.pc) read
  pub step : TracedStep
  pub after : State
  pub traced : IsTracedStep w region s read t step after
  pub at_place : IsAtPlace (places step.region) step.access
  pub left : Left n (region_in w region (next_state w.program s read)) (next_state w.program s read) after

-- all are
pub record AllAreTraced (w : TracedProgram) (places : ℕ → Places) (n region : ℕ) (s : SourceState) (t : State) : Type 0 where
  pub steps : List TracedStep
  pub traces : Traces w n region s t steps false
  pub at_places : AreAtPlaces places steps

-- `Left` says of a program and the flat machine that so many steps of a run are left, in a region, and that the flat machine is
-- at a form of the next unit
module _ (w : TracedProgram) (places : ℕ → Places) (Left : ℕ → ℕ → SourceState → State → Type 0) (each : (n region : ℕ) (s : SourceState) (t : State) → s.outcome ≡ GoesOn → Left (suc n) region s t → StepIsTraced w places Left n region s t) where
  ended_there : (n region : ℕ) (s : SourceState) (t : State) → HasEnded s.outcome → AllAreTraced w places n region s t
  ended_there n region s t ended =
      record { steps = []; traces = Ended n region s t ended; at_places = All-nil (λ (x : TracedStep). IsAtPlace (places x.region) x.access) }

  traced_there : (n region : ℕ) (s : SourceState) (t : State) → s.outcome ≡ GoesOn → (x : StepIsTraced w places Left n region s t) → AllAreTraced w places n (region_in w region (next_state w.program s x.read)) (next_state w.program s x.read) x.after → AllAreTraced w places (suc n) region s t
  traced_there n region s t going x rest =
      record {
        steps = x.step ∷ rest.steps;
        traces = Goes n region s t x.after x.read x.step rest.steps false going x.reads x.traced rest.traces;
        at_places = All-cons (λ (y : TracedStep). IsAtPlace (places y.region) y.access) x.step rest.steps x.at_place rest.at_places;
      }

  traced_by : (o : Outcome) (n region : ℕ) (s : SourceState) (t : State) → s.outcome ≡ o → Left (suc n) region s t → ((region' : ℕ) (s' : SourceState) (t' : State) → Left n region' s' t' → AllAreTraced w places n region' s' t') → AllAreTraced w places (suc n) region s t
  traced_by GoesOn n region s t is left again =
      let x = each n region s t is left in
      traced_there n region s t is x (again (region_in w region (next_state w.program s x.read)) (next_state w.program s x.read) x.after x.left)
  traced_by (Exited code) n region s t is left again = ended_there (suc n) region s t (subst HasEnded (sym is) tt)
  traced_by (Trapped pc) n region s t is left again = ended_there (suc n) region s t (subst HasEnded (sym is) tt)
  traced_by (AddressFault pc why) n region s t is left again = ended_there (suc n) region s t (subst HasEnded (sym is) tt)

  -- so no trace of such a run is lost
  pub all_traced : (n region : ℕ) (s : SourceState) (t : State) → Left n region s t → AllAreTraced w places n region s t
  all_traced zero region s t left =
      record { steps = []; traces = Done region s t; at_places = All-nil (λ (x : TracedStep). IsAtPlace (places x.region) x.access) }
  all_traced (suc n) region s t left =
      traced_by s.outcome n region s t refl left (λ region' s' t' rest. all_traced n region' s' t' rest)
