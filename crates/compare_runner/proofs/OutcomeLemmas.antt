-- Outcomes of a program that meets no fault, and where a run of the flat machine leads.
use Rattle.std.proofs.Common.{◌≡◌, ◌⊎◌, inl, inr, List, length, refl, sym, subst}
use Rattle.rv32im.proofs.Meaning.{same_instruction}
use Rattle.flat_machine.specs.State.{State}
use Rattle.flat_machine.specs.Runs.{Does}
use Rattle.flat_machine.specs.Runs as flat_runs
use Rattle.flat_machine.specs.declared.events.FlatEvent.{FlatEvent}
use Rattle.flat_machine.proofs.Runs.{steps_of_events, one_run}
use Rattle.object_machine.specs.declared.events.Outcome.{Outcome}
use Rattle.object_machine.specs.declared.events.Outcome.TheVariants.{GoesOn, Exited, Trapped, AddressFault}
use Rattle.object_machine.specs.State.{SourceState}
use Rattle.object_machine.specs.Runs.{HasEnded}
use Rattle.simulation.specs.Laws.{EndsAlike}
use Rattle.result_laws.specs.Walks.{IsNoFault}
use Rattle.compare_runner.proofs.EndingSteps.{IsOver}

-- ---- outcomes

-- of one that isn't a fault: it goes on, or is over
pub goes_or_over : (o : Outcome) → IsNoFault o → (o ≡ GoesOn) ⊎ IsOver o
goes_or_over GoesOn fine = inl refl
goes_or_over (Exited code) fine = inr tt
goes_or_over (Trapped pc) fine = inr tt
goes_or_over (AddressFault pc why) fine = absurd fine

pub over_ended : (o : Outcome) → IsOver o → HasEnded o
over_ended GoesOn over = absurd over
over_ended (Exited code) over = tt
over_ended (Trapped pc) over = tt
over_ended (AddressFault pc why) over = tt

pub over_fine : (o : Outcome) → IsOver o → IsNoFault o
over_fine GoesOn over = tt
over_fine (Exited code) over = tt
over_fine (Trapped pc) over = tt
over_fine (AddressFault pc why) over = over

pub ended_not : (o : Outcome) → HasEnded o → o ≡ GoesOn → ⊥
ended_not o ended going = subst HasEnded going ended

-- the flat machine has ended, too
pub ends_flat : (o : Outcome) (s : SourceState) (t : State) → IsOver o → EndsAlike o s t → flat_runs.HasEnded t.outcome
ends_flat GoesOn s t over alike = absurd over
ends_flat (Exited code) s t over alike = subst flat_runs.HasEnded (sym alike.0) tt
ends_flat (Trapped pc) s t over alike = subst flat_runs.HasEnded (sym alike.0.1) tt
ends_flat (AddressFault pc why) s t over alike = absurd over

-- ---- runs

-- events lead to one state
pub one_end : (es : List FlatEvent) (s t u : State) → Does es s t → Does es s u → t ≡ u
one_end es s t u does other = one_run same_instruction (length es) s t u (steps_of_events es s t does) (steps_of_events es s u other)
