-- A step is traced, by its events.
use Rattle.std.proofs.Common.{◌≡◌, ℕ, ◌<◌, ◌≤◌, List, length, refl, sym, subst, arith}
use Rattle.std.specs.Prelude.{Option}
use Rattle.rv32im.specs.Table.{OneInstruction}
use Rattle.rv32im.specs.declared.instructions.Instr.{Instr}
use Rattle.flat_machine.specs.State.{State}
use Rattle.flat_machine.specs.Runs as flat_runs
use Rattle.flat_machine.specs.declared.events.FlatEvent.{FlatEvent}
use Rattle.object_machine.specs.declared.events.Outcome.{Outcome}
use Rattle.object_machine.specs.declared.events.Outcome.TheVariants.{GoesOn, Exited, Trapped, AddressFault}
use Rattle.object_machine.specs.State.{SourceState}
use Rattle.object_machine.specs.Step.{next_state, access_of}
use Rattle.object_machine.specs.Runs.{HasEnded}
use Rattle.result_laws.specs.ResultLaws.{most_steps}
use Rattle.compare_runner.specs.declared.marks.TracedStep.{TracedStep}
use Rattle.compare_runner.specs.Comings.{StopsFirst, first_access, IsAtForm}
use Rattle.compare_runner.specs.Tracing.{TracedProgram, region_in, ComesBy, ComesAlong, told_access, CanTell, IsTracedStep}
use Rattle.compare_runner.proofs.PrefixLemmas.{AreOffForms, first_form}

module _ (w : TracedProgram) (region : ℕ) (s : SourceState) (read : Option Instr) (t after : State) (es : List FlatEvent) (few : length es ≤ most_steps w.board) (can : CanTell (access_of w.program s (next_state w.program s read).outcome read) (first_access es)) where
  abbrev next : SourceState
  next = next_state w.program s read

  -- what is told of it
  abbrev pub told_of : TracedStep
  told_of =
      record {
        home = s.pc;
        region = region;
        at = t.hart.pc;
        steps = length es;
        access = told_access (access_of w.program s next.outcome read) (first_access es);
      }

  by_comes : StopsFirst (ComesAlong w region next) t es after → IsTracedStep w region s read t told_of after
  by_comes comes = record { events = es; comes = comes; few = few; can = can; is = refl }

  -- the program goes on, and behind these steps control is at a form of the next unit, which no word before was fetched at
  pub goes_traced : OneInstruction → next.outcome ≡ GoesOn → flat_runs.Does es t after → 0 < length es → IsAtForm w.units w.board region (region_in w region next) next.pc es after → AreOffForms w.units w.board region (region_in w region next) next.pc es → IsTracedStep w region s read t told_of after
  goes_traced one going does some at off =
      by_comes
      (subst (λ (o : Outcome). StopsFirst (λ gs u. (0 < length gs) × ComesBy o w region next gs u) t es after) (sym going)
      (first_form one w.units w.board region (region_in w region next) next.pc es t after does off some at))

  ends_by : (o : Outcome) → HasEnded o → length es ≡ 1 → flat_runs.Does es t after → flat_runs.HasEnded after.outcome → StopsFirst (λ gs u. (0 < length gs) × ComesBy o w region next gs u) t es after
  ends_by GoesOn over single does ended = absurd over
  ends_by (Exited code) over single does ended =
      record { does = does; stops = (omega (arith, single), ended); first = λ fs m less part stops. let some = stops.0 in absurd (omega (arith, single, less, some)) }
  ends_by (Trapped pc) over single does ended =
      record { does = does; stops = (omega (arith, single), ended); first = λ fs m less part stops. let some = stops.0 in absurd (omega (arith, single, less, some)) }
  ends_by (AddressFault pc why) over single does ended =
      record { does = does; stops = (omega (arith, single), ended); first = λ fs m less part stops. let some = stops.0 in absurd (omega (arith, single, less, some)) }

  -- the program ends, and so does the flat machine, in one step
  pub ends_traced : HasEnded next.outcome → length es ≡ 1 → flat_runs.Does es t after → flat_runs.HasEnded after.outcome → IsTracedStep w region s read t told_of after
  ends_traced over single does ended = by_comes (ends_by next.outcome over single does ended)
