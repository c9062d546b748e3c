-- What is told of a whole run of the flat machine, folded from what is told of the steps that it keeps.
use Rattle.std.specs.Prelude.{◌≡◌, ℕ, zero, suc, ◌*◌, ◌≤◌, List, [], ◌++◌, length, Option}
use Rattle.rv32im.specs.declared.instructions.Instr.{Instr}
use Rattle.flat_machine.specs.State.{State}
use Rattle.flat_machine.specs.Runs.{Does}
use Rattle.flat_machine.specs.declared.events.FlatEvent.{FlatEvent}
use Rattle.object_machine.specs.declared.events.Outcome.TheVariants.{GoesOn}
use Rattle.object_machine.specs.Program.{Program}
use Rattle.object_machine.specs.State.{SourceState}
use Rattle.object_machine.specs.Step.{Reads, next_state}
use Rattle.object_machine.specs.Runs.{HasEnded}
use Rattle.object_machine.specs.Paired.{Origins, PairedFrom}
use Rattle.simulation.specs.Relation.{KeepsPace, Tells}
use Rattle.simulation.specs.Laws.{EndsAlike}

-- `n` paired steps lead from `s` with the origins `m` to `t`, where the origins are set anew behind each
abbrev pub PairedBy : (Origins → Origins) → Program → ℕ → SourceState → Origins → SourceState → Type 0
PairedBy reset p zero s m t = t ≡ s
PairedBy reset p (suc n) s m t = PairedFrom s.outcome (λ x k u. PairedBy reset p n x (reset k) u) p s m t

-- `tells s read t es` is told where the other machine makes the step of `s` that reads this, and the flat one does `es`
-- from `t` on; `run n s s' t es` is told of `n` steps from `s` to `s'`. A run's is folded from those of its steps: it
-- holds of no step, a machine that has ended does nothing more, and a step goes before those behind it.
pub record Folds (p : Program) (tells : SourceState → Option Instr → State → List FlatEvent → Type 0) (run : ℕ → SourceState → SourceState → State → List FlatEvent → Type 0) : Type 0 where
  pub none : (s : SourceState) (t : State) → run 0 s s t []
  pub ended : (n : ℕ) (s : SourceState) (t : State) → HasEnded s.outcome → run n s s t []
  pub more : (n : ℕ) (s s' : SourceState) (read : Option Instr) (t t' : State) (es fs : List FlatEvent)
      → s.outcome ≡ GoesOn → Reads (p.word s.pc) read → tells s read t es → Does es t t'
      → run n (next_state p s read) s' t' fs → run (suc n) s s' t (es ++ fs)

-- where `n` steps of the other machine lead from `s` to `s'`, the flat machine does events of which this is told, and
-- has written the same and ended alike, or goes on; a run into a fault promises nothing
abbrev pub KeepsTold : (ℕ → SourceState → SourceState → State → List FlatEvent → Type 0) → ℕ → SourceState → SourceState → State → Type 0
KeepsTold run n s s' t =
    (es : List FlatEvent) × ((t' : State) × (Does es t t' × (Tells s'.outcome (run n s s' t) es × EndsAlike s'.outcome s' t')))

-- ---- how many steps

-- at least one and at most `bound` steps of the flat machine for one of the other
abbrev pub Few : ℕ → List FlatEvent → Type 0
Few bound es = (1 ≤ length es) × (length es ≤ bound)

abbrev pub few_each : ℕ → SourceState → Option Instr → State → List FlatEvent → Type 0
few_each bound s read t es = Few bound es

-- and as many for each of a run
abbrev pub pace_of : ℕ → ℕ → SourceState → SourceState → State → List FlatEvent → Type 0
pace_of bound n s s' t es = KeepsPace n (n * bound) s'.outcome (length es)
