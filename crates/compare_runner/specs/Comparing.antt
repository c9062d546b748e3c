-- A program's run beside that of its result, each on its machine: where each is looked at, and what is told.
use Rattle.std.specs.Prelude.{◌≡◌, ◌≢◌, ◌⊎◌, ℕ, ◌+◌, ◌*◌, ◌<◌, ◌≤◌, List, ◌++◌, length, take, slice_index}
use Rattle.board_config.specs.declared.board.Board.{Board}
use Rattle.flat_machine.specs.State.{State}
use Rattle.flat_machine.specs.Runs as flat_runs
use Rattle.flat_machine.specs.declared.events.FlatOutcome.{FlatOutcome}
use Rattle.flat_machine.specs.declared.events.FlatOutcome.TheVariants as flat
use Rattle.object_machine.specs.declared.events.Outcome.{Outcome}
use Rattle.object_machine.specs.declared.events.Outcome.TheVariants.{GoesOn, Exited, Trapped, AddressFault}
use Rattle.object_machine.specs.Program.{Program}
use Rattle.object_machine.specs.State.{SourceState}
use Rattle.object_machine.specs.Runs.{Steps, HasEnded}
use Rattle.result_laws.specs.ResultLaws.{most_steps}
use Rattle.compare_runner.specs.declared.comparing.Comparison.{Comparison}
use Rattle.compare_runner.specs.declared.comparing.Comparison.TheVariants.{Same, Differs, SourceFault}

-- ---- where a run is looked at

-- `k` steps lead from `s` to `t`, the first state in which `Stops` holds, or the last of `most` steps
pub record RunsUntil (S : Type 0) (steps : ℕ → S → S → Type 0) (Stops : S → Type 0) (most : ℕ) (s : S) (k : ℕ) (t : S) : Type 0 where
  pub ran : steps k s t
  pub within : k ≤ most
  pub reason : k < most → Stops t
  pub first : (j : ℕ) (u : S) → j < k → steps j s u → Stops u → ⊥

abbrev pub IsOver : SourceState → Type 0
IsOver s = HasEnded s.outcome

-- a program takes `n` steps, or fewer where it ends
abbrev pub SourceEnds : Program → ℕ → SourceState → ℕ → SourceState → Type 0
SourceEnds p n start k s = RunsUntil SourceState (Steps p) IsOver n start k s

-- as many bytes as by a program that goes on, or more
abbrev pub HasCaughtUp : Outcome → ℕ → ℕ → Type 0
HasCaughtUp GoesOn written n = written ≤ n
HasCaughtUp outcome written n = ⊥

-- a result whose program came to an outcome with so many bytes written is run far enough: it has ended or
-- caught up
abbrev pub IsEnough : Outcome → ℕ → FlatOutcome → ℕ → Type 0
IsEnough outcome written other n = flat_runs.HasEnded other ⊎ HasCaughtUp outcome written n

abbrev pub IsFar : Outcome → ℕ → State → Type 0
IsFar outcome written t = IsEnough outcome written t.outcome (length t.output)

-- the result of a program that came to `s` in `k` steps takes steps until it is run far enough, or as many as
-- are enough for any result
abbrev pub ResultEnds : Board → ℕ → SourceState → State → ℕ → State → Type 0
ResultEnds board k s start m t =
    RunsUntil State flat_runs.Steps (IsFar s.outcome (length s.output)) ((k + 1) * most_steps board) start m t

-- ---- what is told of both

-- Both exited with one code, or both trapped, and wrote the same bytes; or the program goes on, and its bytes
-- are the first of the result's. An address fault is like nothing.
abbrev pub AreAlike : Outcome → List ℕ → FlatOutcome → List ℕ → Type 0
AreAlike GoesOn xs other ys = (more : List ℕ) × (ys ≡ xs ++ more)
AreAlike (Exited code) xs other ys = (other ≡ flat.Exited code) × (ys ≡ xs)
AreAlike (Trapped pc) xs other ys = ((a : ℕ) × (other ≡ flat.Trapped a)) × (ys ≡ xs)
AreAlike (AddressFault pc why) xs other ys = ⊥

-- the first place, from 0, at which two lists differ, or else the shorter length
pub record IsFirstDifference (xs ys : List ℕ) (at : ℕ) : Type 0 where
  pub same : take at xs ≡ take at ys
  pub of_first : at ≤ length xs
  pub of_second : at ≤ length ys
  pub differ : at < length xs → at < length ys → slice_index xs at ≢ slice_index ys at

-- what is told of a program that met no address fault, and of its result
abbrev pub Judges : Outcome → List ℕ → FlatOutcome → List ℕ → Comparison → Type 0
Judges outcome xs other ys (Same told) = (told ≡ outcome) × AreAlike outcome xs other ys
Judges outcome xs other ys (Differs at) = (AreAlike outcome xs other ys → ⊥) × IsFirstDifference xs ys at
Judges outcome xs other ys (SourceFault pc why) = ⊥

-- an address fault of the program is told alone, whatever the result does
abbrev pub Reports : Outcome → (Comparison → Type 0) → Comparison → Type 0
Reports (AddressFault pc why) judges c = c ≡ SourceFault pc why
Reports outcome judges c = judges c

-- a program that came to `s` in `k` steps beside its result, which begins at `start`
abbrev pub JudgesRun : Board → ℕ → SourceState → State → Comparison → Type 0
JudgesRun board k s start c =
    (m : ℕ)
    × ((t : State) × (ResultEnds board k s start m t × Judges s.outcome s.output t.outcome t.output c))

-- the comparison of at most `n` steps of a program from a state with its result from another
abbrev pub Compares : Program → Board → ℕ → SourceState → State → Comparison → Type 0
Compares p board n source_start result_start c =
    (k : ℕ)
    × ((s : SourceState)
    × (SourceEnds p n source_start k s × Reports s.outcome (JudgesRun board k s result_start) c))
