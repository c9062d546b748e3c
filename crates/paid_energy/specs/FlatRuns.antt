-- Runs of the flat machine until it ends, with their events, and what they cost.
use Rattle.std.specs.Prelude.{◌≡◌, ℕ, ◌<◌, ◌≤◌, List, length}
use Rattle.board_config.specs.declared.board.Board.{Board}
use Rattle.flat_machine.specs.declared.events.FlatEvent.{FlatEvent}
use Rattle.flat_machine.specs.declared.events.FlatOutcome.{FlatOutcome}
use Rattle.flat_machine.specs.declared.events.FlatOutcome.TheVariants.{GoesOn}
use Rattle.flat_machine.specs.State.{State}
use Rattle.flat_machine.specs.Runs.{Does, Steps, HasEnded}
use Rattle.paid_energy.specs.Costs.{run_cost}

-- A machine takes `most` steps, or fewer where it ends, and these are their events: each step is one of a machine that goes on
pub record RunsFor (most : ℕ) (s : State) (es : List FlatEvent) (t : State) : Type 0 where
  pub does : Does es s t
  pub few : length es ≤ most
  pub ended : length es < most → HasEnded t.outcome
  pub going : (k : ℕ) (u : State) → k < length es → Steps k s u → u.outcome ≡ GoesOn

-- so it does, comes to an outcome, and its steps cost so much
pub record PaysRun (board : Board) (most : ℕ) (s : State) (outcome : FlatOutcome) (steps energy : ℕ) : Type 0 where
  pub events : List FlatEvent
  pub last : State
  pub run : RunsFor most s events last
  pub outcome_is : outcome ≡ last.outcome
  pub steps_are : steps ≡ length events
  pub energy_is : energy ≡ run_cost board events

-- ---- what holds of all such runs

-- a machine runs so in one way
abbrev pub OneRunFor : Type 0
OneRunFor =
    (most : ℕ) (s t u : State) (es fs : List FlatEvent) → RunsFor most s es t → RunsFor most s fs u → (es ≡ fs) × (t ≡ u)

-- and one that ends within one bound runs the same within each greater one
abbrev pub EndedRunsFor : Type 0
EndedRunsFor =
    (most more : ℕ) (s t : State) (es : List FlatEvent) → RunsFor most s es t → HasEnded t.outcome → most ≤ more → RunsFor more s es t
