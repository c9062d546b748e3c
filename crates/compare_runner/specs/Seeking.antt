-- Where the flat machine is looked for, and what its last step tells of that.
use Rattle.std.specs.Prelude.{◌≡◌, ◌⊎◌, ℕ, ◌<◌, ◌≤◌, Bool, true, List, [], ◌∷◌, length, Contains}
use Rattle.std.specs.List.{AllPairs}
use Rattle.board_config.specs.declared.board.Range.{Range}
use Rattle.flat_machine.specs.Mapping.{in_range}
use Rattle.flat_machine.specs.State.{State}
use Rattle.flat_machine.specs.Runs.{Does, HasEnded}
use Rattle.flat_machine.specs.declared.events.FlatEvent.{FlatEvent}
use Rattle.flat_machine.specs.declared.events.FlatOutcome.{FlatOutcome}
use Rattle.object_machine.specs.declared.events.Outcome.{Outcome}
use Rattle.object_machine.specs.declared.events.Outcome.TheVariants.{GoesOn}
use Rattle.relink_core.specs.UnitMaps.{StandsBefore}
use Rattle.relink_core.specs.declared.unit_forms.UnitAt.{UnitAt}
use Rattle.compare_runner.specs.declared.forms.Sought.{Sought}
use Rattle.compare_runner.specs.declared.seeking.Came.{Came}
use Rattle.compare_runner.specs.declared.seeking.Next.{Next}
use Rattle.compare_runner.specs.declared.seeking.Next.TheVariants.{Form, End}
use Rattle.compare_runner.specs.Comings.{StopsFirst, first_access}

-- ---- a form at the pc

-- what stands in this region alone is there: the region was current before, or the last word was fetched in the patch range
abbrev pub IsReached : Sought → Bool → ℕ → Type 0
IsReached sought patched region = (region ≡ sought.to) × ((sought.from ≡ sought.to) ⊎ (patched ≡ true))

abbrev pub IsPresent : Sought → Bool → ℕ → Type 0
IsPresent sought patched region = (region ≡ 0) ⊎ IsReached sought patched region

abbrev pub Counts : Sought → Bool → UnitAt → Type 0
Counts sought patched x = (x.home ≡ sought.home) × IsPresent sought patched x.region

pub record HasForm (sought : Sought) (patched : Bool) (pc : ℕ) : Type 0 where
  pub form : UnitAt
  pub listed : Contains sought.units.now form
  pub at : form.at ≡ pc
  pub counts : Counts sought patched form

-- ---- where the machine is looked for

abbrev pub IsOrdered : Next → Type 0
IsOrdered (Form sought) = AllPairs StandsBefore sought.units.now
IsOrdered End = Unit {0}

abbrev pub IsThere : Next → Bool → FlatOutcome → ℕ → Type 0
IsThere (Form sought) patched outcome pc = HasForm sought patched pc
IsThere End patched outcome pc = HasEnded outcome

-- behind a step of the program that came to an outcome: at a form of the next unit, or at the end
abbrev pub next_by : Outcome → Sought → Next
next_by GoesOn sought = Form sought
next_by outcome sought = End

-- ---- behind steps

-- the last of some steps fetched its word in the patch range; where there is none, what is told of the step before
abbrev pub patched_behind : Range → Bool → List FlatEvent → Bool
patched_behind patch before [] = before
patched_behind patch before (e ∷ es) = patched_behind patch (in_range patch e.at) es

-- behind these steps it is where it is looked for
abbrev pub Finds : Range → Next → Bool → List FlatEvent → State → Type 0
Finds patch next before es t = IsThere next (patched_behind patch before es) t.outcome t.hart.pc

-- the same behind one step or more
abbrev pub Comes : Range → Next → List FlatEvent → State → Type 0
Comes patch next [] t = ⊥
Comes patch next (e ∷ es) t = Finds patch next (in_range patch e.at) es t

-- ---- how many steps

-- `k` steps lead to the first state in which it holds
pub record StopsAfter (Stops : List FlatEvent → State → Type 0) (s : State) (k : ℕ) (t : State) : Type 0 where
  pub events : List FlatEvent
  pub count : length events ≡ k
  pub first : StopsFirst Stops s events t

-- it holds behind no number of steps below a bound
abbrev pub StopsNotBelow : (List FlatEvent → State → Type 0) → ℕ → State → Type 0
StopsNotBelow Stops bound s = (es : List FlatEvent) (t : State) → length es < bound → Does es s t → Stops es t → ⊥

-- it holds behind at most so many steps
pub record StartsWithin (Stops : List FlatEvent → State → Type 0) (most : ℕ) (s : State) : Type 0 where
  pub events : List FlatEvent
  pub last : State
  pub few : length events ≤ most
  pub first : StopsFirst Stops s events last

-- the machine came so to where it holds
pub record CameBy (Stops : List FlatEvent → State → Type 0) (most : ℕ) (s : State) (came : Came) (t : State) : Type 0 where
  pub events : List FlatEvent
  pub first : StopsFirst Stops s events t
  pub few : length events ≤ most
  pub count : came.steps ≡ length events
  pub access : came.access ≡ first_access events
