-- What is known while the steps of one block are taken: the counters are changed where it begins and behind its last unit.
use Rattle.std.specs.Prelude.{◌≡◌, ℕ, ◌+◌, ◌-◌, ◌<◌, ◌≤◌, Bool, true, false, List, length, Option, Some, None}
use Rattle.std.specs.List.Sorted.{IsStrictlyIncreasing}
use Rattle.code_blocks.specs.Early.{has}
use Rattle.object_machine.specs.declared.machine.Source.{Source}
use Rattle.object_machine.specs.declared.events.Outcome.TheVariants.{GoesOn}
use Rattle.object_machine.specs.declared.events.Event.{Event}
use Rattle.object_machine.specs.Step.{Step}
use Rattle.object_machine.specs.Program.{Program}
use Rattle.object_machine.specs.State.{SourceState}
use Rattle.object_machine.specs.Machine.{state_of, IsProgram}
use Rattle.profile_runner.specs.Transition.{is_going}
use Rattle.profile_runner.specs.Standing.{region_of}
use Rattle.profile_runner.specs.Tallies.{IsNext, plain_edges}
use Rattle.profile_runner.specs.Tally.{HasRoomToLead, HasBegun, HasAccessed, HasLed}
use Rattle.profile_runner.specs.Running.{IsSoFar}
use Rattle.profile_runner.specs.declared.tally.Tally.{Tally}

-- ---- a run that is counted: where blocks begin and their regions, of which the last is `last`; how many objects may move;
-- the program, and the state in which it began

pub record Course : Type 0 where
  pub starts : List ℕ
  pub regions : List ℕ
  pub last : ℕ
  pub size : ℕ
  pub program : Program
  pub from : SourceState

pub record KnowsBlocks (starts : List ℕ) (p : Program) : Type 0 where
  pub blocks : (a : ℕ) → p.is_block a ≡ has starts a
  pub reached : (a : ℕ) → p.is_reached a ≡ true → p.is_block a ≡ true

pub record IsCourse (c : Course) : Type 0 where
  pub ascending : IsStrictlyIncreasing c.starts
  pub knows : KnowsBlocks c.starts c.program
  pub same : length c.regions ≡ length c.starts
  pub fit : (k : ℕ) → region_of c.regions k ≤ c.last

-- a tally of so many steps, and of so many units of the block that began last
abbrev pub timed : ℕ → ℕ → Tally → Tally
timed steps units t = record t { steps = steps; units = units }

-- `i` steps were taken, and `u` of them since the last block began; the counters have all else of them
abbrev pub StandsAt : Course → ℕ → ℕ → Source → Tally → Option ℕ → Type 0
StandsAt c i u m t coming = IsSoFar c.starts c.regions c.last c.size c.program c.from i m (timed i u t) coming

-- ---- one step

-- a step was taken and its access counted; `stays` tells that the next unit is of the same block
pub record IsTaken (starts : List ℕ) (p : Program) (old new : Source) (next : Option ℕ) (stays : Bool) (t y : Tally) : Type 0 where
  pub is : IsProgram p new
  pub event : Event
  pub step : Step p (state_of p old) event (state_of p new)
  pub accessed : HasAccessed event.access t y
  pub next_is : IsNext starts (is_going event.outcome) (state_of p new).pc next
  pub inside : stays ≡ true → (next ≡ None) × (is_going event.outcome ≡ true)
  pub ended : stays ≡ false → next ≡ None → is_going event.outcome ≡ false

-- ---- steps of one block

-- the next unit was begun, and a block with it or none, of which `v` units ran with it
pub record IsBegun (c : Course) (i v : ℕ) (m : Source) (y : Tally) : Type 0 where
  pub before : Tally
  pub coming : Option ℕ
  pub far : IsSoFar c.starts c.regions c.last c.size c.program c.from i m before coming
  pub begun : HasBegun c.regions coming before (timed i v y)

pub record MayTake (c : Course) (i most : ℕ) (m : Source) (y : Tally) : Type 0 where
  pub course : IsCourse c
  pub begun : IsBegun c i 1 m y
  pub going : (state_of c.program m).outcome ≡ GoesOn
  pub some : 0 < most
  pub few : i + most < 18446744073709551616

-- all but `left` were taken, and the last led to block `next` or to none: the machine goes on where it did to one, and has
-- ended where some are left and it did not
pub record AreTaken (c : Course) (i most : ℕ) (m : Source) (y : Tally) (left : ℕ) (next : Option ℕ) : Type 0 where
  pub some : left < most
  pub short : most - left ≤ 1073741824
  pub led : (k : ℕ) → next ≡ Some k → (state_of c.program m).outcome ≡ GoesOn
  pub ended : next ≡ None → 0 < left → is_going (state_of c.program m).outcome ≡ false
  pub room : HasRoomToLead next y.block (plain_edges y.edges.items)
  pub closed : (z : Tally) → HasLed next y z → StandsAt c (i + (most - left)) (most - left) m z next

-- ---- the same with the block that begins with the first of them

pub record MayCount (c : Course) (regions : List ℕ) (i u most : ℕ) (m : Source) (t : Tally) (block : ℕ) : Type 0 where
  pub course : IsCourse c
  pub regions_are : c.regions ≡ regions
  pub far : StandsAt c i u m t (Some block)
  pub going : (state_of c.program m).outcome ≡ GoesOn
  pub some : 0 < most
  pub few : i + most < 18446744073709551616

pub record AreCounted (c : Course) (i most : ℕ) (m : Source) (t : Tally) (left : ℕ) (next : Option ℕ) : Type 0 where
  pub some : left < most
  pub short : most - left ≤ 1073741824
  pub led : (k : ℕ) → next ≡ Some k → (state_of c.program m).outcome ≡ GoesOn
  pub ended : next ≡ None → 0 < left → is_going (state_of c.program m).outcome ≡ false
  pub far : StandsAt c (i + (most - left)) (most - left) m t next
