-- What becomes of a machine that tries the present unit by its name.
use Rattle.std.specs.Prelude.{◌≡◌, ℕ, true, Option, Some, None}
use Rattle.object_machine.specs.declared.events.Access.{Access}
use Rattle.object_machine.specs.declared.machine.Source.{Source}
use Rattle.code_blocks.specs.Early.{has}
use Rattle.rv32im.specs.declared.instructions.Instr.{Instr}
use Rattle.object_machine.specs.Ops.{IsStraight, IsNamed, NamedBy}
use Rattle.object_machine.specs.Machine.{here, seen, seen_state, next_by, accesses, Becomes}

-- the present unit is this instruction alone
abbrev pub IsPresent : Source → Instr → Type 0
IsPresent m i = IsNamed m.tables.units.items m.tables.starts.items m.place i

abbrev pub IsPresentBy : Source → Option Instr → Type 0
IsPresentBy m o = NamedBy m.tables.units.items m.tables.starts.items m.place o

-- and it leads to the next one
abbrev pub LeadsOn : Source → Type 0
LeadsOn m = IsStraight m.tables.units.items m.tables.starts.items m.place

-- it went on, by a unit that has this access or none
pub record Went (old new : Source) (told : Option Access) : Type 0 where
  pub tables : new.tables ≡ old.tables
  pub state : seen_state new ≡ next_by (seen old) (seen_state old) (here old).instr (here old).pair
  pub outcome : new.outcome ≡ old.outcome
  pub access : told ≡ accesses (seen old) (seen_state old) (here old).instr (here old).pair

-- it is as it was
pub record Stays (old new : Source) : Type 0 where
  pub tables : new.tables ≡ old.tables
  pub place : new.place ≡ old.place
  pub state : seen_state new ≡ seen_state old

abbrev pub Tried : Source → Source → Option (Option Access) → Type 0
Tried old new None = Stays old new
Tried old new (Some told) = Went old new told

-- it went to the block at an address, and nothing else has changed
pub record Lands (old new : Source) (address : ℕ) : Type 0 where
  pub block : has old.tables.starts.items address ≡ true
  pub becomes : Becomes old new (record (seen_state old) { pc = address })
