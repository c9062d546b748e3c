-- The state that a machine of the code stands for, and the program that it knows.
use Rattle.std.specs.Prelude.{◌≡◌, ℕ, ◌+◌, ◌<◌, nat_lt, Bool, ◌||◌, if◌then◌else◌, List, drop, length, map, is_some, Option, Some, None}
use Rattle.std.specs.List.{list_any}
use Rattle.rv32im.specs.declared.instructions.Instr.{Instr}
use Rattle.code_blocks.specs.Early.{has}
use Rattle.cell_values.specs.Stored.{cells_of}
use Rattle.cell_values.specs.Objects.{Objects, objects_of}
use Rattle.cell_values.specs.declared.values.Val.{Val}
use Rattle.cell_values.specs.declared.values.Val.TheVariants.{Int, Addr, Unknown}
use Rattle.cell_values.specs.declared.values.Cell.{Cell}
use Rattle.cell_values.specs.declared.values.Cell.TheVariants.{Byte, Part, Mist}
use Rattle.object_machine.specs.declared.events.Access.{Access}
use Rattle.object_machine.specs.declared.events.Event.{Event}
use Rattle.object_machine.specs.declared.events.Outcome.{Outcome}
use Rattle.object_machine.specs.declared.events.Outcome.TheVariants.{GoesOn}
use Rattle.object_machine.specs.declared.units.Pair.{Pair}
use Rattle.object_machine.specs.declared.units.Prepared.{Prepared}
use Rattle.object_machine.specs.declared.tables.Tables.{Tables}
use Rattle.object_machine.specs.declared.machine.Source.{Source}
use Rattle.object_machine.specs.Program.{Program, holds}
use Rattle.object_machine.specs.State.{SourceState, wrote}
use Rattle.object_machine.specs.Registers.{registers_of}
use Rattle.object_machine.specs.Memory.{stored_at}
use Rattle.object_machine.specs.Places.{InFixed, InObject, byte_place, write_fault}
use Rattle.object_machine.specs.Start.{where_memory}
use Rattle.object_machine.specs.Flow.{jumps}
use Rattle.object_machine.specs.Step.{one_word, stays_event, access_by}
use Rattle.object_machine.specs.Reports.{Reports}
use Rattle.object_machine.specs.Layout.{is_in_some}
use Rattle.object_machine.specs.Units.{unit_in, target_of}

-- ---- the state

-- where fixed memory and the objects lie, its store has their cells by address
abbrev pub pictured : (ℕ → Bool) → Objects → Source → SourceState
pictured is_fixed os m =
    record {
      pc = m.pc;
      regs = registers_of m.regs;
      fixed = λ a. where_memory (is_fixed a) (cells_of m.memory a);
      cells = λ o i. where_memory (nat_lt i (os.size o)) (cells_of m.memory (os.home o + i));
      input = drop m.consumed m.input.items;
      output = m.output.items;
      outcome = m.outcome;
    }

abbrev pub state_of : Program → Source → SourceState
state_of p m = pictured p.is_fixed p.objects m

-- ---- the program

-- the tables say of a program what the machine asks
pub record Agrees (p : Program) (t : Tables) : Type 0 where
  pub objects : p.objects ≡ objects_of t.graph
  pub held : (a : ℕ) → p.is_held a ≡ list_any (holds a) t.graph.objects.items
  pub fixed : (a : ℕ) → p.is_fixed a ≡ is_in_some t.fixed.items a
  pub blocks : (a : ℕ) → p.is_block a ≡ has t.starts.items a
  pub reached : (a : ℕ) → p.is_reached a ≡ has t.reached.items a
  pub units : (k : ℕ) → k < length t.units.items → Reports p (unit_in t.units.items k)

abbrev pub IsProgram : Program → Source → Type 0
IsProgram p m = Agrees p m.tables

-- ---- the program as the tables tell it, where the machine is at a unit

abbrev pub seen_program : Tables → Prepared → Program
seen_program t u =
    record {
      objects = objects_of t.graph;
      site = λ _. target_of u.site;
      named = λ _. None;
      word = λ _. 0;
      is_pair = λ _. is_some u.pair;
      goes = λ _. 0;
      is_block = has t.starts.items;
      is_reached = has t.reached.items;
      falls = λ _. u.goes_on || has t.starts.items (u.at + 4);
      is_fixed = is_in_some t.fixed.items;
      is_held = λ a. list_any (holds a) t.graph.objects.items;
    }

abbrev pub here : Source → Prepared
here m = unit_in m.tables.units.items m.place

abbrev pub seen : Source → Program
seen m = seen_program m.tables (here m)

abbrev pub seen_state : Source → SourceState
seen_state m = pictured (is_in_some m.tables.fixed.items) (objects_of m.tables.graph) m

-- ---- what a step does, by the unit

abbrev pub link_of : SourceState → Pair → Val
link_of s c = if c.links then Int (s.pc + 8) else Unknown

abbrev pub calls : Program → SourceState → Pair → SourceState
calls p s c = jumps p s c.target (wrote s c.register (link_of s c))

abbrev pub next_by : Program → SourceState → Option Instr → Option Pair → SourceState
next_by p s read (Some c) = calls p s c
next_by p s read None = one_word p s read

abbrev pub accesses : Program → SourceState → Option Instr → Option Pair → Option Access
accesses p s read (Some c) = None
accesses p s read None = access_by p s read

-- only a step after which the machine goes on tells of its access
abbrev pub when_going : Outcome → Option Access → Option Access
when_going GoesOn access = access
when_going outcome access = None

pub record Runs (m : Source) (e : Event) (t : SourceState) : Type 0 where
  pub state : t ≡ next_by (seen m) (seen_state m) (here m).instr (here m).pair
  pub event : e ≡
      record {
        at = m.pc;
        outcome = t.outcome;
        access = when_going t.outcome (accesses (seen m) (seen_state m) (here m).instr (here m).pair);
      }

abbrev pub StepsFrom : Outcome → Source → Event → SourceState → Type 0
StepsFrom GoesOn m e t = Runs m e t
StepsFrom outcome m e t = (t ≡ seen_state m) × (e ≡ stays_event (seen_state m))

-- ---- what a part of a step leaves: the tables, and a state

abbrev pub Becomes : Source → Source → SourceState → Type 0
Becomes old new s = (new.tables ≡ old.tables) × (seen_state new ≡ s)

-- ---- bytes as cells

abbrev pub byte_cells : List ℕ → List Cell
byte_cells bytes = map Byte bytes

-- the byte that a cell is, if it is a plain number
abbrev pub plain_of : Cell → Option ℕ
plain_of (Byte b) = Some b
plain_of (Part hi o d k) = None
plain_of Mist = None

-- cells put from a value on
abbrev pub stored_from : SourceState → Val → List Cell → SourceState
stored_from s (Int a) cs = stored_at s (InFixed a) cs
stored_from s (Addr o d) cs = stored_at s (InObject o d) cs
stored_from s x cs = s

-- the first n bytes behind a value can be written
abbrev pub HasRoom : Program → Val → ℕ → Type 0
HasRoom p x n = (i : ℕ) → i < n → write_fault p (byte_place p x i) ≡ None
