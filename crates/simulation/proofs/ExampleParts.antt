-- What the examples share: a program without sites, states at the start, and when such states are alike.
use Rattle.std.proofs.Common.{◌≡◌, ℕ, ◌+◌, ◌<◌, ◌==◌, ◌&&◌, nat_le, nat_lt, Bool, true, false, if◌then◌else◌, List, [], ◌∷◌, None, refl, arith}
use Rattle.rv32im.specs.Acts.{register}
use Rattle.rv32im.specs.Memory.{Memory}
use Rattle.flat_machine.specs.declared.events.FlatOutcome as flat
use Rattle.flat_machine.specs.Sizes.{HasWords}
use Rattle.flat_machine.specs.State.{State}
use Rattle.cell_values.specs.Objects.{Objects}
use Rattle.cell_values.specs.Laws.{HoldsWord}
use Rattle.cell_values.specs.Origins.{ByLui}
use Rattle.cell_values.specs.Stands.{Places, Uppers, Stands, CellStands, CellHoldsWord}
use Rattle.cell_values.specs.declared.values.Val.TheVariants.{Int}
use Rattle.cell_values.specs.declared.values.Cell.TheVariants.{Byte}
use Rattle.object_machine.specs.declared.events.Outcome.TheVariants.{GoesOn}
use Rattle.object_machine.specs.Program.{Program}
use Rattle.object_machine.specs.State.{SourceState, value}
use Rattle.object_machine.specs.Paired.{at_start}
use Rattle.simulation.specs.Setups.{Setup}
use Rattle.simulation.specs.Relation.{Alike}

-- without sites and calls, where nothing is fixed or held; no block begins
abbrev pub bare : Objects → (ℕ → ℕ) → Program
bare objects word =
    record {
      objects = objects;
      site = λ a. None;
      named = λ a. None;
      word = word;
      is_pair = λ a. false;
      goes = λ a. 0;
      is_block = λ a. false;
      is_reached = λ a. false;
      falls = λ a. false;
      is_fixed = λ a. false;
      is_held = λ a. false;
    }

-- the word that a table has for an address, or 0
abbrev pub word_of : List (ℕ × ℕ) → ℕ → ℕ
word_of [] a = 0
word_of (row ∷ rows) a = if a == row.0 then row.1 else word_of rows a

-- one object, which can be written, of 16 bytes
abbrev pub one_object : (home : ℕ) → Objects
one_object home =
    record {
      grain = 16;
      home = λ o. if o == 0 then home else 64;
      size = λ o. if o == 0 then 16 else 0;
      writable = λ o. o == 0;
    }

-- the same places in each region, and one mapped range, which begins with the code
abbrev pub one_range : (base size code_ends : ℕ) → Places → Uppers → (code : Memory) → Setup
one_range base size code_ends place up code =
    record {
      map = record { base = base; size = size } ∷ [];
      place = λ r. place;
      upper = λ r. up;
      is_still = λ r a. nat_le base a && nat_lt a code_ends;
      still = λ r. code;
    }

-- all registers and bytes are 0
abbrev pub begun : ℕ → SourceState
begun at =
    record {
      pc = at;
      regs = λ k. Int 0;
      fixed = λ a. Byte 0;
      cells = λ o i. Byte 0;
      input = [];
      output = [];
      outcome = GoesOn;
    }

abbrev pub loaded : Setup → (at : ℕ) (regs : ℕ → ℕ) (mem : Memory) → State
loaded l at regs mem =
    record {
      map = l.map;
      hart = record { pc = at; regs = regs; mem = mem };
      input = [];
      output = [];
      outcome = flat.TheVariants.GoesOn;
    }

-- a number in a register that may be x0
pub number_stands : (os : Objects) (place : Places) (up : Uppers) (test : Bool) (n : ℕ) → Stands os place up ByLui (if test then Int 0 else Int n) (if test then 0 else n)
number_stands os place up true n = refl
number_stands os place up false n = refl

pub number_holds : (test : Bool) (n : ℕ) → n < 4294967296 → HoldsWord (if test then Int 0 else Int n)
number_holds true n below = omega arith
number_holds false n below = below

-- such states are alike where their registers and bytes are
pub alike_at_start : (p : Program) (l : Setup) (live : ℕ → ℕ → Type 0) (r u : ℕ) (s : SourceState) (t : State)
    → ((k : ℕ) → live u k → Stands p.objects (l.place r) (l.upper r) (at_start.regs k) (value s.regs k) (register t.hart.regs k))
    → ((k : ℕ) → live u k → HoldsWord (value s.regs k))
    → ((a : ℕ) → p.is_fixed a ≡ true → CellStands (l.place r) (l.upper r) (at_start.fixed a) (s.fixed a) (t.hart.mem a) × CellHoldsWord (s.fixed a))
    → ((o i : ℕ) → i < p.objects.size o → CellStands (l.place r) (l.upper r) (at_start.cells o i) (s.cells o i) (t.hart.mem (l.place r o + i)) × CellHoldsWord (s.cells o i))
    → ((a : ℕ) → l.is_still r a ≡ true → t.hart.mem a ≡ l.still r a)
    → HasWords t
    → (t.map ≡ l.map) × (t.outcome ≡ flat.TheVariants.GoesOn) × (s.outcome ≡ GoesOn) × (t.input ≡ s.input) × (t.output ≡ s.output)
    → Alike p l live r u s at_start t
alike_at_start p l live r u s t regs values fixed cells still words rest =
    record {
      regs = regs;
      values = values;
      fixed = λ a is. (fixed a is).0;
      cells = λ o i below. (cells o i below).0;
      fixed_words = λ a is. (fixed a is).1;
      cell_words = λ o i below. (cells o i below).1;
      still = still;
      map = rest.0;
      going = rest.1;
      source_going = rest.2;
      words = words;
      input = rest.3;
      output = rest.4;
    }
