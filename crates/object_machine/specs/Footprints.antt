-- What a unit asks of memory: its words, and whether it is a load or a store.
use Rattle.std.specs.Prelude.{ℕ, if◌then◌else◌, Option, Some, None}
use Rattle.rv32im.specs.declared.instructions.Instr.{Instr}
use Rattle.rv32im.specs.declared.instructions.Instr.TheVariants.{Load, Store}
use Rattle.object_machine.specs.declared.footprints.AccessKind.{AccessKind}
use Rattle.object_machine.specs.declared.footprints.AccessKind.TheVariants.{Load as Reading, Store as Writing}
use Rattle.object_machine.specs.declared.footprints.Footprint.{Footprint}
use Rattle.object_machine.specs.declared.units.Pair.{Pair}
use Rattle.object_machine.specs.Program.{Program}

-- the access of a word of this meaning
abbrev pub access_kind : Option Instr → Option AccessKind
access_kind (Some (Load kind rd rs1 imm)) = Some Reading
access_kind (Some (Store kind rs1 rs2 imm)) = Some Writing
access_kind read = None

-- a call of two words has two, and every other unit one
abbrev pub words_of_unit : Program → ℕ → ℕ
words_of_unit p a = if p.is_pair a then 2 else 1

-- a call of two words is neither a load nor a store
abbrev pub access_kind_of : Program → ℕ → Option Instr → Option AccessKind
access_kind_of p a read = if p.is_pair a then None else access_kind read

-- the unit at an address whose first word has this meaning
abbrev pub footprint_of : Program → ℕ → Option Instr → Footprint
footprint_of p a read = record { words = words_of_unit p a; access = access_kind_of p a read }

-- that of a unit as the machine keeps it
abbrev pub footprint_by : Option Instr → Option Pair → Footprint
footprint_by read (Some c) = record { words = 2; access = None }
footprint_by read None = record { words = 1; access = access_kind read }
