-- Registers that are asked for where blocks begin, and the objects whose addresses may come to one of them, or to memory.
use Rattle.std.specs.Prelude.{◌≡◌, ◌⊎◌, ◌↔◌, ℕ, ◌<◌, Bool, true, false, List, length, slice_index_or}
use Rattle.rv32im.specs.RegSet.{IsIn}
use Rattle.rv32im.specs.declared.instructions.RegSet.{RegSet}
use Rattle.object_graph.specs.declared.parts.Graph.{Graph}
use Rattle.code_blocks.specs.declared.parts.Code.{Code}
use Rattle.dataflow.specs.Points.{Before, Escapes}

-- ---- a set of registers for each block

abbrev pub no_registers : RegSet
no_registers = record { bits = 0 }

-- register `x` is asked for where block `b` begins
abbrev pub IsAsked : List RegSet → ℕ → ℕ → Type 0
IsAsked asked b x = IsIn (slice_index_or asked b no_registers) x

-- ---- objects

-- a register that is asked for may hold an address of object `o` where its block begins
pub record IsHeld (c : Code) (g : Graph) (asked : List RegSet) (o : ℕ) : Type 0 where
  pub block : ℕ
  pub register : ℕ
  pub is_asked : IsAsked asked block register
  pub holds : Before c g block 0 register o

-- an address of object `o` may stand in memory, or in such a register
abbrev pub IsExposed : Code → Graph → List RegSet → ℕ → Type 0
IsExposed c g asked o = Escapes c g o ⊎ IsHeld c g asked o

-- object `o` is marked
abbrev pub mark_at : List Bool → ℕ → Bool
mark_at marks o = slice_index_or marks o false

-- a mark for each object, and those of the exposed ones are set
pub record AreExposed (c : Code) (g : Graph) (asked : List RegSet) (marks : List Bool) : Type 0 where
  pub size : length marks ≡ length g.objects.items
  pub exact : (o : ℕ) → o < length g.objects.items → (mark_at marks o ≡ true) ↔ IsExposed c g asked o
