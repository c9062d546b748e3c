-- The units of blocks, and the edges between blocks, by their numbers.
use Rattle.std.specs.Prelude.{◌≡◌, ℕ, ◌<◌, ◌==◌, Bool, true, false, not, ◌&&◌, List, [], map, length, slice_index_or, Option, Some, None}
use Rattle.std.specs.List.{Contains, list_any}
use Rattle.rv32im.specs.declared.instructions.Instr.{Instr}
use Rattle.rv32im.specs.declared.instructions.Instr.TheVariants.{Jalr}
use Rattle.code_blocks.specs.Edges.{successors, is_indirect_end}
use Rattle.code_blocks.specs.Numbers.{start_at, end_at}
use Rattle.code_blocks.specs.declared.parts.Unit.{Unit}
use Rattle.code_blocks.specs.declared.parts.Block.{Block}
use Rattle.code_blocks.specs.declared.parts.Code.{Code}

-- ---- units

abbrev pub units_in : Block → List Unit
units_in b = b.units.items

-- the units of block `b`
abbrev pub units_at : Code → ℕ → List Unit
units_at c b = slice_index_or (map units_in c.blocks.items) b []

abbrev pub no_unit : Unit
no_unit = record { at = 0; words = 0; instr = None; raw = 0 }

-- a JALR whose base is the register that it writes, other than x0: what it writes isn't known before it jumps
abbrev pub links_base : Option Instr → Bool
links_base None = false
links_base (Some (Jalr rd rs1 imm)) = (rd == rs1) && not (rd == 0)
links_base (Some other) = false

-- ---- functions of blocks

-- an answer is `k`
abbrev pub is_some_of : Option ℕ → ℕ → Bool
is_some_of None k = false
is_some_of (Some j) k = j == k

-- the function in whose range block `b` starts
abbrev pub owner_of : Block → Option ℕ
owner_of b = b.function

abbrev pub owner_at : Code → ℕ → Option ℕ
owner_at c b = slice_index_or (map owner_of c.blocks.items) b None

-- block `b` is of function `f`
abbrev pub is_of : Code → ℕ → ℕ → Bool
is_of c f b = is_some_of (owner_at c b) f

-- ---- edges between blocks

-- a direct edge leads from block `a` to block `b`
abbrev pub leads_to : Code → ℕ → ℕ → Bool
leads_to c a b = list_any (λ x. x == start_at c b) (successors (end_at c a))

abbrev pub IsBlockOf : Code → ℕ → Type 0
IsBlockOf c b = b < length c.blocks.items

-- a direct edge leads from block `b` to block `d`
pub record LeadsOn (c : Code) (b d : ℕ) : Type 0 where
  pub from : IsBlockOf c b
  pub to : IsBlockOf c d
  pub leads : Contains (successors (end_at c b)) (start_at c d)

-- an indirect one does: from a jump to an address in a register to each leader that such a jump may reach
pub record LeadsAnywhere (c : Code) (b d : ℕ) : Type 0 where
  pub from : IsBlockOf c b
  pub to : IsBlockOf c d
  pub ends : is_indirect_end (end_at c b) ≡ true
  pub listed : Contains c.indirect.items (start_at c d)
