-- At which units of a program a register is live: some path of units uses it before it is defined.
use Rattle.std.specs.Prelude.{◌≡◌, ℕ, suc, ◌<◌, List, [], length, slice_index_or, Option, Some, None}
use Rattle.std.specs.List.{Contains}
use Rattle.rv32im.specs.Acts.{used, defined}
use Rattle.rv32im.specs.declared.instructions.Instr.{Instr}
use Rattle.code_blocks.specs.Numbers.{start_at}
use Rattle.code_blocks.specs.Leads.{units_at, no_unit, IsBlockOf, LeadsOn, LeadsAnywhere}
use Rattle.code_blocks.specs.declared.parts.Unit.{Unit}
use Rattle.code_blocks.specs.declared.parts.Code.{Code}

-- ---- units

-- unit `k` of a list
abbrev pub unit_in : List Unit → ℕ → Unit
unit_in us k = slice_index_or us k no_unit

-- the registers that a unit uses, and those that it defines: those that its instruction reads and writes, without
-- x0. A word that means nothing has none. A call of two words is its AUIPC, which reads none and writes one: what its
-- JALR reads, it wrote itself
abbrev pub uses_of : Option Instr → List ℕ
uses_of None = []
uses_of (Some i) = used i

abbrev pub defs_of : Option Instr → List ℕ
defs_of None = []
defs_of (Some i) = defined i

abbrev pub Uses : Unit → ℕ → Type 0
Uses u x = Contains (uses_of u.instr) x

abbrev pub Defines : Unit → ℕ → Type 0
Defines u x = Contains (defs_of u.instr) x

-- ---- paths of units

-- block `b` has a unit `k`
abbrev pub IsUnitOf : Code → ℕ → ℕ → Type 0
IsUnitOf c b k = k < length (units_at c b)

-- unit `k` of block `b` is its last
abbrev pub IsLastOf : Code → ℕ → ℕ → Type 0
IsLastOf c b k = suc k ≡ length (units_at c b)

-- behind unit `k` of block `b` a unit runs next: the one behind it in the block, or behind the last one the first
-- of a block to which an edge leads
pub data Next (c : Code) : ℕ → ℕ → ℕ → ℕ → Type 0 where
  within : (b k : ℕ) → IsUnitOf c b (suc k) → Next c b k b (suc k)
  direct : (b k d : ℕ) → IsLastOf c b k → LeadsOn c b d → Next c b k d 0
  indirect : (b k d : ℕ) → IsLastOf c b k → LeadsAnywhere c b d → Next c b k d 0

-- Register `x` is live at unit `k` of block `b`: a path of units leads from there to one that uses `x`, and no earlier
-- one on it defines `x`.
pub data LiveAt (c : Code) (x : ℕ) : ℕ → ℕ → Type 0 where
  used_there : (b k : ℕ) → IsUnitOf c b k → Uses (unit_in (units_at c b) k) x → LiveAt c x b k
  used_later : (b k d j : ℕ) → IsUnitOf c b k → (Defines (unit_in (units_at c b) k) x → ⊥) → Next c b k d j → LiveAt c x d j → LiveAt c x b k

-- register `x` is live where the block at `leader` begins
pub record Live (c : Code) (leader x : ℕ) : Type 0 where
  pub block : ℕ
  pub is_block : IsBlockOf c block
  pub begins : start_at c block ≡ leader
  pub live : LiveAt c x block 0
