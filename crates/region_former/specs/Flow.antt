-- Blocks by their numbers: their functions, and where control goes behind them.
use Rattle.std.specs.Prelude.{ℕ, ◌<◌, Bool, false, not, ◌&&◌, length, Option, Some, None}
use Rattle.std.specs.List.Sorted.{IsStrictlyIncreasing}
use Rattle.list_checks.specs.Tests.{any_below}
use Rattle.code_blocks.specs.Blocks.{lies_in_function}
use Rattle.code_blocks.specs.Numbers.{starts_of, end_at}
use Rattle.code_blocks.specs.declared.ends.End.{End}
use Rattle.code_blocks.specs.declared.ends.End.TheVariants.{Fall, Branch, Jump, Call, Tail, Indirect, Stop}
use Rattle.code_blocks.specs.declared.parts.Code.{Code}
use Rattle.region_former.specs.Naming.{function_in, AreOrdered}
use Rattle.code_blocks.specs.Leads.{is_some_of, owner_at, is_of, leads_to}

abbrev pub block_count : Code → ℕ
block_count c = length c.blocks.items

-- a direct edge leads from block `a` to block `b`, which is of function `g`
abbrev pub leads_into_at : Code → ℕ → ℕ → ℕ → Bool
leads_into_at c a g b = is_of c g b && leads_to c a b

-- a direct edge leads from block `a` to a block of function `g`, which is not the driver
abbrev pub leads_into : Code → Option ℕ → ℕ → ℕ → Bool
leads_into c driver a g = not (is_some_of driver g) && any_below (leads_into_at c a g) (block_count c)

-- where a call goes, with or without return
abbrev pub called_address : End → Option ℕ
called_address (Fall next) = None
called_address (Branch target next) = None
called_address (Jump target) = None
called_address (Call target back link) = Some target
called_address (Tail target) = Some target
called_address (Indirect back) = None
called_address Stop = None

abbrev pub lies_at : Code → Option ℕ → ℕ → Bool
lies_at c None g = false
lies_at c (Some address) g = lies_in_function address (function_in c.functions.items g)

-- block `a` ends in a call into the range of function `g`
abbrev pub calls : Code → ℕ → ℕ → Bool
calls c a g = lies_at c (called_address (end_at c a)) g

-- what holds of all code: its functions are disjoint, its blocks and the leaders that a register may name ascend, and
-- the function of each block is one of its functions
abbrev pub IsPlace : ℕ → Option ℕ → Type 0
IsPlace n None = Unit
IsPlace n (Some f) = f < n

pub record IsOrderly (c : Code) : Type 0 where
  pub functions : AreOrdered c.functions.items
  pub ascending : IsStrictlyIncreasing (starts_of c)
  pub indirect : IsStrictlyIncreasing c.indirect.items
  pub owners : (b : ℕ) → b < block_count c → IsPlace (length c.functions.items) (owner_at c b)
