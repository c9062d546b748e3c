-- By which blocks control may enter a region, and which of them cannot be entered.
use Rattle.std.specs.Prelude.{ℕ, ◌==◌, Bool, true, false, not, ◌&&◌, ◌||◌, List, slice_index_or, Option, Some, None}
use Rattle.list_checks.specs.Tests.{any_below}
use Rattle.rv32im.specs.declared.instructions.Instr.{Instr}
use Rattle.rv32im.specs.declared.instructions.Instr.TheVariants as instr
use Rattle.code_blocks.specs.Early.{has}
use Rattle.code_blocks.specs.Numbers.{starts_of, start_at, end_at}
use Rattle.code_blocks.specs.declared.ends.End.{End}
use Rattle.code_blocks.specs.declared.ends.End.TheVariants.{Fall, Branch, Jump, Call, Tail, Indirect, Stop}
use Rattle.code_blocks.specs.declared.parts.Unit.{Unit}
use Rattle.code_blocks.specs.declared.parts.Code.{Code}
use Rattle.region_former.specs.Flow.{block_count}
use Rattle.code_blocks.specs.Leads.{leads_to, units_at, no_unit, links_base}

-- the region of block `b`
abbrev pub region_in : List ℕ → ℕ → ℕ
region_in regions b = slice_index_or regions b 0

-- ---- border entries

-- a direct edge leads to block `b` from block `a`, which has another region or none
abbrev pub comes_from_outside : Code → List ℕ → ℕ → ℕ → Bool
comes_from_outside c regions b a = leads_to c a b && not (region_in regions a == region_in regions b)

-- a block with a region that a jump to an address in a register may reach, or a direct edge from a block of
-- another region or none
abbrev pub is_border : Code → List ℕ → ℕ → Bool
is_border c regions b =
    not (region_in regions b == 0)
    && (has c.indirect.items (start_at c b) || any_below (comes_from_outside c regions b) (block_count c))

-- ---- why an entry cannot be copied

-- the first unit of block `b`
abbrev pub first_unit : Code → ℕ → Unit
first_unit c b = slice_index_or (units_at c b) 0 no_unit

abbrev pub is_branch_unit : Option Instr → Bool
is_branch_unit None = false
is_branch_unit (Some (instr.Branch kind rs1 rs2 off)) = true
is_branch_unit (Some other) = false

abbrev pub is_jal_unit : Option Instr → Bool
is_jal_unit None = false
is_jal_unit (Some (instr.Jal rd off)) = true
is_jal_unit (Some other) = false

-- a branch, a JAL, or a call of two words
abbrev pub is_direct_unit : Unit → Bool
is_direct_unit u = is_branch_unit u.instr || is_jal_unit u.instr || (u.words == 2)

-- where a unit that ends a block goes, if its address is known; and what is behind a branch
abbrev pub target_of : End → Option ℕ
target_of (Fall next) = None
target_of (Branch target next) = Some target
target_of (Jump target) = Some target
target_of (Call target back link) = Some target
target_of (Tail target) = Some target
target_of (Indirect back) = None
target_of Stop = None

abbrev pub behind_branch : End → Option ℕ
behind_branch (Branch target next) = Some next
behind_branch other = None

-- an address is known at which no block begins
abbrev pub misses : Code → Option ℕ → Bool
misses c None = false
misses c (Some address) = not (has (starts_of c) address)

-- the first unit of block `b` is a branch, a JAL or a call of two words, whose target is no leader. Such a unit
-- ends its block
abbrev pub misses_target : Code → ℕ → Bool
misses_target c b = is_direct_unit (first_unit c b) && misses c (target_of (end_at c b))

-- it is a branch, and the next word is no leader
abbrev pub misses_next : Code → ℕ → Bool
misses_next c b = is_branch_unit (first_unit c b).instr && misses c (behind_branch (end_at c b))

-- block `b` cannot be entered through a stub: it has no dead register, or one of these holds of its first unit
abbrev pub is_barred : Code → List Bool → ℕ → Bool
is_barred c has_dead b =
    not (slice_index_or has_dead b false)
    || links_base (first_unit c b).instr
    || misses_target c b
    || misses_next c b

-- ---- regions that become none

-- block `b` is a border entry of region `r` that cannot be entered
abbrev pub bars : Code → List Bool → List ℕ → ℕ → ℕ → Bool
bars c has_dead regions r b = (region_in regions b == r) && is_border c regions b && is_barred c has_dead b

-- region `r` becomes none where this holds of one of its border entries
abbrev pub becomes_none : Code → List Bool → List ℕ → ℕ → Bool
becomes_none c has_dead regions r = any_below (bars c has_dead regions r) (block_count c)
