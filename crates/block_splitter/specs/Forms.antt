-- The forms of a unit: the words that do for it at its home, in a copy of its block, or displaced from the start of its
-- block to make room for a jump. A copy may stand anywhere, so what is relative to the pc takes more words there.
use Rattle.std.specs.Prelude.{ℕ, suc, ◌+◌, ◌*◌, ◌==◌, nat_le, Bool, not, ◌&&◌, ◌||◌, if◌then◌else◌, List, [], map, length, slice_index_or, Option, Some, None}
use Rattle.std.specs.List.{list_any}
use Rattle.list_checks.specs.Tests.{any_below}
use Rattle.list_checks.specs.Sorted.{sum_below}
use Rattle.rv32im.specs.Words.{plus}
use Rattle.rv32im.specs.declared.instructions.Instr.{Instr}
use Rattle.rv32im.specs.declared.instructions.Instr.TheVariants as instr
use Rattle.object_graph.specs.Lookups.{stands_at}
use Rattle.object_graph.specs.declared.parts.Graph.{Graph}
use Rattle.code_blocks.specs.Blocks.{start_of}
use Rattle.code_blocks.specs.Leads.{no_unit}
use Rattle.code_blocks.specs.declared.parts.Unit.{Unit}
use Rattle.code_blocks.specs.declared.parts.Block.{Block}
use Rattle.code_blocks.specs.declared.ends.End.{End}
use Rattle.code_blocks.specs.declared.ends.End.TheVariants as end
use Rattle.block_splitter.specs.declared.block_range.BlockRange.{BlockRange}
use Rattle.block_splitter.specs.declared.unit_kind.UnitKind.{UnitKind}
use Rattle.block_splitter.specs.declared.unit_kind.UnitKind.TheVariants.{Plain, Upper, Branch, Jump, Call, Tail, Indirect, Linking, Halt}

-- ---- the units of a block, and how it ends

pub record Body : Type 0 where
  pub units : List Unit
  pub end : End

abbrev pub body_of : Block → Body
body_of b = record { units = b.units.items; end = b.end }

abbrev pub no_body : Body
no_body = record { units = []; end = end.Stop }

-- block `b` of a list
abbrev pub body_at : List Block → ℕ → Body
body_at blocks b = slice_index_or (map body_of blocks) b no_body

abbrev pub unit_in : Body → ℕ → Unit
unit_in b k = slice_index_or b.units k no_unit

abbrev pub is_last : Body → ℕ → Bool
is_last b k = suc k == length b.units

-- an instruction at an address makes a part of an object's address
abbrev pub is_site : Graph → ℕ → Bool
is_site g address = list_any (stands_at address) g.sites.items

-- ---- kinds of units

-- a unit behind which its block goes on or falls, at an address; `is_site` tells of sites
abbrev pub straight_kind : (ℕ → Bool) → ℕ → Option Instr → UnitKind
straight_kind is_site at None = Halt
straight_kind is_site at (Some (instr.Auipc rd imm)) = if is_site at then Plain else Upper rd (plus at (imm * 4096))
straight_kind is_site at (Some instr.Ebreak) = Halt
straight_kind is_site at (Some i) = Plain

-- a branch to a target; a call of two words that doesn't come back; a jump to an address in a register
abbrev pub branch_kind : ℕ → Option Instr → UnitKind
branch_kind target (Some (instr.Branch kind rs1 rs2 off)) = Branch kind rs1 rs2 target
branch_kind target other = Halt

abbrev pub tail_kind : ℕ → Option Instr → UnitKind
tail_kind target (Some (instr.Auipc rd imm)) = Tail target rd
tail_kind target other = Halt

abbrev pub indirect_kind : Option ℕ → Option Instr → UnitKind
indirect_kind None i = Indirect
indirect_kind (Some back) (Some (instr.Jalr rd rs1 imm)) = Linking back rd rs1 imm
indirect_kind (Some back) other = Halt

-- the last unit of a block that ends so
abbrev pub last_kind : (ℕ → Bool) → End → Unit → UnitKind
last_kind is_site (end.Branch target next) u = branch_kind target u.instr
last_kind is_site (end.Jump target) u = Jump target
last_kind is_site (end.Call target back link) u = Call target back link
last_kind is_site (end.Tail target) u = tail_kind target u.instr
last_kind is_site (end.Indirect back) u = indirect_kind back u.instr
last_kind is_site (end.Fall next) u = straight_kind is_site u.at u.instr
last_kind is_site end.Stop u = straight_kind is_site u.at u.instr

-- unit `k` of a block
abbrev pub kind_of : (ℕ → Bool) → Body → ℕ → UnitKind
kind_of is_site b k =
    if is_last b k then last_kind is_site b.end (unit_in b k) else straight_kind is_site (unit_in b k).at (unit_in b k).instr

-- ---- ranges of blocks

-- block `b` is one of them
abbrev pub holds_block : ℕ → BlockRange → Bool
holds_block b range = nat_le range.first b && nat_le b range.last

-- one of them begins at an address, by the starts of all blocks
abbrev pub begins_in : List ℕ → BlockRange → ℕ → Bool
begins_in starts range a = any_below (λ b. holds_block b range && (slice_index_or starts b 0 == a)) (length starts)

-- ---- words that run: `inside` tells whether the block that begins at an address is of the same copy, and `next` is
-- where control goes

abbrev pub copied_words : (ℕ → Bool) → ℕ → UnitKind → ℕ
copied_words inside next Plain = 1
copied_words inside next (Upper rd value) = 2
copied_words inside next (Branch kind rs1 rs2 target) = if (next == target) && not (inside target) then 3 else 1
copied_words inside next (Jump target) = if inside target then 1 else 2
copied_words inside next (Call target back link) = 4
copied_words inside next (Tail target register) = 2
copied_words inside next Indirect = 1
copied_words inside next (Linking back link base imm) = 3
copied_words inside next Halt = 1

-- behind the last unit of a copied block that falls out of its copy: a jump of two words
abbrev pub fall_out_words : (ℕ → Bool) → ℕ → End → ℕ
fall_out_words inside next (end.Fall behind) = if inside behind then 0 else 2
fall_out_words inside next (end.Branch target behind) = if (next == target) || inside behind then 0 else 2
fall_out_words inside next other = 0

abbrev pub displaced_words : UnitKind → ℕ
displaced_words Plain = 2
displaced_words (Upper rd value) = 3
displaced_words (Branch kind rs1 rs2 target) = 2
displaced_words (Jump target) = 1
displaced_words (Call target back link) = 3
displaced_words (Tail target register) = 1
displaced_words Indirect = 1
displaced_words (Linking back link base imm) = 3
displaced_words Halt = 1

-- ---- words that stand there

-- in a copy
abbrev pub copy_size : (ℕ → Bool) → UnitKind → ℕ
copy_size inside Plain = 1
copy_size inside (Upper rd value) = 2
copy_size inside (Branch kind rs1 rs2 target) = if inside target then 1 else 3
copy_size inside (Jump target) = if inside target then 1 else 2
copy_size inside (Call target back link) = 4
copy_size inside (Tail target register) = 2
copy_size inside Indirect = 1
copy_size inside (Linking back link base imm) = 3
copy_size inside Halt = 1

abbrev pub fall_out_size : (ℕ → Bool) → End → ℕ
fall_out_size inside (end.Fall behind) = if inside behind then 0 else 2
fall_out_size inside (end.Branch target behind) = if inside behind then 0 else 2
fall_out_size inside other = 0

-- the first `n` units of a block, and the whole block
abbrev pub units_size : (ℕ → Bool) → (ℕ → Bool) → Body → ℕ → ℕ
units_size is_site inside b n = sum_below (λ k. copy_size inside (kind_of is_site b k)) n

abbrev pub block_size : (ℕ → Bool) → (ℕ → Bool) → Body → ℕ
block_size is_site inside b = units_size is_site inside b (length b.units) + fall_out_size inside b.end

-- of the first `n` blocks those that a range holds, and all that it holds
abbrev pub size_below : (ℕ → Bool) → List Block → BlockRange → ℕ → ℕ
size_below is_site blocks range n =
    sum_below (λ b. if holds_block b range then block_size is_site (begins_in (map start_of blocks) range) (body_at blocks b) else 0) n

abbrev pub copy_words : (ℕ → Bool) → List Block → BlockRange → ℕ
copy_words is_site blocks range = size_below is_site blocks range (length blocks)

-- displaced: a branch has three words, of which two run
abbrev pub displaced_size : UnitKind → ℕ
displaced_size (Branch kind rs1 rs2 target) = 3
displaced_size kind = displaced_words kind
