-- The words of a copy of a piece, and of a first unit that makes room for a jump. Ways back are home addresses, and
-- control leaves to home addresses, by a register that is dead there.
use Rattle.std.specs.Prelude.{◌≡◌, ℕ, ◌+◌, ◌*◌, ◌<◌, ◌==◌, Bool, true, if◌then◌else◌, List, [], ◌∷◌, ◌++◌, length, map, take, drop, pos}
use Rattle.std.specs.Bool.{MatchBool}
use Rattle.std.specs.List.{list_any}
use Rattle.std.specs.List.Sorted.{IsStrictlyIncreasing}
use Rattle.list_checks.specs.Sorted.{collected}
use Rattle.rv32im.specs.Table.{Means, IsEvenWithin}
use Rattle.rv32im.specs.Sequences.{load_immediate, jump_absolute, distance, inverse, MeanAll}
use Rattle.rv32im.specs.declared.instructions.BranchKind.{BranchKind}
use Rattle.rv32im.specs.declared.instructions.Instr.{Instr}
use Rattle.rv32im.specs.declared.instructions.Instr.TheVariants as instr
use Rattle.object_graph.specs.declared.parts.Graph.{Graph}
use Rattle.code_blocks.specs.Numbers.{starts_of, start_at, end_at}
use Rattle.code_blocks.specs.declared.parts.Unit.{Unit}
use Rattle.code_blocks.specs.declared.parts.Code.{Code}
use Rattle.code_blocks.specs.declared.ends.End.{End}
use Rattle.code_blocks.specs.declared.ends.End.TheVariants as end
use Rattle.block_splitter.specs.declared.block_range.BlockRange.{BlockRange}
use Rattle.block_splitter.specs.declared.unit_kind.UnitKind.{UnitKind}
use Rattle.block_splitter.specs.declared.unit_kind.UnitKind.TheVariants.{Plain, Upper, Branch, Jump, Call, Tail, Indirect, Linking, Halt}
use Rattle.block_splitter.specs.Forms.{is_site, body_at, unit_in, kind_of, holds_block, begins_in, copy_size, fall_out_size, units_size, size_below, copy_words}
use Rattle.block_splitter.specs.Pieces.{IsTemporary}

-- ---- sites

-- an address, and the word that is to stand there
abbrev pub Patch : Type 0
Patch = ℕ × ℕ

abbrev pub address_in : Patch → ℕ
address_in p = p.0

-- the word of a unit: at a site the one that a list has for it, else its own
abbrev pub word_of_unit : List Patch → Unit → ℕ
word_of_unit [] u = u.raw
word_of_unit (p ∷ ps) u = if p.0 == u.at then p.1 else word_of_unit ps u

-- ---- a copy

-- what is copied, to which address, and the words of its sites
pub record Copy : Type 0 where
  pub code : Code
  pub graph : Graph
  pub range : BlockRange
  pub at : ℕ
  pub sites : List Patch

abbrev pub is_inside : Copy → ℕ → Bool
is_inside x a = begins_in (starts_of x.code) x.range a

-- unit `k` of block `b`, and its kind
abbrev pub unit_of : Copy → ℕ → ℕ → Unit
unit_of x b k = unit_in (body_at x.code.blocks.items b) k

abbrev pub kind_in : Copy → ℕ → ℕ → UnitKind
kind_in x b k = kind_of (is_site x.graph) (body_at x.code.blocks.items b) k

-- how many words of the copy stand before block `b`, and before its unit `k`
abbrev pub words_before : Copy → ℕ → ℕ
words_before x b = size_below (is_site x.graph) x.code.blocks.items x.range b

abbrev pub place_of : Copy → ℕ → ℕ → ℕ
place_of x b k = words_before x b + units_size (is_site x.graph) (is_inside x) (body_at x.code.blocks.items b) k

-- the address of a word of the copy
abbrev pub address_of : Copy → ℕ → ℕ
address_of x place = x.at + 4 * place

-- some words of a list
abbrev pub words_at : List ℕ → ℕ → ℕ → List ℕ
words_at words place n = take n (drop place words)

-- the copy has the block that begins at an address, and its own begins at `d`
pub record LeadsInside (x : Copy) (target d : ℕ) : Type 0 where
  pub block : ℕ
  pub inside : holds_block block x.range ≡ true
  pub begins : start_at x.code block ≡ target
  pub there : d ≡ address_of x (words_before x block)

-- a jump by a register that may be written at its target
pub record JumpsOut (c : Code) (before : List Instr) (target link : ℕ) (ws : List ℕ) : Type 0 where
  pub temporary : ℕ
  pub free : IsTemporary c target link temporary
  pub words : MeanAll ws (before ++ jump_absolute temporary target)

-- a branch and a JAL inside the copy, at an address of the copy
pub record BranchesInside (x : Copy) (at : ℕ) (i : ℕ → Instr) (target : ℕ) (ws : List ℕ) : Type 0 where
  pub to : ℕ
  pub leads : LeadsInside x target to
  pub words : MeanAll ws (i to ∷ [])

abbrev pub IsBranchCopy : Copy → ℕ → BranchKind → ℕ → ℕ → ℕ → List ℕ → Type 0
IsBranchCopy x at kind rs1 rs2 target ws =
    MatchBool (is_inside x target)
    (BranchesInside x at (λ to. instr.Branch kind rs1 rs2 (distance at to)) target ws)
    (JumpsOut x.code (instr.Branch (inverse kind) rs1 rs2 (pos 12) ∷ []) target 0 ws)

abbrev pub IsJumpCopy : Copy → ℕ → ℕ → List ℕ → Type 0
IsJumpCopy x at target ws =
    MatchBool (is_inside x target)
    (BranchesInside x at (λ to. instr.Jal 0 (distance at to)) target ws)
    (JumpsOut x.code [] target 0 ws)

-- the words of a unit's copy at an address
abbrev pub IsUnitCopy : Copy → ℕ → Unit → UnitKind → List ℕ → Type 0
IsUnitCopy x at u Plain ws = ws ≡ word_of_unit x.sites u ∷ []
IsUnitCopy x at u (Upper rd value) ws = MeanAll ws (load_immediate rd value)
IsUnitCopy x at u (Branch kind rs1 rs2 target) ws = IsBranchCopy x at kind rs1 rs2 target ws
IsUnitCopy x at u (Jump target) ws = IsJumpCopy x at target ws
IsUnitCopy x at u (Call target back link) ws = JumpsOut x.code (load_immediate link back) target link ws
IsUnitCopy x at u (Tail target register) ws = MeanAll ws (jump_absolute register target)
IsUnitCopy x at u Indirect ws = ws ≡ u.raw ∷ []
IsUnitCopy x at u (Linking back link base imm) ws = MeanAll ws (load_immediate link back ++ instr.Jalr 0 base imm ∷ [])
IsUnitCopy x at u Halt ws = ws ≡ u.raw ∷ []

-- the words behind the last unit of a block
abbrev pub FallsTo : Copy → ℕ → List ℕ → Type 0
FallsTo x next ws = MatchBool (is_inside x next) (ws ≡ []) (JumpsOut x.code [] next 0 ws)

abbrev pub IsFallOut : Copy → End → List ℕ → Type 0
IsFallOut x (end.Fall next) ws = FallsTo x next ws
IsFallOut x (end.Branch target next) ws = FallsTo x next ws
IsFallOut x other ws = ws ≡ []

-- block `b` of the copy: its units one behind the other, and what stands behind them
pub record IsBlockCopy (x : Copy) (words : List ℕ) (b : ℕ) : Type 0 where
  pub units : (k : ℕ) → k < length (body_at x.code.blocks.items b).units →
      IsUnitCopy x (address_of x (place_of x b k)) (unit_of x b k) (kind_in x b k)
      (words_at words (place_of x b k) (copy_size (is_inside x) (kind_in x b k)))
  pub falls : IsFallOut x (end_at x.code b)
      (words_at words (place_of x b (length (body_at x.code.blocks.items b).units)) (fall_out_size (is_inside x) (end_at x.code b)))

-- the whole copy
pub record IsCopy (x : Copy) (words starts : List ℕ) : Type 0 where
  pub count : length words ≡ copy_words (is_site x.graph) x.code.blocks.items x.range
  pub blocks : (b : ℕ) → holds_block b x.range ≡ true → IsBlockCopy x words b
  pub begins : starts ≡
      collected (λ b. holds_block b x.range) (λ b. 4 * words_before x b) (length x.code.blocks.items)

-- ---- a displaced unit

-- a word, and a jump to the next unit at home
pub record RunsThenJumps (at : ℕ) (word next : ℕ) (ws : List ℕ) : Type 0 where
  pub jump : ℕ
  pub means : Means jump (instr.Jal 0 (distance (at + 4) next))
  pub words : ws ≡ word ∷ jump ∷ []

-- the words of a unit that is displaced to an address, behind which control goes to `next` if it goes on
abbrev pub IsDisplaced : List Patch → ℕ → Unit → UnitKind → List ℕ → Type 0
IsDisplaced sites at u Plain ws = RunsThenJumps at (word_of_unit sites u) (u.at + 4) ws
IsDisplaced sites at u (Upper rd value) ws =
    MeanAll ws (load_immediate rd value ++ instr.Jal 0 (distance (at + 8) (u.at + 4)) ∷ [])
IsDisplaced sites at u (Branch kind rs1 rs2 target) ws =
    MeanAll ws
    (instr.Branch kind rs1 rs2 (pos 8) ∷ instr.Jal 0 (distance (at + 4) (u.at + 4)) ∷ instr.Jal 0 (distance (at + 8) target) ∷ [])
IsDisplaced sites at u (Jump target) ws = MeanAll ws (instr.Jal 0 (distance at target) ∷ [])
IsDisplaced sites at u (Call target back link) ws =
    MeanAll ws (load_immediate link back ++ instr.Jal 0 (distance (at + 8) target) ∷ [])
IsDisplaced sites at u (Tail target register) ws = MeanAll ws (instr.Jal 0 (distance at target) ∷ [])
IsDisplaced sites at u Indirect ws = ws ≡ u.raw ∷ []
IsDisplaced sites at u (Linking back link base imm) ws =
    MeanAll ws (load_immediate link back ++ instr.Jalr 0 base imm ∷ [])
IsDisplaced sites at u Halt ws = ws ≡ u.raw ∷ []

-- ---- what is asked

-- the list has a word for each site of a graph, and ascends by address. What else it has stands at no unit
pub record HasSites (c : Code) (g : Graph) (sites : List Patch) : Type 0 where
  pub ascending : IsStrictlyIncreasing (map address_in sites)
  pub others : (b k : ℕ) → b < length c.blocks.items → k < length (body_at c.blocks.items b).units →
      list_any (λ p. address_in p == (unit_in (body_at c.blocks.items b) k).at) sites
      ≡ is_site g (unit_in (body_at c.blocks.items b) k).at

-- JAL at an address reaches another
abbrev pub Reaches : ℕ → ℕ → Type 0
Reaches at to = IsEvenWithin 1048576 (distance at to)

-- where a displaced unit of a kind leads, by the place of the JAL that leads there
abbrev pub ReachesTargets : ℕ → ℕ → UnitKind → Type 0
ReachesTargets at next Plain = Reaches (at + 4) next
ReachesTargets at next (Upper rd value) = Reaches (at + 8) next
ReachesTargets at next (Branch kind rs1 rs2 target) = Reaches (at + 4) next × Reaches (at + 8) target
ReachesTargets at next (Jump target) = Reaches at target
ReachesTargets at next (Call target back link) = Reaches (at + 8) target
ReachesTargets at next (Tail target register) = Reaches at target
ReachesTargets at next Indirect = Prim.Unit {0}
ReachesTargets at next (Linking back link base imm) = Prim.Unit {0}
ReachesTargets at next Halt = Prim.Unit {0}
