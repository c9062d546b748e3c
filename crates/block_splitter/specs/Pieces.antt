-- Which blocks of a program may be copied into the scratchpad together.
use Rattle.std.specs.Prelude.{◌≡◌, ◌⊎◌, ℕ, ◌*◌, ◌^◌, ◌<◌, ◌≤◌, ◌==◌, Bool, true, false, not, ◌&&◌, ◌||◌, List, [], ◌∷◌, length, is_some, Contains}
use Rattle.std.specs.List.{All, AllPairs, list_any}
use Rattle.list_checks.specs.Tests.{any_below}
use Rattle.list_checks.specs.Sorted.{collected}
use Rattle.rv32im.specs.declared.instructions.RegSet.{RegSet}
use Rattle.code_blocks.specs.Early.{has}
use Rattle.code_blocks.specs.Edges.{successors}
use Rattle.code_blocks.specs.Numbers.{starts_of, start_at, end_at}
use Rattle.code_blocks.specs.Leads.{units_at, links_base, is_of, leads_to}
use Rattle.code_blocks.specs.declared.parts.Code.{Code}
use Rattle.code_blocks.specs.declared.ends.End.{End}
use Rattle.code_blocks.specs.declared.ends.End.TheVariants.{Fall, Branch, Jump, Call, Stop}
use Rattle.object_graph.specs.declared.parts.Graph.{Graph}
use Rattle.dataflow.specs.Tables.{IsLeastFree}
use Rattle.block_splitter.specs.declared.block_range.BlockRange.{BlockRange}
use Rattle.block_splitter.specs.declared.piece.Piece.{Piece}
use Rattle.block_splitter.specs.Forms.{is_site, holds_block, begins_in, copy_words}

-- ---- registers that a jump may write

-- one register
abbrev pub only : ℕ → RegSet
only register = record { bits = 2 ^ register }

-- a jump to the block at an address may write register `t`, the least of x5 to x31 that isn't live there and isn't
-- `link`. Where no register is to be kept, `link` is x0
abbrev pub IsTemporary : Code → ℕ → ℕ → ℕ → Type 0
IsTemporary c address link t = IsLeastFree c address (only link) t

abbrev pub HasTemporary : Code → ℕ → ℕ → Type 0
HasTemporary c address link = (t : ℕ) × IsTemporary c address link t

-- ---- shapes

-- there are such blocks
pub record IsRange (c : Code) (range : BlockRange) : Type 0 where
  pub ordered : range.first ≤ range.last
  pub below : range.last < length c.blocks.items

-- they are all blocks of function `f`
pub record IsFunction (c : Code) (f : ℕ) (range : BlockRange) : Type 0 where
  pub is_range : IsRange c range
  pub exact : (b : ℕ) → b < length c.blocks.items → is_of c f b ≡ holds_block b range

-- they are of function `f`
abbrev pub AreOf : Code → ℕ → BlockRange → Type 0
AreOf c f range = (b : ℕ) → holds_block b range ≡ true → is_of c f b ≡ true

-- where a branch or a jump goes
abbrev pub jump_targets : End → List ℕ
jump_targets (Branch target next) = target ∷ []
jump_targets (Jump target) = target ∷ []
jump_targets other = []

-- they go from the target of a branch or a jump to that branch or jump, in function `f`
pub record IsLoop (c : Code) (f : ℕ) (range : BlockRange) : Type 0 where
  pub is_range : IsRange c range
  pub back : Contains (jump_targets (end_at c range.last)) (start_at c range.first)
  pub inside : AreOf c f range

-- they are one block of function `f`
pub record IsSingle (c : Code) (f : ℕ) (range : BlockRange) : Type 0 where
  pub is_range : IsRange c range
  pub single : range.first ≡ range.last
  pub inside : is_of c f range.first ≡ true

abbrev pub HasShape : Code → BlockRange → Type 0
HasShape c range = (f : ℕ) × (IsFunction c f range ⊎ (IsLoop c f range ⊎ IsSingle c f range))

-- ---- blocks that may be copied

abbrev pub is_stop : End → Bool
is_stop Stop = true
is_stop other = false

-- a call needs a register besides the one of the way back
abbrev pub CanCall : Code → End → Type 0
CanCall c (Call target back link) = HasTemporary c target link
CanCall c other = Unit {0}

-- each word of block `b` means something, no unit links in its own base, all that its end leads to begins a block, the
-- block doesn't stop, and a call has a register to write
pub record IsCopyable (c : Code) (b : ℕ) : Type 0 where
  pub means : All (λ u. is_some u.instr ≡ true) (units_at c b)
  pub links : All (λ u. links_base u.instr ≡ false) (units_at c b)
  pub leads : All (λ a. has (starts_of c) a ≡ true) (successors (end_at c b))
  pub goes_on : is_stop (end_at c b) ≡ false
  pub calls : CanCall c (end_at c b)

-- ---- ways in and out

-- control may come to block `b` from outside: by an address in a register, or by a direct edge
abbrev pub is_entry : Code → BlockRange → ℕ → Bool
is_entry c range b =
    has c.indirect.items (start_at c b)
    || any_below (λ a. not (holds_block a range) && leads_to c a b) (length c.blocks.items)

-- where a block leads that isn't left by a call or by an address in a register
abbrev pub onward : End → List ℕ
onward (Fall next) = next ∷ []
onward (Branch target next) = target ∷ next ∷ []
onward (Jump target) = target ∷ []
onward other = []

-- ---- pieces

-- the greatest size of a copy, in words
abbrev pub most_words : ℕ
most_words = 1024

-- these blocks are a piece: each may be copied, and a jump to each entry and to each block outside to which they lead
-- has a register to write
pub record IsCopied (c : Code) (g : Graph) (range : BlockRange) : Type 0 where
  pub shape : HasShape c range
  pub blocks : (b : ℕ) → holds_block b range ≡ true → IsCopyable c b
  pub entries : (b : ℕ) → holds_block b range ≡ true → is_entry c range b ≡ true → HasTemporary c (start_at c b) 0
  pub exits : (b a : ℕ) → holds_block b range ≡ true → Contains (onward (end_at c b)) a →
      begins_in (starts_of c) range a ≡ false → HasTemporary c a 0
  pub small : copy_words (is_site g) c.blocks.items range ≤ most_words

abbrev pub range_of : Piece → BlockRange
range_of p = record { first = p.first; last = p.last }

-- a piece tells its entries and its size
pub record IsPiece (c : Code) (g : Graph) (p : Piece) : Type 0 where
  pub copied : IsCopied c g (range_of p)
  pub entries : p.entries.items ≡
      collected (λ b. holds_block b (range_of p) && is_entry c (range_of p) b) (λ b. b) (length c.blocks.items)
  pub bytes : p.bytes ≡ 4 * copy_words (is_site g) c.blocks.items (range_of p)

-- by first block, and then by last
abbrev pub ComesBefore : BlockRange → BlockRange → Type 0
ComesBefore r s = (r.first < s.first) ⊎ ((r.first ≡ s.first) × (r.last < s.last))

abbrev pub is_range_of : BlockRange → Piece → Bool
is_range_of range p = (p.first == range.first) && (p.last == range.last)

-- all pieces of a program, each once and in order
pub record ArePieces (c : Code) (g : Graph) (pieces : List Piece) : Type 0 where
  pub ordered : AllPairs (λ p q. ComesBefore (range_of p) (range_of q)) pieces
  pub each : All (IsPiece c g) pieces
  pub whole : (range : BlockRange) → IsCopied c g range → list_any (is_range_of range) pieces ≡ true
