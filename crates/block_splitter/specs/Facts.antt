-- What is found of each block once, and what it tells of the ranges that hold the block.
use Rattle.std.specs.Prelude.{◌≡◌, ◌⊎◌, ◌↔◌, ℕ, zero, suc, ◌<◌, ◌≤◌, ◌==◌, nat_lt, nat_le, Bool, true, false, not, ◌&&◌, if◌then◌else◌, List, [], ◌∷◌, ◌++◌, length, slice_index_or, map, Option, Some, None, MatchOption, is_some, Contains}
use Rattle.std.specs.List.{All, AllPairs, list_any}
use Rattle.list_checks.specs.Tests.{any_below}
use Rattle.code_blocks.specs.Early.{has}
use Rattle.code_blocks.specs.Blocks.{start_of}
use Rattle.code_blocks.specs.Numbers.{starts_of, start_at, end_at}
use Rattle.code_blocks.specs.Leads.{links_base, is_of, leads_to}
use Rattle.code_blocks.specs.declared.parts.Unit.{Unit}
use Rattle.code_blocks.specs.declared.parts.Code.{Code}
use Rattle.code_blocks.specs.declared.ends.End.{End}
use Rattle.code_blocks.specs.declared.ends.End.TheVariants as end
use Rattle.object_graph.specs.declared.parts.Graph.{Graph}
use Rattle.block_splitter.specs.declared.block_range.BlockRange.{BlockRange}
use Rattle.block_splitter.specs.declared.unit_kind.UnitKind.{UnitKind}
use Rattle.block_splitter.specs.declared.unit_kind.UnitKind.TheVariants as kind
use Rattle.block_splitter.specs.declared.block_form.Exit.{Exit}
use Rattle.block_splitter.specs.declared.block_form.BlockForm.{BlockForm}
use Rattle.block_splitter.specs.declared.piece.Piece.{Piece}
use Rattle.block_splitter.specs.declared.block_form.Sources.{Sources}
use Rattle.block_splitter.specs.declared.measuring.Extent.{Extent}
use Rattle.block_splitter.specs.declared.table.Table.{Table}
use Rattle.block_splitter.specs.Forms.{Body, is_site, body_at, kind_of, holds_block, begins_in, units_size, block_size, copy_words}
use Rattle.block_splitter.specs.Pieces.{HasTemporary, IsFunction, IsLoop, IsSingle, HasShape, IsCopyable, is_entry, onward, most_words, IsCopied, range_of, IsPiece, is_range_of, ComesBefore}

abbrev pub block_count : Code → ℕ
block_count c = length c.blocks.items

-- ---- a block by itself

-- a unit means something, and doesn't link in its own base
abbrev pub may_copy : Unit → Bool
may_copy u = is_some u.instr && not (links_base u.instr)

-- how many words more a unit has where its target is not of the same copy
abbrev pub leaving_words : UnitKind → ℕ
leaving_words (kind.Branch kind rs1 rs2 target) = 2
leaving_words (kind.Jump target) = 1
leaving_words other = 0

-- those of the last unit of a block, of which there are `n`
abbrev pub last_leaving : Graph → Body → ℕ → ℕ
last_leaving g b zero = 0
last_leaving g b (suc k) = leaving_words (kind_of (is_site g) b k)

-- where a branch or a jump goes, and where a block falls
abbrev pub target_of : End → Option ℕ
target_of (end.Branch target next) = Some target
target_of (end.Jump target) = Some target
target_of other = None

abbrev pub next_of : End → Option ℕ
next_of (end.Fall next) = Some next
next_of (end.Branch target next) = Some next
next_of other = None

-- what a call links in is a register
abbrev pub LinksRegister : End → Type 0
LinksRegister (end.Call target back link) = link < 32
LinksRegister other = Prim.Unit {0}

-- the words of a block where all that it leads to is of the same copy
abbrev pub full_size : Graph → Body → ℕ
full_size g b = units_size (is_site g) (λ a. true) b (length b.units)

-- the exit to an address, if there is one, with so many words
abbrev pub IsExit : Code → ℕ → Option ℕ → Option Exit → Type 0
IsExit c words at o =
    MatchOption o (at ≡ None) (λ e. (at ≡ Some e.at) × (e.words ≡ words) × ((e.has_dead ≡ true) ↔ HasTemporary c e.at 0))

pub record IsForm (c : Code) (g : Graph) (b : ℕ) (f : BlockForm) : Type 0 where
  pub copyable : IsCopyable c b
  pub size : f.words ≡ full_size g (body_at c.blocks.items b)
  pub target : IsExit c (last_leaving g (body_at c.blocks.items b) (length (body_at c.blocks.items b).units)) (target_of (end_at c b)) f.target
  pub next : IsExit c 2 (next_of (end_at c b)) f.next
  pub dead : (f.has_dead ≡ true) ↔ HasTemporary c (start_at c b) 0

-- the form of block `b`, if a piece may hold it
abbrev pub IsFormAt : Code → Graph → ℕ → Option BlockForm → Type 0
IsFormAt c g b o =
    MatchOption o (IsCopyable c b → full_size g (body_at c.blocks.items b) ≤ most_words → ⊥) (IsForm c g b)

-- ---- edges to a block

-- the least and the greatest number tell whether some block below `first`, or above `last`, of the first `n` leads to
-- block `b`
pub record AreSources (c : Code) (b n : ℕ) (s : Sources) : Type 0 where
  pub below : (first : ℕ) → first ≤ b → nat_lt s.least first ≡ any_below (λ a. nat_lt a first && leads_to c a b) n
  pub above : (last : ℕ) → b ≤ last → nat_lt last s.greatest ≡ any_below (λ a. nat_lt last a && leads_to c a b) n

-- ---- all blocks

abbrev pub no_sources : Sources
no_sources = record { least = 0; greatest = 0 }

abbrev pub form_at : List (Option BlockForm) → ℕ → Option BlockForm
form_at forms b = slice_index_or forms b None

abbrev pub sources_at : List Sources → ℕ → Sources
sources_at sources b = slice_index_or sources b no_sources

pub record IsTable (c : Code) (g : Graph) (t : Table) : Type 0 where
  pub forms_each : length t.forms.items ≡ block_count c
  pub forms_are : (b : ℕ) → b < block_count c → IsFormAt c g b (form_at t.forms.items b)
  pub sources_each : length t.sources.items ≡ block_count c
  pub sources_are : (b : ℕ) → b < block_count c → AreSources c b (block_count c) (sources_at t.sources.items b)
  pub indirect_each : length t.indirect.items ≡ block_count c
  pub indirect_are : (b : ℕ) → b < block_count c → slice_index_or t.indirect.items b false ≡ has c.indirect.items (start_at c b)

-- ---- a block in a range

-- where the first and the last block of a range begin
pub record IsExtent (c : Code) (range : BlockRange) (x : Extent) : Type 0 where
  pub from : x.from ≡ start_at c range.first
  pub to : x.to ≡ start_at c range.last

abbrev pub is_within : Extent → ℕ → Bool
is_within x a = nat_le x.from a && nat_le a x.to

-- how many words more an exit takes
abbrev pub extra_words : (ℕ → Bool) → Option Exit → ℕ
extra_words inside None = 0
extra_words inside (Some e) = if inside e.at then 0 else e.words

-- an exit leads out where no register is dead
abbrev pub IsBarred : (ℕ → Bool) → Option Exit → Type 0
IsBarred inside None = ⊥
IsBarred inside (Some e) = (inside e.at ≡ false) × (e.has_dead ≡ false)

-- block `b` may stand in a copy of a range
pub record MayStand (c : Code) (range : BlockRange) (b : ℕ) : Type 0 where
  pub copyable : IsCopyable c b
  pub entry : is_entry c range b ≡ true → HasTemporary c (start_at c b) 0
  pub exits : (a : ℕ) → Contains (onward (end_at c b)) a → begins_in (starts_of c) range a ≡ false → HasTemporary c a 0

abbrev pub size_in : Code → Graph → BlockRange → ℕ → ℕ
size_in c g range b =
    block_size (is_site g) (begins_in (map start_of c.blocks.items) range) (body_at c.blocks.items b)

-- a range whose blocks may all stand in a copy that isn't too large
pub record IsFit (c : Code) (g : Graph) (range : BlockRange) : Type 0 where
  pub stand : (b : ℕ) → holds_block b range ≡ true → MayStand c range b
  pub small : copy_words (is_site g) c.blocks.items range ≤ most_words

-- ---- candidates

-- an answer is the one number that has a property, if there is one
abbrev pub IsOnly : (ℕ → Type 0) → Option ℕ → Type 0
IsOnly P o = (k : ℕ) → P k ↔ (o ≡ Some k)

abbrev pub to_block : ℕ → ℕ → BlockRange
to_block last first = record { first = first; last = last }

-- the range from a first block, if there is one, to a last
abbrev pub range_to : ℕ → Option ℕ → List BlockRange
range_to last None = []
range_to last (Some first) = to_block last first ∷ []

-- the first block of a single, of a loop and of a function whose last block is `b`
abbrev pub StartsSingle : Code → ℕ → ℕ → Type 0
StartsSingle c b first = (f : ℕ) × IsSingle c f (to_block b first)

abbrev pub StartsLoop : Code → ℕ → ℕ → Type 0
StartsLoop c b first = (f : ℕ) × IsLoop c f (to_block b first)

abbrev pub StartsFunction : Code → ℕ → ℕ → Type 0
StartsFunction c b first = (f : ℕ) × IsFunction c f (to_block b first)

-- of the blocks up to `b`, `first` is the first of the function of `b`
pub record IsRunFirst (c : Code) (b first : ℕ) : Type 0 where
  pub upto : first ≤ b
  pub mine : (f : ℕ) → is_of c f b ≡ true → is_of c f first ≡ true
  pub least : (f a : ℕ) → is_of c f b ≡ true → a < first → is_of c f a ≡ false

abbrev pub is_range : BlockRange → BlockRange → Bool
is_range r s = (r.first == s.first) && (r.last == s.last)

-- some ranges become others by all shapes whose last block is `b`
pub record AddsEnding (c : Code) (b : ℕ) (old new : List BlockRange) : Type 0 where
  pub sound : All (HasShape c) old → All (HasShape c) new
  pub kept : (r : BlockRange) → list_any (is_range r) old ≡ true → list_any (is_range r) new ≡ true
  pub whole : (r : BlockRange) → HasShape c r → r.last ≡ b → list_any (is_range r) new ≡ true

-- the ranges that have a shape, each once and in order
pub record AreCandidates (c : Code) (ranges : List BlockRange) : Type 0 where
  pub ordered : AllPairs ComesBefore ranges
  pub sound : All (HasShape c) ranges
  pub whole : (r : BlockRange) → HasShape c r → list_any (is_range r) ranges ≡ true

-- some pieces become others by that of a range, if it is one
abbrev pub AddsPiece : Code → Graph → BlockRange → List Piece → List Piece → Type 0
AddsPiece c g range old new =
    ((IsCopied c g range → ⊥) × (new ≡ old))
    ⊎ ((p : Piece) × (range_of p ≡ range) × IsPiece c g p × (new ≡ old ++ p ∷ []))

-- the pieces among the first `n` of some ranges
pub record ArePiecesOf (c : Code) (g : Graph) (ranges : List BlockRange) (n : ℕ) (pieces : List Piece) : Type 0 where
  pub ordered : AllPairs (λ p q. ComesBefore (range_of p) (range_of q)) pieces
  pub before : (k : ℕ) (d : BlockRange) → n ≤ k → k < length ranges → All (λ p. ComesBefore (range_of p) (slice_index_or ranges k d)) pieces
  pub each : All (IsPiece c g) pieces
  pub whole : (k : ℕ) (d : BlockRange) → k < n → IsCopied c g (slice_index_or ranges k d) → list_any (is_range_of (slice_index_or ranges k d)) pieces ≡ true
