-- Against the flow of control over the units of a block: from the places behind them to the registers before them, and the
-- objects whose addresses they make there. A place is a register or memory, which is place 0; a word has a mark for each
-- place.
use Rattle.std.specs.Prelude.{◌≡◌, ◌⊎◌, ◌↔◌, ℕ, ◌<◌, Bool, true, List, [], ◌∷◌, length, slice_index_or}
use Rattle.object_graph.specs.declared.parts.Site.{Site}
use Rattle.object_graph.specs.declared.parts.Graph.{Graph}
use Rattle.code_blocks.specs.Leads.{units_at}
use Rattle.code_blocks.specs.declared.parts.Unit.{Unit}
use Rattle.code_blocks.specs.declared.parts.Code.{Code}
use Rattle.reach_graph.specs.Reaching.{HasMark, word_at}
use Rattle.dataflow.specs.Points.{IsHolder, site_at, Makes}
use Rattle.dataflow.specs.Flows.{Leads}
use Rattle.dataflow.specs.Flows.{no_word}
use Rattle.dataflow.specs.Exposed.{mark_at}

-- what register `x` holds before these units may come to a marked place behind them
pub record LeadsInto (sites : List Site) (us : List Unit) (behind x : ℕ) : Type 0 where
  pub place : ℕ
  pub leads : Leads sites us x place
  pub marked : HasMark behind place

-- the registers of which that is so
abbrev pub AreBefore : List Site → List Unit → ℕ → ℕ → Type 0
AreBefore sites us behind before = (x : ℕ) → HasMark before x ↔ (IsHolder x × LeadsInto sites us behind x)

-- a unit makes a part of an address of object `o` in such a register, with these units behind it
pub record MakesHere (sites : List Site) (u : Unit) (us : List Unit) (behind o : ℕ) : Type 0 where
  pub register : ℕ
  pub holder : IsHolder register
  pub makes : Makes (site_at sites u.at) u.instr o register
  pub leads : LeadsInto sites us behind register

-- one of some units does
abbrev pub MakesInto : List Site → List Unit → ℕ → ℕ → Type 0
MakesInto sites [] behind o = ⊥
MakesInto sites (u ∷ us) behind o = MakesHere sites u us behind o ⊎ MakesInto sites us behind o

-- one of the first `count` blocks does; a word for each block has the places behind it
pub record MakesInBlocks (c : Code) (sites : List Site) (behind : List ℕ) (count o : ℕ) : Type 0 where
  pub block : ℕ
  pub below : block < count
  pub makes : MakesInto sites (units_at c block) (word_at behind block) o

-- one of the first `count` words of data holds an address of object `o`
pub record IsInWords (g : Graph) (count o : ℕ) : Type 0 where
  pub place : ℕ
  pub below : place < count
  pub means : (slice_index_or g.data_words.items place no_word).object ≡ o

-- a word of data or a block does
abbrev pub IsFound : Code → Graph → List ℕ → ℕ → Type 0
IsFound c g behind o = IsInWords g (length g.data_words.items) o ⊎ MakesInBlocks c g.sites.items behind (length c.blocks.items) o

-- ---- marks of objects

-- those that were set still are, and those of a set of objects, and no others
pub record AddsMarks (S : ℕ → Type 0) (old new : List Bool) : Type 0 where
  pub size : length new ≡ length old
  pub each : (o : ℕ) → (mark_at new o ≡ true) ↔ ((mark_at old o ≡ true) ⊎ S o)
