-- Calls that stay in a copied piece of code and find no pad. The copy of a call leads home, and there the block runs in main
-- memory, though the energy of the choice counts it in the copy.
use Rattle.std.specs.Prelude.{◌≡◌, ℕ, ◌<◌, Bool, true, false, not, ◌&&◌, if◌then◌else◌, List, length, slice_index_or, Option, Some, None, Contains}
use Rattle.list_checks.specs.Sorted.{count_below}
use Rattle.std.specs.List.{sum_by}
use Rattle.elf_reader.specs.declared.view.ElfView.{ElfView}
use Rattle.board_config.specs.declared.board.Board.{Board}
use Rattle.object_graph.specs.declared.parts.Graph.{Graph}
use Rattle.region_former.specs.declared.table.RegionTable.{RegionTable}
use Rattle.code_blocks.specs.Early.{has}
use Rattle.code_blocks.specs.Numbers.{starts_of, end_at}
use Rattle.code_blocks.specs.declared.ends.End.{End}
use Rattle.code_blocks.specs.declared.ends.End.TheVariants.{Call, Tail}
use Rattle.code_blocks.specs.declared.parts.Code.{Code}
use Rattle.block_splitter.specs.declared.block_range.BlockRange.{BlockRange}
use Rattle.block_splitter.specs.Forms.{holds_block}
use Rattle.block_splitter.specs.declared.piece.Piece.{Piece}
use Rattle.block_splitter.specs.Pieces.{is_entry, range_of}
use Rattle.placement_programme.specs.declared.variables.VarName.{VarName}
use Rattle.profile_runner.specs.Transition.{Transition, transition_at}
use Rattle.profile_runner.specs.Standing.{number_of, block_of}
use Rattle.profile_runner.specs.declared.counts.Edge.{Edge}
use Rattle.profile_runner.specs.declared.counts.Profile.{Profile}
use Rattle.energy_model.specs.Energy.{Scene, Taken, piece_of, is_checked}
use Rattle.energy_model.specs.Scenes.{scene_of, AreOfSameFile}

-- ---- from block to block

-- a block ends in a call that names where it leads, or in one that doesn't come back
abbrev pub calls : End → Bool
calls (Call target back link) = true
calls (Tail target) = true
calls other = false

-- block `b` is of the piece too, and control comes to it from nowhere outside
abbrev pub is_within : Code → Option BlockRange → ℕ → Bool
is_within c None b = false
is_within c (Some range) b = holds_block b range && not (is_entry c range b)

-- a call from block `a` to block `b` is inward: both are of one taken piece, and no pad stands at `b`
abbrev pub is_inward : Scene → Code → Taken → ℕ → ℕ → Bool
is_inward w c taken a b =
    calls (end_at c a) && (is_within c (piece_of taken.names a) b && not (is_checked w taken b))

-- ---- in a run

-- transition `i` makes such a call, and goes on to the block that begins where it leads
abbrev pub goes_inward : Scene → Code → Taken → ℕ → ℕ → Bool
goes_inward w c taken a next = has (starts_of c) next && is_inward w c taken a (number_of (starts_of c) next)

abbrev pub leads_inward : Scene → Code → Taken → List Transition → ℕ → Bool
leads_inward w c taken transitions i =
    (transition_at transitions i).goes_on
    && goes_inward w c taken (block_of (starts_of c) transitions i) (transition_at transitions i).next

abbrev pub inward_calls : Scene → Code → Taken → List Transition → ℕ
inward_calls w c taken transitions = count_below (leads_inward w c taken transitions) (length transitions)

-- ---- as it is counted from a profile

abbrev pub inward_count : Scene → Code → Taken → Edge → ℕ
inward_count w c taken e = if is_inward w c taken e.from e.to then e.count else 0

abbrev pub counted_inward : Scene → Code → Taken → Profile → ℕ
counted_inward w c taken q = sum_by (inward_count w c taken) q.edges.items

-- both are the same number
abbrev pub InwardIsCounted : Type 0
InwardIsCounted =
    (view : ElfView) (board : Board) (g : Graph) (c : Code) (t : RegionTable) (q : Profile) (transitions : List Transition) (taken : Taken)
    → AreOfSameFile view board g c t q transitions
    → counted_inward (scene_of g c t board) c taken q ≡ inward_calls (scene_of g c t board) c taken transitions

-- ---- the pieces of a choice

-- there is a piece of these blocks
abbrev pub IsListed : List Piece → BlockRange → Type 0
IsListed pieces range = (piece : Piece) × (Contains pieces piece × (range_of piece ≡ range))

-- where these names are taken, what is copied are pieces
abbrev pub ArePiecesOf : List Piece → List VarName → Type 0
ArePiecesOf pieces names = (b : ℕ) (range : BlockRange) → piece_of names b ≡ Some range → IsListed pieces range

-- a table that has for each of so many blocks those among which it is copied, if it is, where these names are taken
pub record AreByBlock (blocks : ℕ) (names : List VarName) (table : List (Option BlockRange)) : Type 0 where
  pub len : length table ≡ blocks
  pub are : (b : ℕ) → b < blocks → slice_index_or table b None ≡ piece_of names b
