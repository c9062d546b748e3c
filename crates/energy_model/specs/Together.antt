-- What may be taken together, with or without overlay, and that each item then saves what it saves alone.
use Rattle.std.specs.Prelude.{◌≡◌, ℕ, ◌+◌, Bool, true, false, List, [], ◌∷◌, Option, Some, None}
use Rattle.elf_reader.specs.declared.view.ElfView.{ElfView}
use Rattle.board_config.specs.declared.board.Board.{Board}
use Rattle.object_graph.specs.declared.parts.Graph.{Graph}
use Rattle.code_blocks.specs.declared.parts.Code.{Code}
use Rattle.region_former.specs.declared.table.RegionTable.{RegionTable}
use Rattle.placement_programme.specs.declared.variables.VarName.{VarName}
use Rattle.profile_runner.specs.Transition.{Transition}
use Rattle.profile_runner.specs.declared.counts.Profile.{Profile}
use Rattle.block_splitter.specs.declared.block_range.BlockRange.{BlockRange}
use Rattle.block_splitter.specs.Forms.{holds_block}
use Rattle.energy_model.specs.Energy.{Taken, piece_in, brings, side_energy}
use Rattle.energy_model.specs.Scenes.{scene_of, AreOfSameFile}

-- items on a side: with overlay or without
abbrev pub taken : Bool → List VarName → Taken
taken on names = record { on = on; names = names }

-- block `b` is of a piece, and of what a variable copies
abbrev pub is_of_piece : ℕ → Option BlockRange → Bool
is_of_piece b None = false
is_of_piece b (Some piece) = holds_block b piece

abbrev pub copies : ℕ → VarName → Bool
copies b name = is_of_piece b (piece_in name)

-- two items have nothing in common: in no region do they bring the same object, and no block is of both
pub record HaveNothingInCommon (one other : VarName) : Type 0 where
  pub objects : (o r : ℕ) → brings o r one ≡ true → brings o r other ≡ false
  pub blocks : (b : ℕ) → copies b one ≡ true → copies b other ≡ false

abbrev pub IsApartFromAll : VarName → List VarName → Type 0
IsApartFromAll name [] = Unit {0}
IsApartFromAll name (other ∷ names) = HaveNothingInCommon name other × IsApartFromAll name names

-- an item saves with others, with which it has nothing in common, what it saves alone
abbrev pub SavesAsAlone : Type 0
SavesAsAlone =
    (view : ElfView) (board : Board) (g : Graph) (c : Code) (t : RegionTable) (q : Profile) (transitions : List Transition) (on : Bool) (name : VarName) (names : List VarName)
    → AreOfSameFile view board g c t q transitions → IsApartFromAll name names
    → side_energy (scene_of g c t board) (taken on (name ∷ names)) transitions + side_energy (scene_of g c t board) (taken on []) transitions
    ≡ side_energy (scene_of g c t board) (taken on names) transitions + side_energy (scene_of g c t board) (taken on (name ∷ [])) transitions
