-- Where all stands that a choice takes into the scratchpad, in each region of a program: objects, and copies of code.
use Rattle.std.specs.Prelude.{◌≡◌, ℕ, ◌%◌, ◌≤◌, Bool, true, List, [], length, slice_index_or, All, Contains}
use Rattle.std.specs.List.{AllPairs}
use Rattle.elf_reader.specs.File.{PlainView}
use Rattle.loaded_file.specs.Code.{image_word}
use Rattle.board_config.specs.declared.board.Board.{Board}
use Rattle.object_graph.specs.declared.parts.Graph.{Graph}
use Rattle.object_graph.specs.declared.parts.Site.{Site}
use Rattle.placement_programme.specs.Plain.{PlainProgramme, PlainChoice}
use Rattle.placement_programme.specs.declared.variables.VarName.{VarName}
use Rattle.placement_programme.specs.declared.variables.VarName.TheVariants.{StaticData, StaticCode, OverlayData, OverlayCode, KeptData}
use Rattle.cell_values.specs.Stands.{Places, address_word}
use Rattle.code_blocks.specs.declared.parts.Code.{Code}
use Rattle.dataflow.specs.Live.{LiveAt}
use Rattle.dataflow.specs.Overlaid.{region_in, is_border, MayBeOverlaid}
use Rattle.block_splitter.specs.declared.block_range.BlockRange.{BlockRange}
use Rattle.block_splitter.specs.Forms.{holds_block}
use Rattle.block_splitter.specs.Pieces.{IsCopied}
use Rattle.block_splitter.specs.Copies.{Copy, Patch, HasSites, IsCopy, word_of_unit}
use Rattle.result_laws.specs.Displacing.{CanDisplace}
use Rattle.relocator.specs.declared.slots.Slot.{Slot}
use Rattle.relocator.specs.Slots.{code_slots}
use Rattle.relocator.specs.Placing.{placed, chosen_slots}
use Rattle.relocator.specs.Laws.{CanLayOut, slot_at}
use Rattle.relocator.specs.SiteWords.{IsSiteWord}
use Rattle.result_laws.specs.ChosenJobs.{Images, code_number}
use Rattle.result_laws.specs.Memories.{IsOfCode}
use Rattle.result_laws.specs.LiveUnits.{StandsThere, code_unit}
use Rattle.result_laws.specs.PlacedPieces.{PlacedPiece, piece_bytes, HaveOtherBlocks}
use Rattle.result_laws.specs.Entries.{TellsBorders}

-- A choice of a programme; the regions of the program's code: how many there are, that of each block, and by which blocks
-- control enters them; the pieces of code that are taken, in order; and the words of sites, by address. Without overlay
-- there is no region.
pub record ChosenPlacement : Type 0 where
  pub programme : PlainProgramme
  pub choice : PlainChoice
  pub count : ℕ
  pub regions : List ℕ
  pub borders : List Bool
  pub pieces : List PlacedPiece
  pub sites : List Patch

-- ---- its parts

abbrev pub slots_in : Board → ChosenPlacement → List Slot
slots_in board pl = chosen_slots board pl.programme pl.choice

-- the places of objects while a region is current
abbrev pub places_in : Board → Graph → ChosenPlacement → ℕ → Places
places_in board g pl r = placed g (slots_in board pl) r

-- no piece
abbrev pub no_piece : PlacedPiece
no_piece = record { range = record { first = 0; last = 0 }; at = 0; image = 0; words = []; starts = [] }

abbrev pub piece_of : ChosenPlacement → ℕ → PlacedPiece
piece_of pl n = slice_index_or pl.pieces n no_piece

-- their images, by number
abbrev pub images_in : ChosenPlacement → Images
images_in pl = record { at = λ n. (piece_of pl n).image; bytes = λ n. piece_bytes (piece_of pl n) }

-- the copy of a piece
abbrev pub copy_with : Code → Graph → List Patch → PlacedPiece → Copy
copy_with c g sites x = record { code = c; graph = g; range = x.range; at = x.at; sites = sites }

abbrev pub copy_in : Code → Graph → ChosenPlacement → ℕ → Copy
copy_in c g pl n = copy_with c g pl.sites (piece_of pl n)

-- ---- pieces

-- a name is that of a range of blocks. All blocks of a piece that is overlaid in a region have this region
abbrev pub NamesRange : List ℕ → VarName → BlockRange → Type 0
NamesRange regions (StaticData object) range = ⊥
NamesRange regions (StaticCode first last) range = range ≡ record { first = first; last = last }
NamesRange regions (OverlayData own object) range = ⊥
NamesRange regions (OverlayCode own first last) range =
    (range ≡ record { first = first; last = last })
    × ((b : ℕ) → holds_block b range ≡ true → region_in regions b ≡ own)
NamesRange regions (KeptData pair object) range = ⊥

-- a piece stands in a slot that is named after its blocks, and has room for it
pub record StandsInSlot (regions : List ℕ) (s : Slot) (x : PlacedPiece) : Type 0 where
  pub named : NamesRange regions s.name x.range
  pub at : x.at ≡ s.at
  pub room : piece_bytes x ≤ s.span

-- it may be copied, its copy has its words and stands at a multiple of four, and all its blocks have one region
pub record IsChosenPiece (c : Code) (g : Graph) (regions : List ℕ) (sites : List Patch) (x : PlacedPiece) : Type 0 where
  pub copied : IsCopied c g x.range
  pub copy : IsCopy (copy_with c g sites x) x.words x.starts
  pub aligned : x.at % 4 ≡ 0
  pub region : (b d : ℕ) → holds_block b x.range ≡ true → holds_block d x.range ≡ true → region_in regions b ≡ region_in regions d

-- ---- objects

-- an object whose place changes is one that may be overlaid
abbrev pub MayMove : Code → Graph → List ℕ → List Bool → VarName → Type 0
MayMove c g regions borders (StaticData object) = Unit {0}
MayMove c g regions borders (StaticCode first last) = Unit {0}
MayMove c g regions borders (OverlayData own object) = MayBeOverlaid (λ b x. LiveAt c x b 0) c g regions borders object
MayMove c g regions borders (OverlayCode own first last) = Unit {0}
MayMove c g regions borders (KeptData pair object) = MayBeOverlaid (λ b x. LiveAt c x b 0) c g regions borders object

-- ---- sites

-- the list has a word for each site that is a unit of the code: the one for the place of its object while the region of
-- the unit's block is current
pub record AreWordsOfUnits (board : Board) (v : PlainView) (g : Graph) (c : Code) (pl : ChosenPlacement) : Type 0 where
  pub has : HasSites c g pl.sites
  pub rewritten : (b k : ℕ) (s : Site) → StandsThere c s.at b k → Contains g.sites.items s
      → IsSiteWord s.kind (address_word (places_in board g pl (region_in pl.regions b)) s.object s.offset) (image_word v s.at)
      (word_of_unit pl.sites (code_unit c b k))

-- ---- the whole

-- The choice can be laid out. Each of its slots of code has a piece, in order, and no block is taken twice. Objects that
-- stand in the scratchpad in some regions alone may be overlaid, and first units of blocks by which control enters regions
-- can be displaced.
pub record IsChosenPlacement (board : Board) (v : PlainView) (g : Graph) (c : Code) (pl : ChosenPlacement) : Type 0 where
  pub borders : TellsBorders c pl.regions pl.borders
  pub below : (b : ℕ) → region_in pl.regions b ≤ pl.count
  pub can : CanLayOut g pl.count board pl.programme pl.choice
  pub many : length pl.pieces ≡ length (code_slots (slots_in board pl))
  pub stand : (k : ℕ) → IsOfCode (slots_in board pl) k
      → StandsInSlot pl.regions (slot_at (slots_in board pl) k) (piece_of pl (code_number (slots_in board pl) k))
  pub pieces : All (IsChosenPiece c g pl.regions pl.sites) pl.pieces
  pub blocks : AllPairs HaveOtherBlocks pl.pieces
  pub moving : All (λ s. MayMove c g pl.regions pl.borders s.name) (slots_in board pl)
  pub displaced : (b : ℕ) → is_border pl.borders b ≡ true → CanDisplace c b
  pub sites : AreWordsOfUnits board v g c pl
