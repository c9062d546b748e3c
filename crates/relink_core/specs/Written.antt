-- The file that is written for what a choice of both sides puts into the scratchpad: its new segment, and which file it is.
use Rattle.std.specs.Prelude.{◌≡◌, ℕ, ◌<◌, ◌==◌, nat_lt, Bool, ◌&&◌, List, map, length, slice_index_or, Some, All}
use Rattle.std.specs.List.{AllPairs, list_any}
use Rattle.elf_reader.specs.File.{PlainView, view_in}
use Rattle.elf_writer.specs.Pieces.{words_bytes}
use Rattle.elf_writer.specs.declared.parts.Patch.{Patch}
use Rattle.elf_writer.specs.declared.parts.SymbolMove.{SymbolMove}
use Rattle.elf_writer.specs.Parts.{NewSegment}
use Rattle.elf_writer.specs.Written.{written}
use Rattle.elf_writer.specs.View.{written_view}
use Rattle.elf_writer.specs.Conditions.{PatchesLoadedWord, AreOfTwoSymbols, IsWritable, HasWords}
use Rattle.board_config.specs.declared.board.Board.{Board}
use Rattle.loaded_file.specs.Ranges.{is_symbol_of}
use Rattle.object_graph.specs.declared.parts.Graph.{Graph}
use Rattle.cell_values.specs.Objects.{object_of}
use Rattle.cell_values.specs.Stands.{Places}
use Rattle.code_blocks.specs.declared.parts.Code.{Code}
use Rattle.patch_code.specs.Start.{start_at}
use Rattle.patch_code.specs.Overlay.{OverlayPlan, AreOverlayWords, serving_place}
use Rattle.relocator.specs.SiteWords.{site_at}
use Rattle.result_laws.specs.ChosenPlacement.{ChosenPlacement, slots_in, places_in}
use Rattle.result_laws.specs.PlacedView.{start_plan, HasRegion}
use Rattle.relink_core.specs.Names.{name_of_slot, objects_named}
use Rattle.relink_core.specs.declared.segments.PatchSegment.{PatchSegment}

-- ---- the new segment

-- the words of a plan as a segment, and the places of its stubs
pub record IsPatchSegment (p : OverlayPlan) (r : PatchSegment) : Type 0 where
  pub words : List ℕ
  pub are : AreOverlayWords p words
  pub small : All (λ w. w < 4294967296) words
  pub base : r.segment.base ≡ p.start.base
  pub entry : r.segment.entry ≡ start_at p.start
  pub content : r.segment.bytes.items ≡ words_bytes words
  pub stubs : r.stub_at.items ≡ map (serving_place p) p.stubs

-- the new segment has these words, at the beginning of the patch range. Execution begins at the start stub
abbrev pub placed_segment : PlainView → Board → Graph → ChosenPlacement → List ℕ → NewSegment
placed_segment v board g pl words =
    record { base = board.patch.base; entry = start_at (start_plan v board g pl); content = words_bytes words }

-- ---- sites

-- for each site of a graph the region of its unit's block
pub record AreSiteRegions (c : Code) (regions : List ℕ) (g : Graph) (region_at : List ℕ) : Type 0 where
  pub many : length region_at ≡ length g.sites.items
  pub each : (k : ℕ) → k < length g.sites.items → HasRegion c regions (site_at g k).at (slice_index_or region_at k 0)

-- ---- symbols

-- symbol `k` gets the value where it is of object `o` and the object stands there; all symbols of the object's range
-- do (STT_OBJECT)
abbrev pub same_move : SymbolMove → SymbolMove → Bool
same_move m n = (m.symbol == n.symbol) && (m.value == n.value)

abbrev pub moves_with : PlainView → Graph → Places → SymbolMove → ℕ → Bool
moves_with v g place m o =
    is_symbol_of v (object_of g o).home (object_of g o).size m.symbol && (m.value == place o)

abbrev pub is_symbol_move : PlainView → Graph → Places → List ℕ → SymbolMove → Bool
is_symbol_move v g place taken m = nat_lt m.symbol (length v.symbols) && list_any (moves_with v g place m) taken

-- the moved symbols are just those of some objects, each once
pub record AreSymbolMoves (v : PlainView) (g : Graph) (place : Places) (taken : List ℕ) (moves : List SymbolMove) : Type 0 where
  pub distinct : AllPairs AreOfTwoSymbols moves
  pub exact : (m : SymbolMove) → list_any (same_move m) moves ≡ is_symbol_move v g place taken m

-- the objects that stand in the scratchpad throughout
abbrev pub static_objects : Board → ChosenPlacement → List ℕ
static_objects board pl = objects_named (map name_of_slot (slots_in board pl))

-- ---- which file it is

-- the file is written over that of the view, with words patched inside loaded sections, the segment and the symbols of
-- objects that stand in the scratchpad throughout. All this may be written, its numbers fit into words, and a reader finds
-- just this in the file
pub record IsWrittenFor (v : PlainView) (board : Board) (g : Graph) (pl : ChosenPlacement) (words out : List ℕ) : Type 0 where
  pub patches : List Patch
  pub moves : List SymbolMove
  pub patched : All (PatchesLoadedWord v) patches
  pub symbols : AreSymbolMoves v g (places_in board g pl 0) (static_objects board pl) moves
  pub bytes : out ≡ written v patches (Some (placed_segment v board g pl words)) moves
  pub view : view_in out ≡ written_view v patches (Some (placed_segment v board g pl words)) moves
  pub writable : IsWritable v patches (Some (placed_segment v board g pl words)) moves
  pub fit : HasWords (Some (placed_segment v board g pl words)) moves
