-- The file that is made for what a choice of both sides puts into the scratchpad: it may be written, and which file it is.
use Rattle.std.proofs.Common.{◌≡◌, ◌∙◌, ℕ, ◌<◌, ◌≤◌, List, [], ◌∷◌, map, length, Some, refl, sym, ap, subst, arith}
use Rattle.std.specs.List.{All, AllPairs}
use Rattle.std.specs.List.Sorted.{IsStrictlyIncreasing}
use Rattle.std.proofs.lemmas.List.Elements.{All-nil, All-cons, All-head, All-tail}
use Rattle.elf_reader.specs.File.{PlainView, view_in}
use Rattle.elf_writer.specs.Pieces.{words_bytes, padding}
use Rattle.elf_writer.specs.declared.parts.SymbolMove.{SymbolMove}
use Rattle.elf_writer.specs.Parts.{NewSegment, new_segment}
use Rattle.elf_writer.specs.Written.{written}
use Rattle.elf_writer.specs.View.{written_view}
use Rattle.elf_writer.specs.Conditions.{PatchesLoadedWord, ArePatchesDisjoint, IsAddable, IsWritable, HasWords}
use Rattle.elf_writer.proofs.FitLemmas.{length_written, number_within, table_inside}
use Rattle.board_config.specs.Board.{IsGrain}
use Rattle.board_config.specs.declared.board.Board.{Board}
use Rattle.object_graph.specs.declared.parts.Graph.{Graph}
use Rattle.code_blocks.specs.Blocks.{IsCode}
use Rattle.code_blocks.specs.declared.parts.Code.{Code}
use Rattle.block_splitter.specs.Copies.{Patch}
use Rattle.patch_code.specs.Start.{StartPlan, start_at}
use Rattle.patch_code.specs.Serving.{serving_home}
use Rattle.patch_code.specs.Overlay.{OverlayPlan, AreOverlayWords}
use Rattle.patch_code.proofs.WholePlaces.{overlay_stands_so}
use Rattle.placement_programme.specs.declared.variables.VarName.{VarName}
use Rattle.placement_programme.specs.declared.variables.VarName.TheVariants.{StaticData, StaticCode, OverlayData, OverlayCode, KeptData}
use Rattle.relocator.specs.declared.places.Places.{Places}
use Rattle.relocator.specs.declared.slots.Slot.{Slot}
use Rattle.relocator.specs.Slots.{items_of, first_slots}
use Rattle.relocator.specs.Placing.{ArePlaces}
use Rattle.relocator.specs.SiteWords.{AreSiteWords}
use Rattle.relocator.proofs.WeightLemmas.{HasRoom, IsSized}
use Rattle.relocator.proofs.SlotLemmas.{slot_keeps}
use Rattle.relocator.proofs.PlaceLemmas.{choice_fits}
use Rattle.result_laws.specs.HomeLaws.{IsAccepted}
use Rattle.result_laws.specs.ChosenPlacement.{ChosenPlacement, slots_in, places_in, IsChosenPlacement}
use Rattle.result_laws.specs.PlacedView.{start_plan, IsPlanFor}
use Rattle.relink_core.specs.Padding.{ArePadded}
use Rattle.relink_core.specs.Making.{patch_of, AreOfGraph, moves_below}
use Rattle.relink_core.specs.Names.{objects_named}
use Rattle.relink_core.specs.Extending.{IsExtendable}
use Rattle.relink_core.specs.Written.{IsPatchSegment, placed_segment, AreSiteRegions, AreSymbolMoves, static_objects, IsWrittenFor}
use Rattle.relink_core.specs.Names.{name_of_slot}
use Rattle.relink_core.specs.declared.segments.PatchSegment.{PatchSegment}
use Rattle.relink_core.proofs.MoveLemmas.{ArePlacedAs, below_all, moves_are}
use Rattle.relink_core.proofs.PaddedPatches.{padded_loaded, padded_apart}
use Rattle.relink_core.proofs.PlacedHomes as pads
use Rattle.relink_core.proofs.RealiseLemmas.{codes}
use Rattle.relink_core.proofs.WritableLemmas.{length_bytes, some_header, few_headers, small_file, is_addable}

-- ---- objects

-- an object that is named is one of the graph
name_listed : (g : Graph) (span : ℕ) (name : VarName) (names : List VarName) → HasRoom g span name → AreOfGraph g (objects_named names) → AreOfGraph g (objects_named (name ∷ names))
name_listed g span (StaticData o) names room rest =
    All-cons (λ (x : ℕ). x < length g.objects.items) o (objects_named names) room.below rest
name_listed g span (StaticCode first last) names room rest = rest
name_listed g span (OverlayData own o) names room rest = rest
name_listed g span (OverlayCode own first last) names room rest = rest
name_listed g span (KeptData pair o) names room rest = rest

names_listed : (g : Graph) (regions : ℕ) (slots : List Slot) → All (λ s. IsSized g regions s.name s.span) slots → AreOfGraph g (objects_named (map name_of_slot slots))
names_listed g regions [] sized = All-nil (λ (x : ℕ). x < length g.objects.items)
names_listed g regions (s ∷ ss) sized =
    let here = All-head (λ (t : Slot). IsSized g regions t.name t.span) s ss sized in
    let rest = All-tail (λ (t : Slot). IsSized g regions t.name t.span) s ss sized in
    name_listed g s.span s.name (map name_of_slot ss) here.room (names_listed g regions ss rest)

-- ---- what is made

-- the new words of sites, the plan of the patch range, and its words, for a choice that can be laid out
pub record IsMadeFor (file : List ℕ) (board : Board) (g : Graph) (c : Code) (pl : ChosenPlacement) (places : Places) (region_at : List ℕ) (entries : List Patch) (plan : OverlayPlan) (words : List ℕ) : Type 0 where
  pub extendable : IsExtendable file board g
  pub code : IsCode (view_in file) c
  pub placement : IsChosenPlacement board (view_in file) g c pl
  pub laid : ArePlaces g pl.count (slots_in board pl) places
  pub regions : AreSiteRegions c pl.regions g region_at
  pub new : AreSiteWords (view_in file) g places region_at entries
  pub planned : IsPlanFor (view_in file) board g c pl plan
  pub ascending : IsStrictlyIncreasing (map serving_home plan.stubs)
  pub are : AreOverlayWords plan words
  pub small : All (λ w. w < 4294967296) words

-- the objects that stand in the scratchpad throughout are some of the graph
pub static_listed : (file : List ℕ) (board : Board) (g : Graph) (c : Code) (pl : ChosenPlacement) → IsAccepted file board g → IsChosenPlacement board (view_in file) g c pl → AreOfGraph g (static_objects board pl)
static_listed file board g c pl accepted placement =
    let grain : IsGrain g.grain = subst IsGrain (sym accepted.graph.grain) accepted.lawful.grain in
    let items = items_of pl.programme pl.choice in
    let fits = choice_fits g pl.count board pl.programme pl.choice grain placement.can in
    names_listed g pl.count (slots_in board pl)
    (slot_keeps (λ (name : VarName) (span : ℕ). IsSized g pl.count name span) (first_slots board.spm.base items) items fits.sized)

-- the segment of a plan's words is the one of the result
pub same_segment : (v : PlainView) (board : Board) (g : Graph) (c : Code) (pl : ChosenPlacement) (plan : OverlayPlan) (r : PatchSegment) → IsPlanFor v board g c pl plan → (patch : IsPatchSegment plan r) → new_segment r.segment ≡ placed_segment v board g pl patch.words
same_segment v board g c pl plan r planned patch =
    let base : r.segment.base ≡ board.patch.base = patch.base ∙ ap (λ (p : StartPlan). p.base) planned.start in
    let entry : r.segment.entry ≡ start_at (start_plan v board g pl) = patch.entry ∙ ap start_at planned.start in
    let content : r.segment.bytes.items ≡ words_bytes patch.words = patch.content in
    λ i. record { base = base i; entry = entry i; content = content i }

module _ (file : List ℕ) (board : Board) (g : Graph) (c : Code) (pl : ChosenPlacement) (places : Places) (region_at : List ℕ) (entries : List Patch) (plan : OverlayPlan) (words : List ℕ) (is : IsMadeFor file board g c pl places region_at entries plan words) where
  abbrev v : PlainView
  v = view_in file

  abbrev pub homes : List ℕ
  homes = pads.homes file board g c pl plan is.extendable is.code is.planned

  abbrev pub stub_at : List ℕ
  stub_at = pads.stub_at file board g c pl plan is.extendable is.code is.planned

  abbrev pub segment : NewSegment
  segment = placed_segment v board g pl words

  abbrev pub moves : List SymbolMove
  moves = moves_below v g places (static_objects board pl) (length v.symbols)

  accepted : IsAccepted file board g
  accepted = is.extendable.accepted

  -- how many bytes the segment has
  pub sized : (0 < length segment.content) × (length segment.content ≤ board.patch.size)
  sized =
      let count = overlay_stands_so.count plan words is.are in
      let bytes = length_bytes words in
      let base : plan.start.base ≡ board.patch.base = is.planned.lies.base in
      let ends = is.planned.lies.ends in
      (omega (arith, count, bytes), omega (arith, count, bytes, base, ends))

  pub addable : IsAddable v segment
  addable = let size = sized in is_addable file board g segment accepted is.extendable.headers refl size.0 size.1

  -- ---- symbols

  pub stand_at : ArePlacedAs g places (places_in board g pl 0)
  stand_at o below = is.laid.table.exact o 0 below (omega arith)

  pub symbols_are : AreSymbolMoves v g (places_in board g pl 0) (static_objects board pl) moves
  symbols_are =
      moves_are v board g places (places_in board g pl 0) (static_objects board pl) accepted.graph (static_listed file board g c pl accepted is.placement) stand_at

  -- ---- it may be written

  module _ (padded : List Patch) (padding_is : ArePadded entries homes stub_at padded) where
    pub patches_loaded : All (PatchesLoadedWord v) (map (patch_of v) padded)
    patches_loaded =
        padded_loaded file board g places region_at entries homes stub_at padded accepted.none accepted.graph (codes file board g accepted) is.new
        (pads.homes_code file board g c pl plan is.extendable is.code is.planned) is.ascending padding_is

    patches_apart : AllPairs ArePatchesDisjoint (map (patch_of v) padded)
    patches_apart =
        padded_apart file board g places region_at entries homes stub_at padded accepted.none accepted.graph (codes file board g accepted) is.new
        (pads.homes_code file board g c pl plan is.extendable is.code is.planned) is.ascending padding_is

    pub writable : IsWritable v (map (patch_of v) padded) (Some segment) moves
    writable =
        let patches = map (patch_of v) padded in
        let number = number_within file segment.base in
        let table = table_inside file accepted.none (some_header file board g accepted) in
        let size = length_written v patches segment moves number (omega (arith, table)) in
        let small = small_file file accepted.none in
        let few = few_headers file accepted.none in
        let ends = accepted.lawful.patch.most_size in
        let inside = sized.1 in
        let pad : padding (length file) < 4 = omega arith in
        record {
          patched = patches_loaded;
          disjoint = patches_apart;
          symbols = below_all v g places (static_objects board pl) (length v.symbols);
          distinct = symbols_are.distinct;
          allowed = addable;
          short = omega (arith, size, small, few, inside, ends, pad);
        }

    pub written_for : (out : List ℕ) → out ≡ written v (map (patch_of v) padded) (Some segment) moves → view_in out ≡ written_view v (map (patch_of v) padded) (Some segment) moves → HasWords (Some segment) moves → IsWrittenFor v board g pl words out
    written_for out bytes reads fit =
        record {
          patches = map (patch_of v) padded;
          moves = moves;
          patched = patches_loaded;
          symbols = symbols_are;
          bytes = bytes;
          view = reads;
          writable = writable;
          fit = fit;
        }
