-- A result in which what is taken stands in the scratchpad realises its choice, and keeps the meaning of its program.
use Rattle.std.proofs.Common.{◌≡◌, ◌∙◌, ◌⊎◌, inl, inr, ℕ, Option, Some, None, ◌<◌, ◌≤◌, Bool, true, false, List, [], map, length, get_or, slice_index_or, sym, ap, subst, arith}
use Rattle.std.specs.List.{All}
use Rattle.std.proofs.lemmas.List.{length-map, get_or-map}
use Rattle.std.proofs.lemmas.List.Elements.{All-nil}
use Rattle.elf_reader.specs.File.{PlainView, plain_view, view_in}
use Rattle.board_config.specs.declared.board.Board.{Board}
use Rattle.loaded_file.proofs.WordLemmas.{same_view}
use Rattle.object_graph.specs.declared.parts.Graph.{Graph}
use Rattle.code_blocks.specs.Blocks.{IsCode}
use Rattle.code_blocks.specs.declared.parts.Code.{Code}
use Rattle.dataflow.specs.Tables.{IsTableOf}
use Rattle.dataflow.specs.Overlaid.{region_in}
use Rattle.block_splitter.specs.declared.piece.Piece.{Piece}
use Rattle.block_splitter.specs.Copies.{Patch}
use Rattle.block_splitter.specs.Pieces.{ArePieces}
use Rattle.block_splitter.proofs.CopySizeLemmas.{range_is}
use Rattle.placement_programme.specs.declared.variables.VarName.{VarName}
use Rattle.placement_programme.specs.declared.variables.VarName.TheVariants.{StaticData, StaticCode, OverlayData, OverlayCode, KeptData}
use Rattle.placement_programme.specs.Plain.{PlainProgramme, PlainChoice}
use Rattle.placement_programme.specs.Programme.{side_for}
use Rattle.relocator.specs.declared.slots.Slot.{Slot}
use Rattle.relocator.specs.declared.places.Places.{Places}
use Rattle.relocator.specs.Slots.{item_at, vars_for, items_of, slots_of, code_slots}
use Rattle.relocator.specs.Laws.{no_slot}
use Rattle.cell_values.specs.Objects.{IsGrain}
use Rattle.relocator.specs.Placing.{chosen_slots, ArePlaces}
use Rattle.relocator.specs.SiteWords.{HasPlaces, AreSiteWords}
use Rattle.result_laws.specs.Choices.{IsChoiceFor}
use Rattle.result_laws.specs.PlacementLaws.{regions_on}
use Rattle.result_laws.specs.PlacedLaws.{IsPlacedResult}
use Rattle.result_laws.proofs.Keeping.{placed_result_keeps}
use Rattle.relink_core.specs.declared.code_regions.CodeRegions.{CodeRegions}
use Rattle.relink_core.specs.declared.copy_source.CopySource.{CopySource}
use Rattle.relink_core.specs.declared.placed_copy.PlacedCopy.{PlacedCopy}
use Rattle.relink_core.specs.Copies.{range_in, place_in}
use Rattle.relink_core.specs.PlanLaws.{borders_on}
use Rattle.relink_core.specs.Choices.{IsAnalysisOf, KeepsMeaning}
use Rattle.relink_core.specs.Chosen.{AreRegionsOf, names_of, IsTakenBy, HaveWords, IsSourceOf}
use Rattle.relink_core.specs.Extending.{IsExtendable}
use Rattle.relink_core.specs.Names.{ranges_named}
use Rattle.relink_core.specs.MadeResults.{MadeForms}
use Rattle.relink_core.specs.Placed.{Taken, MovesItems, Realises, hands_on, moves}
use Rattle.relink_core.specs.Regions.{AreRegions}
use Rattle.relink_core.specs.Sides.{blocks_on}
use Rattle.relink_core.specs.Standing.{HasBytes, IsCopiedRange, IsKnownName, AreStanding}
use Rattle.relink_core.specs.Written.{AreSiteRegions}
use Rattle.relink_core.specs.declared.analysis.Analysis.{Analysis}
use Rattle.relink_core.specs.declared.choosing.TakenNames.{TakenNames}
use Rattle.relink_core.specs.declared.realising.MovedParts.{MovedParts}
use Rattle.relink_core.specs.declared.realising.Realised.{Realised}
use Rattle.relink_core.proofs.MoveLemmas.{has_starts}
use Rattle.relink_core.proofs.PlacedView.{region_most}
use Rattle.relink_core.proofs.RealiseLemmas.{prepared, is_read, no_items, file_keeps_meaning, runs_keep_meaning}
use Rattle.relink_core.proofs.RegionFacts.{AreCodeRegions, no_code_regions, code_regions}
use Rattle.relink_core.proofs.SlotCopies.{name_of}
use Rattle.relink_core.proofs.TakenSlots.{IsNameFor, slots_named}

-- ---- the source

-- the regions of an analysis, on a side
pub side_regions : (file : List ℕ) (board : Board) (a : Analysis) (on : Bool) → IsAnalysisOf file board a → AreCodeRegions a.code (regions_on on a.regions) (blocks_on on a.regions) (borders_on on a.regions)
side_regions file board a false is = no_code_regions a.code
side_regions file board a true is = code_regions (view_in file) a.code board a.regions a.live is.code is.code.ascending is.live is.regions

-- sites have places in their regions
pub has_places : (file : List ℕ) (board : Board) (a : Analysis) (w : CodeRegions) (on : Bool) (slots : List Slot) (places : Places) (region_at : List ℕ) → IsAnalysisOf file board a → AreRegionsOf on a.regions w → ArePlaces a.graph (regions_on on a.regions) slots places → AreSiteRegions a.code w.of_block.now a.graph region_at → HasPlaces a.graph places region_at
has_places file board a w on slots places region_at is on_side laid regions =
    let starts = has_starts a.graph (regions_on on a.regions) slots places laid in
    let count = length-map places.of.items (λ row. row.items) in
    record {
      sites = regions.many;
      objects = starts.objects;
      start = starts.rows;
      regions = λ o k below inside.
          let many = regions.many in
          let most : (b : ℕ) → region_in w.of_block.now b ≤ regions_on on a.regions =
          λ b. subst (λ (rs : List ℕ). region_in rs b ≤ regions_on on a.regions) (sym on_side.of_block) ((side_regions file board a on is).below b) in
          let region = region_most a.code w.of_block.now (regions_on on a.regions) _ (slice_index_or region_at k 0) most (regions.each k (omega (arith, inside, many))) in
          let objects = laid.table.objects in
          let wide = laid.table.widths o [] (omega (arith, objects, below)) in
          omega (arith, region, wide);
    }

-- an analysis with its words is such a source, with slices of its pieces and words
pub source_for : (file : List ℕ) (board : Board) (a : Analysis) (s : CopySource) (w : CodeRegions) (p : PlainProgramme) (choice : PlainChoice) (t : TakenNames) (sites : List Patch) → IsAnalysisOf file board a → IsTakenBy board a p choice t → AreRegionsOf choice.on a.regions w → HaveWords a w t.places sites
    → s.code.now ≡ a.code → s.live.now ≡ a.live → s.graph.now ≡ a.graph → s.pieces.now ≡ a.pieces.items → s.sites.now ≡ sites → IsSourceOf file board a.view s w a.regions p choice t
source_for file board a s w p choice t sites is taken on_side have code live graph pieces words =
    let same : plain_view a.view ≡ view_in file = same_view file a.view is.is_file in
    let extendable = prepared file board a is in
    let of_view = subst (λ (v : PlainView). AreSiteWords v a.graph t.places have.region_at sites) same have.words_are in
    record {
      read = is_read file board a is;
      same = same;
      extendable = subst (IsExtendable file board) (sym graph) extendable;
      code = subst (IsCode (view_in file)) (sym code) is.code;
      live = subst (λ (d : Code). IsTableOf d s.live.now) (sym code) (subst (IsTableOf a.code) (sym live) is.live);
      pieces = subst (λ (d : Code). ArePieces d s.graph.now s.pieces.now) (sym code)
          (subst (λ (h : Graph). ArePieces a.code h s.pieces.now) (sym graph) (subst (ArePieces a.code a.graph) (sym pieces) is.pieces));
      regions = subst (λ (d : Code). AreRegions (view_in file) d board a.regions) (sym code) is.regions;
      on_side = on_side;
      chosen = subst (λ (d : Code). IsChoiceFor board s.graph.now d a.regions s.pieces.now p choice) (sym code)
          (subst (λ (h : Graph). IsChoiceFor board h a.code a.regions s.pieces.now p choice) (sym graph)
          (subst (λ (ps : List Piece). IsChoiceFor board a.graph a.code a.regions ps p choice) (sym pieces) taken.chosen));
      named = taken.named;
      laid = subst (λ (h : Graph). ArePlaces h (regions_on choice.on a.regions) (chosen_slots board p choice) t.places) (sym graph) taken.laid;
      region_at = have.region_at;
      site_regions = subst (λ (d : Code). AreSiteRegions d w.of_block.now s.graph.now have.region_at) (sym code)
          (subst (λ (h : Graph). AreSiteRegions a.code w.of_block.now h have.region_at) (sym graph) have.site_regions);
      words = subst (λ (h : Graph). AreSiteWords (view_in file) h t.places have.region_at s.sites.now) (sym graph)
          (subst (AreSiteWords (view_in file) a.graph t.places have.region_at) (sym words) of_view);
    }

-- ---- what is realised

some_items : (p : PlainProgramme) (choice : PlainChoice) → 0 < length choice.take → 0 < length (items_of p choice)
some_items p choice some =
    let count = length-map choice.take (item_at (vars_for (side_for p choice.on))) in
    omega (arith, count, some)

-- something is taken, or overlaid
pub something : (p : PlainProgramme) (choice : PlainChoice) → (choice.on ≡ true) ⊎ (0 < length choice.take) → (choice.on ≡ true) ⊎ (0 < length (items_of p choice))
something p choice (inl on) = inl on
something p choice (inr some) = inr (some_items p choice some)

-- a result with these items is one of its placement
is_placed : (file : List ℕ) (board : Board) (a : Analysis) (t : Taken) (out : List ℕ) (is : IsAnalysisOf file board a) (moved : MovesItems file board a.graph a.code a.regions t out) → IsPlacedResult file out board a.graph a.code moved.pl
is_placed file board a t out is moved =
    record { accepted = (prepared file board a is).accepted; code = is.code; placement = moved.placement; view = moved.shows }

pub realised : (file : List ℕ) (board : Board) (a : Analysis) (t : Taken) (r : Realised) (m : Option MovedParts) → MadeForms file board a t r m → Realises file board a.graph a.code a.regions t r.bytes.items
realised file board a t r None made = hands_on made.0 made.1 made.2
realised file board a t r (Some m) made = moves made.0 made.1.moved

pub meaning_kept : (file : List ℕ) (board : Board) (a : Analysis) (t : Taken) (r : Realised) (m : Option MovedParts) → IsAnalysisOf file board a → MadeForms file board a t r m → KeepsMeaning t file r.bytes.items board
meaning_kept file board a t r None is made = file_keeps_meaning file board a t r.bytes.items is made.0 made.1 made.2
meaning_kept file board a t r (Some m) is made =
    let moved = made.1.moved in
    runs_keep_meaning t.on t.items file r.bytes.items board made.0
    (placed_result_keeps file r.bytes.items board a.graph a.code moved.pl (is_placed file board a t r.bytes.items is moved))

-- ---- where it stands

known_name : (g : Graph) (c : Code) (count : ℕ) (regions : List ℕ) (borders : List Bool) (name : VarName) (span : ℕ) → IsNameFor g c count regions borders name span → IsKnownName g c count name
known_name g c count regions borders (StaticData o) span is = is
known_name g c count regions borders (StaticCode first last) span is = (range_is c (record { first = first; last = last }) is.copied.shape).below
known_name g c count regions borders (OverlayData own o) span is = (is.0, (is.1.0, is.1.1.0))
known_name g c count regions borders (OverlayCode own first last) span is =
    (is.0, (is.1.0, (range_is c (record { first = first; last = last }) is.1.1.0.copied.shape).below))
known_name g c count regions borders (KeptData pair o) span is = (is.0, (is.1.0, is.1.1.0))

all_known : (file : List ℕ) (board : Board) (a : Analysis) (p : PlainProgramme) (choice : PlainChoice) (t : TakenNames) → IsAnalysisOf file board a → IsTakenBy board a p choice t → All (IsKnownName a.graph a.code (regions_on choice.on a.regions)) (names_of board p choice)
all_known file board a p choice t is taken k d below =
    let slots = chosen_slots board p choice in
    let accepted = (prepared file board a is).accepted in
    let grain = subst IsGrain (sym accepted.graph.grain) accepted.lawful.grain in
    let count = length-map slots name_of in
    let inside : k < length slots = omega (arith, count, below) in
    let named = slots_named board a.graph a.code a.regions a.pieces.items p choice accepted.graph.grain grain is.pieces taken.chosen in
    let slot : Slot = get_or slots k no_slot in
    subst (IsKnownName a.graph a.code (regions_on choice.on a.regions)) (sym (get_or-map name_of slots k no_slot d inside))
    (known_name a.graph a.code (regions_on choice.on a.regions) (blocks_on choice.on a.regions) (borders_on choice.on a.regions) slot.name slot.span (named k no_slot inside))

pub items_stand : (file : List ℕ) (board : Board) (a : Analysis) (p : PlainProgramme) (choice : PlainChoice) (t : TakenNames) (xs : List PlacedCopy) → IsAnalysisOf file board a → IsTakenBy board a p choice t → map range_in xs ≡ t.ranges.items → map place_in xs ≡ t.places.code.items → All (HasBytes a.graph a.code) xs → All (IsCopiedRange a.graph a.code) xs
    → AreStanding board a.graph a.code a.regions p choice t.names.items xs t.places
items_stand file board a p choice t xs is taken ranges places whole pieces =
    record {
      taken = taken.named.names;
      copied = ranges ∙ taken.named.ranges ∙ ap ranges_named (sym taken.named.names);
      at = taken.laid;
      begins = places;
      whole = whole;
      pieces = pieces;
      known = subst (All (IsKnownName a.graph a.code (regions_on choice.on a.regions))) (sym taken.named.names) (all_known file board a p choice t is taken);
    }

no_slots : (board : Board) (p : PlainProgramme) (choice : PlainChoice) → choice.take ≡ [] → chosen_slots board p choice ≡ []
no_slots board p choice none = ap (slots_of board.spm.base) (no_items p choice none)

pub nothing_stands : (file : List ℕ) (board : Board) (a : Analysis) (p : PlainProgramme) (choice : PlainChoice) (t : TakenNames) (xs : List PlacedCopy) → IsAnalysisOf file board a → IsTakenBy board a p choice t → choice.take ≡ [] → xs ≡ [] → AreStanding board a.graph a.code a.regions p choice t.names.items xs t.places
nothing_stands file board a p choice t xs is taken none empty =
    let slots = no_slots board p choice none in
    subst (λ (ys : List PlacedCopy). AreStanding board a.graph a.code a.regions p choice t.names.items ys t.places) (sym empty)
    (items_stand file board a p choice t [] is taken
    (sym (taken.named.ranges ∙ ap (λ (ss : List Slot). ranges_named (map name_of ss)) slots))
    (sym (taken.laid.code ∙ ap code_slots slots))
    (All-nil (HasBytes a.graph a.code)) (All-nil (IsCopiedRange a.graph a.code)))
