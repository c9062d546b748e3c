-- What a reader finds in the file that is made for what a choice of both sides puts into the scratchpad.
use Rattle.std.proofs.Common.{◌≡◌, ◌∙◌, inl, inr, ℕ, ◌+◌, ◌<◌, ◌≤◌, true, false, List, map, length, get_or, Some, refl, sym, ap, subst, arith}
use Rattle.std.specs.List.{All, filter}
use Rattle.std.proofs.lemmas.List.{get_or-map, get_or_default}
use Rattle.std.proofs.lemmas.List.Elements.{All-append, All-filter}
use Rattle.std.proofs.lemmas.List.Folds.{list_any_at}
use Rattle.rv32im.specs.Words.{plus, byte_of}
use Rattle.rv32im.specs.Memory.{Memory, word_at}
use Rattle.rv32im.specs.Table.{Means}
use Rattle.rv32im.specs.Sequences.{distance}
use Rattle.rv32im.specs.declared.instructions.Instr.TheVariants.{Jal}
use Rattle.elf_reader.specs.File.{PlainView, view_in}
use Rattle.elf_reader.specs.Image.{image_of}
use Rattle.elf_reader.specs.Loadable.{AreLoadable}
use Rattle.elf_reader.proofs.SegmentLemmas.{none_of_headers, load_segments_loadable}
use Rattle.elf_writer.specs.Parts.{NewSegment}
use Rattle.elf_writer.specs.declared.parts.SymbolMove.{SymbolMove}
use Rattle.elf_writer.specs.Conditions.{IsWritable}
use Rattle.elf_writer.specs.View.{written_view}
use Rattle.board_config.specs.declared.board.Board.{Board}
use Rattle.flat_machine.specs.Lines.{HoldsAt}
use Rattle.loaded_file.specs.Code.{image_word}
use Rattle.object_graph.specs.declared.parts.Site.{Site}
use Rattle.object_graph.specs.declared.parts.Graph.{Graph}
use Rattle.code_blocks.specs.Early.{has}
use Rattle.code_blocks.specs.declared.parts.Code.{Code}
use Rattle.block_splitter.specs.Copies.{Patch}
use Rattle.cell_values.specs.Stands.{address_word}
use Rattle.patch_code.specs.Serving.{ServingStub, serving_home}
use Rattle.patch_code.specs.Start.{start_at}
use Rattle.patch_code.specs.Overlay.{OverlayPlan, serving_place}
use Rattle.relocator.specs.declared.places.Places.{Places}
use Rattle.relocator.specs.Placing.{place_at}
use Rattle.relocator.specs.SiteWords.{no_site, site_at, no_word, data_word_at, is_entry, has_entry, site_address, word_address, IsSiteWord}
use Rattle.result_laws.specs.HomeLaws.{IsAccepted}
use Rattle.result_laws.specs.Moved.{IsMovedSite, IsMovedWord, IsOffWord}
use Rattle.result_laws.proofs.Words.{code_below}
use Rattle.result_laws.specs.ChosenPlacement.{ChosenPlacement, places_in}
use Rattle.result_laws.specs.PlacedView.{is_padded, HasRegion, InBlock, Elsewhere, IsUntouched, IsPlacedView}
use Rattle.dataflow.specs.Overlaid.{region_in}
use Rattle.relink_core.specs.Padding.{is_unpadded, ArePadded}
use Rattle.relink_core.specs.Making.{patch_of}
use Rattle.relink_core.proofs.LoadableLemmas.{words_are_bytes, written_loadable}
use Rattle.relink_core.proofs.PaddedMemory as held_words
use Rattle.relink_core.proofs.PaddedPatches.{placed_held, all_placed}
use Rattle.relink_core.proofs.PatchedMemory as patched
use Rattle.relink_core.proofs.PatchedMemory.{word_from, AreHeld}
use Rattle.relink_core.proofs.PlacedHomes as pads
use Rattle.relink_core.proofs.PlacedHomes.{one_region}
use Rattle.relink_core.proofs.PlacedWritten as made
use Rattle.relink_core.proofs.PlacedWritten.{IsMadeFor}
use Rattle.relink_core.proofs.RealiseLemmas.{codes, graphs}
use Rattle.relink_core.proofs.Near.{IsNear, is_near}
use Rattle.relink_core.proofs.WritableLemmas.{entry_itself}

-- the region of an address is one of those that there are
pub region_most : (c : Code) (regions : List ℕ) (count a r : ℕ) → ((b : ℕ) → region_in regions b ≤ count) → HasRegion c regions a r → r ≤ count
region_most c regions count a _ most (InBlock b k there) = most b
region_most c regions count a _ most (Elsewhere none) = omega arith

module _ (file : List ℕ) (board : Board) (g : Graph) (c : Code) (pl : ChosenPlacement) (places : Places) (region_at : List ℕ) (entries : List Patch) (plan : OverlayPlan) (words : List ℕ) (is : IsMadeFor file board g c pl places region_at entries plan words) where
  abbrev v : PlainView
  v = view_in file

  abbrev homes : List ℕ
  homes = made.homes file board g c pl places region_at entries plan words is

  abbrev stub_at : List ℕ
  stub_at = made.stub_at file board g c pl places region_at entries plan words is

  abbrev segment : NewSegment
  segment = made.segment file board g c pl places region_at entries plan words is

  abbrev moves : List SymbolMove
  moves = made.moves file board g c pl places region_at entries plan words is

  accepted : IsAccepted file board g
  accepted = is.extendable.accepted

  loadable : AreLoadable v.segments
  loadable = load_segments_loadable file accepted.bytes (none_of_headers file accepted.none)

  near : IsNear v board
  near = is_near file board g accepted

  inside : length segment.content ≤ board.patch.size
  inside = (made.sized file board g c pl places region_at entries plan words is).1

  count_homes : length homes ≡ length plan.stubs
  count_homes = pads.count_homes file board g c pl plan is.extendable is.code is.planned

  module _ (padded : List Patch) (padding : ArePadded entries homes stub_at padded) where
    abbrev w : PlainView
    w = written_view v (map (patch_of v) padded) (Some segment) moves

    abbrev memory : Memory
    memory = image_of w.segments

    writable : IsWritable v (map (patch_of v) padded) (Some segment) moves
    writable = made.writable file board g c pl places region_at entries plan words is padded padding

    held : AreHeld v padded
    held j d below =
        placed_held v (get_or padded j d)
        (all_placed file board g places region_at entries homes stub_at padded accepted.none accepted.graph (codes file board g accepted) is.new
        (pads.homes_code file board g c pl plan is.extendable is.code is.planned) is.ascending padding j d below)

    words_hold : HoldsAt memory board.patch.base words
    words_hold =
        patched.segment_loaded file board.patch padded segment moves accepted.none held writable refl inside words refl is.small near.ends

    -- ---- pads

    pads_stand : All (λ (stub : ServingStub). Means (image_word w stub.home) (Jal 0 (distance stub.home (serving_place plan stub)))) plan.stubs
    pads_stand k d below =
        let stub = get_or plan.stubs k d in
        let count = count_homes in
        let home : get_or homes k 0 ≡ stub.home = get_or-map serving_home plan.stubs k d 0 below in
        let to : get_or stub_at k 0 ≡ serving_place plan stub = get_or-map (serving_place plan) plan.stubs k d 0 below in
        let at_code = pads.homes_code file board g c pl plan is.extendable is.code is.planned k 0 (omega (arith, below, count)) in
        let fits = code_below v (get_or homes k 0) loadable at_code in
        held_words.pad_loaded file board.patch entries homes stub_at padded segment moves accepted.none padding held writable refl inside
        k stub.home (serving_place plan stub) (omega (arith, below, count)) home to (omega (arith, fits, home))

    -- ---- words of sites and of data

    word_loaded : (a n i : ℕ) → has homes a ≡ false → has_entry entries a n ≡ true → i < 4 → memory (a + i) ≡ byte_of n i
    word_loaded a n i off has_it less =
        held_words.word_loaded file board.patch entries homes stub_at padded segment moves accepted.none padding held writable refl inside a n i off has_it less

    -- the address that a site makes is that of its object's place in the region of its block
    site_made : (k r : ℕ) → k < length g.sites.items → HasRegion c pl.regions (site_at g k).at r
        → site_address g places region_at k ≡ address_word (places_in board g pl r) (site_at g k).object (site_at g k).offset
    site_made k r below has_region =
        let t = site_at g k in
        let same : get_or region_at k 0 ≡ r =
        one_region file board g c pl.regions t.at (get_or region_at k 0) r accepted is.code (is.regions.each k below) has_region in
        let most = region_most c pl.regions pl.count t.at r is.placement.below has_region in
        let object = (graphs file board g accepted).sites k below in
        ap (λ (x : ℕ). plus (place_at places t.object x) t.offset) same
        ∙ ap (λ (x : ℕ). plus x t.offset) (is.laid.table.exact t.object r object most)

    sites_moved : All (λ (t : Site). is_padded c pl t.at ≡ false → (r : ℕ) → HasRegion c pl.regions t.at r → IsMovedSite v w (places_in board g pl r) t) g.sites.items
    sites_moved k d below =
        subst (λ (t : Site). is_padded c pl t.at ≡ false → (r : ℕ) → HasRegion c pl.regions t.at r → IsMovedSite v w (places_in board g pl r) t) (sym (get_or_default g.sites.items k d no_site below))
        (λ unpadded r has_region.
        let t = site_at g k in
        let (n, (has_it, new)) = is.new.sites k below in
        let off = pads.off_homes file board g c pl plan is.extendable is.code is.planned t.at unpadded in
        let fits = code_below v t.at loadable (codes file board g accepted k below) in
        let word : word_at memory t.at ≡ n =
        word_from memory t.at n (omega (arith, fits)) new.below (λ i less. word_loaded t.at n i off has_it less) in
        subst (λ (x : ℕ). IsSiteWord t.kind x (image_word v t.at) (word_at memory t.at)) (site_made k r below has_region)
        (subst (λ (x : ℕ). IsSiteWord t.kind (site_address g places region_at k) (image_word v t.at) x) (sym word) new))

    words_moved : All (IsMovedWord w (places_in board g pl 0)) g.data_words.items
    words_moved k d below =
        subst (IsMovedWord w (places_in board g pl 0)) (sym (get_or_default g.data_words.items k d no_word below))
        (λ i less.
        let t = data_word_at g k in
        let object = (graphs file board g accepted).words k below in
        let off = pads.off_data file board g c pl plan is.extendable is.code is.planned k below in
        word_loaded t.at (word_address g places k) i off (is.new.data_words k below) less
        ∙ ap (λ (x : ℕ). byte_of (plus x t.offset) i) (made.stand_at file board g c pl places region_at entries plan words is t.object object))

    -- ---- the rest

    words_off : (a : ℕ) → IsUntouched v board g c pl a → All (λ (e : Patch). IsOffWord a e.0) entries
    words_off a off j d below =
        let e = get_or entries j d in
        elim (is.new.only e.0 e.1 (list_any_at (is_entry e.0 e.1) entries j d below (entry_itself e))) [
          | inl site ↦ subst (λ (x : ℕ). IsOffWord a x) site.1.1 (off.sites site.0 no_site site.1.0)
          | inr word ↦ subst (λ (x : ℕ). IsOffWord a x) word.1.1 (off.words word.0 no_word word.1.0)
        ]

    pads_off : (a : ℕ) → IsUntouched v board g c pl a → All (λ (e : Patch). IsOffWord a e.0) padding.pads
    pads_off a off k d below =
        let many = padding.are.many in
        let count = count_homes in
        let pad = padding.are.each k (omega (arith, below, many)) in
        let home = pads.home_is file board g c pl plan is.extendable is.code is.planned k (omega (arith, below, many, count)) in
        let at : (get_or padding.pads k d).0 ≡ get_or homes k 0 = ap (λ (e : Patch). e.0) (get_or_default padding.pads k d (0, 0) below) ∙ pad.at in
        subst (λ (x : ℕ). IsOffWord a x) (home.starts ∙ sym at) (off.pads home.block home.below home.served)

    rest_stays : (a : ℕ) → IsUntouched v board g c pl a → memory a ≡ image_of v.segments a
    rest_stays a off =
        patched.rest_stays file board.patch padded segment moves accepted.none held writable refl inside a off.patch
        (subst (All (λ (e : Patch). IsOffWord a e.0)) (sym padding.whole)
        (All-append (λ (e : Patch). IsOffWord a e.0) (filter (is_unpadded homes) entries) padding.pads (All-filter (is_unpadded homes) (λ (e : Patch). IsOffWord a e.0) entries (words_off a off)) (pads_off a off)))
        off.unchanged

    -- ---- the whole view

    -- so it is in any view that is this one, with these words in the patch range
    pub shown : (u : PlainView) → u ≡ w → (shows : IsPlacedView v u board g c pl) × ((shows.words ≡ words) × (shows.plan ≡ plan))
    shown u same = (
      record {
        plan = plan;
        words = words;
        planned = is.planned;
        are = is.are;
        loadable = subst (λ (x : PlainView). AreLoadable x.segments) (sym same)
            (written_loadable v (map (patch_of v) padded) segment moves loadable
            (made.addable file board g c pl places region_at entries plan words is) (words_are_bytes words));
        entry = ap (λ (x : PlainView). x.entry) same ∙ sym (ap start_at is.planned.start);
        holds = subst (λ (x : PlainView). HoldsAt (image_of x.segments) board.patch.base words) (sym same) words_hold;
        pads = subst (λ (x : PlainView). All (λ (stub : ServingStub). Means (image_word x stub.home) (Jal 0 (distance stub.home (serving_place plan stub)))) plan.stubs) (sym same) pads_stand;
        sites = subst (λ (x : PlainView). All (λ (t : Site). is_padded c pl t.at ≡ false → (r : ℕ) → HasRegion c pl.regions t.at r → IsMovedSite v x (places_in board g pl r) t) g.sites.items) (sym same) sites_moved;
        data_words = subst (λ (x : PlainView). All (IsMovedWord x (places_in board g pl 0)) g.data_words.items) (sym same) words_moved;
        elsewhere = λ a off. ap (λ (x : PlainView). image_of x.segments a) same ∙ rest_stays a off;
      },
      (refl, refl),
    )
