-- What holds of the code of an analysed file for a choice: its pieces may be copied to their slots, and the copies that are
-- made are a placement.
use Rattle.std.proofs.Common.{◌≡◌, ◌∙◌, ℕ, ◌*◌, ◌<◌, Bool, true, false, List, length, refl, sym, ap, subst}
use Rattle.std.specs.List.{All}
use Rattle.elf_reader.specs.File.{PlainView, view_in}
use Rattle.elf_reader.specs.declared.view.ElfView.{ElfView}
use Rattle.board_config.specs.declared.board.Board.{Board}
use Rattle.object_graph.specs.declared.parts.Graph.{Graph}
use Rattle.code_blocks.specs.declared.parts.Code.{Code}
use Rattle.dataflow.specs.Overlaid.{region_in, is_border}
use Rattle.region_former.specs.declared.table.RegionTable.{RegionTable}
use Rattle.block_splitter.specs.declared.block_range.BlockRange.{BlockRange}
use Rattle.cell_values.specs.Objects.{IsGrain}
use Rattle.placement_programme.specs.Plain.{PlainProgramme, PlainChoice}
use Rattle.relocator.specs.declared.slots.Slot.{Slot}
use Rattle.relocator.specs.Slots.{items_of, code_slots}
use Rattle.relocator.specs.Placing.{chosen_slots}
use Rattle.relocator.specs.Laws.{CanLayOut, IsLaidOut}
use Rattle.result_laws.specs.HomeLaws.{IsAccepted}
use Rattle.result_laws.specs.PlacementLaws.{regions_on}
use Rattle.result_laws.specs.ChosenPlacement.{ChosenPlacement, IsChosenPlacement}
use Rattle.result_laws.proofs.LayingOut.{choice_lays_out}
use Rattle.relink_core.specs.declared.code_regions.CodeRegions.{CodeRegions}
use Rattle.relink_core.specs.declared.copy_source.CopySource.{CopySource}
use Rattle.relink_core.specs.declared.placed_copy.PlacedCopy.{PlacedCopy}
use Rattle.relink_core.specs.Copies.{IsSource, IsPlacedCopy, CanPlaceAll, ArePlacedCopies}
use Rattle.relink_core.specs.StubBlocks.{IsEnteredAt}
use Rattle.relink_core.specs.PlanLaws.{borders_on}
use Rattle.relink_core.specs.Sides.{blocks_on}
use Rattle.relink_core.specs.Chosen.{IsSourceOf}
use Rattle.relink_core.specs.Standing.{HasBytes, IsCopiedRange}
use Rattle.relink_core.specs.Written.{AreSiteRegions}
use Rattle.relink_core.specs.declared.choosing.TakenNames.{TakenNames}
use Rattle.relink_core.proofs.RegionFacts.{AreCodeRegions, no_code_regions, code_regions}
use Rattle.relink_core.proofs.TakenSlots.{IsNameFor, slots_named, items_apart}
use Rattle.relink_core.proofs.SlotCopies.{ranges_in, can_all, count_coded}
use Rattle.relink_core.proofs.ChosenMade.{slots_plain, names_apart, chosen_placement, placement_is}
use Rattle.relink_core.proofs.SiteUnits.{units_code, has_sites}
use Rattle.relink_core.proofs.UnitWords.{words_of_units}

module _ (file : List ℕ) (board : Board) (view : ElfView) (s : CopySource) (w : CodeRegions) (t : RegionTable) (p : PlainProgramme) (choice : PlainChoice) (taken : TakenNames) (is : IsSourceOf file board view s w t p choice taken) where
  abbrev v : PlainView
  v = view_in file

  abbrev g : Graph
  g = s.graph.now

  abbrev c : Code
  c = s.code.now

  abbrev slots : List Slot
  slots = chosen_slots board p choice

  abbrev count : ℕ
  count = regions_on choice.on t

  abbrev regions : List ℕ
  regions = blocks_on choice.on t

  abbrev borders : List Bool
  borders = borders_on choice.on t

  accepted : IsAccepted file board g
  accepted = is.extendable.accepted

  is_grain : IsGrain g.grain
  is_grain = subst IsGrain (sym accepted.graph.grain) accepted.lawful.grain

  laid : IsLaidOut (view_in file) board g
  laid = record { lawful = accepted.lawful; layout = accepted.layout; graph = accepted.graph }

  can : CanLayOut g count board p choice
  can = choice_lays_out board g c t s.pieces.now p choice accepted.graph.grain is.chosen

  pub named : All (λ x. IsNameFor g c count regions borders x.name x.span) slots
  named = slots_named board g c t s.pieces.now p choice accepted.graph.grain is_grain is.pieces is.chosen

  pub regions_are : AreCodeRegions c count regions borders
  regions_are = by_side choice.on
    where
      by_side : (on : Bool) → AreCodeRegions c (regions_on on t) (blocks_on on t) (borders_on on t)
      by_side false = no_code_regions c
      by_side true = code_regions v c board t s.live.now is.code is.code.ascending is.live is.regions

  -- ---- copies

  pub source_is : IsSource s
  source_is =
      record {
        view = v;
        code = is.code;
        live = is.live;
        graph = (v, board, accepted.graph);
        pieces = is.pieces;
        sites = has_sites file board g c taken.places is.region_at s.sites.now accepted.none accepted.graph (units_code file board g c accepted is.code) is.words;
      }

  pub may_copy : (ranges : List BlockRange) (at : List ℕ) → ranges ≡ taken.ranges.items → at ≡ taken.places.code.items → CanPlaceAll c g ranges at
  may_copy ranges at same_ranges same_at =
      subst (λ (rs : List BlockRange). CanPlaceAll c g rs at) (sym (same_ranges ∙ is.named.ranges))
      (subst (CanPlaceAll c g (ranges_in slots)) (sym (same_at ∙ is.laid.code))
      (can_all g c count regions borders slots named (slots_plain v g count board p choice laid can)))

  pub as_many : (ranges : List BlockRange) (at : List ℕ) → ranges ≡ taken.ranges.items → at ≡ taken.places.code.items → length at ≡ length ranges
  as_many ranges at same_ranges same_at =
      ap (λ (ns : List ℕ). length ns) (same_at ∙ is.laid.code) ∙ count_coded slots ∙ ap (λ (rs : List BlockRange). length rs) (sym (same_ranges ∙ is.named.ranges))

  pub copies_are : (ranges : List BlockRange) (at : List ℕ) (xs : List PlacedCopy) → ranges ≡ taken.ranges.items → at ≡ taken.places.code.items → ArePlacedCopies s ranges at xs → ArePlacedCopies s (ranges_in slots) (code_slots slots) xs
  copies_are ranges at xs same_ranges same_at are =
      subst (λ (rs : List BlockRange). ArePlacedCopies s rs (code_slots slots) xs) (same_ranges ∙ is.named.ranges)
      (subst (λ (ns : List ℕ). ArePlacedCopies s ranges ns xs) (same_at ∙ is.laid.code) are)

  -- ---- the placement

  module _ (xs : List PlacedCopy) (are : ArePlacedCopies s (ranges_in slots) (code_slots slots) xs) where
    abbrev pub placed_with : ℕ → ChosenPlacement
    placed_with image = chosen_placement p choice count regions borders image xs s.sites.now

    site_regions : AreSiteRegions c regions g is.region_at
    site_regions = subst (λ (rs : List ℕ). AreSiteRegions c rs g is.region_at) is.on_side.of_block is.site_regions

    pub placement : (image : ℕ) → IsChosenPlacement board v g c (placed_with image)
    placement image =
        placement_is board s p choice count regions borders image xs named are v regions_are can
        (names_apart board.spm.base (items_of p choice) (items_apart board g c t s.pieces.now p choice accepted.graph.grain is_grain is.pieces is.chosen))
        (words_of_units file board g c accepted is.code (placed_with image) taken.places is.region_at s.sites.now refl is.laid regions_are.below site_regions is.words)

  -- ---- stubs

  pub borders_entered : (b : ℕ) → b < length c.blocks.items → is_border w.border.now b ≡ true → IsEnteredAt s w b
  borders_entered b below border =
      let of = regions_are.entered b (subst (λ (bs : List Bool). is_border bs b ≡ true) is.on_side.border border) in
      record {
        some = subst (λ (rs : List ℕ). 0 < region_in rs b) (sym is.on_side.of_block) of.some;
        free = of.temporary;
      }

-- ---- sizes of copies

pub copies_whole : (s : CopySource) (xs : List PlacedCopy) → All (IsPlacedCopy s) xs → All (HasBytes s.graph.now s.code.now) xs
copies_whole s xs all k d below = ap (λ (n : ℕ). 4 * n) (all k d below).copy.count

pub copies_copied : (s : CopySource) (xs : List PlacedCopy) → All (IsPlacedCopy s) xs → All (IsCopiedRange s.graph.now s.code.now) xs
copies_copied s xs all k d below = (all k d below).can.copied
