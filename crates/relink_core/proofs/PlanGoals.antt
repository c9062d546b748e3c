-- The plan of the patch range for the copies of a choice: what it asks, and that it is the plan of their placement.
use Rattle.std.proofs.Common.{◌≡◌, ◌∙◌, ℕ, ◌+◌, ◌*◌, ◌<◌, ◌≤◌, Bool, true, false, if◌then◌else◌, List, [], ◌∷◌, map, length, refl, sym, ap, subst, arith}
use Rattle.std.specs.List.{sum_by}
use Rattle.std.specs.List.Sorted.{IsStrictlyIncreasing}
use Rattle.std.proofs.lemmas.List.Kept.{AllPairs-from_increasing}
use Rattle.elf_reader.specs.File.{PlainView, view_in}
use Rattle.board_config.specs.declared.board.Board.{Board}
use Rattle.object_graph.specs.declared.parts.Graph.{Graph}
use Rattle.code_blocks.specs.declared.parts.Code.{Code}
use Rattle.region_former.specs.declared.table.RegionTable.{RegionTable}
use Rattle.placement_programme.specs.declared.variables.VarName.{VarName}
use Rattle.placement_programme.specs.Plain.{PlainProgramme, PlainChoice}
use Rattle.relocator.specs.declared.slots.Slot.{Slot}
use Rattle.relocator.specs.declared.places.Places.{Places}
use Rattle.relocator.specs.Placing.{chosen_slots, ArePlaces}
use Rattle.result_laws.specs.ChosenJobs.{is_static, start_jobs, IsPlanOf}
use Rattle.patch_code.specs.Homes.{HaveHomes}
use Rattle.patch_code.specs.Start.{StartPlan, start_at, start_bytes}
use Rattle.patch_code.specs.Serving.{serving_home}
use Rattle.patch_code.specs.Overlay.{switching, serving_at, overlay_images_at}
use Rattle.patch_code.specs.StubPlans.{serving_stub, overlay_plan}
use Rattle.patch_code.specs.declared.stub_plan.Stub.{Stub}
use Rattle.patch_code.specs.declared.stub_plan.StubPlan.{StubPlan}
use Rattle.patch_code.proofs.WordLemmas.{bytes_are}
use Rattle.result_laws.specs.PlacedPieces.{piece_bytes}
use Rattle.result_laws.specs.PlacementLaws.{regions_on}
use Rattle.result_laws.specs.ChosenPlacement.{ChosenPlacement, images_in}
use Rattle.result_laws.specs.PlacedView.{start_plan, image_in, words_in, IsPlanFor}
use Rattle.relink_core.specs.declared.placed_copy.PlacedCopy.{PlacedCopy}
use Rattle.relink_core.specs.Serving.{without_image, piece_with, IsPlacedWith, served_blocks, AreStubsFrom}
use Rattle.relink_core.specs.declared.items.PlannedItems.{PlannedItems}
use Rattle.relink_core.specs.Counting.{most_bytes}
use Rattle.relink_core.specs.PlanLaws.{borders_on, IsPlacementOf}
use Rattle.relink_core.specs.Naming.{placed_pieces, images_of, copied_bytes, CanPlan}
use Rattle.relink_core.specs.Planning.{pieces_in, IsChosen, IsPlanMade}
use Rattle.relink_core.proofs.Chosen as plans
use Rattle.relink_core.proofs.Holds.{plans_fit_so}
use Rattle.relink_core.proofs.JobCounts.{entering_count}
use Rattle.relink_core.proofs.PlanRoom.{pieces_summed, plan_room}
use Rattle.relink_core.specs.Chosen.{names_of}
use Rattle.relink_core.specs.Faults.{least_patch}
use Rattle.relink_core.specs.ResultParts.{ArePartsOf, AreCopiesOf, counts_static, stubs_at, ServeCopies, IsPlanOfParts, IsPlanWith}
use Rattle.relink_core.specs.Sides.{blocks_on}
use Rattle.relink_core.specs.declared.chosen_results.ResultParts.{ResultParts}
use Rattle.relink_core.proofs.ChosenMade.{chosen_placement}
use Rattle.relink_core.proofs.PlacedStubs.{served_rise, stubs_of}
use Rattle.relink_core.proofs.SlotCopies.{name_of}
use Rattle.relink_core.proofs.SourceFacts as source
use Rattle.relink_core.proofs.MapLemmas.{sum_map}

-- ---- copies as pieces

pub pieces_are : (image : ℕ) (xs : List PlacedCopy) → map without_image (placed_pieces image xs) ≡ map piece_with xs
pieces_are image [] = refl
pieces_are image (x ∷ xs) =
    let rest = pieces_are (image + 4 * length x.code.words.items) xs in
    λ i. piece_with x ∷ rest i

patch_least : (fence : Bool) (size : ℕ) → least_patch fence ≤ size → 84 + (if fence then 4 else 0) ≤ size
patch_least true size least = least
patch_least false size least = least

module _ (file : List ℕ) (t : RegionTable) (p : PlainProgramme) (choice : PlainChoice) (parts : ResultParts) (xs : List PlacedCopy) (is : ArePartsOf file t p choice parts) (are : AreCopiesOf p choice parts xs) where
  abbrev board : Board
  board = parts.board.now

  abbrev v : PlainView
  v = view_in file

  abbrev g : Graph
  g = parts.source.now.graph.now

  abbrev c : Code
  c = parts.source.now.code.now

  abbrev slots : List Slot
  slots = chosen_slots board p choice

  abbrev pub pl : ℕ → ChosenPlacement
  pl image =
      chosen_placement p choice (regions_on choice.on t) (blocks_on choice.on t) (borders_on choice.on t) image xs parts.source.now.sites.now

  pub placement_of : (image : ℕ) → IsPlacementOf file board g c t parts.source.now.pieces.now (pl image)
  placement_of image =
      record {
        accepted = is.extendable.accepted;
        code = is.code;
        pieces_are = is.pieces;
        choice_is = is.chosen;
        placement = source.placement file board parts.view.now parts.source.now parts.regions.now t p choice parts.taken.now is xs are image;
        count_is = refl;
        borders_are = refl;
        few = t.few;
        least = patch_least board.fence_i board.patch.size is.extendable.patch;
      }

  pub with_copies : (image : ℕ) → IsPlacedWith parts.source.now parts.regions.now xs (pl image)
  with_copies image =
      record {
        words = refl;
        of_blocks = sym is.on_side.of_block;
        at_borders = sym is.on_side.border;
        are_pieces = pieces_are image xs;
      }

  -- ---- where stubs begin

  pub stubs_begin : (image : ℕ) → start_at (start_plan v board g (pl image)) + start_bytes (start_plan v board g (pl image)) ≡ stubs_at board parts.taken.now.names.items
  stubs_begin image =
      let bytes = bytes_are (start_plan v board g (pl image)) in
      let jobs = entering_count is_static g (images_in (pl image)) 0 slots in
      let counted = sum_map counts_static name_of slots in
      let named = ap (sum_by counts_static) is.named.names in
      omega (arith, bytes, jobs, counted, named)

  -- ---- room

  pub room : (n : ℕ) (names : List VarName) (stubs : List Stub) → n ≡ parts.regions.now.count → names ≡ parts.taken.now.names.items → ServeCopies parts xs stubs
      → board.patch.base + most_bytes board g n names (map serving_stub stubs) (sum_by copied_bytes xs) < 4294967296
  room n names stubs count named serve =
      let most = plan_room file board g c t parts.source.now.pieces.now (pl 0) (placement_of 0) (stubs_at board parts.taken.now.names.items) (map serving_stub stubs) (serve (pl 0) (with_copies 0)) in
      let bytes = pieces_summed 0 xs in
      let all : names ≡ names_of board p choice = named ∙ is.named.names in
      let side : n ≡ regions_on choice.on t = count ∙ is.on_side.count in
      let same : most_bytes board g n names (map serving_stub stubs) (sum_by copied_bytes xs) ≡ most_bytes board g (regions_on choice.on t) (names_of board p choice) (map serving_stub stubs) (sum_by piece_bytes (pl 0).pieces) =
      λ i. most_bytes board g (side i) (all i) (map serving_stub stubs) (sym bytes i) in
      let ends = (is.extendable.accepted.lawful.ranges 2 board.patch (omega arith)).within in
      omega (arith, most, same, ends)

  -- ---- items

  -- the items of a plan are those of the choice
  pub record ItemsAre (items : PlannedItems) : Type 0 where
    pub graph : items.graph.now ≡ g
    pub places : items.places.now ≡ parts.taken.now.places
    pub names : items.names.now ≡ parts.taken.now.names.items
    pub copies : items.copies.now ≡ xs
    pub regions : items.regions ≡ parts.regions.now.count

  module _ (items : PlannedItems) (same : ItemsAre items) where
    own : (image : ℕ) → IsPlacementOf file board items.graph.now c t parts.source.now.pieces.now (pl image)
    own image =
        subst (λ (h : Graph). IsPlacementOf file board h c t parts.source.now.pieces.now (pl image)) (sym same.graph) (placement_of image)

    named : items.names.now ≡ names_of board p choice
    named = same.names ∙ is.named.names

    count : items.regions ≡ regions_on choice.on t
    count = same.regions ∙ is.on_side.count

    places : ArePlaces items.graph.now items.regions slots items.places.now
    places =
        subst (λ (h : Graph). ArePlaces h items.regions slots items.places.now) (sym same.graph)
        (subst (λ (n : ℕ). ArePlaces g n slots items.places.now) (sym count)
        (subst (λ (x : Places). ArePlaces g (regions_on choice.on t) slots x) (sym same.places) is.laid))

    made_of : (image : ℕ) → (pl image).pieces ≡ placed_pieces image items.copies.now
    made_of image = ap (placed_pieces image) (sym same.copies)

    pub chosen_is : IsChosen board items slots
    chosen_is = plans.chosen_is file board c t parts.source.now.pieces.now (pl 0) items 0 (own 0) named count places (made_of 0)

    pub can_plan : CanPlan items
    can_plan = plans.can_plan file board c t parts.source.now.pieces.now (pl 0) items 0 (own 0) named count places (made_of 0)

    -- ---- the plan that is made

    module _ (entry : ℕ) (stubs : List Stub) (q : StubPlan) (serve : ServeCopies parts xs stubs) (same_entry : entry ≡ v.entry) (made : IsPlanMade entry board items slots stubs q) where
      abbrev at : ℕ
      at = overlay_images_at (overlay_plan q)

      start_is : (overlay_plan q).start ≡ start_plan v board g (pl at)
      start_is =
          made.start
          ∙ (λ i. record {
            base = board.patch.base;
            entry = same_entry i;
            fence_i = board.fence_i;
            jobs = start_jobs (same.graph i) (images_of (placed_pieces at (same.copies i))) slots;
          })

      jobs_are : IsPlanOf g (images_in (pl at)) slots (regions_on choice.on t) (switching (overlay_plan q))
      jobs_are =
          subst (λ (n : ℕ). IsPlanOf g (images_in (pl at)) slots n (switching (overlay_plan q))) count
          (subst (λ (ys : List PlacedCopy). IsPlanOf g (images_of (placed_pieces at ys)) slots items.regions (switching (overlay_plan q))) same.copies
          (subst (λ (h : Graph). IsPlanOf h (images_of (pieces_in items q)) slots items.regions (switching (overlay_plan q))) same.graph made.jobs))

      stubs_from : AreStubsFrom c g (pl at) (serving_at (overlay_plan q)) (served_blocks c (pl at)) (overlay_plan q).stubs
      stubs_from =
          let begin : stubs_at board parts.taken.now.names.items ≡ serving_at (overlay_plan q) =
          sym (ap (λ (s : StartPlan). start_at s + start_bytes s) start_is ∙ stubs_begin at) in
          subst (λ (n : ℕ). AreStubsFrom c g (pl at) n (served_blocks c (pl at)) (overlay_plan q).stubs) begin
          (subst (λ (ts : List Stub). AreStubsFrom c g (pl at) (stubs_at board parts.taken.now.names.items) (served_blocks c (pl at)) (map serving_stub ts)) (sym made.stubs_are)
          (serve (pl at) (with_copies at)))

      rise : IsStrictlyIncreasing (map serving_home (overlay_plan q).stubs)
      rise = served_rise v c g (pl at) (overlay_plan q) is.code stubs_from

      homes_differ : HaveHomes serving_home (overlay_plan q).stubs
      homes_differ i j d before below same_home =
          let less = AllPairs-from_increasing (map serving_home (overlay_plan q).stubs) rise i j d before below in
          omega (arith, less, same_home)

      planned : IsPlanFor v board g c (pl at) (overlay_plan q)
      planned =
          plans_fit_so file board g c t parts.source.now.pieces.now (pl at) (overlay_plan q) (placement_of at)
          (record {
            start = start_is;
            jobs = jobs_are;
            twins = made.twins;
            stubs = stubs_of v c g (pl at) (overlay_plan q) is.code stubs_from;
            apart = homes_differ;
            images = made.images ∙ ap (λ (ys : List PlacedCopy). map words_in (placed_pieces at ys)) same.copies;
            places = ap (λ (ys : List PlacedCopy). map image_in (placed_pieces at ys)) (sym same.copies) ∙ made.places;
          })

      abbrev plan_of : IsPlanOfParts file t p choice parts q
      plan_of =
          record {
            pl = pl at;
            placed = record { items = refl; side = refl; count = refl; regions = refl; borders = refl };
            programme = refl;
            choice_is = refl;
            placement = (placement_of at).placement;
            planned = planned;
            ascending = rise;
            lists = made.lists;
          }

      pub plan_with : IsPlanWith file t p choice parts xs q
      plan_with = record { of = plan_of; copied = with_copies at }
