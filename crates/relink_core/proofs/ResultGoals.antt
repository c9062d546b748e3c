-- What the steps by which a result is made ask of each other.
use Rattle.std.proofs.Common.{◌≡◌, ◌∙◌, ℕ, List, map, length, Some, refl, sym, ap, subst}
use Rattle.std.specs.List.Sorted.{IsStrictlyIncreasing}
use Rattle.elf_reader.specs.File.{PlainView, plain_view, view_in}
use Rattle.elf_writer.specs.declared.parts.Patch as elf
use Rattle.elf_writer.specs.declared.parts.SymbolMove.{SymbolMove}
use Rattle.elf_writer.specs.Parts.{NewSegment, new_segment}
use Rattle.elf_writer.specs.Written.{written}
use Rattle.elf_writer.specs.View.{written_view}
use Rattle.elf_writer.specs.Conditions.{IsWritable, HasWords}
use Rattle.board_config.specs.declared.board.Board.{Board}
use Rattle.object_graph.specs.declared.parts.Graph.{Graph}
use Rattle.code_blocks.specs.declared.parts.Code.{Code}
use Rattle.region_former.specs.declared.table.RegionTable.{RegionTable}
use Rattle.block_splitter.specs.Copies.{Patch}
use Rattle.placement_programme.specs.Plain.{PlainProgramme, PlainChoice}
use Rattle.relocator.specs.declared.slots.Slot.{Slot}
use Rattle.relocator.specs.Placing.{chosen_slots, ArePlaces}
use Rattle.patch_code.specs.declared.stub_plan.Stub.{Stub}
use Rattle.patch_code.specs.declared.stub_plan.StubPlan.{StubPlan}
use Rattle.patch_code.specs.StubPlans.{overlay_plan}
use Rattle.result_laws.specs.PlacementLaws.{regions_on}
use Rattle.result_laws.specs.ChosenPlacement.{ChosenPlacement, slots_in}
use Rattle.relink_core.specs.Padding.{home_of, ReachAll, ArePadded}
use Rattle.relink_core.specs.Making.{patch_of, moves_below, HasStarts, AreOfGraph}
use Rattle.relink_core.specs.Placed.{taken_of, MovesBy}
use Rattle.relink_core.specs.ResultParts.{ArePartsOf, IsPlanOfParts}
use Rattle.relink_core.specs.Names.{objects_named}
use Rattle.relink_core.specs.Extending.{IsWrittenOf}
use Rattle.relink_core.specs.Written.{static_objects, AreSiteRegions, IsPatchSegment}
use Rattle.relink_core.specs.Names.{name_of_slot}
use Rattle.relink_core.specs.declared.chosen_results.ResultParts.{ResultParts}
use Rattle.relink_core.specs.declared.segments.PatchSegment.{PatchSegment}
use Rattle.relink_core.proofs.MoveLemmas.{has_starts}
use Rattle.relink_core.proofs.PlacedWritten.{IsMadeFor, static_listed}
use Rattle.relink_core.proofs.PlacedGoals as placed
use Rattle.relink_core.proofs.PlacedGoals.{same_homes, stubs_reached}

-- what is written with these patches and these moves
pub file_written : (v : PlainView) (s : NewSegment) (padded : List Patch) (moves own : List SymbolMove) (ps : List elf.Patch) (out : List ℕ) → ps ≡ map (patch_of v) padded → own ≡ moves → out ≡ written v ps (Some s) own → view_in out ≡ written_view v ps (Some s) own → HasWords (Some s) own → IsWrittenOf v padded moves s out
file_written v s padded moves own ps out patches same bytes reads fit =
    record {
      bytes = bytes ∙ (λ i. written v (patches i) (Some s) (same i));
      reads = reads ∙ (λ i. written_view v (patches i) (Some s) (same i));
      fit = subst (HasWords (Some s)) same fit;
    }

pub may_write_so : (v : PlainView) (s : NewSegment) (padded : List Patch) (moves own : List SymbolMove) (ps : List elf.Patch) → ps ≡ map (patch_of v) padded → own ≡ moves → IsWritable v (map (patch_of v) padded) (Some s) moves → IsWritable v ps (Some s) own
may_write_so v s padded moves own ps patches same may =
    subst (λ (qs : List elf.Patch). IsWritable v qs (Some s) own) (sym patches)
    (subst (λ (ms : List SymbolMove). IsWritable v (map (patch_of v) padded) (Some s) ms) (sym same) may)

module _ (file : List ℕ) (t : RegionTable) (p : PlainProgramme) (choice : PlainChoice) (parts : ResultParts) (q : StubPlan) (is : ArePartsOf file t p choice parts) (of : IsPlanOfParts file t p choice parts q) where
  abbrev board : Board
  board = parts.board.now

  abbrev g : Graph
  g = parts.source.now.graph.now

  abbrev c : Code
  c = parts.source.now.code.now

  abbrev pl : ChosenPlacement
  pl = of.pl

  same_slots : slots_in board pl ≡ chosen_slots board p choice
  same_slots = λ i. chosen_slots board (of.programme i) (of.choice_is i)

  laid : ArePlaces g pl.count (slots_in board pl) parts.taken.now.places
  laid =
      subst (λ (n : ℕ). ArePlaces g n (slots_in board pl) parts.taken.now.places) (sym of.placed.count)
      (subst (λ (slots : List Slot). ArePlaces g (regions_on choice.on t) slots parts.taken.now.places) (sym same_slots) is.laid)

  site_regions : AreSiteRegions c pl.regions g is.region_at
  site_regions = subst (λ (rs : List ℕ). AreSiteRegions c rs g is.region_at) (is.on_side.of_block ∙ sym of.placed.regions) is.site_regions

  made : (r : PatchSegment) → (patch : IsPatchSegment (overlay_plan q) r) → IsMadeFor file board g c pl parts.taken.now.places is.region_at parts.source.now.sites.now (overlay_plan q) patch.words
  made r patch =
      record {
        extendable = is.extendable;
        code = is.code;
        placement = of.placement;
        laid = laid;
        regions = site_regions;
        new = is.words;
        planned = of.planned;
        ascending = of.ascending;
        are = patch.are;
        small = patch.small;
      }

  -- ---- objects

  objects_are : parts.taken.now.objects.items ≡ static_objects board pl
  objects_are = is.named.objects ∙ ap (λ (slots : List Slot). objects_named (map name_of_slot slots)) (sym same_slots)

  pub listed : (objects : List ℕ) → objects ≡ parts.taken.now.objects.items → AreOfGraph g objects
  listed objects same =
      subst (AreOfGraph g) (sym (same ∙ objects_are)) (static_listed file board g c pl is.extendable.accepted of.placement)

  pub starts : HasStarts g parts.taken.now.places
  starts = has_starts g (regions_on choice.on t) (chosen_slots board p choice) parts.taken.now.places is.laid

  -- ---- pads

  pub homes_rise : (ts : List Stub) → ts ≡ q.stubs.items → IsStrictlyIncreasing (map home_of ts)
  homes_rise ts same =
      subst (λ (us : List Stub). IsStrictlyIncreasing (map home_of us)) (sym same)
      (subst IsStrictlyIncreasing (same_homes q.stubs.items) of.ascending)

  module _ (r : PatchSegment) (patch : IsPatchSegment (overlay_plan q) r) where
    pub pads_reach : (ts : List Stub) (at : List ℕ) → ts ≡ q.stubs.items → at ≡ r.stub_at.items → ReachAll (map home_of ts) at
    pads_reach ts at same same_at =
        subst (λ (us : List Stub). ReachAll (map home_of us) at) (sym same)
        (subst (ReachAll (map home_of q.stubs.items)) (sym same_at)
        (stubs_reached file board g c pl q r is.extendable is.code of.planned patch))

    padded_are : (ts : List Stub) (at : List ℕ) (padded given : List Patch) → ts ≡ q.stubs.items → at ≡ r.stub_at.items → padded ≡ given → ArePadded parts.source.now.sites.now (map home_of ts) at given → ArePadded parts.source.now.sites.now (map home_of q.stubs.items) r.stub_at.items padded
    padded_are ts at padded given same same_at same_padded are =
        subst (ArePadded parts.source.now.sites.now (map home_of q.stubs.items) r.stub_at.items) (sym same_padded)
        (subst (λ (us : List Stub). ArePadded parts.source.now.sites.now (map home_of us) r.stub_at.items given) same
        (subst (λ (ns : List ℕ). ArePadded parts.source.now.sites.now (map home_of ts) ns given) same_at are))

    -- ---- the file

    module _ (ts : List Stub) (at : List ℕ) (padded given : List Patch) (objects : List ℕ) (same : ts ≡ q.stubs.items) (same_at : at ≡ r.stub_at.items) (same_padded : padded ≡ given) (same_objects : objects ≡ parts.taken.now.objects.items) (are : ArePadded parts.source.now.sites.now (map home_of ts) at given) where
      abbrev view_is : PlainView
      view_is = plain_view parts.view.now

      pub may_write : IsWritable view_is (map (patch_of view_is) padded) (Some (new_segment r.segment)) (moves_below view_is g parts.taken.now.places objects (length parts.view.now.symbols.items))
      may_write =
          placed.may_write file board g c pl parts.taken.now.places is.region_at parts.source.now.sites.now q r patch (made r patch) padded
          (padded_are ts at padded given same same_at same_padded are) parts.view.now objects is.same (same_objects ∙ objects_are)

      pub moved : (out : List ℕ) → IsWrittenOf view_is padded (moves_below view_is g parts.taken.now.places objects (length parts.view.now.symbols.items)) (new_segment r.segment) out → MovesBy file board g c t (taken_of p choice) pl (overlay_plan q) out
      moved out written =
          let (shows, (is_written, plan_is)) = placed.is_placed file board g c pl parts.taken.now.places is.region_at parts.source.now.sites.now q r patch (made r patch) padded
          (padded_are ts at padded given same same_at same_padded are) parts.view.now objects out is.same (same_objects ∙ objects_are) written in
          record {
            moved = record {
              pl = pl;
              placed = of.placed;
              placement = of.placement;
              shows = shows;
              written = is_written;
            };
            pl_is = refl;
            plan_is = plan_is;
          }
