-- What a map tells, of what its parts do.
use Rattle.std.proofs.Common.{◌≡◌, ◌∙◌, ℕ, ◌<◌, ◌≤◌, ◌++◌, Bool, List, length, refl, sym, ap}
use Rattle.elf_reader.specs.File.{PlainView, view_in}
use Rattle.board_config.specs.declared.board.Board.{Board}
use Rattle.object_graph.specs.declared.parts.Graph.{Graph}
use Rattle.code_blocks.specs.declared.parts.Code.{Code}
use Rattle.code_blocks.specs.declared.parts.Function.{Function}
use Rattle.region_former.specs.declared.table.RegionTable.{RegionTable}
use Rattle.placement_programme.specs.Plain.{PlainProgramme, PlainChoice}
use Rattle.placement_programme.specs.Views.{plain_programme}
use Rattle.relocator.specs.declared.items.Item.{Item}
use Rattle.relocator.specs.Slots.{slots_of}
use Rattle.relocator.specs.Placing.{placed, chosen_slots, ArePlaces}
use Rattle.result_laws.specs.PlacementLaws.{regions_on}
use Rattle.relink_core.specs.MadeResults.{MadeForms}
use Rattle.relink_core.specs.Placed.{taken_of}
use Rattle.relink_core.specs.UnitMaps.{MakesWithUnits, hands_on, moves}
use Rattle.relink_core.specs.declared.realising.Realised.{Realised}
use Rattle.relink_core.specs.declared.unit_forms.UnitAt.{UnitAt}
use Rattle.relinking.specs.declared.stating.MeasuredProgramme.{MeasuredProgramme}
use Rattle.compare_runner.specs.TraceLaws.{made_places}
use Rattle.command_line.specs.Analysed.{IsOpened}
use Rattle.command_line.specs.CheckFile.{AcceptsChoice}
use Rattle.command_line.specs.PaidFile.{CountsFor}
use Rattle.command_line.specs.declared.opened.Opened.{Opened}
use Rattle.command_line.proofs.Paying.{makes_of}
use Rattle.command_line.proofs.Tracing.{realised}
use Rattle.result_map.specs.MapText.{MapOf, patch_rows, unit_rows, places_by, map_text}
use Rattle.result_map.specs.MapFile.{mapped, MapsMade, MapsTo}
use Rattle.result_map.proofs.RowLemmas.{same_objects}

-- ---- places

-- an object stands by the slots of a choice where it does in a result that is made for it
stands_so : (file : List ℕ) (board : Board) (g : Graph) (c : Code) (t : RegionTable) (p : PlainProgramme) (choice : PlainChoice) (out : List ℕ) (units : List UnitAt) (made : MakesWithUnits file board g c t (taken_of p choice) out units) (region o : ℕ)
    → placed g (chosen_slots board p choice) region o ≡ made_places file board g c t (taken_of p choice) out units made region o
stands_so file board g c t p choice out units (hands_on off none same forms) region o =
    ap (λ (items : List Item). placed g (slots_of board.spm.base items) region o) none
stands_so file board g c t p choice out units (moves some made) region o =
    ap (λ (items : List Item). placed g (slots_of board.spm.base items) region o) (sym made.moved.placed.items)

-- ---- the map of a result

module _ (file : List ℕ) (o : Opened) (p : PlainProgramme) (choice : PlainChoice) (r : Realised) (units : List UnitAt) (made : MakesWithUnits file o.board o.analysis.graph o.analysis.code o.analysis.regions (taken_of p choice) r.bytes.items units) (are : ArePlaces o.analysis.graph (regions_on choice.on o.analysis.regions) (chosen_slots o.board p choice) r.places) where
  -- what is told of a result by its table of places
  abbrev pub by_table : PlainView → List Function → ℕ → List UnitAt → MapOf
  by_table v functions regions told =
      record {
        view = v;
        patch = o.board.patch;
        objects = o.analysis.graph.objects.items;
        functions = functions;
        regions = regions;
        parts = r.moved;
        units = told;
        places = places_by r.places;
      }

  abbrev regions_here : ℕ
  regions_here = regions_on choice.on o.analysis.regions

  abbrev places_here : ℕ → ℕ → ℕ
  places_here = made_places file o.board o.analysis.graph o.analysis.code o.analysis.regions (taken_of p choice) r.bytes.items units made

  same_places : (k region : ℕ) → k < length o.analysis.graph.objects.items → region ≤ regions_here → places_by r.places region k ≡ places_here region k
  same_places k region below within =
      are.table.exact k region below within
      ∙ stands_so file o.board o.analysis.graph o.analysis.code o.analysis.regions p choice r.bytes.items units made region k

  abbrev before_objects : List ℕ
  before_objects =
      patch_rows (view_in file) o.board.patch o.analysis.code.functions.items regions_here r.moved

  abbrev units_here : List ℕ
  units_here = unit_rows (view_in file) o.board.patch o.analysis.code.functions.items units

  same_text : map_text (by_table (view_in file) o.analysis.code.functions.items regions_here units)
      ≡ map_text (mapped file o.board o.analysis.graph o.analysis.code o.analysis.regions (taken_of p choice) r units made)
  same_text =
      ap (λ (rows : List ℕ). before_objects ++ (units_here ++ rows))
      (same_objects (view_in file) o.analysis.graph.objects.items (places_by r.places) places_here regions_here same_places)

  pub maps_made : MadeForms file o.board o.analysis (taken_of p choice) r r.moved → (v : PlainView) (functions : List Function) (regions : ℕ) (told : List UnitAt) (text : List ℕ)
      → v ≡ view_in file → functions ≡ o.analysis.code.functions.items → regions ≡ regions_here → told ≡ units
      → text ≡ map_text (by_table v functions regions told) → MapsMade file o p choice text
  maps_made parts v functions regions told text is_view are_functions are_regions are_units is =
      record {
        result = r;
        parts = parts;
        units = units;
        made = made;
        text_is = is ∙ rw (is_view, are_functions, are_regions, are_units) same_text;
      }

-- ---- the map of a file

pub maps_to : (board_text file input cert text : List ℕ) (o : Opened) (m : MeasuredProgramme) (says : Bool) (choice : PlainChoice) → IsOpened board_text file o → CountsFor o input m
    → AcceptsChoice (plain_programme m.programme) cert says choice → MapsMade file o (plain_programme m.programme) choice text → MapsTo file board_text input cert text
maps_to board_text file input cert text o m says choice is counts accepted made =
    let a = o.analysis in
    record {
      opened = o;
      is = is;
      result = made.result;
      makes =
          makes_of board_text file input cert made.result.bytes.items o m says choice is counts accepted
          (realised file o.board a.graph a.code a.regions (taken_of (plain_programme m.programme) choice) made.result.bytes.items made.units made.made);
      found = record { graph = refl; code = refl; regions = refl };
      parts = made.parts;
      units = made.units;
      made = made.made;
      text_is = made.text_is;
    }
