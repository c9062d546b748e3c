-- From its start a result comes to a form of the entry, and no other word is fetched there before: so its trace is whole.
use Rattle.std.proofs.Common.{◌∙◌, inl, inr, ℕ, ◌≤◌, false, List, ◌++◌, length, refl, sym, subst}
use Rattle.rv32im.proofs.Meaning.{same_instruction}
use Rattle.elf_reader.specs.Loadable.{AreBytes}
use Rattle.board_config.specs.declared.board.Board.{Board}
use Rattle.flat_machine.specs.State.{State}
use Rattle.flat_machine.specs.Runs.{Does}
use Rattle.flat_machine.specs.declared.events.FlatEvent.{FlatEvent}
use Rattle.flat_machine.proofs.Runs.{does_joined}
use Rattle.object_graph.specs.declared.parts.Graph.{Graph}
use Rattle.code_blocks.specs.declared.parts.Code.{Code}
use Rattle.object_machine.specs.State.{SourceState}
use Rattle.patch_code.specs.Overlay.{OverlayPlan}
use Rattle.result_laws.specs.HomeLaws.{source_start, file_start}
use Rattle.result_laws.specs.ResultLaws.{most_steps}
use Rattle.result_laws.specs.ChosenPlacement.{ChosenPlacement, places_in}
use Rattle.result_laws.specs.PlacedLaws.{IsPlacedResult}
use Rattle.result_laws.specs.Walks.{IsNoFault, PlacedWalk}
use Rattle.result_laws.proofs.Walking.{placed_walks}
use Rattle.relink_core.specs.declared.unit_forms.UnitAt.{UnitAt}
use Rattle.relink_core.specs.UnitMaps.{IsUnitAt, AreUnitsAt}
use Rattle.compare_runner.specs.Comings.{StopsFirst, IsAtForm}
use Rattle.compare_runner.specs.Tracing.{TracedProgram, region_in, IsTrace}
use Rattle.compare_runner.specs.TraceLaws.{AreAtPlaces, MovedIsTraced}
use Rattle.compare_runner.proofs.OffForms.{AreAllOffForms, AreWordsOff, PlacedWordsAreOff, first_any}
use Rattle.compare_runner.proofs.ListedForms.{all_always, arrives_at_form}
use Rattle.compare_runner.proofs.ArrivalLengths.{begins_few}
use Rattle.compare_runner.proofs.MovedRegions.{HasRegions, IsRegion, has_regions, region_goes}
use Rattle.compare_runner.proofs.MovedSteps as steps
use Rattle.compare_runner.proofs.WholeLemmas.{AllAreTraced}
use Rattle.compare_runner.proofs.MovedRuns.{Left, left_traced}

module _ (file out : List ℕ) (board : Board) (g : Graph) (c : Code) (regions : List ℕ) (pl : ChosenPlacement) (result : IsPlacedResult file out board g c pl) (units : List UnitAt) (forms : AreUnitsAt (IsUnitAt board c g pl result.view.plan) units) (has : HasRegions regions pl) (off : AreWordsOff file out board g c pl result units) (input : List ℕ) (bytes : AreBytes input) (n : ℕ) (s : SourceState) (walk : PlacedWalk file out board g c pl result.view.plan input n s) (fine : IsNoFault s.outcome) where
  abbrev plan : OverlayPlan
  plan = result.view.plan

  abbrev w : TracedProgram
  w = steps.w file out board g c regions pl result units forms has off

  abbrev source : SourceState
  source = source_start file board g input

  abbrev start : State
  start = file_start out board input

  abbrev first : State
  first = walk.entered.after

  abbrev es : List FlatEvent
  es = walk.begins.events ++ walk.entering

  abbrev region : ℕ
  region = region_in w 0 source

  before : IsRegion pl 0 walk.entered.from
  before = inr (sym walk.none)

  behind : IsRegion pl region walk.entered.to
  behind = region_goes file board g c result.accepted result.code pl regions 0 walk.entered.from source.pc walk.entered.to has before walk.entered.current

  does_first : Does es start first
  does_first = does_joined walk.begins.events walk.entering start walk.behind first walk.begins.does walk.entered.does

  at_first : IsAtForm units board 0 region source.pc es first
  at_first =
      steps.at_region file out board g c regions pl result units forms has off 0 region walk.entered.from walk.entered.to source.pc es first before behind
      (arrives_at_form file out board g c pl result units forms source walk.behind walk.entering walk.begins.events walk.entered)

  off_all : (to : ℕ) → IsRegion pl region to → AreAllOffForms units board 0 to source.pc es → AreAllOffForms units board 0 region source.pc es
  off_all to (inl none) off_there fs rest e x whole listed home_is at stands =
      off_there fs rest e x whole listed home_is at (inl (all_always file out board g c pl result units forms none x listed))
  off_all to (inr same) off_there fs rest e x whole listed home_is at stands =
      subst (λ (r : ℕ). AreAllOffForms units board 0 r source.pc es) (sym same) off_there fs rest e x whole listed home_is at stands

  comes : StopsFirst (IsAtForm units board 0 region source.pc) start es first
  comes =
      first_any same_instruction units board 0 region source.pc es start first does_first
      (off_all walk.entered.to behind (off.start input walk.behind walk.entering walk.begins walk.entered walk.none)) at_first

  left : Left file out board g c regions pl result units forms has off n region source first
  left =
      record {
        last = s;
        after = walk.last;
        events = walk.events;
        walk = walk.walk;
        does = walk.does;
        ends = walk.ends;
        fine = fine;
        current = λ going.
            subst (λ (r : ℕ). IsRegion pl region r) (sym (walk.entered.match.number ∙ walk.entered.region)) behind;
      }

  pub all : AllAreTraced w (places_in board g pl) n region source first
  all = left_traced file out board g c regions pl result units forms has off n region source first left

  pub start_few : length es ≤ most_steps board
  start_few = begins_few file out board g c pl result input bytes source walk.behind walk.begins.events walk.entering walk.entered walk.none walk.begins.count

  pub start_trace : IsTrace w n source start (length es) all.steps false
  start_trace = record { events = es; first = first; comes = comes; start_is = refl; traced = all.traces }

  pub all_there : AreAtPlaces (places_in board g pl) all.steps
  all_there = all.at_places

-- the words of results are off forms: so their traces are whole
pub moved_is_traced : PlacedWordsAreOff → MovedIsTraced
moved_is_traced words_off file out board g c t taken units made input n s traceable bytes ran fine =
    let pl : ChosenPlacement = made.moved.pl in
    let result : IsPlacedResult file out board g c pl =
    record { accepted = traceable.accepted; code = traceable.code; placement = made.moved.placement; view = made.moved.shows } in
    let has : HasRegions t.of_block.items pl = has_regions t taken pl made.moved.placed in
    let off : AreWordsOff file out board g c pl result units = words_off file out board g c pl result units made.forms in
    let walk : PlacedWalk file out board g c pl result.view.plan input n s = placed_walks file out board g c pl result input n s bytes ran fine in
    record {
      start = _;
      steps = _;
      trace = start_trace file out board g c t.of_block.items pl result units made.forms has off input bytes n s walk fine;
      few = start_few file out board g c t.of_block.items pl result units made.forms has off input bytes n s walk fine;
      at_places = all_there file out board g c t.of_block.items pl result units made.forms has off input bytes n s walk fine;
    }
