-- Results start at a form of the entry: so their traces say, of no step.
use Rattle.std.proofs.Common.{ℕ, ◌≤◌, List, refl, sym, subst}
use Rattle.elf_reader.specs.Loadable.{AreBytes}
use Rattle.board_config.specs.declared.board.Board.{Board}
use Rattle.object_graph.specs.declared.parts.Graph.{Graph}
use Rattle.code_blocks.specs.declared.parts.Code.{Code}
use Rattle.region_former.specs.declared.table.RegionTable.{RegionTable}
use Rattle.cell_values.specs.Stands.{Places}
use Rattle.result_laws.specs.HomeLaws.{source_start, file_start}
use Rattle.result_laws.specs.ResultLaws.{most_steps}
use Rattle.result_laws.specs.ChosenPlacement.{places_in}
use Rattle.relink_core.specs.Placed.{Taken}
use Rattle.relink_core.specs.UnitMaps.{MakesWithUnits, hands_on, moves}
use Rattle.relink_core.specs.declared.unit_forms.UnitAt.{UnitAt}
use Rattle.compare_runner.specs.Comings.{IsAtForm}
use Rattle.compare_runner.specs.Seeking.{StartsWithin}
use Rattle.compare_runner.specs.Tracing.{region_in}
use Rattle.compare_runner.specs.TraceLaws.{traced_in, homes_of, IsTraceable, IsTracedWhole, MovedIsTraced, UnmovedIsTraced, ResultsStart}

module _ (file : List ℕ) (board : Board) (g : Graph) (c : Code) (t : RegionTable) (units : List UnitAt) (input : List ℕ) where
  abbrev Starts : List ℕ → Type 0
  Starts out =
      StartsWithin (IsAtForm units board 0 (region_in (traced_in file board g c t units) 0 (source_start file board g input)) (source_start file board g input).pc)
      (most_steps board) (file_start out board input)

  starts_whole : (out : List ℕ) (places : ℕ → Places) (n : ℕ) → IsTracedWhole file out board g c t units places input n → Starts out
  starts_whole out places n whole =
      let trace = whole.trace in
      record {
        events = trace.events;
        last = trace.first;
        few = subst (λ (k : ℕ). k ≤ most_steps board) trace.start_is whole.few;
        first = trace.comes;
      }

  starts_by : MovedIsTraced → UnmovedIsTraced → (out : List ℕ) (taken : Taken) → MakesWithUnits file board g c t taken out units → IsTraceable file board g c t → AreBytes input → Starts out
  starts_by moved unmoved out taken (moves some made) traceable bytes =
      starts_whole out (places_in board g made.moved.pl) 0
      (moved file out board g c t taken units made input 0 (source_start file board g input) traceable bytes refl tt)
  starts_by moved unmoved out taken (hands_on side none same forms) traceable bytes =
      subst Starts (sym same)
      (starts_whole file (homes_of g) 0
      (unmoved file board g c t taken units (hands_on side none refl forms) side none input 0 (source_start file board g input) traceable bytes refl tt))

pub results_start : MovedIsTraced → UnmovedIsTraced → ResultsStart
results_start moved unmoved file out board g c t taken units made input traceable bytes =
    starts_by file board g c t units input moved unmoved out taken made traceable bytes
