-- The current region of a run, as it is counted and as the code of its blocks has it.
use Rattle.std.specs.Prelude.{◌≡◌, ◌⊎◌, ℕ, suc, ◌<◌, Bool, true, List, length}
use Rattle.elf_reader.specs.File.{view_in}
use Rattle.board_config.specs.declared.board.Board.{Board}
use Rattle.object_graph.specs.declared.parts.Graph.{Graph}
use Rattle.code_blocks.specs.Blocks.{IsCode}
use Rattle.code_blocks.specs.Numbers.{starts_of}
use Rattle.code_blocks.specs.declared.parts.Code.{Code}
use Rattle.dataflow.specs.Overlaid.{region_in, is_border}
use Rattle.object_machine.specs.State.{SourceState}
use Rattle.profile_runner.specs.Transition.{Transition, transition_at}
use Rattle.profile_runner.specs.Transitions.{Transitions}
use Rattle.profile_runner.specs.Standing.{begins, block_of, units_run, current}
use Rattle.result_laws.specs.HomeLaws.{IsAccepted, program_in, source_start}
use Rattle.result_laws.specs.LiveUnits.{StandsThere}
use Rattle.result_laws.specs.Entries.{TellsBorders, RunsIn}

-- transition `i` begins a block by which control enters a region, and that region is current from then on
pub record EntersRegion (c : Code) (regions : List ℕ) (borders : List Bool) (transitions : List Transition) (i : ℕ) : Type 0 where
  pub first : begins (starts_of c) transitions i ≡ true
  pub border : is_border borders (block_of (starts_of c) transitions i) ≡ true
  pub region : region_in regions (block_of (starts_of c) transitions i) ≡ current (starts_of c) regions transitions (suc i)

-- the counted block and unit of transition `i` stand at its address, that block runs in the current region as counted,
-- and the region is the one before it or a new one that control enters there
pub record IsCountedAt (c : Code) (regions : List ℕ) (borders : List Bool) (transitions : List Transition) (i : ℕ) : Type 0 where
  pub unit : ℕ
  pub units : units_run (starts_of c) transitions i ≡ suc unit
  pub there : StandsThere c (transition_at transitions i).at (block_of (starts_of c) transitions i) unit
  pub runs : RunsIn regions (block_of (starts_of c) transitions i) (current (starts_of c) regions transitions (suc i))
  pub changes :
      (current (starts_of c) regions transitions (suc i) ≡ current (starts_of c) regions transitions i)
      ⊎ EntersRegion c regions borders transitions i

abbrev pub RegionsAreCounted : Type 0
RegionsAreCounted =
    (file : List ℕ) (board : Board) (g : Graph) (c : Code) (input regions : List ℕ) (borders : List Bool)
    (n i : ℕ) (transitions : List Transition) (t : SourceState)
    → IsAccepted file board g → IsCode (view_in file) c → TellsBorders c regions borders
    → Transitions (program_in file board g) n (source_start file board g input) transitions t
    → i < length transitions → IsCountedAt c regions borders transitions i
