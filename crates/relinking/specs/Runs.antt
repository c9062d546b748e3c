-- The run by which the program of a file is measured, on the machine whose objects have no addresses.
use Rattle.std.specs.Prelude.{◌≡◌, ℕ, List, length, Result}
use Rattle.elf_reader.specs.File.{PlainView, view_in}
use Rattle.board_config.specs.declared.board.Board.{Board}
use Rattle.object_graph.specs.Graphs.{IsGraph}
use Rattle.object_graph.specs.declared.parts.Graph.{Graph}
use Rattle.code_blocks.specs.Numbers.{starts_of}
use Rattle.code_blocks.specs.declared.parts.Code.{Code}
use Rattle.object_machine.specs.Program.{program_of}
use Rattle.object_machine.specs.State.{SourceState}
use Rattle.object_machine.specs.Start.{start_of}
use Rattle.object_machine.specs.Runs.{Steps}
use Rattle.object_machine.specs.declared.events.Outcome.{Outcome}
use Rattle.result_laws.specs.HomeLaws.{program_in, source_start}
use Rattle.region_former.specs.declared.table.RegionTable.{RegionTable}
use Rattle.profile_runner.specs.Running.{ReportsOfRun}
use Rattle.profile_runner.specs.declared.counts.Profile.{Profile}
use Rattle.profile_runner.specs.declared.fault.ProfileFault.{ProfileFault}

-- the program, started on an input, takes the board's steps, or fewer where it ends, and comes to this outcome
pub record RunsProgram (file : List ℕ) (board : Board) (input : List ℕ) (outcome : Outcome) : Type 0 where
  pub graph : Graph
  pub is_graph : IsGraph (view_in file) board graph
  pub last : SourceState
  pub taken : Steps (program_in file board graph) board.steps (source_start file board graph input) last
  pub outcome_is : outcome ≡ last.outcome

-- a profile of the program's run, by a table of regions, or its address fault, or that no memory was left
abbrev pub ReportsCounts : PlainView → Board → Graph → Code → RegionTable → List ℕ → Result Profile ProfileFault → Type 0
ReportsCounts v board g c t input result =
    (last : SourceState)
    × ReportsOfRun (starts_of c) t.of_block.items t.count (length g.objects.items) (program_of v board g) board.steps
    (start_of v (program_of v board g) g input) last result
