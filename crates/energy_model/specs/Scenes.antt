-- What the energy of a run is about: a file and its parts, a board, and the profile of the run.
use Rattle.std.specs.Prelude.{◌≡◌, ◌≤◌, true, List, map, length, None}
use Rattle.elf_reader.specs.File.{plain_view}
use Rattle.elf_reader.specs.declared.view.ElfView.{ElfView}
use Rattle.board_config.specs.Board.{IsLawful}
use Rattle.board_config.specs.declared.board.Board.{Board}
use Rattle.loaded_file.specs.Read.{IsRead}
use Rattle.object_graph.specs.Graphs.{IsGraph}
use Rattle.object_graph.specs.declared.parts.Graph.{Graph}
use Rattle.code_blocks.specs.Leaders.{is_leader}
use Rattle.code_blocks.specs.Blocks.{start_of, IsCode, code_fault}
use Rattle.code_blocks.specs.declared.parts.Code.{Code}
use Rattle.object_machine.specs.declared.events.Outcome.TheVariants.{GoesOn}
use Rattle.object_machine.specs.Program.{program_of}
use Rattle.object_machine.specs.State.{SourceState}
use Rattle.region_former.specs.declared.table.RegionTable.{RegionTable}
use Rattle.cell_values.specs.Objects.{layout_with}
use Rattle.profile_runner.specs.Transition.{Transition}
use Rattle.profile_runner.specs.Transitions.{Transitions}
use Rattle.profile_runner.specs.Counts.{IsProfile}
use Rattle.profile_runner.specs.declared.counts.Profile.{Profile}
use Rattle.placement_programme.specs.Rows.{Layout, start_bytes}
use Rattle.energy_model.specs.Energy.{Scene}

-- the scene of the parts, and what the rows of a placement depend on
abbrev pub scene_of : Graph → Code → RegionTable → Board → Scene
scene_of g c t board =
    record {
      blocks = c.blocks.items;
      graph = g;
      regions = t.of_block.items;
      borders = t.border.items;
      region_count = t.count;
      board = board;
    }

-- what rows and weights depend on
abbrev pub layout_of : Graph → Code → RegionTable → Board → Layout
layout_of g c t board = layout_with board g (length c.blocks.items) t.count

-- the transitions are of a run of the program of a file on a board, for the board's steps or until it ends, and the profile
-- tells of them. The run begins where execution of the file does, which is where a block of the code begins
pub record IsRunOf (view : ElfView) (board : Board) (g : Graph) (c : Code) (t : RegionTable) (q : Profile) (transitions : List Transition) : Type 0 where
  pub from : SourceState
  pub to : SourceState
  pub going : from.outcome ≡ GoesOn
  pub entry : from.pc ≡ (plain_view view).entry
  pub begins : is_leader (plain_view view) from.pc ≡ true
  pub run : Transitions (program_of (plain_view view) board g) board.steps from transitions to
  pub profile : IsProfile (map start_of c.blocks.items) t.of_block.items t.count (length g.objects.items) transitions to.outcome q

-- all that a programme is made from comes from one file and one board; the patch range has room for the start stub,
-- and no check of the code fails
pub record AreOfSameFile (view : ElfView) (board : Board) (g : Graph) (c : Code) (t : RegionTable) (q : Profile) (transitions : List Transition) : Type 0 where
  pub read : IsRead view
  pub lawful : IsLawful board
  pub graph : IsGraph (plain_view view) board g
  pub code : IsCode (plain_view view) c
  pub regions : length t.of_block.items ≡ length c.blocks.items
  pub patch : start_bytes (layout_of g c t board) ≤ board.patch.size
  pub no_code_fault : code_fault (plain_view view) ≡ None
  pub run : IsRunOf view board g c t q transitions
