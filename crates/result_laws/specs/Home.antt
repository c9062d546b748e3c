-- A file that is loaded as it is: objects stand at their homes, and all words of code are the file's own.
use Rattle.std.specs.Prelude.{ℕ, ◌*◌, ◌/◌, Bool}
use Rattle.elf_reader.specs.File.{PlainView}
use Rattle.elf_reader.specs.Image.{image_of}
use Rattle.board_config.specs.Board.{mapped_ranges}
use Rattle.board_config.specs.declared.board.Board.{Board}
use Rattle.loaded_file.specs.Code.{is_code_word}
use Rattle.object_graph.specs.declared.parts.Graph.{Graph}
use Rattle.cell_values.specs.Objects.{objects_of}
use Rattle.cell_values.specs.Stands.{kept_uppers}
use Rattle.simulation.specs.Setups.{Setup}

-- an address is that of a byte of code
abbrev pub is_code_byte : PlainView → ℕ → Bool
is_code_byte v a = is_code_word v (a / 4 * 4)

-- code stands still, and each region has the same places
abbrev pub home_setup : PlainView → Board → Graph → Setup
home_setup v board g =
    record {
      map = mapped_ranges board;
      place = λ r. (objects_of g).home;
      upper = λ r. kept_uppers (objects_of g).home;
      is_still = λ r a. is_code_byte v a;
      still = λ r. image_of v.segments;
    }
