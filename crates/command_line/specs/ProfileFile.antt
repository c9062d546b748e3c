-- What `profile` tells of a file, a board and an input.
use Rattle.std.specs.Prelude.{◌≡◌, ℕ, List, length}
use Rattle.elf_reader.specs.File.{view_in}
use Rattle.board_config.specs.declared.board.Board.{Board}
use Rattle.code_blocks.specs.Numbers.{starts_of}
use Rattle.object_machine.specs.State.{SourceState}
use Rattle.result_laws.specs.HomeLaws.{program_in, source_start}
use Rattle.profile_runner.specs.Transition.{Transition}
use Rattle.profile_runner.specs.Transitions.{Transitions}
use Rattle.profile_runner.specs.Counts.{IsProfile}
use Rattle.profile_runner.specs.declared.counts.Profile.{Profile}
use Rattle.relink_core.specs.Findings.{Findings}
use Rattle.command_line.specs.Analysed.{Accepts}
use Rattle.printed_lines.specs.Endings.{IsAddressFault}
use Rattle.printed_lines.specs.ProfileLines.{profile_text}

-- The program, started on the input, takes the board's steps, or fewer where it ends. These are its moves, which meet
-- no address fault, and the lines tell their profile, by the regions of the program.
pub record ProfilesTo (file board_text input text : List ℕ) : Type 0 where
  pub board : Board
  pub accepts : Accepts board_text file board
  pub found : Findings file board
  pub transitions : List Transition
  pub last : SourceState
  pub run : Transitions (program_in file board found.graph) board.steps (source_start file board found.graph input) transitions last
  pub no_address_fault : IsAddressFault last.outcome → ⊥
  pub profile : Profile
  pub is_profile : IsProfile (starts_of found.code) found.regions.of_block.items found.regions.count (length found.graph.objects.items) transitions last.outcome profile
  pub text_is : text ≡ profile_text (view_in file) found.graph.objects.items (starts_of found.code) profile
