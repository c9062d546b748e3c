-- The promise of `relink` and `mix`: on the machine that runs both, OUT does what FILE does.
use Rattle.std.specs.Prelude.{◌≡◌, ◌⊎◌, ℕ, List, Some}
use Rattle.elf_reader.specs.File.{view_in}
use Rattle.elf_reader.specs.Loadable.{AreBytes}
use Rattle.board_config.specs.Board.{IsBoard}
use Rattle.board_config.specs.declared.board.Board.{Board}
use Rattle.shelf_io.specs.Shelf.{ShelfView}
use Rattle.object_graph.specs.Graphs.{IsGraph}
use Rattle.object_graph.specs.declared.parts.Graph.{Graph}
use Rattle.object_machine.specs.Runs.{HasEnded}
use Rattle.result_laws.specs.Absolute.{IsAbsolute}
use Rattle.compare_runner.specs.Headline.{RunsSafely, OutDoesWhatFileDoes}
use Rattle.command_language.specs.Command.{PlainCommand, relink_command, mix_command, IsCommand}
use Rattle.command_line.specs.CompareFiles.{ComparesTo}

-- `relink FILE BOARD INPUT OUT CERT`, or `mix FILE BOARD MIX OUT CERT`
abbrev pub Relinks : PlainCommand → List ℕ → List ℕ → List ℕ → Type 0
Relinks command file board out =
    (third : List ℕ)
    × ((cert : List ℕ)
    × ((command ≡ relink_command file board third out cert) ⊎ (command ≡ mix_command file board third out cert)))

-- on the board that the text spells, for each input
pub record IsRelinked (file board_text out : List ℕ) : Type 0 where
  pub board : Board
  pub is_board : IsBoard board_text board
  pub same : OutDoesWhatFileDoes file out board

-- of the bytes that the shelf tells: those of FILE and BOARD before the call, and those of OUT behind it
pub record KeepsPromise (words : List (List ℕ)) (old new : ShelfView) : Type 0 where
  pub kept : (command : PlainCommand) (file_name board_name out_name file board_text out : List ℕ)
      → IsCommand words command → Relinks command file_name board_name out_name
      → old.content file_name ≡ Some (Some file) → AreBytes file → old.content board_name ≡ Some (Some board_text)
      → new.content out_name ≡ Some (Some out)
      → IsRelinked file board_text out

-- one call of `compare` shows that the promise holds for an input: it finds both the same and tells that the program exited or
-- trapped, and the code of FILE makes addresses by absolute relocations alone
abbrev pub ComparedRunsSafely : Type 0
ComparedRunsSafely =
    (file relinked board_text input text : List ℕ) (compared : ComparesTo file relinked board_text input text)
    → HasEnded compared.outcome → IsAbsolute (view_in file)
    → RunsSafely file compared.board compared.compared.graph input

-- a program is safe to relink as far as an input goes: on the board that the text spells it runs so
pub record IsSafeOn (file board_text input : List ℕ) : Type 0 where
  pub board : Board
  pub is_board : IsBoard board_text board
  pub graph : Graph
  pub is_graph : IsGraph (view_in file) board graph
  pub safe : RunsSafely file board graph input
