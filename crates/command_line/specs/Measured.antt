-- How the run ended by which a command measures the program of a file.
use Rattle.std.specs.Prelude.{◌≡◌, ℕ, Bool, true, false, List, [], ◌∷◌, Option, Some, None}
use Rattle.elf_reader.specs.File.{view_in}
use Rattle.board_config.specs.declared.board.Board.{Board}
use Rattle.object_graph.specs.Graphs.{IsGraph}
use Rattle.object_graph.specs.declared.parts.Graph.{Graph}
use Rattle.relinking.specs.MeasuredRuns.{EndsSo}
use Rattle.relinking.specs.declared.measuring.MeasuredEnd.{MeasuredEnd}
use Rattle.command_line.specs.Analysed.{Accepts}
use Rattle.command_language.specs.Command.{PlainCommand, relink_command, profile_command, check_command, paid_command, trace_command}

-- the program of a file, run on an input for the steps of a board, ends so
pub record MeasuresTo (file board_text input : List ℕ) (end : MeasuredEnd) : Type 0 where
  pub board : Board
  pub accepts : Accepts board_text file board
  pub graph : Graph
  pub is_graph : IsGraph (view_in file) board graph
  pub ends : EndsSo (view_in file) board graph input end

-- whether a command measures a program
abbrev pub measures : PlainCommand → Bool
measures (relink_command file board input out cert) = true
measures (profile_command file board input) = true
measures (check_command file board input cert) = true
measures (paid_command file board input cert) = true
measures (trace_command file board input cert count out) = true
measures command = false

-- what a command tells of the run that it measures, or nothing where it measures none: a rule for each that does
pub data TellsEnd (command : PlainCommand) (inputs : List (List ℕ)) (told : Option MeasuredEnd) : Type 0 where
  relink_ends : (file_name board_name input_name out_name cert_name file board input : List ℕ) (end : MeasuredEnd)
      → command ≡ relink_command file_name board_name input_name out_name cert_name
      → inputs ≡ file ∷ board ∷ input ∷ [] → told ≡ Some end → MeasuresTo file board input end → TellsEnd command inputs told
  profile_ends : (file_name board_name input_name file board input : List ℕ) (end : MeasuredEnd)
      → command ≡ profile_command file_name board_name input_name
      → inputs ≡ file ∷ board ∷ input ∷ [] → told ≡ Some end → MeasuresTo file board input end → TellsEnd command inputs told
  check_ends : (file_name board_name input_name cert_name file board input cert : List ℕ) (end : MeasuredEnd)
      → command ≡ check_command file_name board_name input_name cert_name
      → inputs ≡ file ∷ board ∷ input ∷ cert ∷ [] → told ≡ Some end → MeasuresTo file board input end → TellsEnd command inputs told
  paid_ends : (file_name board_name input_name cert_name file board input cert : List ℕ) (end : MeasuredEnd)
      → command ≡ paid_command file_name board_name input_name cert_name
      → inputs ≡ file ∷ board ∷ input ∷ cert ∷ [] → told ≡ Some end → MeasuresTo file board input end → TellsEnd command inputs told
  trace_ends : (file_name board_name input_name cert_name : List ℕ) (count : ℕ) (out_name file board input cert : List ℕ) (end : MeasuredEnd)
      → command ≡ trace_command file_name board_name input_name cert_name count out_name
      → inputs ≡ file ∷ board ∷ input ∷ cert ∷ [] → told ≡ Some end → MeasuresTo file board input end → TellsEnd command inputs told
  measures_none : measures command ≡ false → told ≡ None → TellsEnd command inputs told
