-- The texts under the names that a command reads.
use Rattle.std.specs.Prelude.{◌≡◌, ℕ, List, ◌++◌, length}
use Rattle.shelf_io.specs.Shelf.{ShelfView}
use Rattle.command_language.specs.Command.{PlainCommand, reads}
use Rattle.command_files.specs.Reading.{contents}
use Rattle.command_line.specs.Listing.{further_reads, HoldsInputs}
use Rattle.command_line.specs.declared.input_texts.InputTexts.{InputTexts}

-- those of its words, and behind them those that its MIX lists
abbrev pub inputs_in : InputTexts → List (List ℕ)
inputs_in inputs = contents inputs.texts.now ++ contents inputs.listed.now

-- all that the command reads, as the shelf holds it
pub record AreInputs (command : PlainCommand) (inputs : InputTexts) (shelf : ShelfView) : Type 0 where
  pub texts_size : length inputs.texts.now ≡ length (reads command)
  pub listed_size : length inputs.listed.now ≡ length (further_reads command (contents inputs.texts.now))
  pub holds : HoldsInputs shelf command (inputs_in inputs)
