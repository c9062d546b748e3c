-- What a mix lists, with the texts under its names.
use Rattle.std.specs.Prelude.{◌≡◌, ℕ, List, length, map, None}
use Rattle.command_language.specs.Lines.{plain_input, broken_at, mix_lines}
use Rattle.command_line.specs.declared.mix_inputs.ListedTexts.{ListedTexts}

-- no line of the text breaks a rule, and these are its lines, with a text for each
pub record Lists (written : List (List ℕ)) (text : List ℕ) (listed : ListedTexts) : Type 0 where
  pub unbroken : broken_at written text ≡ None
  pub lines_are : map plain_input listed.lines.items ≡ mix_lines text
  pub one_each : length listed.texts.now ≡ length listed.lines.items
