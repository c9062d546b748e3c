-- The first line of a text, behind some others.
use Rattle.std.specs.Prelude.{◌≡◌, ℕ, suc, ◌+◌, ◌-◌, ◌<◌, List, ◌∷◌, length, Some}
use Rattle.command_language.specs.Lines.{MixLine, text_lines, broken_from, mix_lines}

-- it breaks a rule
abbrev pub BreaksHere : List (List ℕ) → ℕ → List ℕ → Type 0
BreaksHere written count text = (at : ℕ) → broken_from written count at (text_lines text) ≡ Some at

-- it lists this input, and the text goes on so behind it
pub record StepsOver (written : List (List ℕ)) (count : ℕ) (text : List ℕ) (line : MixLine) (behind : List ℕ) : Type 0 where
  pub shorter : length behind < length text
  pub goes_on : (at : ℕ) → broken_from written count at (text_lines text)
      ≡ broken_from written (suc count) (at + (length text - length behind)) (text_lines behind)
  pub lists : mix_lines text ≡ line ∷ mix_lines behind
