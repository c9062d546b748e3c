-- What is claimed of texts that list the inputs of a mix.
use Rattle.std.specs.Prelude.{◌≡◌, ◌↔◌, ℕ, ◌≤◌, List, [], ◌∷◌, ◌++◌, codes, length, Some, None, Contains}
use Rattle.std.specs.List.{All, flat_map}
use Rattle.std.specs.Fmt.{decimal}
use Rattle.command_language.specs.Lines.{MixLine, broken_at, mix_lines}

-- a line as it is written
abbrev pub line_text : MixLine → List ℕ
line_text l = decimal l.weight ++ (32 ∷ l.name ++ 10 ∷ [])

abbrev pub lines_text : List MixLine → List ℕ
lines_text lines = flat_map line_text lines

-- its weight is from 1 to 1,000; and its name has 1 to 255 bytes that are printed and no space, doesn't begin with `-` and
-- isn't written
pub record IsMixLine (written : List (List ℕ)) (l : MixLine) : Type 0 where
  pub some : 1 ≤ l.weight
  pub most : l.weight ≤ 1000
  pub named : 1 ≤ length l.name
  pub short : length l.name ≤ 255
  pub printed : All (λ byte. (33 ≤ byte) × (byte ≤ 126)) l.name
  pub first : (rest : List ℕ) → l.name ≡ 45 ∷ rest → ⊥
  pub read : Contains written l.name → ⊥

-- the text is that of 1 to 16 such lines
pub record Spells (written : List (List ℕ)) (text : List ℕ) (lines : List MixLine) : Type 0 where
  pub text_is : text ≡ lines_text lines
  pub some : 1 ≤ length lines
  pub few : length lines ≤ 16
  pub each : All (IsMixLine written) lines

-- a text in which no line breaks a rule is that of its lines, and each text of lines is one
abbrev pub UnbrokenIsSpelled : Type 0
UnbrokenIsSpelled =
    (written : List (List ℕ)) (text : List ℕ) (lines : List MixLine)
    → Spells written text lines ↔ ((broken_at written text ≡ None) × (lines ≡ mix_lines text))

-- a broken text begins with the lines before the place, and no more
pub record IsBroken (written : List (List ℕ)) (text : List ℕ) (at : ℕ) : Type 0 where
  pub lines : List MixLine
  pub rest : List ℕ
  pub text_is : text ≡ lines_text lines ++ rest
  pub at_is : at ≡ length (lines_text lines)
  pub few : length lines ≤ 16
  pub each : All (IsMixLine written) lines
  -- something stands there, but in an empty text
  pub stands : rest ≡ [] → lines ≡ []
  -- and it begins with no line that is one of the first 16
  pub breaks : (l : MixLine) (others : List ℕ) → IsMixLine written l → rest ≡ line_text l ++ others → length lines ≡ 16

abbrev pub BrokenIsFirst : Type 0
BrokenIsFirst =
    (written : List (List ℕ)) (text : List ℕ) (at : ℕ) → (broken_at written text ≡ Some at) ↔ IsBroken written text at

-- ---- examples

-- two lines, of the same input
abbrev pub example_line : ℕ → MixLine
example_line weight = record { weight = weight; name = codes "a" }

abbrev pub ExampleMix : Type 0
ExampleMix =
    (broken_at [] (codes "1 a\n2 a\n") ≡ None) × (mix_lines (codes "1 a\n2 a\n") ≡ example_line 1 ∷ example_line 2 ∷ [])

-- no weight; a leading zero; too heavy; no name; an unended line; a name that is written; and nothing
abbrev pub ExampleFaults : Type 0
ExampleFaults =
    (broken_at [] (codes "0 a\n") ≡ Some 0)
    × (broken_at [] (codes "1 a\n01 a\n") ≡ Some 4)
    × (broken_at [] (codes "1000 a\n1001 a\n") ≡ Some 7)
    × (broken_at [] (codes "1 \n") ≡ Some 0)
    × (broken_at [] (codes "1 a\n2 a") ≡ Some 4)
    × (broken_at (codes "out" ∷ []) (codes "1 out\n") ≡ Some 0)
    × (broken_at [] [] ≡ Some 0)
