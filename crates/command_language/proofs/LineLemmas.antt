-- The first line of a text.
use Rattle.std.proofs.Common.{◌≡◌, ℕ, suc, ◌+◌, ◌-◌, ◌==◌, ◌<◌, ◌≤◌, nat_lt, Bool, true, false, not, cond, List, [], ◌∷◌, ◌++◌, take, drop, length, get_or, All, Some, None, refl, ap, ◌∙◌, arith}
use Rattle.std.proofs.lemmas.Bool.Decides.{nat_tests}
use Rattle.std.proofs.lemmas.List.{get_or-take, length-take-le}
use Rattle.std.proofs.lemmas.List.Elements.{All-tail}
use Rattle.std.proofs.lemmas.List.Quantifiers.{position-Some}
use Rattle.std.proofs.Math.Seq.{split_at}
use Rattle.std.specs.List.{position, position_or_len}
use Rattle.command_language.specs.Lines.{TextLine, ended_line, with_byte, text_lines}

abbrev pub is_newline : ℕ → Bool
is_newline byte = byte == 10

-- some bytes hold no newline
abbrev pub NoNewline : List ℕ → Type 0
NoNewline bytes = All (λ byte. is_newline byte ≡ false) bytes

-- ---- a line that is ended

pub ended_first : (line rest : List ℕ) → NoNewline line → text_lines (line ++ 10 ∷ rest) ≡ ended_line line ∷ text_lines rest
ended_first [] rest none = refl
ended_first (byte ∷ bytes) rest none =
    let first : (byte == 10) ≡ false = none 0 0 (omega arith) in
    let others = ended_first bytes rest (All-tail (λ b. is_newline b ≡ false) byte bytes none) in
    rw (first, others) refl

before_newline : (text : List ℕ) (place : ℕ) → position is_newline text ≡ Some place → NoNewline (take place text)
before_newline text place found k d below =
    let is = position-Some is_newline text place d found in
    let size : length (take place text) ≡ place = length-take-le place text (omega (arith, is.0)) in
    let within : k < place = omega (arith, size, below) in
    rw (get_or-take place text k d within) (is.2 k within)

byte_of : (byte : ℕ) → (byte == 10) ≡ true → byte ≡ 10
byte_of byte test = grind (arith, nat_tests)

-- a text is its first line, a newline and what stands behind it
pub split_newline : (text : List ℕ) (place : ℕ) → position is_newline text ≡ Some place → text ≡ take place text ++ 10 ∷ drop (suc place) text
split_newline text place found =
    let is = position-Some is_newline text place 0 found in
    let newline : get_or text place 0 ≡ 10 = byte_of (get_or text place 0) is.1 in
    split_at text place 0 is.0 ∙ ap (λ byte. take place text ++ byte ∷ drop (suc place) text) newline

pub first_line : (text : List ℕ) (place : ℕ) → position is_newline text ≡ Some place
    → text_lines text ≡ ended_line (take place text) ∷ text_lines (drop (suc place) text)
first_line text place found =
    ap text_lines (split_newline text place found) ∙ ended_first (take place text) (drop (suc place) text) (before_newline text place found)

-- ---- a line that is not

abbrev pub open_line : List ℕ → TextLine
open_line bytes = record { bytes = bytes; ended = false }

abbrev pub open_lines : List ℕ → List TextLine
open_lines [] = []
open_lines (byte ∷ bytes) = open_line (byte ∷ bytes) ∷ []

onto_open : (byte : ℕ) (bytes : List ℕ) → with_byte byte (open_lines bytes) ≡ open_line (byte ∷ bytes) ∷ []
onto_open byte [] = refl
onto_open byte (next ∷ others) = refl

unended_past : (text : List ℕ) → length text ≤ position_or_len is_newline text → text_lines text ≡ open_lines text
unended_past [] past = refl
unended_past (byte ∷ bytes) past =
    let P : Bool → Type 0 = λ newline. length (byte ∷ bytes) ≤ cond (not newline) (1 + position_or_len is_newline bytes) 0 → cond newline (ended_line [] ∷ text_lines bytes) (with_byte byte (text_lines bytes)) ≡ open_lines (byte ∷ bytes) in
    let cases : P (byte == 10) = elim (byte == 10) as P [
      | true ↦ λ within. absurd (omega arith)
      | false ↦ λ within. ap (with_byte byte) (unended_past bytes (omega arith)) ∙ onto_open byte bytes
    ] in
    cases past

past_end : (place size : ℕ) → cond (nat_lt place size) (Some place) None ≡ None → size ≤ place
past_end place size none = grind (arith, nat_tests)

-- where no newline stands in a text, it is one line without an end
pub unended : (text : List ℕ) → position is_newline text ≡ None → text_lines text ≡ open_lines text
unended text none = unended_past text (past_end (position_or_len is_newline text) (length text) none)
