-- The text that lists the inputs of a mix: from 1 to 16 lines, each with a weight, a space and a name.
use Rattle.std.specs.Prelude.{◌≡◌, ℕ, suc, ◌+◌, ◌==◌, nat_lt, nat_le, Bool, true, false, not, ◌&&◌, if◌then◌else◌, List, [], ◌∷◌, drop, map, length, Option, Some, None, bytes_eq}
use Rattle.std.specs.Borrow.{Bor}
use Rattle.std.specs.List.{list_any, list_all, take_while}
use Rattle.command_language.specs.Command.{value_of}
use Rattle.command_language.specs.declared.parts.MixInput.{MixInput}
use Rattle.command_language.specs.declared.parts.MixFault.{MixFault}
use Rattle.command_language.specs.declared.parts.MixFault.TheVariants.{BadMix, Memory}

-- an input of a mix: how much its run counts, and its name
pub record MixLine : Type 0 where
  pub weight : ℕ
  pub name : List ℕ

-- ---- lines of a text

-- the bytes of a line before its newline, and whether it has one
pub record TextLine : Type 0 where
  pub bytes : List ℕ
  pub ended : Bool

abbrev pub ended_line : List ℕ → TextLine
ended_line bytes = record { bytes = bytes; ended = true }

abbrev pub line_size : TextLine → ℕ
line_size l = length l.bytes + (if l.ended then 1 else 0)

-- a text begins with a byte that is no newline
abbrev pub with_byte : ℕ → List TextLine → List TextLine
with_byte byte [] = record { bytes = byte ∷ []; ended = false } ∷ []
with_byte byte (l ∷ ls) = record { bytes = byte ∷ l.bytes; ended = l.ended } ∷ ls

abbrev pub text_lines : List ℕ → List TextLine
text_lines [] = []
text_lines (byte ∷ text) =
    if byte == 10 then ended_line [] ∷ text_lines text else with_byte byte (text_lines text)

-- ---- the parts of a line

-- the bytes before the first space, and those behind it
abbrev pub before_space : List ℕ → List ℕ
before_space bytes = take_while (λ byte. not (byte == 32)) bytes

abbrev pub behind_space : List ℕ → List ℕ
behind_space bytes = drop (length (before_space bytes) + 1) bytes

abbrev pub line_of : TextLine → MixLine
line_of l = record { weight = value_of (before_space l.bytes); name = behind_space l.bytes }

-- ---- what holds of a line

abbrev pub begins_with : ℕ → List ℕ → Bool
begins_with wanted [] = false
begins_with wanted (byte ∷ bytes) = byte == wanted

-- each of some bytes is from `low` to `high`
abbrev pub is_between : ℕ → ℕ → ℕ → Bool
is_between low high byte = nat_le low byte && nat_le byte high

abbrev pub are_within : ℕ → ℕ → List ℕ → Bool
are_within low high bytes = list_all (is_between low high) bytes

abbrev pub has_length : ℕ → ℕ → List ℕ → Bool
has_length low high bytes = nat_le low (length bytes) && nat_le (length bytes) high

-- 1 to 4 digits, the first of them no zero, that spell a number of at most 1,000
abbrev pub is_weight : List ℕ → Bool
is_weight digits =
    has_length 1 4 digits && are_within 48 57 digits && not (begins_with 48 digits) && nat_le (value_of digits) 1000

-- 1 to 255 bytes that are printed and no space, the first of them no `-`
abbrev pub is_name : List ℕ → Bool
is_name name = has_length 1 255 name && are_within 33 126 name && not (begins_with 45 name)

-- and none of the names that are written
abbrev pub is_input_name : List (List ℕ) → List ℕ → Bool
is_input_name written name = is_name name && not (list_any (λ other. bytes_eq other name) written)

abbrev pub is_mix_line : List (List ℕ) → TextLine → Bool
is_mix_line written l = l.ended && is_weight (before_space l.bytes) && is_input_name written (behind_space l.bytes)

-- ---- the text

-- where the first line begins that breaks a rule, behind `count` lines and `at` bytes; an empty text breaks one, too
abbrev pub broken_from : List (List ℕ) → ℕ → ℕ → List TextLine → Option ℕ
broken_from written count at [] = if count == 0 then Some at else None
broken_from written count at (l ∷ ls) =
    if nat_lt count 16 && is_mix_line written l then broken_from written (suc count) (at + line_size l) ls else Some at

abbrev pub broken_at : List (List ℕ) → List ℕ → Option ℕ
broken_at written text = broken_from written 0 0 (text_lines text)

-- the inputs, where no line breaks a rule
abbrev pub mix_lines : List ℕ → List MixLine
mix_lines text = map line_of (text_lines text)

-- ---- what is read

abbrev pub plain_input : MixInput → MixLine
plain_input i = record { weight = i.weight; name = i.name.now }

abbrev pub names_of : List (Bor (List ℕ)) → List (List ℕ)
names_of names = map (λ name. name.now) names

-- a fault tells where a line breaks a rule, or that memory was wanting
abbrev pub TellsBroken : Option ℕ → MixFault → Type 0
TellsBroken first (BadMix at) = first ≡ Some at
TellsBroken first Memory = Unit {0}
