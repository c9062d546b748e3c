-- The lines of a text, and their first fault.
use Rattle.std.proofs.Common.{◌≡◌, ◌⊎◌, inl, inr, ℕ, ◌+◌, ◌==◌, ◌<◌, Bool, true, false, not, if◌then◌else◌, List, [], ◌∷◌, take, drop, length, Option, Some, None, refl, sym, ◌∙◌, arith, ◌-◌, nat_lt, cond, ◌≤◌}
use Rattle.std.proofs.lemmas.Bool.{cond_both}
use Rattle.std.proofs.lemmas.Bool.Decides.{nat_tests}
use Rattle.std.proofs.lemmas.Option.{cond_some}
use Rattle.std.proofs.lemmas.List.Splits.{length-slice_split, slice_split_first}
use Rattle.std.proofs.lemmas.Slice.{between_to_end}
use Rattle.std.specs.List.{onto_first, position, position_or_len}
use Rattle.list_checks.specs.First.{◌or_else◌}
use Rattle.hex_image.specs.Records.{bytes_in}
use Rattle.hex_image.specs.Reading.{Contents, is_newline, lines_of, next_line, after_line, line_fault, is_end, trailing_fault, fault_from, contents_from}
use Rattle.hex_image.specs.declared.fault.HexFault.{HexFault}
use Rattle.hex_image.specs.declared.fault.HexFault.TheVariants.{Trailing}

pub some_line : (text : List ℕ) → 0 < length (lines_of text)
some_line text = let count = length-slice_split is_newline text in omega (arith, count)

trailing_newline : (line : ℕ) (lines : List (List ℕ)) → 0 < length lines → trailing_fault line ([] ∷ lines) ≡ Some (Trailing line)
trailing_newline line [] some = absurd (omega arith)
trailing_newline line (now ∷ lines) some = refl

trailing_byte : (line byte : ℕ) (lines : List (List ℕ)) → trailing_fault line (onto_first byte lines) ≡ Some (Trailing line)
trailing_byte line byte [] = refl
trailing_byte line byte (now ∷ lines) = refl

-- whatever stands behind the end record is trailing
pub trailing_text : (line : ℕ) (text : List ℕ) → 0 < length text → trailing_fault line (lines_of text) ≡ Some (Trailing line)
trailing_text line [] some = absurd (omega arith)
trailing_text line (byte ∷ bytes) some =
    cond_both (byte == 10) ([] ∷ lines_of bytes) (onto_first byte (lines_of bytes)) (λ lines. trailing_fault line lines ≡ Some (Trailing line))
    (λ newline. trailing_newline line (lines_of bytes) (some_line bytes))
    (λ other. trailing_byte line byte (lines_of bytes))

pub fault_before : (line : ℕ) (c : Contents) (now : List ℕ) (lines : List (List ℕ)) → 0 < length lines
    → fault_from line c (now ∷ lines) ≡ (line_fault line c (bytes_in now)
    or_else (if is_end (bytes_in now) then trailing_fault (next_line line) lines else fault_from (next_line line) (after_line c (bytes_in now)) lines))
fault_before line c now [] some = absurd (omega arith)
fault_before line c now (next ∷ lines) some = refl

-- the first fault of a line and of the text behind it
pub fault_at : (line : ℕ) (c : Contents) (now behind : List ℕ)
    → fault_from line c (now ∷ lines_of behind) ≡ (line_fault line c (bytes_in now)
    or_else (if is_end (bytes_in now) then trailing_fault (next_line line) (lines_of behind) else fault_from (next_line line) (after_line c (bytes_in now)) (lines_of behind)))
fault_at line c now behind = fault_before line c now (lines_of behind) (some_line behind)

-- ---- the first line

onto_only : (byte : ℕ) (bytes : List ℕ) (lines : List (List ℕ)) → lines ≡ bytes ∷ [] → onto_first byte lines ≡ (byte ∷ bytes) ∷ []
onto_only byte bytes lines only = rw only refl

no_newline : (text : List ℕ) → length text ≤ position_or_len is_newline text → lines_of text ≡ text ∷ []
no_newline [] past = refl
no_newline (byte ∷ bytes) past =
    let P : Bool → Type 0 = λ newline. length (byte ∷ bytes) ≤ cond (not newline) (1 + position_or_len is_newline bytes) 0 → cond newline ([] ∷ lines_of bytes) (onto_first byte (lines_of bytes)) ≡ (byte ∷ bytes) ∷ [] in
    let cases : P (byte == 10) = elim (byte == 10) as P [
      | true ↦ λ within. absurd (omega arith)
      | false ↦ λ within. onto_only byte bytes (lines_of bytes) (no_newline bytes (omega arith))
    ] in
    cases past

past_end : (place : ℕ) (size : ℕ) → cond (nat_lt place size) (Some place) None ≡ None → size ≤ place
past_end place size none = grind (arith, nat_tests)

-- where no newline stands in a text, it is one line without an end
pub unended_text : (text : List ℕ) → position is_newline text ≡ None → lines_of text ≡ text ∷ []
unended_text text none = no_newline text (past_end (position_or_len is_newline text) (length text) none)

-- a text is its first line, and what stands behind its first newline
pub first_line : (text : List ℕ) (place : ℕ) → position is_newline text ≡ Some place
    → lines_of text ≡ take place text ∷ lines_of (take (length text - (place + 1)) (drop (place + 1) text))
first_line text place found =
    let parts = cond_some (nat_lt (position_or_len is_newline text) (length text)) (position_or_len is_newline text) place found in
    let here : position_or_len is_newline text ≡ place = parts.1 in
    let within : position_or_len is_newline text < length text = let test = parts.0 in grind (arith, nat_tests) in
    let split = slice_split_first is_newline text 0 within in
    let behind : take (length text - (place + 1)) (drop (place + 1) text) ≡ drop (place + 1) text = between_to_end text (place + 1) (length text) (omega arith) in
    rw behind (rw here at split)

-- ---- the end of a text

-- the fault of a line is that of the text, if the lines before have none
pub told_fault : (told want : HexFault) (line : ℕ) (c : Contents) (now behind : List ℕ) (lines : List (List ℕ)) (first : Option HexFault)
    → lines ≡ now ∷ lines_of behind → fault_from line c lines ≡ first → (told ≡ want) ⊎ (line_fault line c (bytes_in now) ≡ Some told) → (told ≡ want) ⊎ (first ≡ Some told)
told_fault told want line c now behind lines first are is (inl is_want) = inl is_want
told_fault told want line c now behind lines first are is (inr fault) =
    let here = fault_at line c now behind in
    inr (sym is ∙ rw are (here ∙ rw fault refl))

-- what stands behind the end record says nothing
pub contents_behind : (line : ℕ) (c : Contents) (lines : List (List ℕ)) → trailing_fault line lines ≡ None → contents_from c lines ≡ c
unfolding bytes_in after_line
contents_behind line c [] none = refl
contents_behind line c ([] ∷ []) none = refl
contents_behind line c ([] ∷ next ∷ lines) none = cc
contents_behind line c ((byte ∷ bytes) ∷ lines) none = cc

pub contents_at_end : (line : ℕ) (c : Contents) (now behind : List ℕ) (lines : List (List ℕ)) → lines ≡ now ∷ lines_of behind → trailing_fault line (lines_of behind) ≡ None → contents_from c lines ≡ after_line c (bytes_in now)
contents_at_end line c now behind lines are none = rw are (contents_behind line (after_line c (bytes_in now)) (lines_of behind) none)
