-- The first line of a text, behind some others: it breaks a rule, or lists an input.
use Rattle.std.proofs.Common.{◌≡◌, ℕ, suc, ◌+◌, ◌-◌, ◌==◌, ◌<◌, ◌≤◌, nat_lt, true, false, ◌&&◌, List, [], ◌∷◌, ◌++◌, take, drop, length, map, add-one, Some, None, refl, sym, ap, ◌∙◌, arith}
use Rattle.std.proofs.lemmas.Bool.{cond-true, cond-false, cond_both, and_left, and_right, and_from}
use Rattle.std.proofs.lemmas.Bool.Decides.{nat_tests}
use Rattle.std.proofs.lemmas.List.{length-append}
use Rattle.std.proofs.lemmas.Slice.{between_to_end}
use Rattle.std.specs.List.{position}
use Rattle.command_language.specs.Lines.{MixLine, TextLine, ended_line, line_size, with_byte, text_lines, line_of, is_mix_line, broken_from, mix_lines}
use Rattle.command_language.specs.Steps.{BreaksHere, StepsOver}
use Rattle.command_language.proofs.LineLemmas.{is_newline, split_newline, first_line, unended, open_line}

-- ---- it breaks a rule

pub stopped : (written : List (List ℕ)) (count at : ℕ) (l : TextLine) (ls : List TextLine)
    → (nat_lt count 16 && is_mix_line written l) ≡ false → broken_from written count at (l ∷ ls) ≡ Some at
stopped written count at l ls stops =
    cond-false (nat_lt count 16 && is_mix_line written l) (broken_from written (suc count) (at + line_size l) ls) (Some at) stops

past_last : (written : List (List ℕ)) (count at : ℕ) (l : TextLine) (ls : List TextLine)
    → 16 ≤ count → broken_from written count at (l ∷ ls) ≡ Some at
past_last written count at l ls full =
    let test : nat_lt count 16 ≡ false = grind (arith, nat_tests) in
    stopped written count at l ls (and_left (nat_lt count 16) (is_mix_line written l) test)

past_onto : (written : List (List ℕ)) (count at byte : ℕ) (ls : List TextLine)
    → 16 ≤ count → broken_from written count at (with_byte byte ls) ≡ Some at
past_onto written count at byte [] full = past_last written count at (open_line (byte ∷ [])) [] full
past_onto written count at byte (l ∷ ls) full = past_last written count at (record { bytes = byte ∷ l.bytes; ended = l.ended }) ls full

-- it is the 17th
pub breaks_full : (written : List (List ℕ)) (count : ℕ) (text : List ℕ) → 1 ≤ length text → 16 ≤ count → BreaksHere written count text
breaks_full written count [] some full at = absurd (omega arith)
breaks_full written count (byte ∷ bytes) some full at =
    cond_both (byte == 10) (ended_line [] ∷ text_lines bytes) (with_byte byte (text_lines bytes)) (λ ls. broken_from written count at ls ≡ Some at)
    (λ newline. past_last written count at (ended_line []) (text_lines bytes) full)
    (λ other. past_onto written count at byte (text_lines bytes) full)

-- it has no end
pub breaks_unended : (written : List (List ℕ)) (count : ℕ) (text : List ℕ) → 1 ≤ length text → position is_newline text ≡ None → BreaksHere written count text
breaks_unended written count [] some none at = absurd (omega arith)
breaks_unended written count (byte ∷ bytes) some none at =
    ap (broken_from written count at) (unended (byte ∷ bytes) none)
    ∙ stopped written count at (open_line (byte ∷ bytes)) [] (and_right (nat_lt count 16) (is_mix_line written (open_line (byte ∷ bytes))) refl)

-- or it is no line of a mix
pub breaks_line : (written : List (List ℕ)) (count : ℕ) (text : List ℕ) (place : ℕ) → position is_newline text ≡ Some place
    → is_mix_line written (ended_line (take place text)) ≡ false → BreaksHere written count text
breaks_line written count text place found stops at =
    let line = ended_line (take place text) in
    ap (broken_from written count at) (first_line text place found)
    ∙ stopped written count at line (text_lines (drop (suc place) text)) (and_right (nat_lt count 16) (is_mix_line written line) stops)

-- ---- it lists an input

pub goes_over : (written : List (List ℕ)) (count at : ℕ) (l : TextLine) (ls : List TextLine) → count < 16 → is_mix_line written l ≡ true
    → broken_from written count at (l ∷ ls) ≡ broken_from written (suc count) (at + line_size l) ls
goes_over written count at l ls few is =
    let test : nat_lt count 16 ≡ true = grind (arith, nat_tests) in
    cond-true (nat_lt count 16 && is_mix_line written l) (broken_from written (suc count) (at + line_size l) ls) (Some at)
    (and_from (nat_lt count 16) (is_mix_line written l) test is)

module _ (written : List (List ℕ)) (count : ℕ) (text : List ℕ) (place : ℕ) (line : MixLine) (few : count < 16) (found : position is_newline text ≡ Some place)
    (is : is_mix_line written (ended_line (take place text)) ≡ true) (line_is : line ≡ line_of (ended_line (take place text))) where
  over_behind : (behind : List ℕ) → behind ≡ drop (suc place) text → StepsOver written count text line behind
  over_behind behind same =
      let bytes = take place text in
      let lines : text_lines text ≡ ended_line bytes ∷ text_lines behind =
      first_line text place found ∙ ap (λ rest. ended_line bytes ∷ text_lines rest) (sym same) in
      let split : text ≡ bytes ++ 10 ∷ behind = split_newline text place found ∙ ap (λ rest. bytes ++ 10 ∷ rest) (sym same) in
      let size : length text ≡ length bytes + suc (length behind) = ap length split ∙ length-append bytes (10 ∷ behind) in
      record {
        shorter = omega (arith, size);
        goes_on = λ at.
            let there : at + (length bytes + 1) ≡ at + (length text - length behind) = omega (arith, size) in
            ap (broken_from written count at) lines ∙ goes_over written count at (ended_line bytes) (text_lines behind) few is
            ∙ ap (λ next. broken_from written (suc count) next (text_lines behind)) there;
        lists = ap (λ ls. map line_of ls) lines ∙ ap (λ l. l ∷ mix_lines behind) (sym line_is);
      }

  pub steps_over : StepsOver written count text line (take (length text - (place + 1)) (drop (place + 1) text))
  steps_over =
      over_behind (take (length text - (place + 1)) (drop (place + 1) text))
      (rw (add-one place) (between_to_end text (suc place) (length text) (omega arith)))
