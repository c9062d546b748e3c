-- Texts by the grammar of their lines.
use Rattle.std.proofs.Common.{◌≡◌, ℕ, zero, suc, ◌+◌, ◌-◌, ◌==◌, ◌<◌, ◌≤◌, nat_lt, Bool, true, false, ◌&&◌, cond, if◌then◌else◌, List, [], ◌∷◌, ◌++◌, take, drop, length, map, All, Option, Some, None, refl, sym, subst, ap, ◌∙◌, arith}
use Rattle.std.proofs.lemmas.Bool.{and_parts, cond_both, cond-false}
use Rattle.std.proofs.lemmas.Bool.Decides.{nat_tests}
use Rattle.std.proofs.lemmas.List.{append_assoc, append-nil, length-append}
use Rattle.std.proofs.lemmas.List.Elements.{All-nil, All-cons, All-head, All-tail}
use Rattle.std.specs.List.{position}
use Rattle.command_language.specs.MixLaws.{IsMixLine, line_text, lines_text, Spells, IsBroken}
use Rattle.command_language.specs.Lines.{MixLine, TextLine, ended_line, line_size, with_byte, text_lines, line_of, is_mix_line, broken_from, broken_at, mix_lines}
use Rattle.command_language.proofs.LineLemmas.{is_newline, ended_first, split_newline, first_line, open_lines, unended}
use Rattle.command_language.proofs.StepLemmas.{goes_over}
use Rattle.command_language.proofs.SpellLemmas.{line_bytes, line_joined, no_newline, line_is_read, line_told}

-- ---- the first line of a text

first_read : (written : List (List ℕ)) (l : MixLine) (rest : List ℕ) → IsMixLine written l
    → text_lines (line_text l ++ rest) ≡ ended_line (line_bytes l) ∷ text_lines rest
first_read written l rest is = ap text_lines (line_joined l rest) ∙ ended_first (line_bytes l) rest (no_newline written l is)

-- what stands behind the first line of a text, where that is ended
record Behind (text : List ℕ) (l : TextLine) (ls : List TextLine) : Type 0 where
  behind : List ℕ
  text_is : text ≡ l.bytes ++ 10 ∷ behind
  lines_are : text_lines behind ≡ ls

abbrev first_bytes : List TextLine → List ℕ
first_bytes [] = []
first_bytes (l ∷ ls) = l.bytes

abbrev first_ended : List TextLine → Bool
first_ended [] = false
first_ended (l ∷ ls) = l.ended

abbrev first_or : TextLine → List TextLine → TextLine
first_or other [] = other
first_or other (l ∷ ls) = l

abbrev others : List TextLine → List TextLine
others [] = []
others (l ∷ ls) = ls

open_has_no_end : (text : List ℕ) → first_ended (open_lines text) ≡ false
open_has_no_end [] = refl
open_has_no_end (byte ∷ bytes) = refl

behind_by : (text : List ℕ) (l : TextLine) (ls : List TextLine) → text_lines text ≡ l ∷ ls → l.ended ≡ true
    → (found : Option ℕ) → position is_newline text ≡ found → Behind text l ls
behind_by text l ls lines ended None found =
    let unended_now : l.ended ≡ false = ap first_ended (sym lines ∙ unended text found) ∙ open_has_no_end text in
    absurd (cc)
behind_by text l ls lines ended (Some place) found =
    let same : ended_line (take place text) ∷ text_lines (drop (suc place) text) ≡ l ∷ ls = sym (first_line text place found) ∙ lines in
    record {
      behind = drop (suc place) text;
      text_is = split_newline text place found ∙ ap (λ bytes. bytes ++ 10 ∷ drop (suc place) text) (ap first_bytes same);
      lines_are = ap others same;
    }

behind_line : (text : List ℕ) (l : TextLine) (ls : List TextLine) → text_lines text ≡ l ∷ ls → l.ended ≡ true → Behind text l ls
behind_line text l ls lines ended = behind_by text l ls lines ended (position is_newline text) refl

-- a line of a mix and what stands behind it
mix_behind : (written : List (List ℕ)) (text : List ℕ) (l : TextLine) (ls : List TextLine) → text_lines text ≡ l ∷ ls
    → is_mix_line written l ≡ true → (b : Behind text l ls) × (text ≡ line_text (line_of l) ++ b.behind)
mix_behind written text l ls lines is =
    let told = line_told written l is in
    let ended : l.ended ≡ true = ap (λ (m : TextLine). m.ended) told.1 in
    let b = behind_line text l ls lines ended in
    (b, b.text_is ∙ ap (λ (m : TextLine). m.bytes ++ 10 ∷ b.behind) told.1 ∙ sym (line_joined (line_of l) b.behind))

some_onto : (byte : ℕ) (ls : List TextLine) → with_byte byte ls ≡ [] → ⊥
some_onto byte [] none = cc
some_onto byte (l ∷ ls) none = cc

no_lines : (text : List ℕ) → text_lines text ≡ [] → text ≡ []
no_lines [] none = refl
no_lines (byte ∷ bytes) none =
    absurd (cond_both (byte == 10) (ended_line [] ∷ text_lines bytes) (with_byte byte (text_lines bytes)) (λ ls. ls ≡ [] → ⊥)
    (λ newline gone. cc) (λ other gone. some_onto byte (text_lines bytes) gone) none)

-- ---- lines as they are written are read

size_more : (l : MixLine) (ls : List MixLine) → length (lines_text (l ∷ ls)) ≡ length (line_bytes l) + 1 + length (lines_text ls)
size_more l ls =
    let one : length (line_text l ++ []) ≡ length (line_bytes l) + 1 = ap length (line_joined l []) ∙ length-append (line_bytes l) (10 ∷ []) in
    let alone = length-append (line_text l) [] in
    let both = length-append (line_text l) (lines_text ls) in
    omega (arith, one, alone, both)

at_counts : (written : List (List ℕ)) (ls : List TextLine) (count count' at at' : ℕ) → count ≡ count' → at ≡ at'
    → broken_from written count at ls ≡ broken_from written count' at' ls
at_counts written ls count count' at at' same there = λ i. broken_from written (same i) (there i) ls

pub read_on : (written : List (List ℕ)) (lines : List MixLine) (rest : List ℕ) (count at : ℕ) → All (IsMixLine written) lines → count + length lines ≤ 16
    → broken_from written count at (text_lines (lines_text lines ++ rest))
    ≡ broken_from written (count + length lines) (at + length (lines_text lines)) (text_lines rest)
read_on written [] rest count at each few = at_counts written (text_lines rest) count (count + 0) at (at + 0) (omega arith) (omega arith)
read_on written (l ∷ ls) rest count at each few =
    let is = All-head (IsMixLine written) l ls each in
    let next = lines_text ls ++ rest in
    let lines : text_lines (lines_text (l ∷ ls) ++ rest) ≡ ended_line (line_bytes l) ∷ text_lines next =
    ap text_lines (append_assoc (line_text l) (lines_text ls) rest) ∙ first_read written l next is in
    let size = size_more l ls in
    let few_now : count < 16 = omega (arith, few) in
    let few_more : suc count + length ls ≤ 16 = omega (arith, few) in
    ap (broken_from written count at) lines
    ∙ goes_over written count at (ended_line (line_bytes l)) (text_lines next) few_now (line_is_read written l is).0
    ∙ read_on written ls rest (suc count) (at + (length (line_bytes l) + 1)) (All-tail (IsMixLine written) l ls each) few_more
    ∙ at_counts written (text_lines rest) (suc count + length ls) (count + length (l ∷ ls)) (at + (length (line_bytes l) + 1) + length (lines_text ls)) (at + length (lines_text (l ∷ ls)))
    (omega arith) (omega (arith, size))

lists_on : (written : List (List ℕ)) (lines : List MixLine) (rest : List ℕ) → All (IsMixLine written) lines
    → mix_lines (lines_text lines ++ rest) ≡ lines ++ mix_lines rest
lists_on written [] rest each = refl
lists_on written (l ∷ ls) rest each =
    let is = All-head (IsMixLine written) l ls each in
    let next = lines_text ls ++ rest in
    ap mix_lines (append_assoc (line_text l) (lines_text ls) rest)
    ∙ ap (λ ms. map line_of ms) (first_read written l next is)
    ∙ ap (λ m. m ∷ mix_lines next) (line_is_read written l is).1
    ∙ ap (λ ms. l ∷ ms) (lists_on written ls rest (All-tail (IsMixLine written) l ls each))

past_first : (count at : ℕ) → 1 ≤ count → (if count == 0 then Some at else None) ≡ None
past_first count at some = let test : (count == 0) ≡ false = grind (arith, nat_tests) in cond-false (count == 0) (Some at) None test

spelled_is_unbroken : (written : List (List ℕ)) (text : List ℕ) (lines : List MixLine) → Spells written text lines
    → (broken_at written text ≡ None) × (lines ≡ mix_lines text)
spelled_is_unbroken written text lines s =
    let whole : text ≡ lines_text lines ++ [] = s.text_is ∙ sym (append-nil (lines_text lines)) in (
      ap (broken_at written) whole ∙ read_on written lines [] 0 0 s.each (omega (arith, s.few)) ∙ past_first (0 + length lines) (0 + length (lines_text lines)) (omega (arith, s.some)),
      sym (ap mix_lines whole ∙ lists_on written lines [] s.each ∙ append-nil lines),
    )

-- ---- a text in which no line breaks a rule

record Unbroken (written : List (List ℕ)) (count : ℕ) (text : List ℕ) (ls : List TextLine) : Type 0 where
  text_is : text ≡ lines_text (map line_of ls)
  each : All (IsMixLine written) (map line_of ls)
  some : 1 ≤ count + length (map line_of ls)
  few : count + length (map line_of ls) ≤ 16

went_on : (test : Bool) (more : Option ℕ) (at : ℕ) → cond test more (Some at) ≡ None → (test ≡ true) × (more ≡ None)
went_on true more at none = (refl, none)
went_on false more at none = absurd (cc)

counted : (count at : ℕ) → (if count == 0 then Some at else None) ≡ None → 1 ≤ count
counted zero at none = absurd (cc)
counted (suc count) at none = omega arith

unbroken : (written : List (List ℕ)) (ls : List TextLine) (text : List ℕ) (count at : ℕ) → text_lines text ≡ ls → broken_from written count at ls ≡ None
    → count ≤ 16 → Unbroken written count text ls
unbroken written [] text count at lines none low =
    let some = counted count at none in
    record { text_is = no_lines text lines; each = All-nil (IsMixLine written); some = omega (arith, some); few = omega arith }
unbroken written (l ∷ ls) text count at lines none low =
    let on = went_on (nat_lt count 16 && is_mix_line written l) (broken_from written (suc count) (at + line_size l) ls) at none in
    let tests = and_parts (nat_lt count 16) (is_mix_line written l) on.0 in
    let first = tests.0 in
    let few : count < 16 = grind (arith, nat_tests) in
    let (b, joined) = mix_behind written text l ls lines tests.1 in
    let rest = unbroken written ls b.behind (suc count) (at + line_size l) b.lines_are on.1 (omega (arith, few)) in
    let size = rest.few in
    record {
      text_is = joined ∙ ap (λ more. line_text (line_of l) ++ more) rest.text_is;
      each = All-cons (IsMixLine written) (line_of l) (map line_of ls) (line_told written l tests.1).0 rest.each;
      some = omega arith;
      few = omega (arith, size);
    }

unbroken_is_spelled : (written : List (List ℕ)) (text : List ℕ) (lines : List MixLine) → broken_at written text ≡ None → lines ≡ mix_lines text
    → Spells written text lines
unbroken_is_spelled written text lines none are =
    let u = unbroken written (text_lines text) text 0 0 refl none (omega arith) in
    let some = u.some in
    let few = u.few in
    subst (Spells written text) (sym are) (record { text_is = u.text_is; some = omega (arith, some); few = omega (arith, few); each = u.each })

pub spelling : (written : List (List ℕ)) (text : List ℕ) (lines : List MixLine)
    → (Spells written text lines → (broken_at written text ≡ None) × (lines ≡ mix_lines text))
    × ((broken_at written text ≡ None) × (lines ≡ mix_lines text) → Spells written text lines)
spelling written text lines = (spelled_is_unbroken written text lines, λ (none, are). unbroken_is_spelled written text lines none are)

-- ---- a text in which one does

record Broken (written : List (List ℕ)) (count at : ℕ) (text : List ℕ) (place : ℕ) : Type 0 where
  lines : List MixLine
  rest : List ℕ
  text_is : text ≡ lines_text lines ++ rest
  place_is : place ≡ at + length (lines_text lines)
  few : count + length lines ≤ 16
  each : All (IsMixLine written) lines
  stands : rest ≡ [] → count + length lines ≡ 0
  breaks : (l : MixLine) (others : List ℕ) → IsMixLine written l → rest ≡ line_text l ++ others → count + length lines ≡ 16

no_first : (written : List (List ℕ)) (text : List ℕ) (l : MixLine) (others : List ℕ) → text ≡ [] → IsMixLine written l → text ≡ line_text l ++ others → ⊥
no_first written text l others none is e =
    let lines : text_lines [] ≡ ended_line (line_bytes l) ∷ text_lines others = ap text_lines (sym none ∙ e) ∙ first_read written l others is in
    cc

ends_here : (count at place : ℕ) → (if count == 0 then Some at else None) ≡ Some place → (count ≡ 0) × (place ≡ at)
ends_here zero at place told = (refl, cc)
ends_here (suc count) at place told =
    let test : (suc count == 0) ≡ false = grind (arith, nat_tests) in
    let gone : None ≡ Some place = sym (cond-false (suc count == 0) (Some at) None test) ∙ told in
    absurd (cc)

full_by : (few is : Bool) (count : ℕ) → (few && is) ≡ false → is ≡ true → nat_lt count 16 ≡ few → count ≤ 16 → count + 0 ≡ 16
full_by true true count stops passes test low = absurd (cc)
full_by true false count stops passes test low = absurd (cc)
full_by false is count stops passes test low = let full : 16 ≤ count = grind (arith, nat_tests) in omega arith

-- the first line breaks a rule, or does not
broken_first : (written : List (List ℕ)) (l : TextLine) (ls : List TextLine) (text : List ℕ) (count at : ℕ) → text_lines text ≡ l ∷ ls
    → (nat_lt count 16 && is_mix_line written l) ≡ false → count ≤ 16 → Broken written count at text at
broken_first written l ls text count at lines stops low =
    record {
      lines = [];
      rest = text;
      text_is = refl;
      place_is = omega arith;
      few = omega arith;
      each = All-nil (IsMixLine written);
      stands = λ none. let gone : [] ≡ l ∷ ls = sym (ap text_lines none) ∙ lines in absurd (cc);
      breaks = λ m more is e.
          let same : l ∷ ls ≡ ended_line (line_bytes m) ∷ text_lines more = sym lines ∙ ap text_lines e ∙ first_read written m more is in
          let first : l ≡ ended_line (line_bytes m) = ap (first_or l) same in
          let passes : is_mix_line written l ≡ true = ap (is_mix_line written) first ∙ (line_is_read written m is).0 in
          full_by (nat_lt count 16) (is_mix_line written l) count stops passes refl low;
    }

broken : (written : List (List ℕ)) (ls : List TextLine) (text : List ℕ) (count at place : ℕ) → text_lines text ≡ ls
    → broken_from written count at ls ≡ Some place → count ≤ 16 → Broken written count at text place
broken written [] text count at place lines told low =
    let ends = ends_here count at place told in
    let none_left = ends.0 in
    let here = ends.1 in
    record {
      lines = [];
      rest = text;
      text_is = refl;
      place_is = omega (arith, here);
      few = omega arith;
      each = All-nil (IsMixLine written);
      stands = λ none. omega (arith, none_left);
      breaks = λ m more is e. absurd (no_first written text m more (no_lines text lines) is e);
    }
broken written (l ∷ ls) text count at place lines told low =
    let more = broken_from written (suc count) (at + line_size l) ls in
    elim (nat_lt count 16 && is_mix_line written l) as (λ b. (nat_lt count 16 && is_mix_line written l) ≡ b → cond b more (Some at) ≡ Some place → Broken written count at text place) [
      | true ↦ λ on told.
          let tests = and_parts (nat_lt count 16) (is_mix_line written l) on in
          let first = tests.0 in
          let few : count < 16 = grind (arith, nat_tests) in
          let (b, joined) = mix_behind written text l ls lines tests.1 in
          let is = line_told written l tests.1 in
          let rest = broken written ls b.behind (suc count) (at + line_size l) place b.lines_are told (omega (arith, few)) in
          let size : line_size l ≡ length (line_bytes (line_of l)) + 1 = ap line_size is.1 in
          let whole = size_more (line_of l) rest.lines in
          let place_is = rest.place_is in
          let few_all = rest.few in
          record {
            lines = line_of l ∷ rest.lines;
            rest = rest.rest;
            text_is = joined ∙ ap (λ more. line_text (line_of l) ++ more) rest.text_is ∙ sym (append_assoc (line_text (line_of l)) (lines_text rest.lines) rest.rest);
            place_is = omega (arith, size, whole, place_is);
            few = omega (arith, few_all);
            each = All-cons (IsMixLine written) (line_of l) rest.lines is.0 rest.each;
            stands = λ none. let gone = rest.stands none in omega (arith, gone);
            breaks = λ m more is e. let full = rest.breaks m more is e in omega (arith, full);
          }
      | false ↦ λ stops told.
          let here : at ≡ place = cc in
          subst (Broken written count at text) here (broken_first written l ls text count at lines stops low)
    ] refl told

no_more : (ls : List MixLine) → length ls ≡ 0 → ls ≡ []
no_more [] size = refl
no_more (l ∷ ls) size = absurd (omega (arith, size))

broken_is_told : (written : List (List ℕ)) (text : List ℕ) (at : ℕ) → broken_at written text ≡ Some at → IsBroken written text at
broken_is_told written text at told =
    let b = broken written (text_lines text) text 0 0 at refl told (omega arith) in
    let place_is = b.place_is in
    let few = b.few in
    record {
      lines = b.lines;
      rest = b.rest;
      text_is = b.text_is;
      at_is = omega (arith, place_is);
      few = omega (arith, few);
      each = b.each;
      stands = λ none. no_more b.lines (let size = b.stands none in omega (arith, size));
      breaks = λ l others is e. let full = b.breaks l others is e in omega (arith, full);
    }

at_rest : (written : List (List ℕ)) (ls : List TextLine) (rest : List ℕ) (count at : ℕ) → text_lines rest ≡ ls → (rest ≡ [] → count ≡ 0)
    → ((l : MixLine) (others : List ℕ) → IsMixLine written l → rest ≡ line_text l ++ others → 16 ≤ count)
    → broken_from written count at ls ≡ Some at
at_rest written [] rest count at lines stands breaks =
    let none_before : count ≡ 0 = stands (no_lines rest lines) in rw none_before refl
at_rest written (l ∷ ls) rest count at lines stands breaks =
    let more = broken_from written (suc count) (at + line_size l) ls in
    elim (nat_lt count 16 && is_mix_line written l) as (λ b. (nat_lt count 16 && is_mix_line written l) ≡ b → cond b more (Some at) ≡ Some at) [
      | true ↦ λ on.
          let tests = and_parts (nat_lt count 16) (is_mix_line written l) on in
          let first = tests.0 in
          let few : count < 16 = grind (arith, nat_tests) in
          let (b, joined) = mix_behind written rest l ls lines tests.1 in
          let full = breaks (line_of l) b.behind (line_told written l tests.1).0 joined in
          absurd (omega (arith, few, full))
      | false ↦ λ stops. refl
    ] refl

told_where_broken : (written : List (List ℕ)) (text : List ℕ) (at : ℕ) → IsBroken written text at → broken_at written text ≡ Some at
told_where_broken written text at b =
    let place : 0 + length (lines_text b.lines) ≡ at = (let at_is = b.at_is in omega (arith, at_is)) in
    ap (broken_at written) b.text_is
    ∙ read_on written b.lines b.rest 0 0 b.each (let few = b.few in omega (arith, few))
    ∙ at_rest written (text_lines b.rest) b.rest (0 + length b.lines) (0 + length (lines_text b.lines)) refl
    (λ none. let size : length b.lines ≡ 0 = ap (λ (ls : List MixLine). length ls) (b.stands none) in omega (arith, size))
    (λ l others is e. let full = b.breaks l others is e in omega (arith, full))
    ∙ ap Some place

pub breaking : (written : List (List ℕ)) (text : List ℕ) (at : ℕ)
    → (broken_at written text ≡ Some at → IsBroken written text at) × (IsBroken written text at → broken_at written text ≡ Some at)
breaking written text at = (broken_is_told written text at, told_where_broken written text at)
