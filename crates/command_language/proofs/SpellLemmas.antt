-- A line as it is written, and as it is read.
use Rattle.std.proofs.Common.{◌≡◌, ℕ, zero, suc, ◌+◌, ◌-◌, ◌*◌, ◌^◌, ◌==◌, ◌<◌, ◌≤◌, nat_le, true, false, not, ◌&&◌, List, [], ◌∷◌, ◌++◌, take, drop, length, get_or, All, bytes_eq, Contains, refl, sym, subst, ap, ◌∙◌, arith, add-one}
use Rattle.std.proofs.lemmas.Bool.{and_parts, and_from, cond-true}
use Rattle.std.proofs.lemmas.Bool.Decides.{nat_tests}
use Rattle.std.proofs.lemmas.Fmt.{decimal_digit, decimal_nonempty, first_decimal, length-decimal-le, digits_decimal, digits_value-decimal, decimal-digits_value}
use Rattle.std.proofs.lemmas.List.{append_assoc, length-drop}
use Rattle.std.proofs.lemmas.List.Elements.{All-tail, All-cons, All-append}
use Rattle.std.proofs.lemmas.List.Folds.{Any-from_list_any, list_any_at, length-prefix_len}
use Rattle.std.proofs.lemmas.List.Sums.{take_while-cons, prefix_len_stops}
use Rattle.std.proofs.lemmas.Slice.Eq.{bytes_eq-Decides}
use Rattle.std.proofs.lemmas.Str.Parse.{IsDigitsTest, FoldsDigits, IsNumeralModel, numerals_by_fold}
use Rattle.std.proofs.Math.Seq.{split_at, drop-append-add}
use Rattle.std.specs.Fmt.{decimal}
use Rattle.std.specs.List.{list_any, prefix_len, take_while}
use Rattle.command_language.specs.Command.{value_from, value_of}
use Rattle.command_language.specs.MixLaws.{IsMixLine, line_text}
use Rattle.command_language.specs.Lines.{MixLine, TextLine, ended_line, is_between, are_within, has_length, begins_with, before_space, behind_space, line_of, is_weight, is_name, is_input_name, is_mix_line}
use Rattle.command_language.proofs.LineLemmas.{is_newline, NoNewline}
use Rattle.command_language.proofs.NameLemmas.{in_range, all_within}

-- ---- bytes of a range

-- bytes that are each in a range are within it
pub within_from : (low high : ℕ) (bytes : List ℕ) → All (λ byte. (low ≤ byte) × (byte ≤ high)) bytes → are_within low high bytes ≡ true
within_from low high [] all = refl
within_from low high (byte ∷ bytes) all =
    let here = all 0 0 (omega arith) in
    let least = here.0 in
    let most = here.1 in
    let test : is_between low high byte ≡ true = grind (arith, nat_tests) in
    and_from (is_between low high byte) (are_within low high bytes) test (within_from low high bytes (All-tail (λ b. (low ≤ b) × (b ≤ high)) byte bytes all))

-- a byte that none of the range is does not stand among them
pub other_than : (low high other : ℕ) (bytes : List ℕ) → other < low → are_within low high bytes ≡ true → All (λ byte. (byte == other) ≡ false) bytes
other_than low high other bytes less within k d below =
    let at = all_within low high bytes within k d below in
    let least = at.0 in
    grind (arith, nat_tests)

-- ---- digits

tells_digits : IsDigitsTest (λ digits. are_within 48 57 digits ≡ true)
tells_digits = record {
  empty = refl;
  parts = λ c cs within.
      let both = and_parts (is_between 48 57 c) (are_within 48 57 cs) within in
      (in_range 48 57 c both.0, both.1);
  more = λ c cs here within.
      let least = here.0 in
      let most = here.1 in
      let test : is_between 48 57 c ≡ true = grind (arith, nat_tests) in
      and_from (is_between 48 57 c) (are_within 48 57 cs) test within;
}

folds_digits : FoldsDigits value_from
folds_digits = record {
  empty = λ n. refl;
  more = λ n c cs here.
      let same : 10 * n + (c - 48) ≡ n * 10 + (c - 48) = omega arith in
      ap (λ m. value_from m cs) same;
}

own : IsNumeralModel (λ digits. are_within 48 57 digits ≡ true) (value_from 0)
own = numerals_by_fold (λ digits. are_within 48 57 digits ≡ true) tells_digits value_from folds_digits

small : (n k : ℕ) → n ≤ 1000 → k ≡ 2 ^ 64 → n < k
small n k most is = rw is (omega arith)

no_zero : (digits : List ℕ) → 48 < get_or digits 0 0 → not (begins_with 48 digits) ≡ true
no_zero [] more = refl
no_zero (digit ∷ digits) more = grind (arith, nat_tests)

sized : (low high : ℕ) (bytes : List ℕ) → low ≤ length bytes → length bytes ≤ high → has_length low high bytes ≡ true
sized low high bytes least most = grind (arith, nat_tests)

pub size_of : (low high : ℕ) (bytes : List ℕ) → has_length low high bytes ≡ true → (low ≤ length bytes) × (length bytes ≤ high)
size_of low high bytes test =
    let both = and_parts (nat_le low (length bytes)) (nat_le (length bytes) high) test in
    let least = both.0 in
    let most = both.1 in
    (grind (arith, nat_tests), grind (arith, nat_tests))

weight_is_read : (weight : ℕ) → 1 ≤ weight → weight ≤ 1000 → is_weight (decimal weight) ≡ true
weight_is_read weight some most =
    let digits = decimal weight in
    let low : weight < 2 ^ 64 = small weight (2 ^ 64) most refl in
    let within = digits_decimal own weight low in
    let value : value_of digits ≡ weight = digits_value-decimal own weight low in
    let lit : weight < 10 ^ 4 = omega arith in
    let short = length-decimal-le 4 weight (omega arith) lit low in
    let filled = decimal_nonempty weight low in
    let most_test : nat_le (value_of digits) 1000 ≡ true = rw value (let m = most in grind (arith, nat_tests)) in
    and_from (has_length 1 4 digits && are_within 48 57 digits && not (begins_with 48 digits)) (nat_le (value_of digits) 1000)
    (and_from (has_length 1 4 digits && are_within 48 57 digits) (not (begins_with 48 digits))
    (and_from (has_length 1 4 digits) (are_within 48 57 digits) (sized 1 4 digits (omega (arith, filled)) short) within)
    (no_zero digits (first_decimal weight (omega arith) low)))
    most_test

-- what a weight's digits are
record Weighs (digits : List ℕ) : Type 0 where
  sized_so : has_length 1 4 digits ≡ true
  within : are_within 48 57 digits ≡ true
  unpadded : not (begins_with 48 digits) ≡ true
  most : nat_le (value_of digits) 1000 ≡ true

weighs : (digits : List ℕ) → is_weight digits ≡ true → Weighs digits
weighs digits is =
    let all = and_parts (has_length 1 4 digits && are_within 48 57 digits && not (begins_with 48 digits)) (nat_le (value_of digits) 1000) is in
    let front = and_parts (has_length 1 4 digits && are_within 48 57 digits) (not (begins_with 48 digits)) all.0 in
    let two = and_parts (has_length 1 4 digits) (are_within 48 57 digits) front.0 in
    record { sized_so = two.0; within = two.1; unpadded = front.1; most = all.1 }

not_zero : (digits : List ℕ) → not (begins_with 48 digits) ≡ true → get_or digits 0 0 ≡ 48 → length digits ≡ 1
not_zero [] unpadded zero_first = absurd (omega arith)
not_zero (digit ∷ digits) unpadded zero_first =
    let test : (digit == 48) ≡ true = grind (arith, nat_tests) in
    let gone : false ≡ true = rw test at unpadded in
    absurd (cc)

most_of : (n : ℕ) → nat_le n 1000 ≡ true → n ≤ 1000
most_of n test = grind (arith, nat_tests)

spelled_weight : (digits : List ℕ) → is_weight digits ≡ true → decimal (value_of digits) ≡ digits
spelled_weight digits is =
    let w = weighs digits is in
    let size = size_of 1 4 digits w.sized_so in
    decimal-digits_value own digits w.within (omega (arith, size.0)) (not_zero digits w.unpadded)
    (small (value_of digits) (2 ^ 64) (most_of (value_of digits) w.most) refl)

positive : (n : ℕ) (digits : List ℕ) → decimal n ≡ digits → not (begins_with 48 digits) ≡ true → 1 ≤ n
positive zero digits spelled unpadded =
    let zero_text : digits ≡ 48 ∷ [] = sym spelled ∙ decimal_digit 0 (omega arith) in
    let gone : false ≡ true = rw zero_text at unpadded in
    absurd (cc)
positive (suc n) digits spelled unpadded = omega arith

-- ---- names

not_dash : (name : List ℕ) → ((rest : List ℕ) → name ≡ 45 ∷ rest → ⊥) → not (begins_with 45 name) ≡ true
not_dash [] other = refl
not_dash (byte ∷ bytes) other =
    elim (byte == 45) as (λ b. (byte == 45) ≡ b → not b ≡ true) [
      | true ↦ λ test. let is : byte ≡ 45 = grind (arith, nat_tests) in absurd (other bytes (ap (λ b. b ∷ bytes) is))
      | false ↦ λ test. refl
    ] refl

dash_refused : (name rest : List ℕ) → not (begins_with 45 name) ≡ true → name ≡ 45 ∷ rest → ⊥
dash_refused name rest other is = let gone : false ≡ true = rw is at other in cc

contained : (written : List (List ℕ)) (name : List ℕ) → Contains written name → list_any (λ other. bytes_eq other name) written ≡ true
contained written name (k, below, here) =
    list_any_at (λ other. bytes_eq other name) written k name below ((bytes_eq-Decides (get_or written k name) name).1 here)

found_named : (written : List (List ℕ)) (name : List ℕ) (k : ℕ) (x : List ℕ) → k < length written → get_or written k x ≡ x → bytes_eq x name ≡ true
    → Contains written name
found_named written name k x below here passes =
    let same : x ≡ name = (bytes_eq-Decides x name).0 passes in
    (k, below, rw same at here)

not_written : (written : List (List ℕ)) (name : List ℕ) → (Contains written name → ⊥) → not (list_any (λ other. bytes_eq other name) written) ≡ true
not_written written name new =
    elim (list_any (λ other. bytes_eq other name) written) as (λ b. list_any (λ other. bytes_eq other name) written ≡ b → not b ≡ true) [
      | true ↦ λ found. let (k, x, below, here, passes) = Any-from_list_any (λ other. bytes_eq other name) written found in
          absurd (new (found_named written name k x below here passes))
      | false ↦ λ none. refl
    ] refl

-- what a name is
record IsNamed (written : List (List ℕ)) (name : List ℕ) : Type 0 where
  sized_so : has_length 1 255 name ≡ true
  within : are_within 33 126 name ≡ true
  no_dash : not (begins_with 45 name) ≡ true
  new : not (list_any (λ other. bytes_eq other name) written) ≡ true

is_named : (written : List (List ℕ)) (name : List ℕ) → is_input_name written name ≡ true → IsNamed written name
is_named written name is =
    let all = and_parts (is_name name) (not (list_any (λ other. bytes_eq other name) written)) is in
    let front = and_parts (has_length 1 255 name && are_within 33 126 name) (not (begins_with 45 name)) all.0 in
    let two = and_parts (has_length 1 255 name) (are_within 33 126 name) front.0 in
    record { sized_so = two.0; within = two.1; no_dash = front.1; new = all.1 }

name_is_read : (written : List (List ℕ)) (l : MixLine) → IsMixLine written l → is_input_name written l.name ≡ true
name_is_read written l is =
    and_from (is_name l.name) (not (list_any (λ other. bytes_eq other l.name) written))
    (and_from (has_length 1 255 l.name && are_within 33 126 l.name) (not (begins_with 45 l.name))
    (and_from (has_length 1 255 l.name) (are_within 33 126 l.name) (sized 1 255 l.name is.named is.short) (within_from 33 126 l.name is.printed))
    (not_dash l.name is.first))
    (not_written written l.name is.read)

written_twice : (written : List (List ℕ)) (name : List ℕ) → not (list_any (λ other. bytes_eq other name) written) ≡ true → Contains written name → ⊥
written_twice written name new held = let found = contained written name held in let gone : false ≡ true = rw found at new in cc

-- ---- the two parts of a line

space_first : (front rest : List ℕ) → All (λ byte. (byte == 32) ≡ false) front → before_space (front ++ 32 ∷ rest) ≡ front
space_first [] rest none = take_while-cons (λ byte. not (byte == 32)) 32 rest
space_first (byte ∷ bytes) rest none =
    let first : (byte == 32) ≡ false = none 0 0 (omega arith) in
    let passes : not (byte == 32) ≡ true = rw first refl in
    take_while-cons (λ b. not (b == 32)) byte (bytes ++ 32 ∷ rest)
    ∙ cond-true (not (byte == 32)) (byte ∷ take_while (λ b. not (b == 32)) (bytes ++ 32 ∷ rest)) [] passes
    ∙ ap (λ xs. byte ∷ xs) (space_first bytes rest (All-tail (λ b. (b == 32) ≡ false) byte bytes none))

behind_first : (front rest : List ℕ) → All (λ byte. (byte == 32) ≡ false) front → behind_space (front ++ 32 ∷ rest) ≡ rest
behind_first front rest none =
    ap (λ xs. drop (length xs + 1) (front ++ 32 ∷ rest)) (space_first front rest none) ∙ drop-append-add front (32 ∷ rest) 1

space_of : (byte : ℕ) → not (byte == 32) ≡ false → byte ≡ 32
space_of byte test =
    elim (byte == 32) as (λ b. (byte == 32) ≡ b → not b ≡ false → byte ≡ 32) [
      | true ↦ λ is gone. grind (arith, nat_tests)
      | false ↦ λ is gone. absurd (cc)
    ] refl test

-- a line that has something behind its first space is cut there
space_split : (bytes : List ℕ) → 1 ≤ length (behind_space bytes) → bytes ≡ before_space bytes ++ 32 ∷ behind_space bytes
space_split bytes some =
    let k = prefix_len (λ byte. not (byte == 32)) bytes in
    let size : length (before_space bytes) ≡ k = length-prefix_len (λ byte. not (byte == 32)) bytes in
    let behind_is : behind_space bytes ≡ drop (suc k) bytes = ap (λ n. drop (n + 1) bytes) size ∙ ap (λ n. drop n bytes) (add-one k) in
    let left : 1 ≤ length (drop (suc k) bytes) = subst (λ (xs : List ℕ). 1 ≤ length xs) behind_is some in
    let within : k < length bytes = omega (arith, left, length-drop (suc k) bytes) in
    let space : get_or bytes k 0 ≡ 32 = space_of (get_or bytes k 0) (prefix_len_stops (λ byte. not (byte == 32)) bytes 0 within) in
    split_at bytes k 0 within
    ∙ ap (λ byte. take k bytes ++ byte ∷ drop (suc k) bytes) space
    ∙ ap (λ xs. take k bytes ++ 32 ∷ xs) (sym behind_is)

-- ---- lines

abbrev pub line_bytes : MixLine → List ℕ
line_bytes l = decimal l.weight ++ 32 ∷ l.name

pub line_joined : (l : MixLine) (rest : List ℕ) → line_text l ++ rest ≡ line_bytes l ++ 10 ∷ rest
line_joined l rest =
    let digits = decimal l.weight in
    append_assoc digits (32 ∷ l.name ++ 10 ∷ []) rest
    ∙ ap (λ xs. digits ++ xs) (append_assoc (32 ∷ l.name) (10 ∷ []) rest)
    ∙ sym (append_assoc digits (32 ∷ l.name) (10 ∷ rest))

digits_within : (written : List (List ℕ)) (l : MixLine) → IsMixLine written l → are_within 48 57 (decimal l.weight) ≡ true
digits_within written l is = digits_decimal own l.weight (small l.weight (2 ^ 64) is.most refl)

pub no_newline : (written : List (List ℕ)) (l : MixLine) → IsMixLine written l → NoNewline (line_bytes l)
no_newline written l is =
    All-append (λ byte. is_newline byte ≡ false) (decimal l.weight) (32 ∷ l.name)
    (other_than 48 57 10 (decimal l.weight) (omega arith) (digits_within written l is))
    (All-cons (λ byte. is_newline byte ≡ false) 32 l.name refl (other_than 33 126 10 l.name (omega arith) (within_from 33 126 l.name is.printed)))

-- a line is read as it was written
pub line_is_read : (written : List (List ℕ)) (l : MixLine) → IsMixLine written l
    → (is_mix_line written (ended_line (line_bytes l)) ≡ true) × (line_of (ended_line (line_bytes l)) ≡ l)
line_is_read written l is =
    let digits = decimal l.weight in
    let unspaced = other_than 48 57 32 digits (omega arith) (digits_within written l is) in
    let front : before_space (line_bytes l) ≡ digits = space_first digits l.name unspaced in
    let behind : behind_space (line_bytes l) ≡ l.name = behind_first digits l.name unspaced in
    let value : value_of (before_space (line_bytes l)) ≡ l.weight =
    ap value_of front ∙ digits_value-decimal own l.weight (small l.weight (2 ^ 64) is.most refl) in (
      and_from (true && is_weight (before_space (line_bytes l))) (is_input_name written (behind_space (line_bytes l)))
          (ap is_weight front ∙ weight_is_read l.weight is.some is.most) (ap (is_input_name written) behind ∙ name_is_read written l is),
      λ i. record { weight = value i; name = behind i },
    )

-- and what is read as one was written so
pub line_told : (written : List (List ℕ)) (l : TextLine) → is_mix_line written l ≡ true
    → IsMixLine written (line_of l) × (l ≡ ended_line (line_bytes (line_of l)))
line_told written l is =
    let digits = before_space l.bytes in
    let name = behind_space l.bytes in
    let all = and_parts (l.ended && is_weight digits) (is_input_name written name) is in
    let front = and_parts l.ended (is_weight digits) all.0 in
    let w = weighs digits front.1 in
    let n = is_named written name all.1 in
    let spelled = spelled_weight digits front.1 in
    let size = size_of 1 255 name n.sized_so in
    let bytes_are : l.bytes ≡ line_bytes (line_of l) = space_split l.bytes size.0 ∙ ap (λ d. d ++ 32 ∷ name) (sym spelled) in (
      record {
        some = positive (value_of digits) digits spelled w.unpadded;
        most = most_of (value_of digits) w.most;
        named = size.0;
        short = size.1;
        printed = all_within 33 126 name n.within;
        first = λ rest e. dash_refused name rest n.no_dash e;
        read = λ held. written_twice written name n.new held;
      },
      λ i. record { bytes = bytes_are i; ended = front.0 i },
    )
