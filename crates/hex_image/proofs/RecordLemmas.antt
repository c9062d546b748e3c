-- A record that is written as a line is read from it again.
use Rattle.std.proofs.Common.{◌≡◌, inl, inr, ℕ, zero, suc, ◌+◌, ◌-◌, ◌*◌, ◌/◌, ◌%◌, ◌==◌, ◌<◌, true, false, List, [], ◌∷◌, ◌++◌, map, take, length, sum, slice_index, Option, Some, None, refl, ap, ◌∙◌, arith, rules}
use Rattle.std.proofs.lemmas.Bool.Decides.{nat_tests}
use Rattle.std.proofs.lemmas.Bool.{cases_eq}
use Rattle.std.proofs.lemmas.List.{append_assoc, length-append, take_at}
use Rattle.std.proofs.lemmas.List.Elements.{All-from_recursion, All-get_or}
use Rattle.std.proofs.lemmas.List.Splits.{slice_split_at}
use Rattle.std.proofs.lemmas.List.Sums.{sum_by-append}
use Rattle.std.specs.List.{All, AllByRecursion, flat_map}
use Rattle.std.specs.Str.Lines.{strip_carriage_return}
use Rattle.elf_reader.specs.Loadable.{AreBytes}
use Rattle.hex.specs.Hex.{IsBytes, encode_with, encode_upper, upper_digits, hex_digit_value}
use Rattle.hex.proofs.HexLemmas.{IsDigits-upper_digits, decode_of-encode_upper}
use Rattle.hex_image.specs.Records.{PlainRecord, unchecked_bytes, check_byte, record_bytes, line_of, bytes_in, record_in}
use Rattle.hex_image.specs.Reading.{lines_of}

-- ---- lists of bytes

pub bytes_cons : (b : ℕ) (bs : List ℕ) → b < 256 → IsBytes bs → IsBytes (b ∷ bs)
bytes_cons b bs fits rest zero = fits
bytes_cons b bs fits rest (suc i) = rest i

pub bytes_none : IsBytes []
bytes_none = λ i. omega arith

bytes_append : (xs ys : List ℕ) → IsBytes xs → IsBytes ys → IsBytes (xs ++ ys)
bytes_append [] ys fits more = more
bytes_append (x ∷ xs) ys fits more = bytes_cons x (xs ++ ys) (fits 0) (bytes_append xs ys (λ i. fits (suc i)) more)

pub bytes_from_all : (xs : List ℕ) → AreBytes xs → IsBytes xs
bytes_from_all [] all = bytes_none
bytes_from_all (x ∷ xs) all = bytes_cons x xs (all 0 x (omega arith)) (bytes_from_all xs (λ k d below. all (suc k) d (omega arith)))

-- a record that has a line
pub record Fits (r : PlainRecord) : Type 0 where
  pub kind : r.kind < 256
  pub address : r.address < 65536
  pub size : length r.content < 256
  pub bytes : IsBytes r.content

check_below : (bytes : List ℕ) → check_byte bytes < 256
check_below bytes = omega arith

record_is_bytes : (r : PlainRecord) → Fits r → IsBytes (record_bytes r)
record_is_bytes r fits =
    let address = fits.address in
    bytes_append (unchecked_bytes r) (check_byte (unchecked_bytes r) ∷ [])
    (bytes_cons (length r.content) (r.address / 256 ∷ r.address % 256 ∷ r.kind ∷ r.content) fits.size
    (bytes_cons (r.address / 256) (r.address % 256 ∷ r.kind ∷ r.content) (omega arith)
    (bytes_cons (r.address % 256) (r.kind ∷ r.content) (omega arith) (bytes_cons r.kind r.content fits.kind fits.bytes))))
    (bytes_cons (check_byte (unchecked_bytes r)) [] (check_below (unchecked_bytes r)) bytes_none)

-- ---- digits

-- a line without its newline
pub body_of : PlainRecord → List ℕ
body_of r = 58 ∷ encode_upper (record_bytes r)

none_some : (d : ℕ) (value : Option ℕ) → value ≡ None → value ≡ Some d → ⊥
none_some d value none some = cc

digit_differs : (c digit d : ℕ) → hex_digit_value c ≡ None → hex_digit_value digit ≡ Some d → (digit == c) ≡ false
digit_differs c digit d none some =
    elim (cases_eq digit c) [
      | inl same ↦ absurd (none_some d (hex_digit_value c) none (rw same at some))
      | inr other ↦ grind (arith, nat_tests)
    ]

no_digit : (c : ℕ) (bs : List ℕ) → hex_digit_value c ≡ None → IsBytes bs → AllByRecursion (λ x. (x == c) ≡ false) (encode_upper bs)
unfolding encode_with
no_digit c [] none bytes = tt
no_digit c (b ∷ bs) none bytes =
    let fits : b < 256 = bytes 0 in (
      digit_differs c (slice_index upper_digits (b / 16)) (b / 16) none (IsDigits-upper_digits (b / 16) (omega arith)),
      (
        digit_differs c (slice_index upper_digits (b % 16)) (b % 16) none (IsDigits-upper_digits (b % 16) (omega arith)),
        no_digit c bs none (λ i. bytes (suc i)),
      ),
    )

body_without : (c : ℕ) (r : PlainRecord) → (58 == c) ≡ false → hex_digit_value c ≡ None → Fits r → All (λ x. (x == c) ≡ false) (body_of r)
unfolding body_of
body_without c r colon none fits = All-from_recursion (λ x. (x == c) ≡ false) (58 ∷ encode_upper (record_bytes r)) (colon, no_digit c (record_bytes r) none (record_is_bytes r fits))

-- ---- lines

-- a text of a record and more is its line and those of the rest
first_record : (r : PlainRecord) (rest : List ℕ) → Fits r → lines_of (line_of r ++ rest) ≡ body_of r ∷ lines_of rest
unfolding line_of body_of
first_record r rest fits =
    let parts = slice_split_at (λ byte. byte == 10) (58 ∷ encode_upper (record_bytes r)) 10 rest (body_without 10 r refl refl fits) refl in
    let joined : (58 ∷ encode_upper (record_bytes r) ++ 10 ∷ []) ++ rest ≡ 58 ∷ encode_upper (record_bytes r) ++ 10 ∷ rest = search (rules, append_assoc) in
    ap lines_of joined ∙ parts

pub record_lines : (rs : List PlainRecord) → AllByRecursion Fits rs → lines_of (flat_map line_of rs) ≡ map body_of rs ++ [] ∷ []
record_lines [] fits = refl
record_lines (r ∷ rs) fits = first_record r (flat_map line_of rs) fits.0 ∙ ap (λ lines. body_of r ∷ lines) (record_lines rs fits.1)

-- ---- what is read

kept_line : (c : ℕ) (line : List ℕ) → 0 < length line → All (λ x. (x == 13) ≡ false) line → strip_carriage_return line ≡ line
kept_line c line some all =
    let test : (slice_index line (length line - 1) == 13) ≡ false = All-get_or (λ x. (x == 13) ≡ false) line (length line - 1) 0 (omega arith) all in
    rw test refl

record_size : (r : PlainRecord) → length (record_bytes r) ≡ length r.content + 5
record_size r = let size = length-append (unchecked_bytes r) (check_byte (unchecked_bytes r) ∷ []) in omega (arith, size)

pub read_bytes : (r : PlainRecord) → Fits r → bytes_in (body_of r) ≡ Some (record_bytes r)
unfolding bytes_in body_of
read_bytes r fits =
    let kept = kept_line 13 (58 ∷ encode_upper (record_bytes r)) (omega arith) (body_without 13 r refl refl fits) in
    let decoded = decode_of-encode_upper (record_bytes r) (record_is_bytes r fits) in
    let test : (length (record_bytes r) == slice_index (record_bytes r) 0 + 5) ≡ true = (let size = record_size r in grind (arith, nat_tests)) in
    rw (kept, decoded, test) refl

pub read_record : (r : PlainRecord) → Fits r → record_in (record_bytes r) ≡ r
unfolding record_in
read_record r fits =
    let size : length (record_bytes r) - 1 - 4 ≡ length r.content = (let all = record_size r in omega arith) in
    let address : 256 * (r.address / 256) + r.address % 256 ≡ r.address = omega arith in
    let content : take (length (record_bytes r) - 1 - 4) (r.content ++ check_byte (unchecked_bytes r) ∷ []) ≡ r.content = rw size (take_at r.content (check_byte (unchecked_bytes r) ∷ []) (length r.content) refl) in
    λ i. record { kind = r.kind; address = address i; content = content i }

balanced : (others total : ℕ) → total ≡ others + (256 - others % 256) % 256 → total % 256 ≡ 0
balanced others total is = omega arith

pub read_sum : (r : PlainRecord) → sum (record_bytes r) % 256 ≡ 0
read_sum r =
    let total : sum (record_bytes r) ≡ sum (unchecked_bytes r) + sum (check_byte (unchecked_bytes r) ∷ []) = sum_by-append (λ x. x) (unchecked_bytes r) (check_byte (unchecked_bytes r) ∷ []) in
    balanced (sum (unchecked_bytes r)) (sum (record_bytes r)) (total ∙ search rules)
