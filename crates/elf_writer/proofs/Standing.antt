-- What stands at a place of a file.
use Rattle.std.proofs.Common.{◌≡◌, ◌≢◌, ℕ, zero, suc, ◌+◌, ◌-◌, ◌*◌, ◌<◌, false, not, List, [], ◌∷◌, ◌++◌, length, get_or, take, drop, refl, ap, sym, subst, ◌∙◌, eqb, arith, append_assoc, slice_index, slice_range}
use Rattle.std.proofs.lemmas.List.{drop-drop, get_or-drop, append-nil, get_or_append_left}
use Rattle.std.proofs.lemmas.List.Elements.{All-head, All-tail}
use Rattle.std.proofs.lemmas.Bool.{ne_eqb}
use Rattle.std.proofs.lemmas.List.Sums.{take_while-cons}
use Rattle.std.proofs.Math.Seq.{take-append_seam, drop-append_seam}
use Rattle.std.specs.List.{take_while}
use Rattle.rv32im.specs.Words.{byte_of, half_of, word_of}
use Rattle.elf_reader.specs.Layout.{half_in, word_in}
use Rattle.elf_reader.specs.Sections.{is_zero, name_in}
use Rattle.elf_writer.specs.Pieces.{IsWord, IsName, half_bytes, word_bytes, words_bytes, name_size}

-- from byte `at` on the file has these bytes, and some others behind them
pub record Stands (file : List ℕ) (at : ℕ) (piece : List ℕ) : Type 0 where
  pub after : List ℕ
  pub there : drop at file ≡ piece ++ after

pub stands_whole : (file : List ℕ) → Stands file 0 file
stands_whole file = record { after = []; there = sym (append-nil file) }

-- of two pieces both stand there, the second behind the first
pub stands_first : (file : List ℕ) (at : ℕ) (xs ys : List ℕ) → Stands file at (xs ++ ys) → Stands file at xs
stands_first file at xs ys h = record { after = ys ++ h.after; there = h.there ∙ append_assoc xs ys h.after }

pub stands_behind : (file : List ℕ) (at next : ℕ) (xs ys : List ℕ) → at + length xs ≡ next → Stands file at (xs ++ ys) → Stands file next ys
stands_behind file at next xs ys place h =
    record {
      after = h.after;
      there =
          subst (λ (n : ℕ). drop n file ≡ ys ++ h.after) place
          (sym (drop-drop (length xs) at file) ∙ (ap (drop (length xs)) (h.there ∙ append_assoc xs ys h.after) ∙ drop-append_seam xs (ys ++ h.after)));
    }

pub stands_range : (file : List ℕ) (at : ℕ) (xs : List ℕ) → Stands file at xs → slice_range file at (at + length xs) ≡ xs
stands_range file at xs h =
    let size : (at + length xs) - at ≡ length xs = omega arith in
    rw size (ap (take (length xs)) h.there ∙ take-append_seam xs h.after)

-- a byte, a halfword and a word of it
pub byte_there : (file : List ℕ) (at place : ℕ) (xs : List ℕ) (k : ℕ) → k < length xs → at + k ≡ place → Stands file at xs → slice_index file place ≡ get_or xs k 0
byte_there file at place xs k within is_place h =
    subst (λ (n : ℕ). slice_index file n ≡ get_or xs k 0) is_place
    (sym (get_or-drop at file k 0) ∙ (ap (λ (ys : List ℕ). get_or ys k 0) h.there ∙ get_or_append_left xs h.after 0 k within))

pub half_there : (file : List ℕ) (at n : ℕ) → n < 65536 → Stands file at (half_bytes n) → half_in file at ≡ n
half_there file at n fits h =
    let low = byte_there file at at (half_bytes n) 0 (omega arith) (omega arith) h in
    let high = byte_there file at (at + 1) (half_bytes n) 1 (omega arith) refl h in
    let whole : half_of (byte_of n 0) (byte_of n 1) ≡ n = omega arith in
    (λ i. half_of (low i) (high i)) ∙ whole

pub word_there : (file : List ℕ) (at n : ℕ) → IsWord n → Stands file at (word_bytes n) → word_in file at ≡ n
word_there file at n fits h =
    let first = byte_there file at at (word_bytes n) 0 (omega arith) (omega arith) h in
    let second = byte_there file at (at + 1) (word_bytes n) 1 (omega arith) refl h in
    let third = byte_there file at (at + 2) (word_bytes n) 2 (omega arith) refl h in
    let fourth = byte_there file at (at + 3) (word_bytes n) 3 (omega arith) refl h in
    let whole : word_of (byte_of n 0) (byte_of n 1) (byte_of n 2) (byte_of n 3) ≡ n = omega arith in
    (λ i. word_of (first i) (second i) (third i) (fourth i)) ∙ whole

-- word `k` of some words
pub words_there : (file : List ℕ) (at place : ℕ) (words : List ℕ) (k : ℕ) → at + 4 * k ≡ place → k < length words → IsWord (get_or words k 0) → Stands file at (words_bytes words) → word_in file place ≡ get_or words k 0
words_there file at place [] k is_place within fits h = absurd (omega arith)
words_there file at place (w ∷ ws) zero is_place within fits h =
    let same : at ≡ place = omega arith in
    subst (λ (n : ℕ). word_in file n ≡ w) same (word_there file at w fits (stands_first file at (word_bytes w) (words_bytes ws) h))
words_there file at place (w ∷ ws) (suc k) is_place within fits h =
    words_there file (at + 4) place ws k (omega arith) (omega arith) fits (stands_behind file at (at + 4) (word_bytes w) (words_bytes ws) refl h)

-- the name that a zero byte ends
pub name_before_zero : (name rest : List ℕ) → IsName name → take_while (λ byte. not (is_zero byte)) (name ++ 0 ∷ rest) ≡ name
name_before_zero [] rest name_is = refl
name_before_zero (x ∷ xs) rest name_is =
    let here : eqb x 0 ≡ false = ne_eqb x 0 (All-head (λ byte. byte ≢ 0) x xs name_is) in
    let later = name_before_zero xs rest (All-tail (λ byte. byte ≢ 0) x xs name_is) in
    take_while-cons (λ byte. not (is_zero byte)) x (xs ++ 0 ∷ rest) ∙ rw here (ap (λ (ys : List ℕ). x ∷ ys) later)

pub name_there : (table : List ℕ) (at : ℕ) (name rest : List ℕ) → IsName name → Stands table at (name ++ 0 ∷ rest) → name_in table at ≡ name
name_there table at name rest name_is h =
    ap (take_while (λ byte. not (is_zero byte))) (h.there ∙ append_assoc name (0 ∷ rest) h.after) ∙ name_before_zero name (rest ++ h.after) name_is

-- the next name behind it
pub next_name_there : (table : List ℕ) (at : ℕ) (name rest : List ℕ) → Stands table at (name ++ 0 ∷ rest) → Stands table (at + name_size name) rest
next_name_there table at name rest h =
    stands_behind table (at + length name) (at + name_size name) (0 ∷ []) rest (omega arith) (stands_behind table at (at + length name) name (0 ∷ rest) refl h)
