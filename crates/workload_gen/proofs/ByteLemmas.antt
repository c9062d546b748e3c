-- Padded bytes, words of which the low 32 bits are known, and pieces that are appended.
use Rattle.std.proofs.Common.{◌≡◌, ℕ, ◌+◌, ◌%◌, ◌<◌, ◌≤◌, List, [], ◌∷◌, ◌++◌, length, get_or, drop, refl, ap, sym, arith, length-append, append_assoc}
use Rattle.std.proofs.lemmas.List.{at_drop_more, at_drop_all, append-nil}
use Rattle.rv32im.specs.Words.{byte_of}
use Rattle.elf_writer.specs.Pieces.{word_bytes, padding, padded, ended_names, string_table}
use Rattle.elf_writer.proofs.ZeroLemmas.{length-zero_bytes}

pub length_padded : (bytes : List ℕ) → length (padded bytes) ≡ length bytes + padding (length bytes)
length_padded bytes = rw (length-append, length-zero_bytes)

-- the low 32 bits decide a word's bytes
pub same_word : (a b : ℕ) → a % 4294967296 ≡ b % 4294967296 → word_bytes a ≡ word_bytes b
same_word a b same =
    let first : byte_of a 0 ≡ byte_of b 0 = omega arith in
    let second : byte_of a 1 ≡ byte_of b 1 = omega arith in
    let third : byte_of a 2 ≡ byte_of b 2 = omega arith in
    let fourth : byte_of a 3 ≡ byte_of b 3 = omega arith in
    cc

pub low_word : (n : ℕ) → n % 18446744073709551616 % 4294967296 ≡ n % 4294967296
low_word n = omega arith

-- one more name at the end of a string table
ended_push : (names : List (List ℕ)) (name : List ℕ) → ended_names names ++ (name ++ 0 ∷ []) ≡ ended_names (names ++ name ∷ [])
ended_push [] name = refl
ended_push (first ∷ names) name = rw append_assoc (ap (λ table. first ++ 0 ∷ table) (ended_push names name))

pub name_pushed :
    (names : List (List ℕ)) (name : List ℕ) → string_table names ++ (name ++ 0 ∷ []) ≡ string_table (names ++ name ∷ [])
name_pushed names name = ap (λ table. 0 ∷ table) (ended_push names name)

-- what is written of a list from place `i` on, once the element there is written
pub piece_step :
    {X : Type 0}
    (F : List X → List ℕ)
    (xs : List X)
    (i : ℕ)
    (x : X)
    (out next piece rest whole : List ℕ)
    → i < length xs
    → x ≡ get_or xs i x
    → F (x ∷ drop (i + 1) xs) ≡ piece ++ rest
    → next ≡ out ++ piece
    → out ++ F (drop i xs) ≡ whole
    → next ++ rest ≡ whole
piece_step {X} F xs i x out next piece rest whole below is split pushed so_far =
    let more : F (drop i xs) ≡ F (get_or xs i x ∷ drop (i + 1) xs) = at_drop_more F xs i x below in
    let same : F (get_or xs i x ∷ drop (i + 1) xs) ≡ F (x ∷ drop (i + 1) xs) =
    ap (λ (y : X). F (y ∷ drop (i + 1) xs)) (sym is) in
    let left : (out ++ piece) ++ rest ≡ out ++ (piece ++ rest) = append_assoc out piece rest in
    cc

-- what is written of a list that is at its end
pub piece_end :
    {X : Type 0}
    (F : List X → List ℕ)
    (xs : List X)
    (i : ℕ)
    (out whole : List ℕ)
    → length xs ≤ i
    → F [] ≡ []
    → out ++ F (drop i xs) ≡ whole
    → out ≡ whole
piece_end {X} F xs i out whole past is_nothing so_far =
    let all : F (drop i xs) ≡ F [] = at_drop_all F xs i past in
    let left : out ++ [] ≡ out = append-nil out in
    cc

-- pieces that are appended one behind the other
pub eight_pushed :
    (out a b c d e f g h o1 o2 o3 o4 o5 o6 o7 o8 : List ℕ)
    → o1 ≡ out ++ a
    → o2 ≡ o1 ++ b
    → o3 ≡ o2 ++ c
    → o4 ≡ o3 ++ d
    → o5 ≡ o4 ++ e
    → o6 ≡ o5 ++ f
    → o7 ≡ o6 ++ g
    → o8 ≡ o7 ++ h
    → o8 ≡ out ++ (a ++ b ++ c ++ d ++ e ++ f ++ g ++ h)
eight_pushed out a b c d e f g h o1 o2 o3 o4 o5 o6 o7 o8 e1 e2 e3 e4 e5 e6 e7 e8 =
    rw (e8, e7, e6, e5, e4, e3, e2, e1) (simp append_assoc)
