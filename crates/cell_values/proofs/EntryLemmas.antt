-- Entries for words of memory, where one is put.
use Rattle.std.proofs.Common.{◌≡◌, ◌≢◌, ◌⊎◌, ◌∙◌, inl, inr, ℕ, zero, suc, ◌+◌, ◌*◌, ◌<◌, ◌≤◌, ◌==◌, true, false, if◌then◌else◌, Some, List, [], ◌∷◌, ◌++◌, length, set, slice_get, Result, Ok, Err, OnOk, OnErr, refl, sym, ap, arith}
use Rattle.std.proofs.lemmas.Bool.{cases_eq}
use Rattle.std.proofs.lemmas.Bool.Decides.{nat_tests}
use Rattle.rv32im.specs.Words.{plus, word_of}
use Rattle.rv32im.specs.Memory.{Memory, zeros, put, put_word, word_at}
use Rattle.cell_values.specs.Entries.{place_of, entry_in, AreInside, AreApart}

-- ---- places in an index

-- the word at the address of a word is its place
pub place_at : (mem : Memory) (w : ℕ) → w * 4 + 4 ≤ 4294967296 → word_at mem (w * 4) ≡ place_of mem w
place_at mem w within =
    let first : plus (w * 4) 1 ≡ w * 4 + 1 = omega (arith, within) in
    let second : plus (w * 4) 2 ≡ w * 4 + 2 = omega (arith, within) in
    let third : plus (w * 4) 3 ≡ w * 4 + 3 = omega (arith, within) in
    λ z. word_of (mem (w * 4)) (mem (first z)) (mem (second z)) (mem (third z))

put_word_off : (mem : Memory) (at n a : ℕ) → at + 4 ≤ 4294967296 → (a < at) ⊎ (at + 4 ≤ a) → put_word mem at n a ≡ mem a
unfolding put
put_word_off mem at n a within (inl before) = grind (arith, nat_tests, within, before)
put_word_off mem at n a within (inr behind) = grind (arith, nat_tests, within, behind)

put_word_here : (mem : Memory) (at n : ℕ) → at + 4 ≤ 4294967296 → n < 4294967296 → word_of (put_word mem at n at) (put_word mem at n (at + 1)) (put_word mem at n (at + 2)) (put_word mem at n (at + 3)) ≡ n
unfolding put
put_word_here mem at n within fits = grind (arith, nat_tests, within, fits)

-- one word has got a place, and no other has changed
abbrev pub HasPlace : Memory → Memory → ℕ → ℕ → Type 0
HasPlace mem now w n = (v : ℕ) → place_of now v ≡ (if v == w then n else place_of mem v)

off_word : (v w k : ℕ) → v ≢ w → k < 4 → (v * 4 + k < w * 4) ⊎ (w * 4 + 4 ≤ v * 4 + k)
off_word v w k other below = grind (arith, other, below)

pub place_put : (mem now : Memory) (w n : ℕ) → w * 4 + 4 ≤ 4294967296 → n < 4294967296 → now ≡ put_word mem (w * 4) n → HasPlace mem now w n
place_put mem now w n within fits is v =
    ap (λ (m : Memory). place_of m v) is
    ∙ elim (cases_eq v w) [
      | inl same ↦
          let here : (v == w) ≡ true = grind (arith, nat_tests, same) in
          rw here (rw same (put_word_here mem (w * 4) n within fits))
      | inr other ↦
          let off : (v == w) ≡ false = grind (arith, nat_tests, other) in
          let stays : (k : ℕ) → k < 4 → put_word mem (w * 4) n (v * 4 + k) ≡ mem (v * 4 + k) = λ k below. put_word_off mem (w * 4) n (v * 4 + k) within (off_word v w k other below) in
          let none : v * 4 ≡ v * 4 + 0 = omega arith in
          let first : put_word mem (w * 4) n (v * 4) ≡ mem (v * 4) = rw none (stays 0 (omega arith)) in
          let second = stays 1 (omega arith) in
          let third = stays 2 (omega arith) in
          let fourth = stays 3 (omega arith) in
          rw off (λ z. word_of (first z) (second z) (third z) (fourth z))
    ]

-- ---- lists

pub got_same : {T : Type 0} → (xs : List T) (i : ℕ) (x : T) → i < length xs → slice_get (set xs i x) i ≡ Some x
got_same [] i x below = absurd (omega (arith, below))
got_same (y ∷ ys) zero x below = refl
got_same (y ∷ ys) (suc i) x below = got_same ys i x (omega (arith, below))

pub got_other : {T : Type 0} → (xs : List T) (i j : ℕ) (x : T) → i ≢ j → slice_get (set xs i x) j ≡ slice_get xs j
got_other [] i j x differ = refl
got_other (y ∷ ys) zero zero x differ = absurd (differ refl)
got_other (y ∷ ys) zero (suc j) x differ = refl
got_other (y ∷ ys) (suc i) zero x differ = refl
got_other (y ∷ ys) (suc i) (suc j) x differ = got_other ys i j x (λ same. differ (ap suc same))

got_last : {T : Type 0} → (xs : List T) (x : T) → slice_get (xs ++ x ∷ []) (length xs) ≡ Some x
got_last [] x = refl
got_last (y ∷ ys) x = got_last ys x

got_before : {T : Type 0} → (xs : List T) (x : T) (i : ℕ) → i < length xs → slice_get (xs ++ x ∷ []) i ≡ slice_get xs i
got_before [] x i below = absurd (omega (arith, below))
got_before (y ∷ ys) x zero below = refl
got_before (y ∷ ys) x (suc i) below = got_before ys x i (omega (arith, below))

length_more : {T : Type 0} → (xs : List T) (x : T) → length (xs ++ x ∷ []) ≡ suc (length xs)
length_more [] x = refl
length_more (y ∷ ys) x = ap suc (length_more ys x)

-- ---- entries

-- an entry is put at the end, for a word that had none
pub entry_before : {T : Type 0} → (entries : List T) (entry : T) (place : ℕ) → place ≤ length entries → entry_in (entries ++ entry ∷ []) place ≡ entry_in entries place
entry_before entries entry zero inside = refl
entry_before entries entry (suc i) inside = got_before entries entry i (omega (arith, inside))

pub entry_added : {T : Type 0} → (entries : List T) (mem now : Memory) (w : ℕ) (entry : T) → AreInside entries mem → HasPlace mem now w (suc (length entries)) → (v : ℕ) → entry_in (entries ++ entry ∷ []) (place_of now v) ≡ (if v == w then Some entry else entry_in entries (place_of mem v))
entry_added entries mem now w entry inside place v =
    elim (cases_eq v w) [
      | inl same ↦
          let here : (v == w) ≡ true = grind (arith, nat_tests, same) in
          let is : place_of now v ≡ suc (length entries) = place v ∙ rw here refl in
          rw (here, is) (got_last entries entry)
      | inr other ↦
          let off : (v == w) ≡ false = grind (arith, nat_tests, other) in
          let is : place_of now v ≡ place_of mem v = place v ∙ rw off refl in
          rw (off, is) (entry_before entries entry (place_of mem v) (inside v))
    ]

-- an entry is put at a place that a word has
entry_there : {T : Type 0} → (entries : List T) (entry : T) (i other : ℕ) → (other ≢ 0 → other ≢ suc i) → entry_in (set entries i entry) other ≡ entry_in entries other
entry_there entries entry i zero apart = refl
entry_there entries entry i (suc j) apart =
    got_other entries i j entry (λ same. apart (λ none. absurd (omega (arith, none))) (ap suc (sym same)))

pub entry_changed : {T : Type 0} → (entries : List T) (mem : Memory) (w i : ℕ) (entry : T) → AreInside entries mem → AreApart mem → place_of mem w ≡ suc i → (v : ℕ) → entry_in (set entries i entry) (place_of mem v) ≡ (if v == w then Some entry else entry_in entries (place_of mem v))
entry_changed entries mem w i entry inside apart place v =
    let there = inside w in
    elim (cases_eq v w) [
      | inl same ↦
          let here : (v == w) ≡ true = grind (arith, nat_tests, same) in
          rw here (rw (same, place) (got_same entries i entry (omega (arith, there, place))))
      | inr other ↦
          let off : (v == w) ≡ false = grind (arith, nat_tests, other) in
          rw off (entry_there entries entry i (place_of mem v) (λ some is. other (apart v w some (is ∙ sym place))))
    ]

-- ---- what holds of all places

pub still_inside : {T : Type 0} → (entries : List T) (mem now : Memory) (w : ℕ) (entry : T) → AreInside entries mem → HasPlace mem now w (suc (length entries)) → AreInside (entries ++ entry ∷ []) now
still_inside entries mem now w entry inside place v =
    let more = length_more entries entry in
    let old = inside v in
    elim (cases_eq v w) [
      | inl same ↦
          let is : place_of now v ≡ suc (length entries) = place v ∙ (let here : (v == w) ≡ true = grind (arith, nat_tests, same) in rw here refl) in
          omega (arith, more, is)
      | inr other ↦
          let is : place_of now v ≡ place_of mem v = place v ∙ (let off : (v == w) ≡ false = grind (arith, nat_tests, other) in rw off refl) in
          omega (arith, more, is, old)
    ]

pub still_apart : {T : Type 0} → (entries : List T) (mem now : Memory) (w : ℕ) → AreInside entries mem → AreApart mem → HasPlace mem now w (suc (length entries)) → AreApart now
still_apart entries mem now w inside apart place u v some alike =
    let old_u = inside u in
    let old_v = inside v in
    let here : (x : ℕ) → x ≡ w → place_of now x ≡ suc (length entries) = λ x same. place x ∙ (let is : (x == w) ≡ true = grind (arith, nat_tests, same) in rw is refl) in
    let there : (x : ℕ) → x ≢ w → place_of now x ≡ place_of mem x = λ x other. place x ∙ (let is : (x == w) ≡ false = grind (arith, nat_tests, other) in rw is refl) in
    elim (cases_eq u w) [
      | inl same_u ↦
          elim (cases_eq v w) [
            | inl same_v ↦ same_u ∙ sym same_v
            | inr other_v ↦
                let a = here u same_u in
                let b = there v other_v in absurd (omega (arith, a, b, alike, old_v))
          ]
      | inr other_u ↦
          elim (cases_eq v w) [
            | inl same_v ↦
                let a = there u other_u in
                let b = here v same_v in absurd (omega (arith, a, b, alike, old_u))
            | inr other_v ↦
                let a = there u other_u in
                let b = there v other_v in
                apart u v (λ none. some (a ∙ none)) (sym a ∙ (alike ∙ b))
          ]
    ]

-- nothing but zeros is an index of no entries
no_places : (mem : Memory) (w : ℕ) → mem ≡ zeros → place_of mem w ≡ 0
no_places mem w empty = ap (λ (m : Memory). place_of m w) empty

pub none_inside : {T : Type 0} → (entries : List T) (mem : Memory) → mem ≡ zeros → AreInside entries mem
none_inside entries mem empty w = let none = no_places mem w empty in omega (arith, none)

pub none_apart : (mem : Memory) → mem ≡ zeros → AreApart mem
none_apart mem empty v w some alike = absurd (some (no_places mem v empty))

-- ---- after a word was put in an index, or none

same_inside : {T : Type 0} → (entries : List T) (mem now : Memory) (entry : T) → AreInside entries mem → now ≡ mem → AreInside (entries ++ entry ∷ []) now
same_inside entries mem now entry inside same v =
    let more = length_more entries entry in
    let old = inside v in
    let is : place_of now v ≡ place_of mem v = ap (λ (m : Memory). place_of m v) same in omega (arith, more, is, old)

pub inside_on : {T A E : Type 0} → (result : Result A E) (entries : List T) (mem now : Memory) (w : ℕ) (entry : T) → AreInside entries mem → OnOk result (HasPlace mem now w (suc (length entries))) → OnErr result (now ≡ mem) → AreInside (entries ++ entry ∷ []) now
inside_on (Ok done) entries mem now w entry inside place same =
    still_inside entries mem now w entry inside place
inside_on (Err error) entries mem now w entry inside place same =
    same_inside entries mem now entry inside same

same_apart : (mem now : Memory) → AreApart mem → now ≡ mem → AreApart now
same_apart mem now apart same u v some alike =
    let is_u : place_of now u ≡ place_of mem u = ap (λ (m : Memory). place_of m u) same in
    let is_v : place_of now v ≡ place_of mem v = ap (λ (m : Memory). place_of m v) same in
    apart u v (λ none. some (is_u ∙ none)) (sym is_u ∙ (alike ∙ is_v))

pub apart_on : {T A E : Type 0} → (result : Result A E) (entries : List T) (mem now : Memory) (w : ℕ) → AreInside entries mem → AreApart mem → OnOk result (HasPlace mem now w (suc (length entries))) → OnErr result (now ≡ mem) → AreApart now
apart_on (Ok done) entries mem now w inside apart place same =
    still_apart entries mem now w inside apart place
apart_on (Err error) entries mem now w inside apart place same =
    same_apart mem now apart same

pub place_on : {A E : Type 0} → (result : Result A E) (mem now : Memory) (w n : ℕ) → w * 4 + 4 ≤ 4294967296 → n < 4294967296 → OnOk result (now ≡ put_word mem (w * 4) n) → OnOk result (HasPlace mem now w n)
place_on (Ok done) mem now w n within fits is = place_put mem now w n within fits is
place_on (Err error) mem now w n within fits is = tt
