-- Where two maps differ first.
use Rattle.std.proofs.Common.{◌≡◌, ◌≢◌, ◌⊎◌, inl, inr, ℕ, zero, suc, ◌+◌, ◌-◌, ◌==◌, ◌<◌, ◌≤◌, min, true, false, List, [], ◌∷◌, map, take, length, get_or, slice_get, Option, Some, None, refl, arith}
use Rattle.std.proofs.lemmas.Bool.Decides.{nat_tests}
use Rattle.std.proofs.lemmas.Bool.{cases_lt}
use Rattle.elf_reader.specs.File.{plain_segment}
use Rattle.elf_reader.specs.declared.view.Segment.{Segment}
use Rattle.hex_image.specs.Runs.{PlainRun, ByteMap, byte_from, run_byte, map_of, run_end, segment_run}
use Rattle.hex_image.specs.Difference.{IsInRun, IsInOne, IsFirstOff, lesser_of, view_run}
use Rattle.hex_image.proofs.GivenLemmas.{byte_from_below, byte_from_past}
use Rattle.hex_image.proofs.RunLemmas.{option_or-None}

-- the first of two
pub first_of_both : (A B C : ℕ → Type 0) (one other : ByteMap) (x y : Option ℕ) → IsFirstOff A one other x → IsFirstOff B one other y → ((a : ℕ) → C a → A a ⊎ B a) → IsFirstOff C one other (lesser_of x y)
first_of_both A B C one other None None none none_too splits = λ a among. elim (splits a among) [ inl left ↦ none a left | inr right ↦ none_too a right ]
first_of_both A B C one other None (Some y) none first splits =
    (first.0, λ a below among. elim (splits a among) [ inl left ↦ none a left | inr right ↦ first.1 a below right ])
first_of_both A B C one other (Some x) None first none splits =
    (first.0, λ a below among. elim (splits a among) [ inl left ↦ first.1 a below left | inr right ↦ none a right ])
first_of_both A B C one other (Some x) (Some y) first second splits =
    let below_both : (a : ℕ) → a < min x y → C a → one a ≡ other a = λ a below among.
    elim (splits a among) [ inl left ↦ first.1 a (omega arith) left | inr right ↦ second.1 a (omega arith) right ] in
    elim (cases_lt x y) [
      | inl lower ↦ let is : min x y ≡ x = omega arith in let here : one (min x y) ≢ other (min x y) = rw is first.0 in (here, below_both)
      | inr higher ↦ let is : min x y ≡ y = omega arith in let here : one (min x y) ≢ other (min x y) = rw is second.0 in (here, below_both)
    ]

-- one more of a list of runs
pub in_one_more : {X : Type 0} (run_of : X → PlainRun) (xs : List X) (i : ℕ) (d : X) (address : ℕ) → i < length xs → IsInOne run_of (take (suc i) xs) address → IsInOne run_of (take i xs) address ⊎ IsInRun (run_of (get_or xs i d)) address
in_one_more run_of [] i d address below among = absurd (omega arith)
in_one_more run_of (x ∷ xs) zero d address below (inl here) = inr here
in_one_more run_of (x ∷ xs) zero d address below (inr none) = absurd none
in_one_more run_of (x ∷ xs) (suc i) d address below (inl here) = inl (inl here)
in_one_more run_of (x ∷ xs) (suc i) d address below (inr behind) =
    elim (in_one_more run_of xs i d address (omega arith) behind) [ inl earlier ↦ inl (inr earlier) | inr last ↦ inr last ]

-- an address outside a run has no byte of it
run_covers : (run : PlainRun) (address : ℕ) → (run_byte run address ≡ None) ⊎ IsInRun run address
run_covers run address =
    elim (cases_lt address run.start) [
      | inl below ↦ inl (byte_from_below run.start run.content address below)
      | inr from ↦ elim (cases_lt address (run_end run)) [
        | inl within ↦ inr (from, within)
        | inr past ↦ inl (byte_from_past run.start run.content address past)
      ]
    ]

covers_more : (run : PlainRun) (runs : List PlainRun) (address : ℕ) (Behind : Type 0) → (map_of runs address ≡ None) ⊎ Behind → (map_of (run ∷ runs) address ≡ None) ⊎ (IsInRun run address ⊎ Behind)
covers_more run runs address Behind (inr behind) = inr (inr behind)
covers_more run runs address Behind (inl none) =
    elim (run_covers run address) [
      | inl nothing ↦ inl (rw (nothing, none) refl)
      | inr within ↦ inr (inl within)
    ]

pub runs_cover : {X : Type 0} (run_of : X → PlainRun) (xs : List X) (address : ℕ) → (map_of (map run_of xs) address ≡ None) ⊎ IsInOne run_of xs address
runs_cover run_of [] address = inl refl
runs_cover run_of (x ∷ xs) address = covers_more (run_of x) (map run_of xs) address (IsInOne run_of xs address) (runs_cover run_of xs address)

pub segments_cover : (segments : List Segment) (address : ℕ) → (map_of (map segment_run (map plain_segment segments)) address ≡ None) ⊎ IsInOne view_run segments address
segments_cover [] address = inl refl
segments_cover (s ∷ ss) address = covers_more (view_run s) (map segment_run (map plain_segment ss)) address (IsInOne view_run ss address) (segments_cover ss address)

-- ---- one byte

pub byte_from_get : (first : ℕ) (bytes : List ℕ) (address : ℕ) → first ≤ address → byte_from first bytes address ≡ slice_get bytes (address - first)
byte_from_get first [] address from = refl
byte_from_get first (b ∷ bs) address from =
    elim (cases_lt first address) [
      | inl later ↦
          let test : (address == first) ≡ false = grind (arith, nat_tests) in
          let place : address - first ≡ suc (address - (first + 1)) = omega arith in
          rw (test, place) (byte_from_get (first + 1) bs address (omega arith))
      | inr here ↦
          let test : (address == first) ≡ true = grind (arith, nat_tests) in
          let place : address - first ≡ 0 = omega arith in
          rw (test, place) refl
    ]

pub no_run : (runs : List PlainRun) (d : PlainRun) (address : ℕ) → ((j : ℕ) → j < length runs → run_byte (get_or runs j d) address ≡ None) → map_of runs address ≡ None
no_run [] d address none = refl
no_run (r ∷ rs) d address none =
    let here = none 0 (omega arith) in
    rw here (no_run rs d address (λ j within. none (suc j) (omega arith)))

-- where one run alone can have a byte
pub only_run : (runs : List PlainRun) (k : ℕ) (d : PlainRun) (address : ℕ) → k < length runs → ((j : ℕ) → j < length runs → j ≢ k → run_byte (get_or runs j d) address ≡ None) → map_of runs address ≡ run_byte (get_or runs k d) address
only_run [] k d address below others = absurd (omega arith)
only_run (r ∷ rs) zero d address below others =
    let rest = no_run rs d address (λ j within. others (suc j) (omega arith) (omega arith)) in
    rw rest (option_or-None (run_byte r address))
only_run (r ∷ rs) (suc k) d address below others =
    let here = others 0 (omega arith) (omega arith) in
    rw here (only_run rs k d address (omega arith) (λ j within disjoint. others (suc j) (omega arith) (λ same. disjoint (omega arith))))
