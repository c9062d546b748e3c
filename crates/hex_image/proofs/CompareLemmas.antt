-- A file and an image, byte by byte.
use Rattle.std.proofs.Common.{◌≡◌, ◌⊎◌, inl, inr, ℕ, zero, suc, ◌+◌, ◌<◌, ◌≤◌, nat_le, false, List, [], ◌∷◌, take, length, get_or, Option, Some, None, nat_eq, refl, sym, ap, ◌∙◌, arith, add-one}
use Rattle.std.proofs.lemmas.Bool.Decides.{nat_tests}
use Rattle.std.proofs.Math.ListN.{get_or-map}
use Rattle.std.specs.Option.{option_eq}
use Rattle.std.specs.List.{All}
use Rattle.std.specs.List.Sorted.{IsPartitionedBy}
use Rattle.hex_image.specs.Runs.{PlainRun, ByteMap, run_byte, map_of, map_runs, run_end, plain_run, AreMaximal}
use Rattle.hex_image.specs.Difference.{IsInRun, IsInOne, IsFirstOff, AreSame, DiffersFirst, lesser_of}
use Rattle.hex_image.specs.declared.image.HexRun.{HexRun}
use Rattle.hex_image.proofs.GivenLemmas.{byte_from_below, byte_from_past}
use Rattle.hex_image.proofs.OffLemmas.{first_of_both, in_one_more}
use Rattle.hex_image.proofs.RunLemmas.{option_or-None}

-- ---- the run of an address

length_runs : (runs : List HexRun) → length (map_runs runs) ≡ length runs
length_runs [] = refl
length_runs (r ∷ rs) = ap suc (length_runs rs)

pub run_before : (runs : List HexRun) → AreMaximal (map_runs runs) → (i j : ℕ) (d : HexRun) → i < j → j < length runs → run_end (plain_run (get_or runs i d)) < (get_or runs j d).at
run_before runs maximal i j d lower below =
    let size = length_runs runs in
    let before = maximal.disjoint i j (plain_run d) lower (omega arith) in
    rw (get_or-map plain_run runs i d, get_or-map plain_run runs j d) at before

pub starts_rise : (runs : List HexRun) (address : ℕ) → AreMaximal (map_runs runs) → IsPartitionedBy (λ (run : HexRun). nat_le run.at address) runs
starts_rise runs address maximal i j d le below test =
    let place : (i ≡ j) ⊎ (i < j) = grind arith in
    elim place [
      | inl same ↦ rw same test
      | inr lower ↦ let before = run_before runs maximal i j d lower below in grind (arith, nat_tests)
    ]

pub none_above : (runs : List HexRun) (address : ℕ) → ((j : ℕ) (d : HexRun) → j < length runs → address < (get_or runs j d).at) → map_of (map_runs runs) address ≡ None
none_above [] address above = refl
none_above (r ∷ rs) address above =
    rw (byte_from_below r.at r.bytes.items address (above 0 r (omega arith))) (none_above rs address (λ j d below. above (suc j) d (omega arith)))

pub found_run : (runs : List HexRun) (k : ℕ) (run : HexRun) (address : ℕ) → k < length runs → run ≡ get_or runs k run
    → ((j : ℕ) (d : HexRun) → j < k → run_end (plain_run (get_or runs j d)) ≤ address) → ((j : ℕ) (d : HexRun) → k < j → j < length runs → address < (get_or runs j d).at)
    → map_of (map_runs runs) address ≡ run_byte (plain_run run) address
found_run [] k run address below is before above = absurd (omega arith)
found_run (r ∷ rs) zero run address below is before above =
    let none = none_above rs address (λ j d within. above (suc j) d (omega arith) (omega arith)) in
    rw (none, is) (option_or-None (run_byte (plain_run r) address))
found_run (r ∷ rs) (suc k) run address below is before above =
    rw (byte_from_past r.at r.bytes.items address (before 0 r (omega arith)))
    (found_run rs k run address (omega arith) is (λ j d lower. before (suc j) d (omega arith)) (λ j d lower within. above (suc j) d (omega arith) (omega arith)))

-- ---- loops over runs

pub placed_at : (runs : List HexRun) (k : ℕ) (run : HexRun) → All (λ r. run_end r ≤ 4294967296) (map_runs runs) → k < length runs → run ≡ get_or runs k run → run.at + length run.bytes.items ≤ 4294967296
placed_at runs k run placed below is =
    let size = length_runs runs in
    let here = placed k (plain_run run) (omega arith) in
    rw (get_or-map plain_run runs k run, ← is) at here

pub first_more : {X : Type 0} (run_of : X → PlainRun) (xs : List X) (i : ℕ) (d item : X) (one other : ByteMap) (x y : Option ℕ) → i < length xs → item ≡ get_or xs i d
    → IsFirstOff (IsInOne run_of (take i xs)) one other x → IsFirstOff (IsInRun (run_of item)) one other y → IsFirstOff (IsInOne run_of (take (i + 1) xs)) one other (lesser_of x y)
first_more run_of xs i d item one other x y below is first second =
    first_of_both (IsInOne run_of (take i xs)) (IsInRun (run_of item)) (IsInOne run_of (take (i + 1) xs)) one other x y first second
    (λ a among. rw is (in_one_more run_of xs i d a below (rw add-one at among)))

-- ---- all addresses

all_off : (A : ℕ → Type 0) (one other : ByteMap) (found : Option ℕ) → IsFirstOff A one other found → ((a : ℕ) → (one a ≡ other a) ⊎ A a) → IsFirstOff (λ a. Unit {0}) one other found
all_off A one other None none covers = λ a any. elim (covers a) [ inl same ↦ same | inr among ↦ none a among ]
all_off A one other (Some first) off covers = (off.0, λ a below any. elim (covers a) [ inl same ↦ same | inr among ↦ off.1 a below among ])

cover_both : (one other : ByteMap) (A B : ℕ → Type 0) (a : ℕ) → (one a ≡ None) ⊎ A a → (other a ≡ None) ⊎ B a → (one a ≡ other a) ⊎ (A a ⊎ B a)
cover_both one other A B a (inl none) (inl none_too) = inl (none ∙ sym none_too)
cover_both one other A B a (inl none) (inr among) = inr (inr among)
cover_both one other A B a (inr among) covered = inr (inl among)

pub whole_off : (one other : ByteMap) (A B : ℕ → Type 0) (x y : Option ℕ) → IsFirstOff A one other x → IsFirstOff B one other y → ((a : ℕ) → (one a ≡ None) ⊎ A a) → ((a : ℕ) → (other a ≡ None) ⊎ B a) → IsFirstOff (λ a. Unit {0}) one other (lesser_of x y)
whole_off one other A B x y first second covers other_covers =
    all_off (λ a. A a ⊎ B a) one other (lesser_of x y)
    (first_of_both A B (λ a. A a ⊎ B a) one other x y first second (λ a among. among))
    (λ a. cover_both one other A B a (covers a) (other_covers a))

pub differs_at : (one other : ByteMap) (found : Option ℕ) (a : ℕ) → found ≡ Some a → IsFirstOff (λ a. Unit {0}) one other found → DiffersFirst one other a
differs_at one other found a is off = let here = rw is at off in record { here = here.0; below = λ b lower. here.1 b lower tt }

pub same_all : (one other : ByteMap) (found : Option ℕ) → found ≡ None → IsFirstOff (λ a. Unit {0}) one other found → AreSame one other
same_all one other found is off = let none = rw is at off in λ a. none a tt

pub other_entry : (held : Option ℕ) (entry : ℕ) → false ≡ option_eq nat_eq held (Some entry) → held ≡ Some entry → ⊥
other_entry held entry differs same = let test = rw same at differs in grind (arith, nat_tests)
