-- Slots begin at multiples of the grain.
use Rattle.std.proofs.Common.{◌≡◌, ◌∙◌, inl, inr, ℕ, ◌+◌, ◌*◌, ◌/◌, ◌%◌, ◌==◌, if◌then◌else◌, true, false, List, [], ◌∷◌, ap, arith}
use Rattle.std.specs.List.{All}
use Rattle.std.proofs.Math.Nat.{add-mul, mul-add-mod_self_right, mod-mod, mod-add-div'}
use Rattle.std.proofs.lemmas.Bool.{cases_eq, cond_both}
use Rattle.std.proofs.lemmas.Bool.Decides.{nat_tests}
use Rattle.std.proofs.lemmas.List.Elements.{All-nil, All-cons, All-head, All-tail}
use Rattle.relocator.specs.declared.items.Item.{Item}
use Rattle.relocator.specs.declared.slots.Slot.{Slot}
use Rattle.relocator.specs.Slots.{pair_lane, lane_of, pair_of, bytes_in, moved_on, slots_from, first_slots, slots_of}

-- so many multiples of the grain
abbrev pub IsTimes : ℕ → ℕ → Type 0
IsTimes grain n = (q : ℕ) × (n ≡ q * grain)

sum_times : (grain a b : ℕ) → IsTimes grain a → IsTimes grain b → IsTimes grain (a + b)
sum_times grain a b first second =
    let whole = add-mul first.0 second.0 grain in
    let a_is = first.1 in
    let b_is = second.1 in
    (first.0 + second.0, omega (arith, whole, a_is, b_is))

none_times : (grain : ℕ) → IsTimes grain 0
none_times grain = (0, omega arith)

pub base_times : (grain n : ℕ) → n % grain ≡ 0 → IsTimes grain n
base_times grain n is = let whole = mod-add-div' n grain in (n / grain, omega (arith, whole, is))

-- as many bytes behind a multiple of the grain
pub same_low : (grain at home : ℕ) → IsTimes grain at → (at + home % grain) % grain ≡ home % grain
same_low grain at home times =
    ap (λ (a : ℕ). (a + home % grain) % grain) times.1
    ∙ mul-add-mod_self_right times.0 grain (home % grain)
    ∙ mod-mod home grain

abbrev AllTimes : ℕ → List Item → Type 0
AllTimes grain items = All (λ i. IsTimes grain i.span) items

span_if : (grain : ℕ) (i : Item) (r : ℕ) → IsTimes grain i.span → IsTimes grain (if lane_of i.name == r then i.span else 0)
span_if grain i r times = elim (cases_eq (lane_of i.name) r) [
  | inl same ↦ let is : (lane_of i.name == r) ≡ true = grind (arith, nat_tests, same) in rw is times
  | inr other ↦ let is : (lane_of i.name == r) ≡ false = grind (arith, nat_tests, other) in rw is (none_times grain)
]

bytes_times : (grain r : ℕ) (items : List Item) → AllTimes grain items → IsTimes grain (bytes_in r items)
bytes_times grain r [] all = none_times grain
bytes_times grain r (i ∷ is) all =
    sum_times grain (if lane_of i.name == r then i.span else 0) (bytes_in r is)
    (span_if grain i r (All-head (λ (j : Item). IsTimes grain j.span) i is all))
    (bytes_times grain r is (All-tail (λ (j : Item). IsTimes grain j.span) i is all))

moved_times : (grain : ℕ) (next : ℕ → ℕ) (i : Item) → ((r : ℕ) → IsTimes grain (next r)) → IsTimes grain i.span → (r : ℕ) → IsTimes grain (moved_on next i r)
unfolding moved_on
moved_times grain next i all times r = elim (cases_eq (lane_of i.name) r) [
  | inl same ↦ let is : (lane_of i.name == r) ≡ true = grind (arith, nat_tests, same) in rw is (sum_times grain (next r) i.span (all r) times)
  | inr other ↦ let is : (lane_of i.name == r) ≡ false = grind (arith, nat_tests, other) in rw is (all r)
]

slots_times_from : (grain : ℕ) (next : ℕ → ℕ) (items : List Item) → ((r : ℕ) → IsTimes grain (next r)) → AllTimes grain items → All (λ s. IsTimes grain s.at) (slots_from next items)
slots_times_from grain next [] first all = All-nil (λ (s : Slot). IsTimes grain s.at)
slots_times_from grain next (i ∷ is) first all =
    All-cons (λ (s : Slot). IsTimes grain s.at) (record { name = i.name; at = next (lane_of i.name); span = i.span }) (slots_from (moved_on next i) is)
    (first (lane_of i.name))
    (slots_times_from grain (moved_on next i) is (moved_times grain next i first (All-head (λ (j : Item). IsTimes grain j.span) i is all)) (All-tail (λ (j : Item). IsTimes grain j.span) i is all))

first_times : (grain base : ℕ) (items : List Item) → IsTimes grain base → AllTimes grain items → (lane : ℕ) → IsTimes grain (first_slots base items lane)
unfolding first_slots
first_times grain base items times all lane =
    let behind = sum_times grain base (bytes_in 0 items) times (bytes_times grain 0 items all) in
    let kept = pair_lane (pair_of (lane / 2)) in
    cond_both _ _ _ (λ n. IsTimes grain n) (λ start. times) (λ rest.
    sum_times grain (base + bytes_in 0 items) (if lane % 2 == 0 then bytes_in kept items else 0) behind
    (cond_both _ _ _ (λ n. IsTimes grain n) (λ even. bytes_times grain kept items all) (λ odd. none_times grain)))

pub slots_times : (grain base : ℕ) (items : List Item) → IsTimes grain base → AllTimes grain items → All (λ s. IsTimes grain s.at) (slots_of base items)
slots_times grain base items times all = slots_times_from grain (first_slots base items) items (first_times grain base items times all) all
