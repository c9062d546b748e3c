-- Slots one behind the other.
use Rattle.std.proofs.Common.{◌≡◌, ◌≢◌, ◌∙◌, ◌⊎◌, inl, inr, ℕ, ◌+◌, ◌*◌, ◌/◌, ◌%◌, ◌≤◌, List, [], ◌∷◌, get_or, refl, sym, subst, arith}
use Rattle.std.specs.List.{All, AllPairs}
use Rattle.std.proofs.Math.Logic.{⊎_swap}
use Rattle.std.proofs.lemmas.Bool.{cases_eq}
use Rattle.std.proofs.lemmas.Bool.Decides.{nat_tests}
use Rattle.std.proofs.lemmas.List.Elements.{All-nil, All-cons, All-head, All-tail, All-weaker}
use Rattle.std.proofs.lemmas.List.Kept.{AllPairs-cons}
use Rattle.placement_programme.specs.declared.variables.VarName.{VarName}
use Rattle.placement_programme.specs.declared.variables.VarName.TheVariants.{StaticData, StaticCode, OverlayData, OverlayCode, KeptData}
use Rattle.relocator.specs.declared.items.Item.{Item}
use Rattle.relocator.specs.declared.slots.Slot.{Slot}
use Rattle.relocator.specs.Slots.{region_lane, pair_lane, lane_of, pair_of, bytes_in, moved_on, slots_from, first_slots, slots_of}
use Rattle.relocator.specs.Laws.{IsPresent, AreDisjointIn}

-- ---- one item more

-- an item moves on its own lane alone
pub moves_own : (next : ℕ → ℕ) (i : Item) → moved_on next i (lane_of i.name) ≡ next (lane_of i.name) + i.span
unfolding moved_on
moves_own next i = grind (arith, nat_tests)

pub moves_on : (next : ℕ → ℕ) (i : Item) (r : ℕ) → next r ≤ moved_on next i r
unfolding moved_on
moves_on next i r = grind (arith, nat_tests)

-- what is taken and what is left stay the same
pub takes_rest : (next : ℕ → ℕ) (i : Item) (is : List Item) (r : ℕ) → moved_on next i r + bytes_in r is ≡ next r + bytes_in r (i ∷ is)
unfolding moved_on
takes_rest next i is r = grind (arith, nat_tests)

pub takes_own : (i : Item) (is : List Item) → i.span ≤ bytes_in (lane_of i.name) (i ∷ is)
takes_own i is = grind (arith, nat_tests)

-- ---- where slots lie

-- a slot lies behind the first place of its lane, and before the end of all that the lane takes
pub record IsBetween (next : ℕ → ℕ) (items : List Item) (s : Slot) : Type 0 where
  pub from : next (lane_of s.name) ≤ s.at
  pub to : s.at + s.span ≤ next (lane_of s.name) + bytes_in (lane_of s.name) items

later_between : (next : ℕ → ℕ) (i : Item) (is : List Item) (s : Slot) → IsBetween (moved_on next i) is s → IsBetween next (i ∷ is) s
later_between next i is s b =
    let more = moves_on next i (lane_of s.name) in
    let same = takes_rest next i is (lane_of s.name) in
    let from = b.from in
    let to = b.to in
    record { from = omega (arith, more, from); to = omega (arith, same, to) }

pub slots_between : (next : ℕ → ℕ) (items : List Item) → All (IsBetween next items) (slots_from next items)
slots_between next [] = All-nil (IsBetween next [])
slots_between next (i ∷ is) =
    let own = takes_own i is in
    All-cons (IsBetween next (i ∷ is)) (record { name = i.name; at = next (lane_of i.name); span = i.span }) (slots_from (moved_on next i) is)
    (record { from = omega arith; to = omega (arith, own) })
    (All-weaker (IsBetween (moved_on next i) is) (IsBetween next (i ∷ is)) (later_between next i is) (slots_from (moved_on next i) is) (slots_between (moved_on next i) is))

-- what holds of names and spans of items holds of their slots
pub slot_keeps : (Q : VarName → ℕ → Type 0) (next : ℕ → ℕ) (items : List Item) → All (λ i. Q i.name i.span) items → All (λ s. Q s.name s.span) (slots_from next items)
slot_keeps Q next [] all = All-nil (λ (s : Slot). Q s.name s.span)
slot_keeps Q next (i ∷ is) all =
    All-cons (λ (s : Slot). Q s.name s.span) (record { name = i.name; at = next (lane_of i.name); span = i.span }) (slots_from (moved_on next i) is)
    (All-head (λ (j : Item). Q j.name j.span) i is all)
    (slot_keeps Q (moved_on next i) is (All-tail (λ (j : Item). Q j.name j.span) i is all))

-- slots of one lane stand one behind the other
abbrev pub InRow : Slot → Slot → Type 0
InRow s t = lane_of s.name ≡ lane_of t.name → s.at + s.span ≤ t.at

behind_first : (next : ℕ → ℕ) (i : Item) (is : List Item) (t : Slot) → IsBetween (moved_on next i) is t → InRow (record { name = i.name; at = next (lane_of i.name); span = i.span }) t
behind_first next i is t b same =
    let own = moves_own next i in
    let from : moved_on next i (lane_of i.name) ≤ t.at = subst (λ (r : ℕ). moved_on next i r ≤ t.at) (sym same) b.from in
    omega (arith, own, from)

pub slots_in_row : (next : ℕ → ℕ) (items : List Item) → AllPairs InRow (slots_from next items)
slots_in_row next [] = λ i j d before below. absurd (omega (arith, below))
slots_in_row next (i ∷ is) =
    let rest = slots_from (moved_on next i) is in
    AllPairs-cons InRow (record { name = i.name; at = next (lane_of i.name); span = i.span }) rest
    (All-weaker (IsBetween (moved_on next i) is) (InRow (record { name = i.name; at = next (lane_of i.name); span = i.span })) (behind_first next i is) rest (slots_between (moved_on next i) is))
    (slots_in_row (moved_on next i) is)

-- ---- disjoint

-- where lanes begin
pub first_of_rest : (base : ℕ) (items : List Item) (lane : ℕ) → lane ≢ 0 → base + bytes_in 0 items ≤ first_slots base items lane
unfolding first_slots
first_of_rest base items lane other = grind (arith, nat_tests, other)

pub first_of_all : (base : ℕ) (items : List Item) → first_slots base items 0 ≡ base
unfolding first_slots
first_of_all base items = refl

pub first_of_pair : (base : ℕ) (items : List Item) (pair : ℕ) → first_slots base items (pair_lane pair) ≡ base + bytes_in 0 items
unfolding first_slots
first_of_pair base items pair =
    let odd : (2 * pair + 1) % 2 ≡ 1 = omega arith in
    grind (arith, nat_tests, odd)

pub first_of_region : (base : ℕ) (items : List Item) (region : ℕ) → 1 ≤ region → first_slots base items (region_lane region) ≡ base + bytes_in 0 items + bytes_in (pair_lane (pair_of region)) items
unfolding first_slots
first_of_region base items region some =
    let even : 2 * region % 2 ≡ 0 = omega arith in
    let half : 2 * region / 2 ≡ region = omega arith in
    rw half (grind (arith, nat_tests, even, some))

-- the lanes of what is present in a region
abbrev pub IsLaneIn : ℕ → ℕ → Type 0
IsLaneIn region lane = (lane ≡ 0) ⊎ ((lane ≡ pair_lane (pair_of region)) ⊎ (lane ≡ region_lane region))

pub present_lane : (region : ℕ) (name : VarName) → IsPresent region name → IsLaneIn region (lane_of name)
present_lane region (StaticData object) here = inl refl
present_lane region (StaticCode first last) here = inl refl
present_lane region (OverlayData own object) here = inr (inr (omega (arith, here)))
present_lane region (OverlayCode own first last) here = inr (inr (omega (arith, here)))
present_lane region (KeptData pair object) here = inr (inl (omega (arith, here)))

-- one of two lanes ends where the other begins, or before
abbrev IsBefore : ℕ → ℕ → ℕ → Type 0
IsBefore region a b = ((a ≡ 0) × (b ≢ 0)) ⊎ ((a ≡ pair_lane (pair_of region)) × (b ≡ region_lane region) × (1 ≤ region))

pair_first : (region a b : ℕ) → a ≡ pair_lane (pair_of region) → b ≡ region_lane region → IsBefore region a b ⊎ IsBefore region b a
pair_first region a b x y =
    elim (cases_eq region 0) [
      | inl start ↦ inr (inl (omega (arith, y, start), λ zero. omega (arith, x, zero)))
      | inr some ↦ inl (inr (x, y, omega (arith, some)))
    ]

in_order : (region a b : ℕ) → a ≢ b → IsLaneIn region a → IsLaneIn region b → IsBefore region a b ⊎ IsBefore region b a
in_order region a b other (inl x) there = inl (inl (x, λ zero. other (x ∙ sym zero)))
in_order region a b other (inr here) (inl y) = inr (inl (y, λ zero. other (zero ∙ sym y)))
in_order region a b other (inr (inl x)) (inr (inl y)) = absurd (other (x ∙ sym y))
in_order region a b other (inr (inr x)) (inr (inr y)) = absurd (other (x ∙ sym y))
in_order region a b other (inr (inl x)) (inr (inr y)) = pair_first region a b x y
in_order region a b other (inr (inr x)) (inr (inl y)) = ⊎_swap (pair_first region b a y x)

ends_before : (base : ℕ) (items : List Item) (region : ℕ) (s t : Slot) → IsBefore region (lane_of s.name) (lane_of t.name) → IsBetween (first_slots base items) items s → IsBetween (first_slots base items) items t → s.at + s.span ≤ t.at
ends_before base items region s t (inl before) first second =
    let begins = first_of_rest base items (lane_of t.name) before.1 in
    let from = second.from in
    let start = first_of_all base items in
    let to : s.at + s.span ≤ first_slots base items 0 + bytes_in 0 items =
    subst (λ (lane : ℕ). s.at + s.span ≤ first_slots base items lane + bytes_in lane items) before.0 first.to in
    omega (arith, begins, from, start, to)
ends_before base items region s t (inr before) first second =
    let lane = pair_lane (pair_of region) in
    let start = first_of_pair base items (pair_of region) in
    let begins = first_of_region base items region before.2 in
    let to : s.at + s.span ≤ first_slots base items lane + bytes_in lane items =
    subst (λ (n : ℕ). s.at + s.span ≤ first_slots base items n + bytes_in n items) before.0 first.to in
    let from : first_slots base items (region_lane region) ≤ t.at =
    subst (λ (n : ℕ). first_slots base items n ≤ t.at) before.1 second.from in
    omega (arith, start, begins, from, to)

together : (base : ℕ) (items : List Item) (region : ℕ) (s t : Slot) → InRow s t → IsBetween (first_slots base items) items s → IsBetween (first_slots base items) items t → AreDisjointIn region s t
together base items region s t row first second here there =
    elim (cases_eq (lane_of s.name) (lane_of t.name)) [
      | inl same ↦ inl (row same)
      | inr other ↦
          elim (in_order region (lane_of s.name) (lane_of t.name) other (present_lane region s.name here) (present_lane region t.name there)) [
            | inl before ↦ inl (ends_before base items region s t before first second)
            | inr behind ↦ inr (ends_before base items region t s behind second first)
          ]
    ]

pub slots_disjoint : (base : ℕ) (items : List Item) (region : ℕ) → AllPairs (AreDisjointIn region) (slots_of base items)
slots_disjoint base items region i j d before below =
    let next = first_slots base items in
    let between = slots_between next items in
    together base items region (get_or (slots_from next items) i d) (get_or (slots_from next items) j d)
    (slots_in_row next items i j d before below)
    (between i d (omega (arith, before, below)))
    (between j d below)
