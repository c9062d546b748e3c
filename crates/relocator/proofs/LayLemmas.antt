-- Slots one by one.
use Rattle.std.proofs.Common.{◌≡◌, ◌∙◌, inl, inr, ℕ, ◌+◌, ◌<◌, ◌==◌, if◌then◌else◌, List, [], ◌∷◌, ◌++◌, drop, length, get_or, get_or-set_same, get_or-set_other, refl, sym, ap, subst, arith}
use Rattle.std.specs.List.{All}
use Rattle.std.proofs.Math.ListN.{set}
use Rattle.std.proofs.lemmas.Bool.{cases_eq}
use Rattle.std.proofs.lemmas.Bool.Decides.{nat_tests}
use Rattle.std.proofs.lemmas.List.{drop_more, get_or_default}
use Rattle.std.proofs.lemmas.List.Elements.{All-head, All-tail}
use Rattle.relocator.specs.declared.items.Item.{Item}
use Rattle.relocator.specs.declared.slots.Slot.{Slot}
use Rattle.relocator.specs.Slots.{lane_of, moved_on, slots_from, slots_of}
use Rattle.relocator.specs.Laying.{AreRoomy, AreInLanes, next_in, AgreeBelow}

-- ---- first slots

agree_more : (count : ℕ) (f h : ℕ → ℕ) (i : Item) → AgreeBelow count f h → AgreeBelow count (moved_on f i) (moved_on h i)
unfolding moved_on
agree_more count f h i agree lane below =
    let same = agree lane below in
    grind (arith, nat_tests, same)

-- functions that agree at all lanes of the items give the same slots
pub same_slots : (count : ℕ) (f h : ℕ → ℕ) (items : List Item) → AreInLanes count items → AgreeBelow count f h → slots_from f items ≡ slots_from h items
same_slots count f h [] in_lanes agree = refl
same_slots count f h (i ∷ is) in_lanes agree =
    let below = All-head (λ (j : Item). lane_of j.name < count) i is in_lanes in
    let at : f (lane_of i.name) ≡ h (lane_of i.name) = agree (lane_of i.name) below in
    let rest = same_slots count (moved_on f i) (moved_on h i) is (All-tail (λ (j : Item). lane_of j.name < count) i is in_lanes) (agree_more count f h i agree) in
    ap (λ (a : ℕ). record { name = i.name; at = a; span = i.span } ∷ slots_from (moved_on f i) is) at
    ∙ ap (λ (ss : List Slot). record { name = i.name; at = h (lane_of i.name); span = i.span } ∷ ss) rest

-- ---- the next slot

pub next_moved : (next : List ℕ) (i : Item) (at : ℕ) → lane_of i.name < length next → at ≡ get_or next (lane_of i.name) at → next_in (set next (lane_of i.name) (at + i.span)) ≡ moved_on (next_in next) i
unfolding moved_on
next_moved next i at below is = λ k r. each r k
  where
    each : (r : ℕ) → next_in (set next (lane_of i.name) (at + i.span)) r ≡ (if lane_of i.name == r then next_in next r + i.span else next_in next r)
    each r = elim (cases_eq (lane_of i.name) r) [
      | inl here ↦
          let same = get_or-set_same next (lane_of i.name) (at + i.span) 0 below in
          let there : get_or (set next (lane_of i.name) (at + i.span)) r 0 ≡ at + i.span = subst (λ (n : ℕ). get_or (set next (lane_of i.name) (at + i.span)) n 0 ≡ at + i.span) here same in
          let old : at ≡ next_in next r = is ∙ get_or_default next (lane_of i.name) at 0 below ∙ ap (next_in next) here in
          grind (arith, nat_tests, here, there, old)
      | inr other ↦
          let same = get_or-set_other next (lane_of i.name) r (at + i.span) 0 (λ e. other (sym e)) in
          grind (arith, nat_tests, other, same)
    ]

all_behind : (P : Slot → Type 0) (out rest : List Slot) → All P (out ++ rest) → All P rest
all_behind P [] rest all = all
all_behind P (s ∷ out) rest all = all_behind P out rest (All-tail P s (out ++ rest) all)

-- the next slot is the head of what is left, so it has room
pub next_room : (base regions : ℕ) (items : List Item) (out : List Slot) (next : ℕ → ℕ) (i : ℕ) (d : Item) → i < length items → out ++ slots_from next (drop i items) ≡ slots_of base items → AreRoomy base regions items → next (lane_of (get_or items i d).name) + (get_or items i d).span < 4294967296
next_room base regions items out next i d below so_far roomy =
    let item = get_or items i d in
    let all = all_behind (λ (s : Slot). s.at + s.span < 4294967296) out (slots_from next (drop i items))
    (subst (All (λ (s : Slot). s.at + s.span < 4294967296)) (sym so_far) roomy.slots) in
    let head = subst (λ (is : List Item). All (λ (s : Slot). s.at + s.span < 4294967296) (slots_from next is)) (drop_more items i d below) all in
    All-head (λ (s : Slot). s.at + s.span < 4294967296) (record { name = item.name; at = next (lane_of item.name); span = item.span }) (slots_from (moved_on next item) (drop (i + 1) items)) head
