-- Where an object stands among slots.
use Rattle.std.proofs.Common.{◌≡◌, ◌∙◌, ◌⊎◌, inl, inr, ℕ, suc, ◌+◌, ◌%◌, ◌==◌, Bool, true, false, if◌then◌else◌, List, [], ◌∷◌, refl, sym, ap, subst, arith}
use Rattle.std.specs.List.{All}
use Rattle.std.proofs.lemmas.Bool.{cases_Bool, eqb-true}
use Rattle.std.proofs.lemmas.List.Elements.{All-nil, All-cons, All-head, All-tail}
use Rattle.list_checks.proofs.TestLemmas.{both}
use Rattle.object_graph.specs.declared.parts.Graph.{Graph}
use Rattle.cell_values.specs.Objects.{object_of}
use Rattle.placement_programme.specs.declared.variables.VarName.{VarName}
use Rattle.placement_programme.specs.declared.variables.VarName.TheVariants.{StaticData, StaticCode, OverlayData, OverlayCode, KeptData}
use Rattle.relocator.specs.declared.slots.Slot.{Slot}
use Rattle.relocator.specs.Slots.{pair_of, is_code}
use Rattle.relocator.specs.Placing.{puts, placed}
use Rattle.relocator.specs.Laws.{IsPresent, StandsIn, StandsAtHome}
use Rattle.relocator.proofs.WeightLemmas.{HasRoomFor, HasRoom, IsSized}

-- ---- what a variable puts into its slot

-- the object of a variable of data
pub puts_one : (name : VarName) (region o p : ℕ) → puts name region o ≡ true → puts name region p ≡ true → o ≡ p
puts_one (StaticData object) region o p first second = sym (eqb-true object o first) ∙ eqb-true object p second
puts_one (StaticCode a b) region o p first second = absurd (cc)
puts_one (OverlayData own object) region o p first second =
    sym (eqb-true object o (both (object == o) (own == region) first).0) ∙ eqb-true object p (both (object == p) (own == region) second).0
puts_one (OverlayCode own a b) region o p first second = absurd (cc)
puts_one (KeptData pair object) region o p first second =
    sym (eqb-true object o (both (object == o) (pair_of region == pair) first).0) ∙ eqb-true object p (both (object == p) (pair_of region == pair) second).0

-- it is present
pub puts_present : (name : VarName) (region o : ℕ) → puts name region o ≡ true → IsPresent region name
puts_present (StaticData object) region o is = tt
puts_present (StaticCode a b) region o is = tt
puts_present (OverlayData own object) region o is = eqb-true own region (both (object == o) (own == region) is).1
puts_present (OverlayCode own a b) region o is = absurd (cc)
puts_present (KeptData pair object) region o is = eqb-true (pair_of region) pair (both (object == o) (pair_of region == pair) is).1

-- and no code
pub puts_data : (name : VarName) (region o : ℕ) → puts name region o ≡ true → is_code name ≡ false
puts_data (StaticData object) region o is = refl
puts_data (StaticCode a b) region o is = absurd (cc)
puts_data (OverlayData own object) region o is = refl
puts_data (OverlayCode own a b) region o is = absurd (cc)
puts_data (KeptData pair object) region o is = refl

-- and the object has room in its span
pub puts_room : (g : Graph) (span : ℕ) (name : VarName) (region o : ℕ) → puts name region o ≡ true → HasRoom g span name → HasRoomFor g span o
puts_room g span (StaticData object) region o is room = subst (λ (n : ℕ). HasRoomFor g span n) (eqb-true object o is) room
puts_room g span (StaticCode a b) region o is room = absurd (cc)
puts_room g span (OverlayData own object) region o is room = subst (λ (n : ℕ). HasRoomFor g span n) (eqb-true object o (both (object == o) (own == region) is).0) room
puts_room g span (OverlayCode own a b) region o is room = absurd (cc)
puts_room g span (KeptData pair object) region o is room = subst (λ (n : ℕ). HasRoomFor g span n) (eqb-true object o (both (object == o) (pair_of region == pair) is).0) room

-- ---- the place

abbrev AllSized : Graph → ℕ → List Slot → Type 0
AllSized g regions slots = All (λ s. IsSized g regions s.name s.span) slots

abbrev Stands : Graph → List Slot → ℕ → ℕ → Type 0
Stands g slots region o =
    ((k : ℕ) × StandsIn g slots region o (placed g slots region o) k) ⊎ StandsAtHome g slots region o (placed g slots region o)

-- the first slot decides, or those behind it
pub first_place : (g : Graph) (s : Slot) (ss : List Slot) (region o : ℕ) (b : Bool) → puts s.name region o ≡ b → placed g (s ∷ ss) region o ≡ (if b then s.at + (object_of g o).home % g.grain else placed g ss region o)
first_place g s ss region o b is = ap (λ (x : Bool). if x then s.at + (object_of g o).home % g.grain else placed g ss region o) is

pub stands : (g : Graph) (regions : ℕ) (slots : List Slot) (region o : ℕ) → AllSized g regions slots → Stands g slots region o
stands g regions [] region o sized = inr (record { none = All-nil (λ (s : Slot). puts s.name region o ≡ false); there = refl })
stands g regions (s ∷ ss) region o sized =
    elim (cases_Bool (puts s.name region o)) [
      | inl here ↦
          let own = All-head (λ (t : Slot). IsSized g regions t.name t.span) s ss sized in
          inl (
            0,
            record {
              below = omega arith;
              puts = here;
              there = first_place g s ss region o true here;
              room = (puts_room g s.span s.name region o here own.room).room;
            },
          )
      | inr not_here ↦
          let step = first_place g s ss region o false not_here in
          elim (stands g regions ss region o (All-tail (λ (t : Slot). IsSized g regions t.name t.span) s ss sized)) [
            | inl later ↦
                let is = later.1 in
                let below = is.below in
                inl (suc later.0, record { below = omega (arith, below); puts = is.puts; there = step ∙ is.there; room = is.room })
            | inr home ↦ inr (record {
              none = All-cons (λ (t : Slot). puts t.name region o ≡ false) s ss not_here home.none;
              there = step ∙ home.there;
            })
          ]
    ]
