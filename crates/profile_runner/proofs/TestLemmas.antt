-- Tests of what a step counts.
use Rattle.std.proofs.Common.{◌≡◌, ◌∙◌, inl, inr, ℕ, suc, ◌<◌, ◌==◌, nat_lt, Bool, true, false, not, ◌&&◌, ◌||◌, if◌then◌else◌, List, [], ◌∷◌, length, Option, Some, None, refl, sym, arith}
use Rattle.std.proofs.Math.Bool.{and-false}
use Rattle.std.proofs.lemmas.Bool.{cases_eq, eqb-true}
use Rattle.std.proofs.lemmas.Bool.Decides.{nat_tests}
use Rattle.list_checks.specs.Sorted.{is_number}
use Rattle.object_machine.specs.declared.events.Access.{Access}
use Rattle.code_blocks.specs.Early.{has}
use Rattle.profile_runner.specs.Standing.{number_of, region_of, entered}
use Rattle.profile_runner.specs.Counts.{same_direction}
use Rattle.profile_runner.specs.Tallies.{is_entry, is_switch, is_leave, is_enter, is_access_in, IsBlockAt, IsNext, is_coming, is_led, block_now, units_now, region_now}

pub eq_refl : (a : ℕ) → (a == a) ≡ true
eq_refl a = grind (arith, nat_tests)

pub eq_not : (a b : ℕ) → (a ≡ b → ⊥) → (a == b) ≡ false
eq_not a b differs = grind (arith, nat_tests, differs)

and_true : (b : Bool) → b && true ≡ b
and_true true = refl
and_true false = refl

-- ---- a change of the region

-- nothing switches where the region stays
pub no_switch : (b s r : ℕ) → is_switch b b s r ≡ false
no_switch b s r =
    elim (cases_eq s r) [
      | inl same ↦ rw (same, eq_refl r) refl
      | inr differs ↦
          elim (cases_eq b s) [
            | inl here ↦ rw (here, eq_not s r differs, and-false (s == s)) refl
            | inr disjoint_there ↦ rw (eq_not b s disjoint_there, eq_not s r differs) refl
          ]
    ]

pub no_leave : (b s : ℕ) → is_leave b b s ≡ false
no_leave b s = rw (eq_refl b) (and-false (b == s))

pub no_enter : (b r : ℕ) → is_enter b b r ≡ false
no_enter b r = rw (eq_refl b) (and-false (b == r))

pub one_switch : (b a : ℕ) → (b ≡ a → ⊥) → (s r : ℕ) → is_entry b a s r ≡ is_switch b a s r
one_switch b a differs s r =
    elim (cases_eq s r) [
      | inl same ↦
          elim (cases_eq b s) [
            | inl here ↦
                let elsewhere : (a == r) ≡ false = eq_not a r (λ is. differs (here ∙ (same ∙ sym is))) in
                rw (elsewhere, and-false (b == s), and-false (not (s == r))) refl
            | inr disjoint_there ↦ rw (eq_not b s disjoint_there, and-false (not (s == r))) refl
          ]
      | inr disjoint ↦ rw (eq_not s r disjoint) refl
    ]

pub one_leave : (b a : ℕ) → (b ≡ a → ⊥) → (s : ℕ) → is_number b s ≡ is_leave b a s
one_leave b a differs s = rw (eq_not b a differs) (sym (and_true (b == s)))

pub one_enter : (b a : ℕ) → (b ≡ a → ⊥) → (r : ℕ) → is_number a r ≡ is_enter b a r
one_enter b a differs r = rw (eq_not b a differs) (sym (and_true (a == r)))

-- ---- accesses

same_way : (x y z : Bool) → z ≡ true → (x && y) ≡ ((x && z) && y)
same_way true y z is = rw is refl
same_way false y z is = refl

other_way : (x y z : Bool) → z ≡ false → ((x && z) && y) ≡ false
other_way true y z is = rw is refl
other_way false y z is = refl

pub one_access : (write : Bool) (a : Access) (region : ℕ) → same_direction write a.write ≡ true → (o r : ℕ) → is_entry a.object region o r ≡ is_access_in write (Some a) region o r
one_access write a region same o r = same_way (a.object == o) (region == r) (same_direction write a.write) same

-- ---- changes by where they lead, and by where they begin

-- of the two orders in which the tests of a change stand, where the regions that they name are those
two_orders : (x y z w : Bool) → (x ≡ true → y ≡ true → z ≡ w) → (z && (x && y) ≡ (x && w) && y) × (z && (x && y) ≡ (y && w) && x)
two_orders true true z w same = let is = same refl refl in rw is (refl, refl)
two_orders true false z w same = (and-false z ∙ sym (and-false w), and-false z)
two_orders false true z w same = (and-false z, and-false z ∙ sym (and-false w))
two_orders false false z w same = (and-false z, and-false z)

regions_differ : (b a s r : ℕ) → (b == s) ≡ true → (a == r) ≡ true → not (s == r) ≡ not (b == a)
regions_differ b a s r first second = rw (eqb-true b s first, eqb-true a r second) refl

pub switch_leave : (b a s r : ℕ) → is_switch b a s r ≡ (is_leave b a s && (a == r))
switch_leave b a s r = (two_orders (b == s) (a == r) (not (s == r)) (not (b == a)) (regions_differ b a s r)).0

pub switch_enter : (b a s r : ℕ) → is_switch b a s r ≡ (is_enter b a r && (b == s))
switch_enter b a s r = (two_orders (b == s) (a == r) (not (s == r)) (not (b == a)) (regions_differ b a s r)).1

-- ---- which block begins

pub block_choice : (starts : List ℕ) (a b : ℕ) (coming : Option ℕ) → IsBlockAt starts a coming → (if has starts a then number_of starts a else b) ≡ block_now coming b
block_choice starts a b None at = rw at refl
block_choice starts a b (Some k) at = let begun = at.0 in let number = at.1 in rw (begun, number) refl

pub units_choice : (starts : List ℕ) (a u : ℕ) (coming : Option ℕ) → IsBlockAt starts a coming → (if has starts a then 1 else suc u) ≡ units_now coming u
units_choice starts a u None at = rw at refl
units_choice starts a u (Some k) at = let begun = at.0 in rw begun refl

pub region_choice : (starts regions : List ℕ) (a r : ℕ) (coming : Option ℕ) → IsBlockAt starts a coming → (if has starts a then entered r (region_of regions (number_of starts a)) else r) ≡ region_now regions coming r
region_choice starts regions a r None at = rw at refl
region_choice starts regions a r (Some k) at = let begun = at.0 in let number = at.1 in rw (begun, number) refl

pub coming_test : (starts : List ℕ) (a b : ℕ) (coming : Option ℕ) → IsBlockAt starts a coming → (has starts a && (number_of starts a == b)) ≡ is_coming coming b
coming_test starts a b None at = rw at refl
coming_test starts a b (Some k) at = let begun = at.0 in let number = at.1 in rw (begun, number) refl

-- an address that is no start has the number behind the last
or_none : (x y : Bool) → x || y ≡ false → (x ≡ false) × (y ≡ false)
or_none true y none = cc
or_none false y none = (refl, none)

eq_turn : (a s : ℕ) → (a == s) ≡ false → (s == a) ≡ false
eq_turn a s other = grind (arith, nat_tests, other)

pub no_number : (starts : List ℕ) (a : ℕ) → has starts a ≡ false → number_of starts a ≡ length starts
no_number [] a none = refl
no_number (s ∷ starts) a none =
    let parts = or_none (a == s) (has starts a) none in
    let other = eq_turn a s parts.0 in
    rw (other, no_number starts a parts.1) refl

less_is : (a b : ℕ) → a < b → nat_lt a b ≡ true
less_is a b less = grind (arith, nat_tests, less)

pub led_test : (starts : List ℕ) (goes_on : Bool) (x block a b : ℕ) (next : Option ℕ) → b < length starts → IsNext starts goes_on x next → (goes_on && (block == a) && (nat_lt b (length starts) && (number_of starts x == b))) ≡ is_led block next a b
led_test starts true x block a b None below to =
    let other : (length starts == b) ≡ false = eq_not (length starts) b (λ is. absurd (omega (arith, is, below))) in
    rw (no_number starts x to, other, and-false (nat_lt b (length starts)), and-false (block == a)) refl
led_test starts true x block a b (Some k) below to =
    let number = to.1 in let less = less_is b (length starts) below in rw (number, less) refl
led_test starts false x block a b None below to = refl
led_test starts false x block a b (Some k) below to = cc
