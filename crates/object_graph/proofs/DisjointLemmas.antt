-- Ranges that are disjoint, and what passes over relocations and symbols add to their marks.
use Rattle.std.proofs.Common.{◌≡◌, inl, inr, ℕ, ◌+◌, ◌<◌, ◌≤◌, nat_le, Bool, true, false, ◌&&◌, ◌||◌, List, Option, None, refl, arith, add-one}
use Rattle.std.specs.List.{AllPairs}
use Rattle.std.specs.List.Sorted.{IsNonDecreasingBy}
use Rattle.std.proofs.lemmas.Bool.{cases_lt}
use Rattle.std.proofs.lemmas.Bool.Decides.{nat_tests}
use Rattle.list_checks.specs.Tests.{any_below}
use Rattle.loaded_file.specs.declared.byte_ranges.ByteRange.{ByteRange}
use Rattle.object_graph.specs.Disjoint.{Finds, AddsPlace, AddsRule}

-- the starts of things that end where or before each later one starts don't fall
pub by_start : {X : Type 0} (start size : X → ℕ) (xs : List X) → AllPairs (λ x y. start x + size x ≤ start y) xs → IsNonDecreasingBy start xs
by_start start size xs disjoint i j d order below =
    elim (cases_lt i j) [
      | inl before ↦
          let ends = disjoint i j d before below in
          omega (arith, ends)
      | inr behind ↦
          let same : i ≡ j = omega (arith, order, behind) in
          rw same (omega arith)
    ]

pub above : (h a : ℕ) → nat_le h a ≡ false → a < h
above h a not_up_to = grind (arith, nat_tests, not_up_to)

-- ---- marks of a pass

or_step : (o a t m n p : Bool) → m ≡ (o || a) → n ≡ (m || p) → t ≡ p → n ≡ (o || (a || t))
or_step true a t m n p first second same = grind (arith, first, second, same)
or_step false true t m n p first second same = grind (arith, first, second, same)
or_step false false t m n p first second same = grind (arith, first, second, same)

-- one more record
pub pass_more : (test : ℕ → ℕ → ℕ → Bool) (xs : List ByteRange) (i : ℕ) (answer : Option ℕ) (old now new : List Bool) → AddsRule (λ home n. any_below (test home n) i) xs old now → Finds (λ home n. test home n i) xs answer → AddsPlace answer now new → AddsRule (λ home n. any_below (test home n) (i + 1)) xs old new
pass_more test xs i answer old now new earlier finds adds k below =
    rw (add-one i) (or_step _ _ _ _ _ _ (earlier k below) (adds k) (finds k below))

-- a rule behind a gate finds what it finds where the gate is open, and nothing where it is shut
pub behind_open : (a b gate : Bool) (rule : ℕ → ℕ → Bool) (ranges : List ByteRange) (answer : Option ℕ) → gate ≡ (a && b) → gate ≡ true → Finds rule ranges answer → Finds (λ home n. a && b && rule home n) ranges answer
behind_open true true gate rule ranges answer is opened found = found
behind_open true false gate rule ranges answer is opened found = cc
behind_open false b gate rule ranges answer is opened found = cc

pub behind_shut : (a b gate : Bool) (rule : ℕ → ℕ → Bool) (ranges : List ByteRange) → gate ≡ (a && b) → gate ≡ false → Finds (λ home n. a && b && rule home n) ranges None
behind_shut true true gate rule ranges is shut k below = cc
behind_shut true false gate rule ranges is shut k below = λ i. false
behind_shut false b gate rule ranges is shut k below = λ i. false

-- marks to which five rules are added one behind the other
all_five : (o z l a u s : Bool) → (o || z || l || a || u || s) ≡ (o || (z || l || a || (u || s)))
all_five true z l a u s = refl
all_five false true l a u s = refl
all_five false false true a u s = refl
all_five false false false true u s = refl
all_five false false false false u s = refl

pub five_rules : (o z l a u s m n p q r : Bool) → m ≡ (o || z) → n ≡ (m || l) → p ≡ (n || a) → q ≡ (p || u) → r ≡ (q || s) → r ≡ (o || (z || l || a || (u || s)))
five_rules o z l a u s m n p q r first second third fourth fifth = rw (fifth, fourth, third, second, first) (all_five o z l a u s)
