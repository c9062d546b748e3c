-- The function that starts at an address, among functions that are disjoint.
use Rattle.std.proofs.Common.{◌≡◌, ◌⊎◌, inl, inr, ℕ, zero, suc, ◌+◌, ◌<◌, ◌≤◌, ◌==◌, nat_le, nat_lt, Bool, true, false, not, ◌&&◌, List, length, Option, Some, None, refl, arith}
use Rattle.std.specs.List.{list_any}
use Rattle.std.proofs.lemmas.Bool.{cases_order, both_ways}
use Rattle.std.proofs.lemmas.Bool.Decides.{nat_tests}
use Rattle.std.proofs.lemmas.List.Folds.{list_any_at}
use Rattle.list_checks.specs.First.{unless, first_below}
use Rattle.list_checks.proofs.FirstLemmas.{first_found}
use Rattle.code_blocks.specs.Blocks.{no_function, lies_in_function}
use Rattle.code_blocks.specs.declared.parts.Function.{Function}
use Rattle.region_former.specs.Naming.{function_in, place_if_starts, function_at, AreOrdered}

-- where each check holds, none fails
pub none_below : {E : Type 0} (check : ℕ → Option E) (n : ℕ) → ((k : ℕ) → k < n → check k ≡ None) → first_below check n ≡ None
none_below check zero holds = refl
none_below check (suc n) holds =
    let earlier = none_below check n (λ k below. holds k (omega (arith, below))) in
    let here = holds n (omega arith) in
    rw earlier here

differs : (x a : ℕ) → (x < a) ⊎ (a < x) → (x == a) ≡ false
differs x a (inl less) = grind (arith, nat_tests, less)
differs x a (inr more) = grind (arith, nat_tests, more)

left_out : (test : Bool) (j : ℕ) → test ≡ false → unless (not test) j ≡ None
left_out test j is = rw is refl

taken : (test : Bool) (j : ℕ) → test ≡ true → unless (not test) j ≡ Some j
taken test j is = rw is refl

equal : (x a : ℕ) → x ≡ a → (x == a) ≡ true
equal x a same = grind (arith, nat_tests, same)

starts_disjoint : (functions : List Function) (a j : ℕ) → (((function_in functions j).start < a) ⊎ (a < (function_in functions j).start)) → place_if_starts functions a j ≡ None
starts_disjoint functions a j disjoint =
    left_out ((function_in functions j).start == a) j (differs (function_in functions j).start a disjoint)

ends : (functions : List Function) (i j : ℕ) → AreOrdered functions → i < j → j < length functions → (function_in functions i).start + (function_in functions i).size ≤ (function_in functions j).start
ends functions i j ordered lower below = ordered.disjoint i j no_function lower below

has_byte : (functions : List Function) (i : ℕ) → AreOrdered functions → i < length functions → 0 < (function_in functions i).size
has_byte functions i ordered below = ordered.filled i no_function below

inside : (f : Function) (a : ℕ) → lies_in_function a f ≡ true → (f.start ≤ a) × (a < f.start + f.size)
inside f a lies = (grind (arith, nat_tests, lies), grind (arith, nat_tests, lies))

-- function `j` starts there
pub starts_there : (functions : List Function) (a j : ℕ) → AreOrdered functions → j < length functions → (function_in functions j).start ≡ a → function_at functions a ≡ Some j
starts_there functions a j ordered below starts =
    first_found (place_if_starts functions a) (length functions) j j below
    (none_below (place_if_starts functions a) j
    (λ i lower.
    let end = ends functions i j ordered lower below in
    let some = has_byte functions i ordered (omega (arith, lower, below)) in
    starts_disjoint functions a i (inl (omega (arith, end, some, starts)))))
    (taken ((function_in functions j).start == a) j (equal (function_in functions j).start a starts))

-- the address lies in function `j`, which starts elsewhere
pub none_starts : (functions : List Function) (a j : ℕ) → AreOrdered functions → j < length functions → lies_in_function a (function_in functions j) ≡ true → ((function_in functions j).start ≡ a → ⊥) → function_at functions a ≡ None
none_starts functions a j ordered below lies elsewhere =
    let (from, to) = inside (function_in functions j) a lies in
    let before : (function_in functions j).start < a = omega (arith, from, elsewhere) in
    none_below (place_if_starts functions a) (length functions)
    (λ i within.
    elim (cases_order i j) [
      | inl same ↦ rw same (starts_disjoint functions a j (inl before))
      | inr other ↦ elim other [
        | inl lower ↦
            let end = ends functions i j ordered lower below in
            starts_disjoint functions a i (inl (omega (arith, end, before)))
        | inr higher ↦
            let end = ends functions j i ordered higher within in
            starts_disjoint functions a i (inr (omega (arith, end, to)))
      ]
    ])

lies_at_start : (start size a : ℕ) → 0 < size → (start == a) ≡ true → nat_le start a && nat_lt a (start + size) ≡ true
lies_at_start start size a some starts = grind (arith, nat_tests, some, starts)

never : (b : Bool) → (b ≡ true → ⊥) → b ≡ false
never true is = absurd (is refl)
never false is = refl

-- the address lies in none
pub none_holds : (functions : List Function) (a : ℕ) → AreOrdered functions → list_any (lies_in_function a) functions ≡ false → function_at functions a ≡ None
none_holds functions a ordered none =
    none_below (place_if_starts functions a) (length functions)
    (λ i below.
    let f = function_in functions i in
    left_out (f.start == a) i
    (never (f.start == a)
    (λ starts.
    both_ways _ none (list_any_at (lies_in_function a) functions i no_function below (lies_at_start f.start f.size a (has_byte functions i ordered below) starts)))))
