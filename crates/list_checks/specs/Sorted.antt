-- Lists of numbers that ascend, what is asked of them, and lists and counts of the places that pass a test.
use Rattle.std.specs.Prelude.{ℕ, zero, suc, ◌+◌, ◌==◌, nat_lt, nat_le, Bool, ◌&&◌, List, [], ◌∷◌, ◌++◌, if◌then◌else◌}
use Rattle.std.specs.List.Sorted.{IsNonDecreasing}

-- the numbers ascend; a number may stand in the list more than once
abbrev pub IsSorted : List ℕ → Type 0
IsSorted numbers = IsNonDecreasing numbers

-- the tests of a number: it is below a bound, it is at most a bound, it is another one, and it is one of the
-- `size` numbers from `from`
abbrev pub is_under : ℕ → ℕ → Bool
is_under bound number = nat_lt number bound

abbrev pub is_up_to : ℕ → ℕ → Bool
is_up_to bound number = nat_le number bound

abbrev pub is_number : ℕ → ℕ → Bool
is_number wanted number = wanted == number

abbrev pub is_inside : ℕ → ℕ → ℕ → Bool
is_inside from size number = nat_le from number && nat_lt number (from + size)

-- how many places below n pass a test
abbrev pub count_below : (ℕ → Bool) → ℕ → ℕ
count_below test zero = 0
count_below test (suc n) = count_below test n + (if test n then 1 else 0)

-- the sum of the values of the places below n
abbrev pub sum_below : (ℕ → ℕ) → ℕ → ℕ
sum_below f zero = 0
sum_below f (suc n) = sum_below f n + f n

-- the values of the places below n that pass a test, in the order of the places
abbrev pub collected : (ℕ → Bool) → (ℕ → ℕ) → ℕ → List ℕ
collected test value zero = []
collected test value (suc n) = collected test value n ++ (if test n then value n ∷ [] else [])
