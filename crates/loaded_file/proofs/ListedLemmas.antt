-- How sorted lists of values are made, and what counts of places tell.
use Rattle.std.proofs.Common.{◌≡◌, ◌∙◌, ℕ, zero, suc, ◌+◌, nat_lt, Bool, true, false, ◌||◌, if◌then◌else◌, List, [], ◌∷◌, ◌++◌, refl, ap, arith, add-one}
use Rattle.std.specs.List.{count_by, list_any}
use Rattle.std.proofs.lemmas.Bool.Decides.{nat_tests}
use Rattle.list_checks.specs.Tests.{any_below}
use Rattle.list_checks.specs.Sorted.{IsSorted, count_below, collected}
use Rattle.list_checks.proofs.SortedLemmas.{any_collected, count_collected}
use Rattle.loaded_file.specs.Listed.{IsListOf}

-- one more place
pub collected_more : (test : ℕ → Bool) (value : ℕ → ℕ) (k : ℕ) (old new : List ℕ) → old ≡ collected test value k → new ≡ old ++ (if test k then value k ∷ [] else []) → new ≡ collected test value (k + 1)
collected_more test value k old new earlier more =
    rw (add-one k) (more ∙ ap (λ xs. xs ++ (if test k then value k ∷ [] else [])) earlier)

-- what is collected, sorted
pub list_of : (test : ℕ → Bool) (value : ℕ → ℕ) (n : ℕ) (old new : List ℕ) → old ≡ collected test value n → IsSorted new → ((asked : ℕ → Bool) → list_any asked new ≡ list_any asked old) → ((asked : ℕ → Bool) → count_by asked new ≡ count_by asked old) → IsListOf test value n new
list_of test value n old new made sorted same counts =
    record {
      sorted = sorted;
      any = λ asked. same asked ∙ ap (list_any asked) made ∙ any_collected test value asked n;
      counted = λ asked. counts asked ∙ ap (count_by asked) made ∙ count_collected test value asked n;
    }

-- where each place counts as often for one test as for two others together, so do all
pub split_counts : (whole first second : ℕ → Bool) → ((k : ℕ) → (if whole k then 1 else 0) ≡ (if first k then 1 else 0) + (if second k then 1 else 0)) → (n : ℕ) → count_below whole n ≡ count_below first n + count_below second n
split_counts whole first second each zero = omega arith
split_counts whole first second each (suc n) =
    let earlier = split_counts whole first second each n in
    let here = each n in
    omega (arith, earlier, here)

any_count_step : (rest here : Bool) (count : ℕ) → nat_lt 0 count ≡ rest → nat_lt 0 (count + (if here then 1 else 0)) ≡ (rest || here)
any_count_step true here count same = grind (arith, nat_tests, same)
any_count_step false true count same = grind (arith, nat_tests, same)
any_count_step false false count same = grind (arith, nat_tests, same)

-- some place passes where the count is not 0
pub any_count : (test : ℕ → Bool) (n : ℕ) → nat_lt 0 (count_below test n) ≡ any_below test n
any_count test zero = refl
any_count test (suc n) = any_count_step (any_below test n) (test n) (count_below test n) (any_count test n)
