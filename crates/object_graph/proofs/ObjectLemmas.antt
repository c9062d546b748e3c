-- The first symbol of an object, and how many objects there are.
use Rattle.std.proofs.Common.{◌≡◌, ◌∙◌, ℕ, zero, suc, ◌<◌, Bool, true, false, not, ◌&&◌, Option, Some, None, refl, subst, arith}
use Rattle.list_checks.specs.First.{◌or_else◌, unless}
use Rattle.list_checks.proofs.FirstLemmas.{both_none}
use Rattle.list_checks.specs.Tests.{any_below}
use Rattle.elf_reader.specs.File.{PlainView}
use Rattle.loaded_file.specs.Ranges.{is_symbol_of}
use Rattle.object_graph.specs.Graphs.{is_first_of}
use Rattle.object_graph.specs.Gathered.{symbol_if, first_symbol}

-- where no first symbol is found, there is no symbol
if_none : (b : Bool) (k : ℕ) → unless (not b) k ≡ None → b ≡ false
if_none true k none = cc
if_none false k none = refl

if_some : (b : Bool) (k j : ℕ) → unless (not b) k ≡ Some j → (b ≡ true) × (k ≡ j)
if_some true k j some = (refl, cc)
if_some false k j some = cc

pub none_first : (v : PlainView) (home n m : ℕ) → first_symbol v home n m ≡ None → any_below (is_symbol_of v home n) m ≡ false
none_first v home n zero none = refl
none_first v home n (suc m) none =
    let parts = both_none (first_symbol v home n m) (symbol_if v home n m) none in
    let earlier = none_first v home n m parts.0 in
    let here = if_none (is_symbol_of v home n m) m parts.1 in
    grind (arith, earlier, here)

-- the one that is found is the first
pub record IsFirst (v : PlainView) (home n m k : ℕ) : Type 0 where
  pub below : k < m
  pub passes : is_symbol_of v home n k ≡ true
  pub none : any_below (is_symbol_of v home n) k ≡ false

later : (v : PlainView) (home n m k : ℕ) → IsFirst v home n m k → IsFirst v home n (suc m) k
later v home n m k first = let below = first.below in record { below = omega (arith, below); passes = first.passes; none = first.none }

first_at : (v : PlainView) (home n m k : ℕ) → ((j : ℕ) → first_symbol v home n m ≡ Some j → IsFirst v home n m j) → (o : Option ℕ) → first_symbol v home n m ≡ o → o or_else symbol_if v home n m ≡ Some k → IsFirst v home n (suc m) k
first_at v home n m k earlier (Some j) is found = later v home n m k (earlier k (is ∙ found))
first_at v home n m k earlier None is found =
    let here = if_some (is_symbol_of v home n m) m k found in
    let none = none_first v home n m is in
    let same = here.1 in
    record {
      below = omega (arith, same);
      passes = subst (λ (j : ℕ). is_symbol_of v home n j ≡ true) same here.0;
      none = subst (λ (j : ℕ). any_below (is_symbol_of v home n) j ≡ false) same none;
    }

pub first_is : (v : PlainView) (home n m k : ℕ) → first_symbol v home n m ≡ Some k → IsFirst v home n m k
first_is v home n zero k some = cc
first_is v home n (suc m) k some =
    first_at v home n m k (λ j is. first_is v home n m j is) (first_symbol v home n m) refl some

not_and : (a b : Bool) → a ≡ true → b ≡ false → a && not b ≡ true
not_and a b first second = rw (first, second) refl

pub first_passes : (v : PlainView) (home n m k : ℕ) → IsFirst v home n m k → is_first_of v home n k ≡ true
first_passes v home n m k first =
    not_and (is_symbol_of v home n k) (any_below (is_symbol_of v home n) k) first.passes first.none
