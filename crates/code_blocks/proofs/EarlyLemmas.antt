-- How a list of leaders grows.
use Rattle.std.proofs.Common.{◌≡◌, ◌∙◌, ℕ, zero, suc, ◌+◌, ◌/◌, Bool, true, false, ◌&&◌, ◌||◌, List, length, refl, sym, ap, arith, add-one, nat_eq}
use Rattle.std.specs.List.{dedup}
use Rattle.std.proofs.lemmas.Bool.{eqb-true}
use Rattle.std.specs.Cmp.{nat_eq_equiv}
use Rattle.std.proofs.lemmas.List.Kept.{Contains-dedup_nat, Contains-from_dedup}
use Rattle.std.proofs.lemmas.Map.Views.{Contains-from_any, list_any-from_Contains}
use Rattle.list_checks.proofs.TestLemmas.{same_tests}
use Rattle.list_checks.specs.Tests.{any_below, lies_in}
use Rattle.elf_reader.specs.File.{PlainView}
use Rattle.elf_reader.specs.Loaded.{section_at}
use Rattle.loaded_file.specs.Code.{is_code_range, is_code_word}
use Rattle.code_blocks.specs.Words.{code_word, passes_at, passes_in, any_code_word}
use Rattle.code_blocks.specs.Leaders.{is_named, goes_to, comes_back, is_early}
use Rattle.code_blocks.specs.Early.{has, flows_to}

-- what an addition of nothing, of one, and of two things makes
pub none_more : (o c : Bool) → o ≡ o || c && false
none_more true c = refl
none_more false true = refl
none_more false false = refl

pub more_by : (n m o c x y : Bool) → m ≡ o || c && x → n ≡ m || c && y → n ≡ o || c && (x || y)
more_by n m true c x y first second = grind (arith, first, second)
more_by n m false true x y first second = grind (arith, first, second)
more_by n m false false x y first second = grind (arith, first, second)

-- one more place of a table
pub place_more : (n m o c : Bool) (test : ℕ → Bool) (i : ℕ) → m ≡ o || c && any_below test i → n ≡ m || c && test i → n ≡ o || c && any_below test (i + 1)
place_more n m o c test i first second = rw (add-one i) (more_by n m o c (any_below test i) (test i) first second)

-- the words of a code range, and of a section that is none
range_open : (n o c r any : Bool) → r ≡ true → n ≡ o || c && any → n ≡ o || c && (r && any)
range_open n o c r any range added = rw range added

range_shut : (o c r any : Bool) → r ≡ false → o ≡ o || c && (r && any)
range_shut o c r any none = rw none (none_more o c)

pub range_added : (v : PlainView) (test : ℕ → Bool) (k : ℕ) (n o c is : Bool) → is ≡ is_code_range v k → is ≡ true → n ≡ o || c && any_below (passes_at v test k) ((section_at v k).size / 4 + 1)
    → n ≡ o || c && passes_in v test k
range_added v test k n o c is told so added =
    range_open n o c (is_code_range v k) (any_below (passes_at v test k) ((section_at v k).size / 4 + 1)) (sym told ∙ so) added

pub no_range : (v : PlainView) (test : ℕ → Bool) (k : ℕ) (o c is : Bool) → is ≡ is_code_range v k → is ≡ false → o ≡ o || c && passes_in v test k
no_range v test k o c is told otherwise =
    range_shut o c (is_code_range v k) (any_below (passes_at v test k) ((section_at v k).size / 4 + 1)) (sym told ∙ otherwise)

-- tests in two parts
any_or : (t u : ℕ → Bool) (n : ℕ) → any_below (λ k. t k || u k) n ≡ any_below t n || any_below u n
any_or t u zero = refl
any_or t u (suc n) = let earlier = any_or t u n in grind (arith, earlier)

any_same : (t u : ℕ → Bool) (n : ℕ) → ((k : ℕ) → t k ≡ u k) → any_below t n ≡ any_below u n
any_same t u n same = λ i. any_below (λ k. same k i) n

and_or : (a b c : Bool) → a && (b || c) ≡ a && b || a && c
and_or true b c = refl
and_or false b c = refl

passes_or : (v : PlainView) (t u : ℕ → Bool) (k : ℕ) → passes_in v (λ p. t p || u p) k ≡ passes_in v t k || passes_in v u k
passes_or v t u k =
    let n = (section_at v k).size / 4 + 1 in
    ap (λ (b : Bool). is_code_range v k && b)
    (any_same (passes_at v (λ p. t p || u p) k) (λ i. passes_at v t k i || passes_at v u k i) n (λ i. and_or (lies_in (section_at v k).addr (section_at v k).size (code_word v k i) 4) (t (code_word v k i)) (u (code_word v k i)))
    ∙ any_or (passes_at v t k) (passes_at v u k) n)
    ∙ and_or (is_code_range v k) (any_below (passes_at v t k) n) (any_below (passes_at v u k) n)

pub flows : (v : PlainView) (a : ℕ) → any_code_word v (flows_to v a) ≡ any_code_word v (goes_to v a) || any_code_word v (comes_back v a)
flows v a =
    any_same (passes_in v (flows_to v a)) (λ k. passes_in v (goes_to v a) k || passes_in v (comes_back v a) k) (length v.sections) (passes_or v (goes_to v a) (comes_back v a))
    ∙ any_or (passes_in v (goes_to v a)) (passes_in v (comes_back v a)) (length v.sections)

-- a list of leaders without repeats has the same ones
pub has_dedup : (leaders : List ℕ) (a : ℕ) → has (dedup nat_eq leaders) a ≡ has leaders a
has_dedup leaders a =
    same_tests (has (dedup nat_eq leaders) a) (has leaders a)
    (λ found. list_any-from_Contains nat_eq_equiv a leaders (Contains-from_dedup nat_eq leaders a (Contains-from_any eqb-true a (dedup nat_eq leaders) found)))
    (λ found. list_any-from_Contains nat_eq_equiv a (dedup nat_eq leaders) (Contains-dedup_nat leaders a (Contains-from_any eqb-true a leaders found)))

-- all leaders by a rule that rests on no call pair
pub by_rules : (n m o c x y z w : Bool) → o ≡ false → m ≡ o || c && x → w ≡ y || z → n ≡ m || c && w → n ≡ c && (x || y || z)
by_rules n m o true true y z w none first split second = grind (arith, none, first, split, second)
by_rules n m o true false y z w none first split second = grind (arith, none, first, split, second)
by_rules n m o false x y z w none first split second = grind (arith, none, first, split, second)

pub are_early : (v : PlainView) (a : ℕ) (n m o : Bool) → o ≡ false → m ≡ o || is_code_word v a && is_named v a → n ≡ m || is_code_word v a && any_code_word v (flows_to v a) → n ≡ is_early v a
are_early v a n m o none first second =
    by_rules n m o (is_code_word v a) (is_named v a) (any_code_word v (goes_to v a)) (any_code_word v (comes_back v a)) (any_code_word v (flows_to v a)) none first (flows v a) second
