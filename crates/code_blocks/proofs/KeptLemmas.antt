-- The functions that are kept, as their list grows: of all in their order those that begin behind the last.
use Rattle.std.proofs.Common.{◌≡◌, ◌∙◌, ℕ, ◌+◌, ◌<◌, ◌≤◌, ◌==◌, nat_lt, Bool, true, false, not, ◌&&◌, ◌||◌, List, [], ◌∷◌, ◌++◌, map, length, slice_index_or, refl, sym, ap, subst, arith}
use Rattle.std.specs.List.{All, AllPairs, list_any}
use Rattle.std.proofs.lemmas.Bool.{eqb-true, both_ways}
use Rattle.std.proofs.lemmas.Bool.Decides.{nat_tests}
use Rattle.std.proofs.lemmas.List.{map-append, length-map, length_push, get_or-map}
use Rattle.std.proofs.lemmas.List.Elements.{All-nil, All-push}
use Rattle.std.proofs.lemmas.List.Quantifiers.{all_pairs_push}
use Rattle.std.proofs.lemmas.List.Folds.{list_any-append}
use Rattle.list_checks.specs.Tests.{ranges_overlap}
use Rattle.list_checks.proofs.TestLemmas.{both}
use Rattle.elf_reader.specs.File.{PlainView}
use Rattle.loaded_file.specs.Records.{symbol_at}
use Rattle.code_blocks.specs.Early.{has}
use Rattle.code_blocks.specs.Functions.{comes_before, functions_overlap, keeps_out}
use Rattle.code_blocks.specs.Blocks.{name_of, IsFunction}
use Rattle.code_blocks.specs.Kept.{AreDisjoint}
use Rattle.code_blocks.specs.declared.parts.Function.{Function}
use Rattle.code_blocks.proofs.KeyLemmas.{precedes}
use Rattle.code_blocks.proofs.ListLemmas.{any_same_in, any_in, has_at}

-- ---- the order of functions

precedes_start : (x s a y t b : ℕ) → precedes x s a y t b ≡ true → x ≤ y
precedes_start x s a y t b is = grind (arith, nat_tests, is)

not_both : (x s a y t b : ℕ) → precedes x s a y t b ≡ true → precedes y t b x s a ≡ false
not_both x s a y t b is = grind (arith, nat_tests, is)

not_before : (v : PlainView) (k j : ℕ) → comes_before v k j ≡ true → comes_before v j k ≡ false
not_before v k j is =
    not_both (symbol_at v k).value (symbol_at v k).size k (symbol_at v j).value (symbol_at v j).size j is

starts_first : (v : PlainView) (k j : ℕ) → comes_before v k j ≡ true → (symbol_at v k).value ≤ (symbol_at v j).value
starts_first v k j is =
    precedes_start (symbol_at v k).value (symbol_at v k).size k (symbol_at v j).value (symbol_at v j).size j is

-- an earlier function that has bytes meets one where it ends behind its start
overlaps_later : (b : Bool) (x s y t : ℕ) → b ≡ true → x ≤ y → 0 < s → 0 < t → b && ranges_overlap x s y t ≡ nat_lt y (x + s)
overlaps_later b x s y t is le some more = rw is (grind (arith, nat_tests, le, some, more))

no_keep : (before overlap : Bool) → before ≡ false → before && overlap ≡ false
no_keep before overlap is = rw is refl

never : (b : Bool) → (b ≡ true → b ≡ false) → b ≡ false
never true is = is refl
never false is = refl

never_itself : (v : PlainView) (c : ℕ) → keeps_out v c c ≡ false
never_itself v c = no_keep (comes_before v c c) (functions_overlap v c c) (never (comes_before v c c) (not_before v c c))

-- a test that no number of a list passes
not_in : (test : ℕ → Bool) (xs : List ℕ) (x : ℕ) → has xs x ≡ true → list_any test xs ≡ false → test x ≡ false
not_in test xs x found none = never (test x) (λ passes. absurd (both_ways _ none (any_in test xs x found passes)))

-- ---- tests of a list and one more number

or_none : (a b : Bool) → a || (b || false) ≡ a || b
or_none true b = refl
or_none false true = refl
or_none false false = refl

pub any_push : (test : ℕ → Bool) (xs : List ℕ) (x : ℕ) → list_any test (xs ++ x ∷ []) ≡ list_any test xs || test x
any_push test xs x = list_any-append test xs (x ∷ []) ∙ or_none (list_any test xs) (test x)

or_yes : (a : Bool) → a || true ≡ true
or_yes true = refl
or_yes false = refl

or_no : (a : Bool) → a || false ≡ a
or_no true = refl
or_no false = refl

-- ---- the tests of one function, before and after another one is left out or kept: h it is kept, n it has
-- come, l a kept one keeps it out, q it is the other one, o the other one keeps it out

left_out : (h n l q : Bool) → h ≡ n && not l → (q ≡ true → l ≡ true) → h ≡ (n || q) && not l
left_out h true l q is out = is
left_out h false true true is out = is
left_out h false true false is out = is
left_out h false false true is out = let never = out refl in cc
left_out h false false false is out = is

kept_now : (h n l q o : Bool) → h ≡ n && not l → (q ≡ true → l ≡ false) → (q ≡ true → o ≡ false) → (n ≡ true → o ≡ false) → h || q ≡ (n || q) && not (l || o)
kept_now h true l true o is free itself earlier = rw (free refl, itself refl) (or_yes h)
kept_now h false l true o is free itself earlier = rw (free refl, itself refl) (or_yes h)
kept_now h true l false o is free itself earlier = rw (earlier refl) (or_no h ∙ is ∙ ap not (sym (or_no l)))
kept_now h false l false o is free itself earlier = or_no h ∙ is

-- ---- the functions kept of those that have come, and the end of the last

pub record AreSwept (v : PlainView) (names : List ℕ) (functions : List Function) (furthest_end : ℕ) : Type 0 where
  pub ordered : AllPairs (λ k j. comes_before v k j ≡ true) (map name_of functions)
  pub exact : (k : ℕ) → has (map name_of functions) k ≡ has names k && not (list_any (keeps_out v k) (map name_of functions))
  pub told : All (IsFunction v) functions
  pub reaches : (a : ℕ) → list_any (λ k. nat_lt a ((symbol_at v k).value + (symbol_at v k).size)) (map name_of functions) ≡ nat_lt a furthest_end
  pub disjoint : AreDisjoint functions
  pub few : length functions ≤ length names

-- what holds of the next function, with the names of those that have come
pub record IsNext (v : PlainView) (names : List ℕ) (c : ℕ) : Type 0 where
  pub earlier : (k : ℕ) → has names k ≡ true → comes_before v k c ≡ true
  pub filled : (k : ℕ) → has names k ≡ true → 0 < (symbol_at v k).size
  pub sized : 0 < (symbol_at v c).size

pub swept_none : (v : PlainView) → AreSwept v [] [] 0
swept_none v =
    record {
      ordered = λ i j d lower below. absurd (omega (arith, below));
      exact = λ k. refl;
      told = All-nil (IsFunction v);
      reaches = λ a. grind (arith, nat_tests);
      disjoint = λ i j d lower below. absurd (omega (arith, below));
      few = omega arith;
    }

has_come : (v : PlainView) (names : List ℕ) (functions : List Function) (furthest_end : ℕ) → AreSwept v names functions furthest_end → (k : ℕ) → has (map name_of functions) k ≡ true → has names k ≡ true
has_come v names functions furthest_end swept k kept =
    (both (has names k) (not (list_any (keeps_out v k) (map name_of functions))) (sym (swept.exact k) ∙ kept)).0

-- some kept function keeps the next one out just where this begins before the end of the last
kept_out : (v : PlainView) (names : List ℕ) (functions : List Function) (furthest_end c : ℕ) → AreSwept v names functions furthest_end → IsNext v names c → list_any (keeps_out v c) (map name_of functions) ≡ nat_lt (symbol_at v c).value furthest_end
kept_out v names functions furthest_end c swept next =
    any_same_in (keeps_out v c) (λ k. nat_lt (symbol_at v c).value ((symbol_at v k).value + (symbol_at v k).size)) (map name_of functions)
    (λ k kept.
    let come = has_come v names functions furthest_end swept k kept in
    let before = next.earlier k come in
    overlaps_later (comes_before v k c) (symbol_at v k).value (symbol_at v k).size (symbol_at v c).value (symbol_at v c).size before (starts_first v k c before) (next.filled k come) next.sized)
    ∙ swept.reaches (symbol_at v c).value

-- the next one is left out
pub swept_left : (v : PlainView) (names : List ℕ) (functions : List Function) (furthest_end c : ℕ) → AreSwept v names functions furthest_end → IsNext v names c → nat_lt (symbol_at v c).value furthest_end ≡ true → AreSwept v (names ++ c ∷ []) functions furthest_end
swept_left v names functions furthest_end c swept next begins =
    let out = kept_out v names functions furthest_end c swept next ∙ begins in
    let count = length_push names c in
    let few = swept.few in
    record {
      ordered = swept.ordered;
      exact = λ k.
          left_out (has (map name_of functions) k) (has names k) (list_any (keeps_out v k) (map name_of functions)) (k == c) (swept.exact k)
          (λ same. ap (λ (x : ℕ). list_any (keeps_out v x) (map name_of functions)) (eqb-true k c same) ∙ out)
          ∙ ap (λ (b : Bool). b && not (list_any (keeps_out v k) (map name_of functions))) (sym (any_push (λ x. k == x) names c));
      told = swept.told;
      reaches = swept.reaches;
      disjoint = swept.disjoint;
      few = omega (arith, few, count);
    }

-- ---- the next one is kept

kept_exact : (v : PlainView) (names kept : List ℕ) (c : ℕ) → ((k : ℕ) → has kept k ≡ has names k && not (list_any (keeps_out v k) kept)) → IsNext v names c → list_any (keeps_out v c) kept ≡ false
    → (k : ℕ) → has (kept ++ c ∷ []) k ≡ has (names ++ c ∷ []) k && not (list_any (keeps_out v k) (kept ++ c ∷ []))
kept_exact v names kept c exact next free k =
    let itself : keeps_out v c c ≡ false = never_itself v c in
    any_push (λ x. k == x) kept c
    ∙ kept_now (has kept k) (has names k) (list_any (keeps_out v k) kept) (k == c) (keeps_out v k c) (exact k)
    (λ same. ap (λ (x : ℕ). list_any (keeps_out v x) kept) (eqb-true k c same) ∙ free)
    (λ same. ap (λ (x : ℕ). keeps_out v x c) (eqb-true k c same) ∙ itself)
    (λ come. no_keep (comes_before v c k) (functions_overlap v c k) (not_before v k c (next.earlier k come)))
    ∙ ap (λ (b : Bool). b && not (list_any (keeps_out v k) kept || keeps_out v k c)) (sym (any_push (λ x. k == x) names c))
    ∙ ap (λ (b : Bool). has (names ++ c ∷ []) k && not b) (sym (any_push (keeps_out v k) kept c))

kept_end : (x s furthest_end a : ℕ) (l : Bool) → l ≡ nat_lt a furthest_end → nat_lt x furthest_end ≡ false → 0 < s → l || nat_lt a (x + s) ≡ nat_lt a (x + s)
kept_end x s furthest_end a l is behind some = rw is (grind (arith, nat_tests, behind, some))

ends_before : (a e : ℕ) → nat_lt a e ≡ false → e ≤ a
ends_before a e is = grind (arith, nat_tests, is)

function_disjoint : (v : PlainView) (functions : List Function) (furthest_end c : ℕ) → All (IsFunction v) functions
    → ((a : ℕ) → list_any (λ k. nat_lt a ((symbol_at v k).value + (symbol_at v k).size)) (map name_of functions) ≡ nat_lt a furthest_end)
    → nat_lt (symbol_at v c).value furthest_end ≡ false → (k : ℕ) (d : Function) → k < length functions
    → (slice_index_or functions k d).start + (slice_index_or functions k d).size ≤ (symbol_at v c).value
function_disjoint v functions furthest_end c told reaches behind k d below =
    let f = slice_index_or functions k d in
    let is = told k d below in
    let count = length-map functions name_of in
    let place : k < length (map name_of functions) = omega (arith, below, count) in
    let at : slice_index_or (map name_of functions) k 0 ≡ f.name = get_or-map name_of functions k d 0 below in
    let within = subst (λ (x : ℕ). has (map name_of functions) x ≡ true) at (has_at (map name_of functions) k 0 place) in
    let test : ℕ → Bool = λ x. nat_lt (symbol_at v c).value ((symbol_at v x).value + (symbol_at v x).size) in
    let fails : nat_lt (symbol_at v c).value ((symbol_at v f.name).value + (symbol_at v f.name).size) ≡ false =
    not_in test (map name_of functions) f.name within (reaches (symbol_at v c).value ∙ behind) in
    let before = ends_before (symbol_at v c).value ((symbol_at v f.name).value + (symbol_at v f.name).size) fails in
    let start = is.start in
    let size = is.size in
    omega (arith, before, start, size)

pub swept_kept : (v : PlainView) (names : List ℕ) (functions new : List Function) (furthest_end c : ℕ) (f : Function) → AreSwept v names functions furthest_end → IsNext v names c → nat_lt (symbol_at v c).value furthest_end ≡ false
    → f.name ≡ c → f.start ≡ (symbol_at v c).value → f.size ≡ (symbol_at v c).size → new ≡ functions ++ f ∷ [] → AreSwept v (names ++ c ∷ []) new ((symbol_at v c).value + (symbol_at v c).size)
swept_kept v names functions new furthest_end c f swept next behind name start size pushed =
    let kept = map name_of functions in
    let free = kept_out v names functions furthest_end c swept next ∙ behind in
    let named : map name_of new ≡ kept ++ c ∷ [] = ap (map name_of) pushed ∙ map-append name_of functions (f ∷ []) ∙ ap (λ (x : ℕ). kept ++ x ∷ []) name in
    let count = length_push names c in
    let grown = length_push functions f in
    let longer = ap length pushed in
    let few = swept.few in
    record {
      ordered = subst (AllPairs (λ k j. comes_before v k j ≡ true)) (sym named) (all_pairs_push (λ k j. comes_before v k j ≡ true) kept c swept.ordered
          (λ k d below. next.earlier (slice_index_or kept k d) (has_come v names functions furthest_end swept (slice_index_or kept k d) (has_at kept k d below))));
      exact = λ k. subst (λ (xs : List ℕ). has xs k ≡ has (names ++ c ∷ []) k && not (list_any (keeps_out v k) xs)) (sym named) (kept_exact v names kept c swept.exact next free k);
      told = subst (All (IsFunction v)) (sym pushed) (All-push (IsFunction v) functions f swept.told (record {
        start = start ∙ ap (λ (x : ℕ). (symbol_at v x).value) (sym name);
        size = size ∙ ap (λ (x : ℕ). (symbol_at v x).size) (sym name);
      }));
      reaches = λ a.
          ap (list_any (λ k. nat_lt a ((symbol_at v k).value + (symbol_at v k).size))) named
          ∙ any_push (λ k. nat_lt a ((symbol_at v k).value + (symbol_at v k).size)) kept c
          ∙ kept_end (symbol_at v c).value (symbol_at v c).size furthest_end a (list_any (λ k. nat_lt a ((symbol_at v k).value + (symbol_at v k).size)) kept) (swept.reaches a) behind next.sized;
      disjoint = subst AreDisjoint (sym pushed) (all_pairs_push (λ g h. g.start + g.size ≤ h.start) functions f swept.disjoint
          (λ k d below. rw start (function_disjoint v functions furthest_end c swept.told swept.reaches behind k d below)));
      few = omega (arith, few, count, grown, longer);
    }
