-- The numbers of the blocks that begin with units.
use Rattle.std.proofs.Common.{◌≡◌, ◌∙◌, inl, inr, ℕ, suc, ◌+◌, ◌<◌, ◌≤◌, ◌==◌, Bool, true, false, ◌||◌, List, [], ◌∷◌, ◌++◌, length, length-append, slice_index, slice_index_or, Option, Some, None, refl, sym, ap, subst, arith}
use Rattle.std.proofs.Math.ListN.{get_or-append}
use Rattle.std.specs.List.{AllPairs}
use Rattle.std.specs.List.Sorted.{IsStrictlyIncreasing}
use Rattle.std.proofs.lemmas.Bool.{cases_eq, cases_lt, cases_order, eqb-true}
use Rattle.std.proofs.lemmas.Bool.Decides.{nat_tests}
use Rattle.std.proofs.lemmas.List.{get_or-append-add, length-map, get_or_default}
use Rattle.std.proofs.lemmas.List.Folds.{list_any_none}
use Rattle.std.proofs.lemmas.List.Kept.{AllPairs-from_increasing}
use Rattle.list_checks.proofs.TestLemmas.{either}
use Rattle.code_blocks.specs.Early.{has}
use Rattle.code_blocks.specs.Blocks.{start_of}
use Rattle.code_blocks.specs.Numbers.{starts_of, IsNumberAt}
use Rattle.code_blocks.specs.declared.parts.Code.{Code}
use Rattle.code_blocks.proofs.ListLemmas.{has_first}
use Rattle.object_machine.specs.declared.units.Prepared.{Prepared}
use Rattle.object_machine.specs.Units.{unit_in}
use Rattle.object_machine.specs.Numbering.{IsNumberIn, AreNumbers, HasNumbers}

not_equal : (a b : ℕ) → (a ≡ b → ⊥) → (a == b) ≡ false
not_equal a b differs = grind (arith, nat_tests, differs)

-- ---- the same addresses in order are one list

not_true : (b : Bool) → (b ≡ true → ⊥) → b ≡ false
not_true true never = absurd (never refl)
not_true false never = refl

above : (low a : ℕ) (xs : List ℕ) → ((k : ℕ) → k < length xs → low < slice_index_or xs k 0) → has xs a ≡ true → low < a
above low a [] all found = cc
above low a (x ∷ xs) all found =
    elim (either (a == x) (has xs a) found) [
      | inl here ↦ let is = eqb-true a x here in let less = all 0 (omega arith) in omega (arith, is, less)
      | inr later ↦ above low a xs (λ k below. all (suc k) (omega (arith, below))) later
    ]

behind_first : (x : ℕ) (xs : List ℕ) → AllPairs (λ y z. y < z) (x ∷ xs) → (k : ℕ) → k < length xs → x < slice_index_or xs k 0
behind_first x xs pairs k below = pairs 0 (suc k) 0 (omega arith) (omega (arith, below))

rest_pairs : (x : ℕ) (xs : List ℕ) → AllPairs (λ y z. y < z) (x ∷ xs) → AllPairs (λ y z. y < z) xs
rest_pairs x xs pairs i j d before below = pairs (suc i) (suc j) d (omega (arith, before)) (omega (arith, below))

first_least : (x a : ℕ) (xs : List ℕ) → AllPairs (λ y z. y < z) (x ∷ xs) → has (x ∷ xs) a ≡ true → x ≤ a
first_least x a xs pairs found =
    elim (either (a == x) (has xs a) found) [
      | inl here ↦ let is = eqb-true a x here in omega (arith, is)
      | inr later ↦ let less = above x a xs (behind_first x xs pairs) later in omega (arith, less)
    ]

not_behind : (x : ℕ) (xs : List ℕ) → AllPairs (λ y z. y < z) (x ∷ xs) → has xs x ≡ false
not_behind x xs pairs =
    not_true (has xs x) (λ found. let less = above x x xs (behind_first x xs pairs) found in absurd (omega (arith, less)))

same_rest : (b c d e : Bool) → b ≡ false → d ≡ false → (b || c) ≡ (d || e) → c ≡ e
same_rest false c false e first second same = same
same_rest false c true e first second same = cc
same_rest true c d e first second same = cc

pub same_starts : (xs ys : List ℕ) → AllPairs (λ y z. y < z) xs → AllPairs (λ y z. y < z) ys → ((a : ℕ) → has xs a ≡ has ys a) → xs ≡ ys
same_starts [] [] first second same = refl
same_starts [] (y ∷ ys) first second same = let found = same y ∙ has_first y ys in cc
same_starts (x ∷ xs) [] first second same = let found = sym (same x) ∙ has_first x xs in cc
same_starts (x ∷ xs) (y ∷ ys) first second same =
    let low = first_least y x ys second (sym (same x) ∙ has_first x xs) in
    let high = first_least x y xs first (same y ∙ has_first y ys) in
    let is : x ≡ y = omega (arith, low, high) in
    let rest = same_starts xs ys (rest_pairs x xs first) (rest_pairs y ys second) (λ a.
    elim (cases_eq a x) [
      | inl here ↦
          let none : has xs a ≡ false = ap (has xs) here ∙ not_behind x xs first in
          let none_there : has ys a ≡ false = ap (has ys) (here ∙ is) ∙ not_behind y ys second in
          none ∙ sym none_there
      | inr differs ↦
          same_rest (a == x) (has xs a) (a == y) (has ys a) (not_equal a x differs) (not_equal a y (λ there. absurd (differs (there ∙ sym is)))) (same a)
    ]) in
    ap (λ (z : ℕ). z ∷ xs) is ∙ ap (λ (zs : List ℕ). y ∷ zs) rest

pub number_among : (starts others : List ℕ) (a : ℕ) (o : Option ℕ) → IsStrictlyIncreasing starts → IsStrictlyIncreasing others → ((x : ℕ) → has starts x ≡ has others x) → IsNumberIn starts a o → IsNumberIn others a o
number_among starts others a o first second same is =
    subst (λ (xs : List ℕ). IsNumberIn xs a o) (same_starts starts others (AllPairs-from_increasing starts first) (AllPairs-from_increasing others second) same) is

pub number_in : (c : Code) (a : ℕ) (o : Option ℕ) → IsNumberAt c a o → IsNumberIn (starts_of c) a o
number_in c a None is = is
number_in c a (Some k) is =
    let count = length-map c.blocks.items start_of in let within = is.0 in (omega (arith, count, within), is.1)

-- ---- addresses between two starts

not_start : (xs : List ℕ) (near a k d : ℕ) → AllPairs (λ x y. x < y) xs → near < length xs → slice_index_or xs near 0 < a → (near + 1 < length xs → a < slice_index_or xs (near + 1) 0) → k < length xs → (a == slice_index_or xs k d) ≡ false
not_start xs near a k d pairs inside behind before below =
    let zero_is = get_or_default xs k d 0 below in
    rw zero_is
    (not_equal a (slice_index_or xs k 0) (λ same.
    elim (cases_order k near) [
      | inl here ↦ let is = ap (λ j. slice_index_or xs j 0) here in absurd (omega (arith, same, is, behind))
      | inr (inl lower) ↦ let less = pairs k near 0 lower inside in absurd (omega (arith, same, less, behind))
      | inr (inr higher) ↦
          let next = before (omega (arith, higher, below)) in
          elim (cases_order (near + 1) k) [
            | inl here ↦ let is = ap (λ j. slice_index_or xs j 0) here in absurd (omega (arith, same, is, next))
            | inr (inl less) ↦ let more = pairs (near + 1) k 0 less below in absurd (omega (arith, same, more, next))
            | inr (inr more) ↦ absurd (omega (arith, more, higher))
          ]
    ]))

pub between_none : (c : Code) (near a : ℕ) → IsStrictlyIncreasing (starts_of c) → near < length c.blocks.items → slice_index (starts_of c) near < a → (near + 1 < length c.blocks.items → a < slice_index (starts_of c) (near + 1)) → has (starts_of c) a ≡ false
between_none c near a ascending inside behind before =
    let count = length-map c.blocks.items start_of in
    list_any_none (λ x. a == x) (starts_of c) (λ k d below.
    not_start (starts_of c) near a k d (AllPairs-from_increasing (starts_of c) ascending) (omega (arith, count, inside)) behind (λ more. before (omega (arith, count, more))) below)

-- ---- one unit more

pub numbers_more : (starts : List ℕ) (units : List Prepared) (k : ℕ) (old new : List (Option ℕ)) (o : Option ℕ) → AreNumbers starts units k old → IsNumberIn starts (unit_in units k).at o → new ≡ old ++ o ∷ [] → AreNumbers starts units (k + 1) new
numbers_more starts units k old new o so_far one is =
    let all = length-append old (o ∷ []) in
    let n = so_far.count in
    record {
      count = ap length is ∙ omega (arith, all, n);
      each = λ j less.
          subst (λ (xs : List (Option ℕ)). IsNumberIn starts (unit_in units j).at (slice_index_or xs j None)) (sym is)
          (elim (cases_lt j k) [
            | inl earlier ↦ subst (IsNumberIn starts (unit_in units j).at) (sym (get_or-append old (o ∷ []) None j (omega (arith, earlier, n)))) (so_far.each j earlier)
            | inr last ↦
                let same : j ≡ k = omega (arith, last, less) in
                let at : j ≡ length old + 0 = omega (arith, same, n) in
                let there : slice_index_or (old ++ o ∷ []) j None ≡ o = ap (λ i. slice_index_or (old ++ o ∷ []) i None) at ∙ get_or-append-add old (o ∷ []) 0 None in
                subst (λ (i : ℕ). IsNumberIn starts (unit_in units i).at (slice_index_or (old ++ o ∷ []) j None)) (sym same)
                (subst (IsNumberIn starts (unit_in units k).at) (sym there) one)
          ]);
    }

-- ---- all units

none_is : (starts : List ℕ) (a : ℕ) (o : Option ℕ) → IsNumberIn starts a o → o ≡ None → has starts a ≡ false
none_is starts a None is same = is
none_is starts a (Some k) is same = cc

some_is : (starts : List ℕ) (a b : ℕ) (o : Option ℕ) → IsNumberIn starts a o → o ≡ Some b → (b < length starts) × (slice_index starts b ≡ a)
some_is starts a b o is same = subst (IsNumberIn starts a) same is

pub have_numbers : (starts : List ℕ) (units : List Prepared) (numbers : List (Option ℕ)) → AreNumbers starts units (length units) numbers → HasNumbers starts units numbers
have_numbers starts units numbers are =
    record {
      count = are.count;
      none = λ k below. none_is starts (unit_in units k).at (slice_index_or numbers k None) (are.each k below);
      some = λ k b below. some_is starts (unit_in units k).at b (slice_index_or numbers k None) (are.each k below);
    }

by_number : (starts : List ℕ) (a : ℕ) (o : Option ℕ) → (o ≡ None → has starts a ≡ false) → ((b : ℕ) → o ≡ Some b → (b < length starts) × (slice_index starts b ≡ a)) → IsNumberIn starts a o
by_number starts a None none some = none refl
by_number starts a (Some b) none some = some b refl

number_of_unit : (starts : List ℕ) (units : List Prepared) (numbers : List (Option ℕ)) (k : ℕ) → HasNumbers starts units numbers → k < length units → IsNumberIn starts (unit_in units k).at (slice_index_or numbers k None)
number_of_unit starts units numbers k told below =
    by_number starts (unit_in units k).at (slice_index_or numbers k None) (told.none k below) (λ b. told.some k b below)

-- where a machine is at a unit
pub at_unit : (starts : List ℕ) (units : List Prepared) (numbers : List (Option ℕ)) (k a : ℕ) (o : Option ℕ) → HasNumbers starts units numbers → k < length units → (unit_in units k).at ≡ a → o ≡ slice_index_or numbers k o → IsNumberIn starts a o
at_unit starts units numbers k a o told below at is =
    let count = told.count in
    let here : o ≡ slice_index_or numbers k None = is ∙ get_or_default numbers k o None (omega (arith, count, below)) in
    subst (λ (x : Option ℕ). IsNumberIn starts a x) (sym here)
    (subst (λ (x : ℕ). IsNumberIn starts x (slice_index_or numbers k None)) at (number_of_unit starts units numbers k told below))
