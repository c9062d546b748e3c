-- What was grown can't be grown further.
use Rattle.std.proofs.Common.{◌≡◌, ◌∙◌, ◌⊎◌, inl, inr, ℕ, zero, suc, ◌+◌, ◌<◌, ◌≤◌, pos, ◌≤ℤ◌, Bool, true, false, List, [], ◌∷◌, ◌++◌, length, length-set, slice_set, Option, Some, None, IsSomeAnd, sym, ap, refl, subst, arith}
use Rattle.std.specs.List.{sum_by}
use Rattle.std.proofs.lemmas.Bool.{cases_eq, cases_lt}
use Rattle.std.proofs.lemmas.Bool.Decides.{nat_tests}
use Rattle.std.proofs.lemmas.Int.{ints}
use Rattle.std.proofs.lemmas.List.{get_or_past, length-replicate}
use Rattle.std.proofs.lemmas.List.Sums.{sum_by-cons}
use Rattle.placement_programme.specs.Plain.{PlainSide, PlainProgramme}
use Rattle.placement_programme.specs.Bounds.{AscendWithin}
use Rattle.placement_programme.specs.Programme.{gain_at, weight_at, Fits, taken_gains, side_for, gain, nothing}
use Rattle.placement_programme.specs.Sums.{picked, takes}
use Rattle.placement_programme.proofs.TakeLemmas.{below_same, below_at_most, take_sum, takes_first, takes_other}
use Rattle.certificate_checker.specs.Rules.{if_one}
use Rattle.certificate_checker.specs.Shows.{all_free}
use Rattle.certificate_checker.proofs.Children.{mark_same, mark_other}
use Rattle.branch_bound.specs.Assignments.{number_if, ones_below, taken}
use Rattle.branch_bound.specs.Greedy.{FitsAlone, Tries, Grows, GrowsTo, IsGreedy, greedy_gain}
use Rattle.branch_bound.specs.Growing.{Adds, CannotGrow}
use Rattle.certificate_checker.specs.Fixings.{fixing_of}
use Rattle.certificate_checker.specs.declared.fixings.Fixing.{Fixing}
use Rattle.certificate_checker.specs.declared.fixings.Fixing.TheVariants.{Zero, One, Free}
use Rattle.branch_bound.proofs.OnesLemmas.{ones_sum, ones_ascend, fits_from, single_taken}

-- who is fixed to one stays so
abbrev pub MoreOnes : List Fixing → List Fixing → Type 0
MoreOnes some more = (k : ℕ) → fixing_of some k ≡ One → fixing_of more k ≡ One

zero_not_one : Zero ≡ One → ⊥
zero_not_one same = cc

one_inside : (marks : List Fixing) (j : ℕ) → fixing_of marks j ≡ One → j < length marks
one_inside marks j is =
    elim (cases_lt j (length marks)) [
      | inl inside ↦ inside
      | inr past ↦ absurd (zero_not_one (subst (λ f. f ≡ One) (get_or_past marks j Zero past) is))
    ]

pub set_more : (marks : List Fixing) (k : ℕ) → MoreOnes marks (slice_set marks k One)
set_more marks k i is =
    elim (cases_eq i k) [
      | inl same ↦
          let inside = one_inside marks i is in
          subst (λ j. fixing_of (slice_set marks k One) j ≡ One) (sym same) (mark_same marks k One (omega (arith, inside, same)))
      | inr other ↦ mark_other marks k One i other ∙ is
    ]

set_both : (some more : List Fixing) (k : ℕ) → MoreOnes some more → k < length more → MoreOnes (slice_set some k One) (slice_set more k One)
set_both some more k grown inside i is =
    elim (cases_eq i k) [
      | inl same ↦ subst (λ j. fixing_of (slice_set more k One) j ≡ One) (sym same) (mark_same more k One inside)
      | inr other ↦ mark_other more k One i other ∙ grown i (sym (mark_other some k One i other) ∙ is)
    ]

one_grown : (some more : Fixing) (n : ℕ) → (some ≡ One → more ≡ One) → if_one some n ≤ if_one more n
one_grown Zero more n grown = omega arith
one_grown One more n grown = rw (grown refl) (omega arith)
one_grown Free more n grown = omega arith

sums_grown : (f : ℕ → ℕ) (n : ℕ) (some more : List Fixing) → MoreOnes some more → sum_by f (ones_below n some) ≤ sum_by f (ones_below n more)
sums_grown f n some more grown =
    let less = below_at_most (λ j. if_one (fixing_of some j) (f j)) (λ j. if_one (fixing_of more j) (f j)) n (λ j inside. one_grown (fixing_of some j) (fixing_of more j) (f j) (grown j)) in
    let first = ones_sum f n some in
    let second = ones_sum f n more in
    omega (arith, less, first, second)

pub gains_grown : (s : PlainSide) (some more : List Fixing) → MoreOnes some more → taken_gains s (taken s some) ≤ taken_gains s (taken s more)
gains_grown s some more grown = sums_grown (gain_at s.vars) (length s.vars) some more grown

fits_fewer : (s : PlainSide) (some more : List Fixing) → MoreOnes some more → Fits s (taken s more) → Fits s (taken s some)
fits_fewer s some more grown fits =
    record {
      numbers = ones_ascend (length s.vars) some;
      rows = λ row inside.
          let less = sums_grown (weight_at s.vars row) (length s.vars) some more grown in
          let held = fits.rows row inside in
          omega (arith, less, held);
    }

tries_more : (s : PlainSide) (before : List Fixing) (k : ℕ) (after : List Fixing) → Tries s before k after → MoreOnes before after
tries_more s before k after (inl more) = subst (λ m. MoreOnes before m) (sym more.1) (set_more before k)
tries_more s before k after (inr same) = subst (λ m. MoreOnes before m) (sym same.1) (λ i is. is)

tries_length : (s : PlainSide) (before : List Fixing) (k : ℕ) (after : List Fixing) → Tries s before k after → length after ≡ length before
tries_length s before k after (inl more) = ap length more.1 ∙ length-set before k One
tries_length s before k after (inr same) = ap length same.1

pub grows_ones : (s : PlainSide) (start : List Fixing) (n : ℕ) (marks : List Fixing) → Grows s start n marks → MoreOnes start marks
grows_ones s start zero marks grows = subst (λ m. MoreOnes start m) (sym grows) (λ i is. is)
grows_ones s start (suc n) marks grows =
    λ i is. tries_more s grows.0 n marks grows.1.1 i (grows_ones s start n grows.0 grows.1.0 i is)

pub grows_length : (s : PlainSide) (start : List Fixing) (n : ℕ) (marks : List Fixing) → Grows s start n marks → length marks ≡ length start
grows_length s start zero marks grows = ap length grows
grows_length s start (suc n) marks grows = tries_length s grows.0 n marks grows.1.1 ∙ grows_length s start n grows.0 grows.1.0

-- a variable that was tried is taken, or can't be added
abbrev IsTried : PlainSide → List Fixing → ℕ → Type 0
IsTried s marks k = (fixing_of marks k ≡ One) ⊎ (Fits s (taken s (slice_set marks k One)) → ⊥)

tried_here : (s : PlainSide) (before : List Fixing) (k : ℕ) (after : List Fixing) → k < length before → Tries s before k after → IsTried s after k
tried_here s before k after inside (inl more) = inl (subst (λ m. fixing_of m k ≡ One) (sym more.1) (mark_same before k One inside))
tried_here s before k after inside (inr same) = inr (subst (λ m. Fits s (taken s (slice_set m k One)) → ⊥) (sym same.1) same.0)

tried_more : (s : PlainSide) (some more : List Fixing) (k : ℕ) → MoreOnes some more → k < length more → IsTried s some k → IsTried s more k
tried_more s some more k grown inside (inl is) = inl (grown k is)
tried_more s some more k grown inside (inr refused) =
    inr (λ fits. refused (fits_fewer s (slice_set some k One) (slice_set more k One) (set_both some more k grown inside) fits))

grows_tried : (s : PlainSide) (start : List Fixing) (n : ℕ) (marks : List Fixing) (k : ℕ) → n ≤ length start → Grows s start n marks → k < n → IsTried s marks k
grows_tried s start zero marks k long grows below = absurd (omega arith)
grows_tried s start (suc n) marks k long grows below =
    let before = grows_length s start n grows.0 grows.1.0 in
    let after = tries_length s grows.0 n marks grows.1.1 in
    elim (cases_eq k n) [
      | inl same ↦ subst (λ j. IsTried s marks j) (sym same) (tried_here s grows.0 n marks (omega (arith, before, long)) grows.1.1)
      | inr other ↦
          let there = grows_tried s start n grows.0 k (omega (arith, long)) grows.1.0 (omega (arith, below, other)) in
          tried_more s grows.0 marks k (tries_more s grows.0 n marks grows.1.1) (omega (arith, before, after, long, below)) there
    ]

takes_join : (xs ys : List ℕ) (j : ℕ) → takes xs j ≡ true → takes (xs ++ ys) j ≡ true
takes_join [] ys j is = absurd (let e : false ≡ true = is in cc)
takes_join (x ∷ xs) ys j is =
    elim (cases_eq x j) [
      | inl same ↦ grind (arith, nat_tests, same)
      | inr other ↦
          let there : takes xs j ≡ true = sym (takes_other x xs j other) ∙ is in
          takes_other x (xs ++ ys) j other ∙ takes_join xs ys j there
    ]

takes_last : (xs ys : List ℕ) (j : ℕ) → takes ys j ≡ true → takes (xs ++ ys) j ≡ true
takes_last [] ys j is = is
takes_last (x ∷ xs) ys j is =
    elim (cases_eq x j) [
      | inl same ↦ grind (arith, nat_tests, same)
      | inr other ↦ takes_other x (xs ++ ys) j other ∙ takes_last xs ys j is
    ]

takes_ones : (n : ℕ) (marks : List Fixing) (j : ℕ) → j < n → fixing_of marks j ≡ One → takes (ones_below n marks) j ≡ true
takes_ones zero marks j inside is = absurd (omega arith)
takes_ones (suc n) marks j inside is =
    elim (cases_eq j n) [
      | inl same ↦
          let here : fixing_of marks n ≡ One = subst (λ k. fixing_of marks k ≡ One) same is in
          let last : takes (number_if (fixing_of marks n) n) j ≡ true = rw (here, same) (takes_first n []) in
          takes_last (ones_below n marks) (number_if (fixing_of marks n) n) j last
      | inr other ↦ takes_join (ones_below n marks) (number_if (fixing_of marks n) n) j (takes_ones n marks j (omega (arith, inside, other)) is)
    ]

takes_below : (low high : ℕ) (ks : List ℕ) (j : ℕ) → AscendWithin low high ks → takes ks j ≡ true → j < high
takes_below low high [] j all is = absurd (let e : false ≡ true = is in cc)
takes_below low high (k ∷ ks) j all is =
    elim (cases_eq k j) [
      | inl same ↦ omega (arith, same, all.1)
      | inr other ↦ takes_below (suc k) high ks j all.2 (sym (takes_other k ks j other) ∙ is)
    ]

one_taken : (m : Fixing) (b : Bool) (n : ℕ) → (m ≡ One → b ≡ true) → if_one m n ≤ picked b n
one_taken Zero b n both = omega arith
one_taken One b n both = rw (both refl) (omega arith)
one_taken Free b n both = omega arith

-- what takes one variable more takes at least the assignment in which it is fixed to one
added_takes : (s : PlainSide) (marks : List Fixing) (k : ℕ) (more : List ℕ) → Adds (taken s marks) k more → (j : ℕ) → j < length s.vars → fixing_of (slice_set marks k One) j ≡ One → takes more j ≡ true
added_takes s marks k more adds j inside is =
    elim (cases_eq k j) [
      | inl same ↦ subst (λ i. takes more i ≡ true) same (adds.1 k ∙ takes_first k (taken s marks))
      | inr other ↦
          let there : fixing_of marks j ≡ One = sym (mark_other marks k One j (λ same. other (sym same))) ∙ is in
          adds.1 j ∙ (takes_other k (taken s marks) j other ∙ takes_ones (length s.vars) marks j inside there)
    ]

added_fits : (s : PlainSide) (marks : List Fixing) (k : ℕ) (more : List ℕ) → Adds (taken s marks) k more → Fits s more → Fits s (taken s (slice_set marks k One))
added_fits s marks k more adds fits =
    fits_from s (slice_set marks k One)
    (λ row inside.
    let less = below_at_most (λ j. if_one (fixing_of (slice_set marks k One) j) (weight_at s.vars row j)) (λ j. picked (takes more j) (weight_at s.vars row j)) (length s.vars) (λ j below. one_taken (fixing_of (slice_set marks k One) j) (takes more j) (weight_at s.vars row j) (added_takes s marks k more adds j below)) in
    let sum = take_sum (weight_at s.vars row) 0 (length s.vars) more fits.numbers in
    let held = fits.rows row inside in
    omega (arith, less, sum, held))

true_not_false : true ≡ false → ⊥
true_not_false e = cc

none_added : (s : PlainSide) (start marks : List Fixing) (k : ℕ) (more : List ℕ) → length s.vars ≤ length start → Grows s start (length s.vars) marks → Adds (taken s marks) k more → Fits s more → ⊥
none_added s start marks k more long grows adds fits =
    let is_more : takes more k ≡ true = adds.1 k ∙ takes_first k (taken s marks) in
    let below = takes_below 0 (length s.vars) more k fits.numbers is_more in
    elim (grows_tried s start (length s.vars) marks k long grows below) [
      | inl is ↦ true_not_false (sym (takes_ones (length s.vars) marks k below is) ∙ adds.0)
      | inr refused ↦ refused (added_fits s marks k more adds fits)
    ]

pub grown_cannot : (p : PlainProgramme) (on : Bool) (s : PlainSide) (start marks : List Fixing) → side_for p on ≡ Some s → length s.vars ≤ length start → Grows s start (length s.vars) marks → CannotGrow p record { on = on; take = taken s marks }
grown_cannot p on s start marks is long grows k more adds feasible =
    absurd (none_added s start marks k more long grows adds (subst (λ side. IsSomeAnd side (λ t. Fits t more)) is feasible))

-- where the greedy choice gains nothing, no variable alone does
greatest_taken : (s : PlainSide) (j : ℕ) (marks : List Fixing) (k : ℕ) → GrowsTo s j marks → k < length s.vars → FitsAlone s k → gain_at s.vars k ≤ taken_gains s (taken s marks)
greatest_taken s j marks k grows inside alone =
    let most = grows.first.greatest k inside alone in
    let more = gains_grown s (slice_set (all_free s) j One) marks (grows_ones s (slice_set (all_free s) j One) (length s.vars) marks grows.others) in
    let single = ap (λ take. taken_gains s take) (single_taken s j grows.first.inside) in
    let first = sum_by-cons (gain_at s.vars) j [] in
    omega (arith, most, more, single, first)

pub greedy_bounds : (s : PlainSide) (choice : Option (List ℕ)) (k : ℕ) → IsGreedy s choice → k < length s.vars → FitsAlone s k → gain_at s.vars k ≤ greedy_gain s choice + s.fixed
greedy_bounds s None k (inl none) inside alone = absurd (none k inside alone)
greedy_bounds s None k (inr poor) inside alone =
    let most = greatest_taken s poor.0 poor.1.0 k poor.1.1.0 inside alone in
    let less = poor.1.1.1 in
    omega (arith, most, less)
greedy_bounds s (Some take) k greedy inside alone =
    let most = greatest_taken s greedy.0 greedy.1.0 k greedy.1.1.0 inside alone in
    let same = ap (λ t. taken_gains s t) greedy.1.1.2 in
    omega (arith, most, same)

-- a single variable's sums
single_sum : (f : ℕ → ℕ) (n : ℕ) (k : ℕ) (more : List ℕ) → AscendWithin 0 n more → Adds [] k more → (k < n) × (sum_by f more ≡ sum_by f (k ∷ []))
single_sum f n k more all adds =
    let is_more : takes more k ≡ true = adds.1 k ∙ takes_first k [] in
    let below = takes_below 0 n more k all is_more in
    let of_more = take_sum f 0 n more all in
    let of_one = take_sum f 0 n (k ∷ []) (omega arith, below, tt) in
    let same = below_same (λ j. picked (takes more j) (f j)) (λ j. picked (takes (k ∷ []) j) (f j)) n (λ j inside. ap (λ b. picked b (f j)) (adds.1 j)) in
    (below, omega (arith, of_more, of_one, same))

single_fits : (s : PlainSide) (k : ℕ) (more : List ℕ) → Fits s more → Adds [] k more → FitsAlone s k
single_fits s k more fits adds =
    record {
      numbers = (omega arith, (single_sum (gain_at s.vars) (length s.vars) k more fits.numbers adds).0, tt);
      rows = λ row inside.
          let sum = (single_sum (weight_at s.vars row) (length s.vars) k more fits.numbers adds).1 in
          let held = fits.rows row inside in
          omega (arith, sum, held);
    }

-- the gain of a choice of the off side
off_gain : (p : PlainProgramme) (take : List ℕ) → taken_gains p.off take ≤ p.off.fixed → gain p record { on = false; take = take } ≤ℤ pos 0
off_gain p [] poor = omega (arith, ints)
off_gain p (k ∷ ks) poor = omega (arith, ints, poor)

pub nothing_cannot : (p : PlainProgramme) (choice : Option (List ℕ)) → IsGreedy p.off choice → greedy_gain p.off choice ≡ 0 → CannotGrow p nothing
nothing_cannot p choice greedy poor k more adds fits =
    let inside = (single_sum (gain_at p.off.vars) (length p.off.vars) k more fits.numbers adds).0 in
    let sum = (single_sum (gain_at p.off.vars) (length p.off.vars) k more fits.numbers adds).1 in
    let most = greedy_bounds p.off choice k greedy inside (single_fits p.off k more fits adds) in
    let first = sum_by-cons (gain_at p.off.vars) k [] in
    off_gain p more (omega (arith, sum, most, first, poor))

pub some_cannot : (p : PlainProgramme) (take : List ℕ) → IsGreedy p.off (Some take) → CannotGrow p record { on = false; take = take }
some_cannot p take greedy =
    let start = slice_set (all_free p.off) greedy.0 One in
    let same = length-set (all_free p.off) greedy.0 One in
    let all = length-replicate {A = Fixing} (length p.off.vars) Free in
    let long : length p.off.vars ≤ length start = omega (arith, same, all) in
    subst (λ t. CannotGrow p record { on = false; take = t }) (sym greedy.1.1.2) (grown_cannot p false p.off start greedy.1.0 refl long greedy.1.1.0.others)
