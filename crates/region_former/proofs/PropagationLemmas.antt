-- How marks spread.
use Rattle.std.proofs.Common.{◌≡◌, ◌∙◌, ◌⊎◌, inl, inr, ℕ, zero, suc, ◌+◌, ◌<◌, ◌≤◌, ◌==◌, Bool, true, false, ◌||◌, if◌then◌else◌, List, [], ◌∷◌, ◌++◌, set, length, Option, Some, None, MatchOption, Vec, Global, refl, sym, ap, subst, arith}
use Rattle.std.proofs.lemmas.Bool.{eqb-true}
use Rattle.std.proofs.lemmas.Bool.Decides.{nat_tests}
use Rattle.std.proofs.lemmas.List.{get_or-set_same, get_or-set_other, length-set, length_push}
use Rattle.std.proofs.lemmas.List.Sums.{sum_by-set}
use Rattle.list_checks.proofs.TestLemmas.{either}
use Rattle.code_blocks.specs.Early.{has}
use Rattle.code_blocks.proofs.KeptLemmas.{any_push}
use Rattle.region_former.specs.Reaching.{Leads, further}
use Rattle.region_former.specs.Propagation.{covers, raised, raises_left, mark_at, row_of, IsTold, IsRaised, Propagates, PropagatesSoFar, PropagatesOut}
use Rattle.region_former.specs.declared.propagation.Reached.{Reached}
use Rattle.region_former.specs.declared.propagation.Reached.TheVariants.{ByNone, ByOne, BySeveral}

-- ---- one mark raised by another

one_none : (j k i : ℕ) (t : Bool) → t ≡ (j == k) → (if t then None else Some BySeveral) ≡ None → (k == i) ≡ true → (j == i) ≡ true
one_none j k i true is none covered = rw (eqb-true j k (sym is)) covered
one_none j k i false is none covered = cc

raised_none : (m b : Reached) (k : ℕ) → raised m b ≡ None → covers b k ≡ true → covers m k ≡ true
raised_none ByNone ByNone k none covered = covered
raised_none (ByOne j) ByNone k none covered = cc
raised_none BySeveral ByNone k none covered = refl
raised_none ByNone (ByOne i) k none covered = cc
raised_none (ByOne j) (ByOne i) k none covered = one_none j i k (j == i) refl none covered
raised_none BySeveral (ByOne i) k none covered = refl
raised_none ByNone BySeveral k none covered = cc
raised_none (ByOne j) BySeveral k none covered = cc
raised_none BySeveral BySeveral k none covered = refl

some_several : (t : Bool) (x : Reached) → (if t then None else Some BySeveral) ≡ Some x → x ≡ BySeveral
some_several true x is = cc
some_several false x is = cc

all_covered : (x : Reached) (k : ℕ) → x ≡ BySeveral → covers x k ≡ true
all_covered x k is = rw is refl

is_that : (m x : Reached) → Some m ≡ Some x → m ≡ x
is_that m x is = cc

-- what the raised mark covers
raised_old : (m b x : Reached) (k : ℕ) → raised m b ≡ Some x → covers m k ≡ true → covers x k ≡ true
raised_old ByNone b x k is covered = cc
raised_old (ByOne j) ByNone x k is covered = cc
raised_old BySeveral ByNone x k is covered = cc
raised_old (ByOne j) (ByOne i) x k is covered = all_covered x k (some_several (j == i) x is)
raised_old BySeveral (ByOne i) x k is covered = cc
raised_old (ByOne j) BySeveral x k is covered = all_covered x k (sym (is_that BySeveral x is))
raised_old BySeveral BySeveral x k is covered = cc

raised_by : (m b x : Reached) (k : ℕ) → raised m b ≡ Some x → covers b k ≡ true → covers x k ≡ true
raised_by m ByNone x k is covered = cc
raised_by ByNone (ByOne i) x k is covered = subst (λ (y : Reached). covers y k ≡ true) (is_that (ByOne i) x is) covered
raised_by (ByOne j) (ByOne i) x k is covered = all_covered x k (some_several (j == i) x is)
raised_by BySeveral (ByOne i) x k is covered = cc
raised_by ByNone BySeveral x k is covered = all_covered x k (sym (is_that BySeveral x is))
raised_by (ByOne j) BySeveral x k is covered = all_covered x k (sym (is_that BySeveral x is))
raised_by BySeveral BySeveral x k is covered = cc

lighter_several : (x : Reached) (n : ℕ) → x ≡ BySeveral → 1 ≤ n → raises_left x + 1 ≤ n
lighter_several x n is some = rw is (omega (arith, some))

lighter_one : (x : Reached) (i : ℕ) → ByOne i ≡ x → raises_left x + 1 ≤ 2
lighter_one x i is = rw (sym is) (omega arith)

raised_lighter : (m b x : Reached) → raised m b ≡ Some x → raises_left x + 1 ≤ raises_left m
raised_lighter ByNone ByNone x is = cc
raised_lighter (ByOne j) ByNone x is = cc
raised_lighter BySeveral ByNone x is = cc
raised_lighter ByNone (ByOne i) x is = lighter_one x i (is_that (ByOne i) x is)
raised_lighter (ByOne j) (ByOne i) x is = lighter_several x 1 (some_several (j == i) x is) (omega arith)
raised_lighter BySeveral (ByOne i) x is = cc
raised_lighter ByNone BySeveral x is = lighter_several x 2 (sym (is_that BySeveral x is)) (omega arith)
raised_lighter (ByOne j) BySeveral x is = lighter_several x 1 (sym (is_that BySeveral x is)) (omega arith)
raised_lighter BySeveral BySeveral x is = cc

module _ (root : ℕ → Bool) (step : ℕ → ℕ → Bool) where
  told_two : (f j i : ℕ) (t : Bool) (x : Reached) → t ≡ (j == i) → (if t then None else Some BySeveral) ≡ Some x → Leads root step j f → Leads root step i f → IsTold root step f x
  told_two f j i true x is raised first second = cc
  told_two f j i false x is raised first second =
      subst (IsTold root step f) (is_that BySeveral x raised) (record { one = j; other = i; two = sym is; first = first; second = second })

  raised_told : (f : ℕ) (m b x : Reached) → raised m b ≡ Some x → IsTold root step f m → IsTold root step f b → IsTold root step f x
  raised_told f ByNone ByNone x is old by = cc
  raised_told f (ByOne j) ByNone x is old by = cc
  raised_told f BySeveral ByNone x is old by = cc
  raised_told f ByNone (ByOne i) x is old by = subst (IsTold root step f) (is_that (ByOne i) x is) by
  raised_told f (ByOne j) (ByOne i) x is old by = told_two f j i (j == i) x refl is old by
  raised_told f BySeveral (ByOne i) x is old by = cc
  raised_told f ByNone BySeveral x is old by = subst (IsTold root step f) (is_that BySeveral x is) by
  raised_told f (ByOne j) BySeveral x is old by = subst (IsTold root step f) (is_that BySeveral x is) by
  raised_told f BySeveral BySeveral x is old by = cc

  told_on : (f g : ℕ) (m : Reached) → step f g ≡ true → IsTold root step f m → IsTold root step g m
  told_on f g ByNone is told = told
  told_on f g (ByOne k) is told = record { starts = told.starts; chain = further k f g told.chain is }
  told_on f g BySeveral is told =
      record {
        one = told.one;
        other = told.other;
        two = told.two;
        first = record { starts = told.first.starts; chain = further told.one f g told.first.chain is };
        second = record { starts = told.second.starts; chain = further told.other f g told.second.chain is };
      }

-- ---- one function of those that are raised

push_left : (xs : List ℕ) (x f : ℕ) → has xs f ≡ true → has (xs ++ x ∷ []) f ≡ true
push_left xs x f is = any_push (λ y. f == y) xs x ∙ rw is refl

or_true : (a b : Bool) → b ≡ true → a || b ≡ true
or_true true b is = refl
or_true false b is = is

pub push_right : (xs : List ℕ) (x f : ℕ) → f ≡ x → has (xs ++ x ∷ []) f ≡ true
push_right xs x f same = any_push (λ y. f == y) xs x ∙ or_true (has xs f) (f == x) (grind (arith, nat_tests, same))

pushed : (xs : List ℕ) (x f : ℕ) → has (xs ++ x ∷ []) f ≡ true → (has xs f ≡ true) ⊎ (f ≡ x)
pushed xs x f found =
    elim (either (has xs f) (f == x) (sym (any_push (λ y. f == y) xs x) ∙ found)) [
      | inl earlier ↦ inl earlier
      | inr here ↦ inr (eqb-true f x here)
    ]

place_of : (marks : List Reached) (g f : ℕ) (x : Reached) → g < length marks → ((f ≡ g) × (mark_at (set marks g x) f ≡ x)) ⊎ (mark_at (set marks g x) f ≡ mark_at marks f)
place_of marks g f x below =
    let place : (f ≡ g) ⊎ (f ≡ g → ⊥) = grind arith in
    elim place [
      | inl here ↦ inl (here, rw here (get_or-set_same marks g x ByNone below))
      | inr there ↦ inr (get_or-set_other marks g f x ByNone there)
    ]

set_grows : (marks : List Reached) (g f k : ℕ) (by x : Reached) → g < length marks → raised (mark_at marks g) by ≡ Some x → covers (mark_at marks f) k ≡ true → covers (mark_at (set marks g x) f) k ≡ true
set_grows marks g f k by x below is covered =
    elim (place_of marks g f x below) [
      | inl here ↦
          let covered_here = subst (λ (h : ℕ). covers (mark_at marks h) k ≡ true) here.0 covered in
          subst (λ (m : Reached). covers m k ≡ true) (sym here.1) (raised_old (mark_at marks g) by x k is covered_here)
      | inr there ↦ subst (λ (m : Reached). covers m k ≡ true) (sym there) covered
    ]

propagates_same : (old : List Reached) (waited ts : List ℕ) (by : Reached) (mid : List Reached) (waiting : List ℕ) (g : ℕ) → Propagates old waited ts by mid waiting → raised (mark_at mid g) by ≡ None → Propagates old waited (ts ++ g ∷ []) by mid waiting
propagates_same old waited ts by mid waiting g s none =
    record {
      same_length = s.same_length;
      grows = s.grows;
      settled = λ f k found covered.
          elim (pushed ts g f found) [
            | inl earlier ↦ s.settled f k earlier covered
            | inr here ↦ subst (λ (h : ℕ). covers (mark_at mid h) k ≡ true) (sym here) (raised_none (mark_at mid g) by k none covered)
          ];
      waits = s.waits;
      noticed = s.noticed;
      told = λ root step all told f. s.told root step all (λ h found. told h (push_left ts g h found)) f;
      lighter = s.lighter;
      only = λ f found.
          elim (s.only f found) [ inl earlier ↦ inl earlier | inr target ↦ inr (push_left ts g f target) ];
    }

propagates_raised : (old : List Reached) (waited ts : List ℕ) (by : Reached) (mid : List Reached) (waiting : List ℕ) (g : ℕ) (x : Reached) → g < length mid → Propagates old waited ts by mid waiting → raised (mark_at mid g) by ≡ Some x → Propagates old waited (ts ++ g ∷ []) by (set mid g x) (waiting ++ g ∷ [])
propagates_raised old waited ts by mid waiting g x below s is =
    let count = length_push waiting g in
    let weighs = sum_by-set raises_left mid g x ByNone below in
    let lighter = raised_lighter (mark_at mid g) by x is in
    let before = s.lighter in
    record {
      same_length = length-set mid g x ∙ s.same_length;
      grows = λ f k covered. set_grows mid g f k by x below is (s.grows f k covered);
      settled = λ f k found covered.
          elim (pushed ts g f found) [
            | inl earlier ↦ set_grows mid g f k by x below is (s.settled f k earlier covered)
            | inr here ↦
                rw here (subst (λ (m : Reached). covers m k ≡ true) (sym (get_or-set_same mid g x ByNone below)) (raised_by (mark_at mid g) by x k is covered))
          ];
      waits = λ f found. push_left waiting g f (s.waits f found);
      noticed = λ f.
          elim (place_of mid g f x below) [
            | inl here ↦ inr (push_right waiting g f here.0)
            | inr there ↦ elim (s.noticed f) [ inl same ↦ inl (there ∙ same) | inr found ↦ inr (push_left waiting g f found) ]
          ];
      told = λ root step all told f.
          let before = s.told root step all (λ h found. told h (push_left ts g h found)) f in
          elim (place_of mid g f x below) [
            | inl here ↦
                let raised_here = subst (λ (h : ℕ). raised (mark_at mid h) by ≡ Some x) (sym here.0) is in
                subst (IsTold root step f) (sym here.1) (raised_told root step f (mark_at mid f) by x raised_here before (told f (push_right ts g f here.0)))
            | inr there ↦ subst (IsTold root step f) (sym there) before
          ];
      lighter = omega (arith, count, weighs, lighter, before);
      only = λ f found.
          elim (pushed waiting g f found) [
            | inl earlier ↦ elim (s.only f earlier) [ inl old_one ↦ inl old_one | inr target ↦ inr (push_left ts g f target) ]
            | inr here ↦ inr (push_right ts g f here)
          ];
    }

propagates_as : (old : List Reached) (waited ts : List ℕ) (by : Reached) (mid : List Reached) (waiting : List ℕ) (g : ℕ) (o : Option Reached) (new : List Reached) (left : List ℕ) → g < length mid → Propagates old waited ts by mid waiting → raised (mark_at mid g) by ≡ o → IsRaised mid waiting g o new left → Propagates old waited (ts ++ g ∷ []) by new left
propagates_as old waited ts by mid waiting g None new left below s is (same, still) =
    rw (same, still) (propagates_same old waited ts by mid waiting g s is)
propagates_as old waited ts by mid waiting g (Some x) new left below s is (same, still) =
    rw (same, still) (propagates_raised old waited ts by mid waiting g x below s is)

pub propagates_more : (old : List Reached) (waited ts : List ℕ) (by : Reached) (mid : List Reached) (waiting : List ℕ) (g : ℕ) (new : List Reached) (left : List ℕ) → g < length mid → Propagates old waited ts by mid waiting → IsRaised mid waiting g (raised (mark_at mid g) by) new left → Propagates old waited (ts ++ g ∷ []) by new left
propagates_more old waited ts by mid waiting g new left below s is =
    propagates_as old waited ts by mid waiting g (raised (mark_at mid g) by) new left below s refl is

-- ---- the whole

past : (rows : List (Vec ℕ Global)) (f : ℕ) → length rows ≤ f → row_of rows f ≡ []
past [] f out = refl
past (row ∷ rows) zero out = absurd (omega (arith, out))
past (row ∷ rows) (suc f) out = past rows f (omega (arith, out))

-- a function with something behind it has a row
pub row_inside : (rows : List (Vec ℕ Global)) (f g : ℕ) → has (row_of rows f) g ≡ true → f < length rows
row_inside rows f g found =
    let place : (f < length rows) ⊎ (length rows ≤ f) = grind arith in
    elim place [
      | inl below ↦ below
      | inr out ↦ let none = ap (λ (xs : List ℕ). has xs g) (past rows f out) in cc
    ]

pub so_far_more : (old : List Reached) (rows : List (Vec ℕ Global)) (waited : List ℕ) (f : ℕ) (mid new : List Reached) (waiting : List ℕ) → ((g h : ℕ) → has (row_of rows g) h ≡ true → h < length old)
    → PropagatesSoFar old rows (waited ++ f ∷ []) mid → Propagates mid waited (row_of rows f) (mark_at mid f) new waiting → PropagatesSoFar old rows waiting new
so_far_more old rows waited f mid new waiting inside q s =
    record {
      same_length = s.same_length ∙ q.same_length;
      below = λ h found.
          elim (s.only h found) [ inl earlier ↦ q.below h (push_left waited f h earlier) | inr target ↦ inside f h target ];
      grows = λ h k covered. s.grows h k (q.grows h k covered);
      settled = λ h g k found covered.
          elim (s.noticed h) [
            | inl same ↦
                let was = subst (λ (m : Reached). covers m k ≡ true) same covered in
                elim (q.settled h g k found was) [
                  | inl settled ↦ inl (s.grows g k settled)
                  | inr waits ↦ elim (pushed waited f h waits) [
                    | inl still ↦ inr (s.waits h still)
                    | inr here ↦
                        inl (s.settled g k (subst (λ (x : ℕ). has (row_of rows x) g ≡ true) here found) (subst (λ (x : ℕ). covers (mark_at mid x) k ≡ true) here was))
                  ]
                ]
            | inr waits ↦ inr waits
          ];
      told = λ root step all steps.
          s.told root step (q.told root step all steps)
          (λ g found. told_on root step f g (mark_at mid f) (steps f g found) (q.told root step all steps f));
    }

pub so_far_all : (old : List Reached) (rows : List (Vec ℕ Global)) (waiting : List ℕ) (new : List Reached) → waiting ≡ [] → PropagatesSoFar old rows waiting new → PropagatesOut old rows new
so_far_all old rows waiting new none q =
    record {
      same_length = q.same_length;
      grows = q.grows;
      settled = λ f g k found covered.
          elim (q.settled f g k found covered) [
            | inl settled ↦ settled
            | inr waits ↦ let never = sym (ap (λ (xs : List ℕ). has xs f) none) ∙ waits in cc
          ];
      told = q.told;
    }

no_items : (xs : List ℕ) → length xs ≡ 0 → xs ≡ []
no_items [] none = refl
no_items (x ∷ xs) none = absurd (omega (arith, none))

-- what a pop that gives nothing tells
pub none_left : (o : Option ℕ) (n m : ℕ) (items : List ℕ) → MatchOption o ((n ≡ 0) × (m ≡ 0)) (λ k. m + 1 ≡ n) → ((k : ℕ) → o ≡ Some k → ⊥) → length items ≡ n → items ≡ []
none_left None n m items is none count = no_items items (count ∙ is.0)
none_left (Some k) n m items is none count = absurd (none k refl)
