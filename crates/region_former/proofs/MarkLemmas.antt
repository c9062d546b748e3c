-- What marks tell once they are spread, and the regions that they give.
use Rattle.std.proofs.Common.{◌≡◌, ◌∙◌, ◌⊎◌, inl, inr, ℕ, zero, suc, ◌+◌, ◌<◌, ◌≤◌, nat_le, nat_lt, Bool, true, false, not, ◌&&◌, List, [], ◌∷◌, ◌++◌, take, drop, length, slice_index_or, Option, Some, None, Vec, Global, refl, sym, ap, subst, arith}
use Rattle.std.proofs.lemmas.Bool.{eqb-true, both_ways}
use Rattle.std.proofs.lemmas.Bool.Decides.{nat_tests}
use Rattle.std.proofs.Math.Seq.{take-append_seam}
use Rattle.list_checks.specs.Tests.{any_below}
use Rattle.list_checks.proofs.TestLemmas.{both, any_found}
use Rattle.code_blocks.specs.Early.{has}
use Rattle.code_blocks.specs.Blocks.{no_function, lies_in_function, count_below}
use Rattle.code_blocks.specs.Numbers.{end_at}
use Rattle.code_blocks.specs.declared.parts.Code.{Code}
use Rattle.code_blocks.specs.declared.parts.Function.{Function}
use Rattle.region_former.specs.Naming.{function_in}
use Rattle.code_blocks.specs.Leads.{is_some_of, owner_at, is_of, leads_to}
use Rattle.region_former.specs.Flow.{block_count, leads_into_at, leads_into, called_address, lies_at, calls, IsPlace, IsOrderly}
use Rattle.region_former.specs.Reaching.{is_of_driver, driver_calls, is_root, root_region, enters_at, enters, Chain, here, further, Leads, IsReached, by_one, by_none_or_several}
use Rattle.region_former.specs.Propagation.{covers, mark_at, row_of, IsTold, PropagatesOut, AreBelow, first_mark, IsMark, region_by}
use Rattle.region_former.specs.Rows.{truth_at, AreRows}
use Rattle.region_former.specs.declared.propagation.Reached.{Reached}
use Rattle.region_former.specs.declared.propagation.Reached.TheVariants.{ByNone, ByOne, BySeveral}
use Rattle.region_former.proofs.PropagationLemmas.{row_inside}

past_functions : (fs : List Function) (k : ℕ) → length fs ≤ k → function_in fs k ≡ no_function
past_functions [] k out = refl
past_functions (f ∷ fs) zero out = absurd (omega (arith, out))
past_functions (f ∷ fs) (suc k) out = past_functions fs k (omega (arith, out))

lies_nowhere : (a : ℕ) → nat_le 0 a && nat_lt a (0 + 0) ≡ false
lies_nowhere a = grind (arith, nat_tests)

-- a call into a function's range is into one of the functions
called_below : (c : Code) (o : Option ℕ) (g : ℕ) → lies_at c o g ≡ true → g < length c.functions.items
called_below c None g lies = cc
called_below c (Some a) g lies =
    let place : (g < length c.functions.items) ⊎ (length c.functions.items ≤ g) = grind arith in
    elim place [
      | inl below ↦ below
      | inr out ↦
          let none = ap (λ (f : Function). lies_in_function a f) (past_functions c.functions.items g out) in
          absurd (both_ways _ (none ∙ lies_nowhere a) lies)
    ]

pub root_below : (c : Code) (driver : Option ℕ) (g : ℕ) → is_root c driver g ≡ true → g < length c.functions.items
root_below c driver g root =
    let (a, below, passes) = any_found (driver_calls c driver g) (block_count c) root in
    let parts = both (is_of_driver c driver a && not (is_some_of driver g)) (calls c a g) passes in
    called_below c (called_address (end_at c a)) g parts.1

owned_below : (n : ℕ) (o : Option ℕ) (f : ℕ) → IsPlace n o → is_some_of o f ≡ true → f < n
owned_below n None f is found = cc
owned_below n (Some g) f is found = let same = eqb-true g f found in omega (arith, is, same)

pub entered_from : (c : Code) (driver : Option ℕ) (f g : ℕ) → IsOrderly c → enters c driver f g ≡ true → f < length c.functions.items
entered_from c driver f g orderly found =
    let (a, below, passes) = any_found (enters_at c driver f g) (block_count c) found in
    let parts = both (is_of c f a) (leads_into c driver a g) passes in
    owned_below (length c.functions.items) (owner_at c a) f (orderly.owners a below) parts.0

pub entered_below : (c : Code) (driver : Option ℕ) (f g : ℕ) → IsOrderly c → enters c driver f g ≡ true → g < length c.functions.items
entered_below c driver f g orderly found =
    let (a, below, passes) = any_found (enters_at c driver f g) (block_count c) found in
    let parts = both (is_of c f a) (leads_into c driver a g) passes in
    let inner = both (not (is_some_of driver g)) (any_below (leads_into_at c a g) (block_count c)) parts.1 in
    let (b, within, leads) = any_found (leads_into_at c a g) (block_count c) inner.1 in
    let last = both (is_of c g b) (leads_to c a b) leads in
    owned_below (length c.functions.items) (owner_at c b) g (orderly.owners b within) last.0

-- all functions in the rows are below their number
pub rows_below : (c : Code) (driver : Option ℕ) (rows : List (Vec ℕ Global)) → IsOrderly c → length rows ≡ length c.functions.items → AreRows c driver (block_count c) rows → AreBelow (length c.functions.items) rows
rows_below c driver rows orderly one_each are f g found =
    entered_below c driver f g orderly (sym (are f g (row_inside rows f g found)) ∙ found)

-- ---- marks

past_marks : (marks : List Reached) (f : ℕ) → length marks ≤ f → mark_at marks f ≡ ByNone
past_marks [] f out = refl
past_marks (m ∷ marks) zero out = absurd (omega (arith, out))
past_marks (m ∷ marks) (suc f) out = past_marks marks f (omega (arith, out))

module _ (root : ℕ → Bool) (step : ℕ → ℕ → Bool) where
  first_told : (f : ℕ) (t : Bool) → root f ≡ t → IsTold root step f (first_mark f t)
  first_told f true is = record { starts = is; chain = here f }
  first_told f false is = tt

  mark_is : (f : ℕ) (m : Reached) → IsTold root step f m → ((k : ℕ) → Leads root step k f → covers m k ≡ true) → IsMark root step f m
  mark_is f ByNone told covered = λ k alone. let found = covered k alone.leads in cc
  mark_is f (ByOne k) told covered =
      record { leads = told; alone = λ j leads. sym (eqb-true k j (covered j leads)) }
  mark_is f BySeveral told covered =
      λ k alone.
      let one = alone.alone told.one told.first in
      let other = alone.alone told.other told.second in
      let disjoint = told.two in
      grind (arith, nat_tests, one, other, disjoint)

  chain_covered : (marks : List Reached) → ((f g k : ℕ) → step f g ≡ true → covers (mark_at marks f) k ≡ true → covers (mark_at marks g) k ≡ true)
      → (k f : ℕ) → covers (mark_at marks k) k ≡ true → Chain step k f → covers (mark_at marks f) k ≡ true
  chain_covered marks settled _ _ first (here k) = first
  chain_covered marks settled _ _ first (further k e f chain is) =
      settled e f k is (chain_covered marks settled k e first chain)

  is_reached : (f : ℕ) (regions : List ℕ) (m : Reached) → ((k : ℕ) → root k ≡ true → slice_index_or regions k 0 ≡ root_region root k) → IsMark root step f m → IsReached root step f (region_by regions m)
  is_reached f regions ByNone are mark = by_none_or_several mark
  is_reached f regions (ByOne k) are mark =
      subst (IsReached root step f) (sym (are k mark.leads.starts)) (by_one k mark)
  is_reached f regions BySeveral are mark = by_none_or_several mark

covers_itself : (m : Reached) (k : ℕ) → m ≡ ByOne k → covers m k ≡ true
covers_itself m k is = rw is (grind (arith, nat_tests))

pub are_marks : (c : Code) (driver : Option ℕ) (roots : List Bool) (rows : List (Vec ℕ Global)) (old new : List Reached) → IsOrderly c
    → length rows ≡ length c.functions.items → AreRows c driver (block_count c) rows
    → length old ≡ length c.functions.items
    → ((g : ℕ) → g < length c.functions.items → truth_at roots g ≡ is_root c driver g)
    → ((f : ℕ) → f < length c.functions.items → mark_at old f ≡ first_mark f (truth_at roots f))
    → PropagatesOut old rows new → (f : ℕ) → IsMark (is_root c driver) (enters c driver) f (mark_at new f)
are_marks c driver roots rows old new orderly one_each are long same first s f =
    let root = is_root c driver in
    let step = enters c driver in
    let told_first : (h : ℕ) → IsTold root step h (mark_at old h) =
    λ h.
    let place : (h < length c.functions.items) ⊎ (length c.functions.items ≤ h) = grind arith in
    elim place [
      | inl below ↦ subst (IsTold root step h) (sym (first h below)) (first_told root step h (truth_at roots h) (sym (same h below)))
      | inr out ↦ subst (IsTold root step h) (sym (past_marks old h (omega (arith, long, out)))) tt
    ] in
    let steps : (h g : ℕ) → has (row_of rows h) g ≡ true → step h g ≡ true =
    λ h g found. sym (are h g (row_inside rows h g found)) ∙ found in
    let settled : (h g k : ℕ) → step h g ≡ true → covers (mark_at new h) k ≡ true → covers (mark_at new g) k ≡ true =
    λ h g k is covered.
    let below : h < length rows = rw one_each (entered_from c driver h g orderly is) in
    s.settled h g k (are h g below ∙ is) covered in
    mark_is root step f (mark_at new f) (s.told root step told_first steps f)
    (λ k leads.
    let below = root_below c driver k leads.starts in
    let marked : mark_at old k ≡ ByOne k = first k below ∙ ap (first_mark k) (same k below ∙ leads.starts) in
    chain_covered root step new settled k f (s.grows k k (covers_itself (mark_at old k) k marked)) leads.chain)

-- ---- numbers of roots

pub count_same : (t u : ℕ → Bool) (n : ℕ) → ((k : ℕ) → k < n → t k ≡ u k) → count_below t n ≡ count_below u n
count_same t u zero same = refl
count_same t u (suc n) same =
    let earlier = count_same t u n (λ k below. same k (omega (arith, below))) in
    let last = same n (omega arith) in
    rw (earlier, last) refl

pub region_same : (t u : ℕ → Bool) (k : ℕ) → ((j : ℕ) → j < k → t j ≡ u j) → root_region t k ≡ root_region u k
region_same t u k same = rw (count_same t u k same) refl

-- a vector of which a slice was written whole
pub written : {A : Type 0} (new old : List A) (n : ℕ) → n ≡ length new → take n (new ++ drop (length new) old) ≡ new
written new old n count = rw count (take-append_seam new (drop (length new) old))

-- ---- regions of functions

pub reached : (c : Code) (driver : Option ℕ) (roots : List Bool) (marks : List Reached) (regions made : List ℕ) → length roots ≡ length c.functions.items
    → ((g : ℕ) → g < length c.functions.items → truth_at roots g ≡ is_root c driver g)
    → ((f : ℕ) → f < length c.functions.items → IsMark (is_root c driver) (enters c driver) f (mark_at marks f))
    → ((k : ℕ) → k < length roots → slice_index_or regions k 0 ≡ root_region (truth_at roots) k)
    → ((f : ℕ) → f < length c.functions.items → slice_index_or made f 0 ≡ region_by regions (mark_at marks f))
    → (f : ℕ) → f < length c.functions.items → IsReached (is_root c driver) (enters c driver) f (slice_index_or made f 0)
reached c driver roots marks regions made one_each same are numbered by f below =
    subst (IsReached (is_root c driver) (enters c driver) f) (sym (by f below))
    (is_reached (is_root c driver) (enters c driver) f regions (mark_at marks f)
    (λ k root.
    let within = root_below c driver k root in
    numbered k (rw one_each within)
    ∙ region_same (truth_at roots) (is_root c driver) k (λ j lower. same j (omega (arith, lower, within))))
    (are f below))
