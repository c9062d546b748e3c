-- The ways in which the search of a subtree ends.
use Rattle.std.proofs.Common.{◌≡◌, ℕ, zero, suc, ◌^◌, ◌<◌, ◌≤◌, List, ◌∷◌, ◌++◌, length, length-append, take, slice_set, Option, Some, None, sym, ap, refl, subst, arith}
use Rattle.std.specs.List.{count_by}
use Rattle.placement_programme.specs.Plain.{PlainSide}
use Rattle.certificate_checker.specs.Nodes.{PlainTree, branch, over, dual, leaf}
use Rattle.certificate_checker.specs.Spelling.{IsTreeInRange}
use Rattle.branch_bound.specs.Assignments.{FailsEveryLeafRule, IsGreatestFree}
use Rattle.branch_bound.specs.Entries.{Each}
use Rattle.branch_bound.specs.Searching.{EntryBelow, Tells}
use Rattle.certificate_checker.specs.Fixings.{fixing_of, is_free}
use Rattle.certificate_checker.specs.declared.fixings.Fixing.{Fixing}
use Rattle.certificate_checker.specs.declared.fixings.Fixing.TheVariants.{Zero, One, Free}
use Rattle.branch_bound.proofs.Greater.{holds_more}
use Rattle.branch_bound.proofs.MarkLemmas.{fewer_free}
use Rattle.branch_bound.proofs.EntryLemmas.{entry_more, each_first, each_second, finished, two_lists}

-- what is known where a node branches
pub record Branches (s : PlainSide) (start : ℕ) (marks : List Fixing) (j best : ℕ) : Type 0 where
  pub from_start : start ≤ best
  pub fails : FailsEveryLeafRule s best marks
  pub greatest : IsGreatestFree s marks j
  pub here : EntryBelow s best marks

-- the budget ends under the child that fixes the variable to one
pub tells_first : (s : PlainSide) (start : ℕ) (marks : List Fixing) (j best more left middle after : ℕ) → Branches s start marks j best → best ≤ more → left ≡ suc middle → Tells s start (slice_set marks j One) more middle after None → Tells s start marks more left after None
tells_first s start marks j best more left middle after branches order used first entries stated =
    let lists = two_lists s start best marks j entries branches.from_start branches.fails branches.greatest stated in
    let under = first lists.ones lists.by_one in
    let long = length-append lists.ones lists.zeroes in
    let whole : Each (EntryBelow s more) (take (suc middle) (marks ∷ (lists.ones ++ lists.zeroes))) × (suc middle < length (marks ∷ (lists.ones ++ lists.zeroes))) = (
      (entry_more s best more marks order branches.here, each_first (EntryBelow s more) middle lists.ones lists.zeroes under.1 under.0),
      let inside = under.1 in omega (arith, inside, long),
    ) in
    subst (λ es. Each (EntryBelow s more) (take left es) × (left < length es)) (sym lists.whole)
    (subst (λ n. Each (EntryBelow s more) (take n (marks ∷ (lists.ones ++ lists.zeroes))) × (n < length (marks ∷ (lists.ones ++ lists.zeroes)))) (sym used) whole)

-- what is known where both children were searched
pub record Children (s : PlainSide) (start : ℕ) (marks : List Fixing) (j best between more left middle second after : ℕ) (one zero_tree : Option PlainTree) : Type 0 where
  pub branches : Branches s start marks j best
  pub grows : best ≤ between
  pub grows_on : between ≤ more
  pub used : left ≡ suc middle
  pub by_one : Tells s start (slice_set marks j One) between middle second one
  pub by_zero : Tells s start (slice_set marks j Zero) more second after zero_tree

-- it ends under the other child
pub tells_second : (s : PlainSide) (start : ℕ) (marks : List Fixing) (j best between more left middle second after : ℕ) (tree : PlainTree) → Children s start marks j best between more left middle second after (Some tree) None → Tells s start marks more left after None
tells_second s start marks j best between more left middle second after tree cs entries stated =
    let lists = two_lists s start best marks j entries cs.branches.from_start cs.branches.fails cs.branches.greatest stated in
    let ones = finished s start more (slice_set marks j One) tree lists.ones (holds_more s between more (slice_set marks j One) tree cs.grows_on cs.by_one.0) lists.by_one in
    let budget = cs.by_one.1 lists.ones lists.by_one in
    let under = cs.by_zero lists.zeroes lists.by_zero in
    let long = length-append lists.ones lists.zeroes in
    let whole : Each (EntryBelow s more) (take (suc middle) (marks ∷ (lists.ones ++ lists.zeroes))) × (suc middle < length (marks ∷ (lists.ones ++ lists.zeroes))) = (
      (entry_more s best more marks (omega (arith, cs.grows, cs.grows_on)) cs.branches.here, each_second (EntryBelow s more) middle second lists.ones lists.zeroes budget ones under.0),
      let inside = under.1 in omega (arith, inside, budget, long),
    ) in
    subst (λ es. Each (EntryBelow s more) (take left es) × (left < length es)) (sym lists.whole)
    (subst (λ n. Each (EntryBelow s more) (take n (marks ∷ (lists.ones ++ lists.zeroes))) × (n < length (marks ∷ (lists.ones ++ lists.zeroes)))) (sym cs.used) whole)

-- both children are finished
pub tells_both : (s : PlainSide) (start : ℕ) (marks : List Fixing) (j best between more left middle second after : ℕ) (one_tree zero_tree : PlainTree) → Children s start marks j best between more left middle second after (Some one_tree) (Some zero_tree) → Tells s start marks more left after (Some (branch j zero_tree one_tree))
tells_both s start marks j best between more left middle second after one_tree zero_tree cs = (
  (
    record { inside = cs.branches.greatest.inside; free_there = cs.branches.greatest.holds },
    cs.by_zero.0,
    holds_more s between more (slice_set marks j One) one_tree cs.grows_on cs.by_one.0,
  ),
  λ entries stated.
      let lists = two_lists s start best marks j entries cs.branches.from_start cs.branches.fails cs.branches.greatest stated in
      let ones = cs.by_one.1 lists.ones lists.by_one in
      let zeroes = cs.by_zero.1 lists.zeroes lists.by_zero in
      let long = length-append lists.ones lists.zeroes in
      let whole = ap length lists.whole in
      omega (arith, ones, zeroes, long, whole, cs.used),
)

-- levels
pub levels_more : (levels more : ℕ) (t : PlainTree) → levels ≤ more → IsTreeInRange levels t → IsTreeInRange more t
levels_more zero more t order good = absurd good
levels_more (suc levels) zero t order good = absurd (omega arith)
levels_more (suc levels) (suc more) (branch j l r) order good =
    (good.0, levels_more levels more l (omega arith) good.1, levels_more levels more r (omega arith) good.2)
levels_more (suc levels) (suc more) (over row) order good = good
levels_more (suc levels) (suc more) (dual scale ms) order good = good
levels_more (suc levels) (suc more) leaf order good = tt

pub levels_both : (marks : List Fixing) (j : ℕ) (one_tree zero_tree : PlainTree) → fixing_of marks j ≡ Free → j < 2 ^ 32 → IsTreeInRange (suc (count_by is_free (slice_set marks j One))) one_tree → IsTreeInRange (suc (count_by is_free (slice_set marks j Zero))) zero_tree → IsTreeInRange (suc (count_by is_free marks)) (branch j zero_tree one_tree)
levels_both marks j one_tree zero_tree unfixed small by_one by_zero =
    let ones = fewer_free marks j One unfixed refl in
    let zeroes = fewer_free marks j Zero unfixed refl in
    let of_one : IsTreeInRange (count_by is_free marks) one_tree = subst (λ n. IsTreeInRange n one_tree) (sym ones) by_one in
    let of_zero : IsTreeInRange (count_by is_free marks) zero_tree = subst (λ n. IsTreeInRange n zero_tree) (sym zeroes) by_zero in
    (small, of_zero, of_one)
