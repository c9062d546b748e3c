-- From the searches of both sides to what is answered.
use Rattle.std.proofs.Common.{◌≡◌, ◌∙◌, ◌⊎◌, inl, inr, ℕ, suc, ◌+◌, ◌-◌, ◌^◌, ◌<◌, ◌≤◌, pos, ◌≤ℤ◌, Bool, true, false, List, [], ◌∷◌, length, take, Option, Some, None, option_map, IsSomeAnd, MatchOption, Result, Ok, Err, IfOk, sym, ap, refl, subst, arith}
use Rattle.std.specs.List.{count_by}
use Rattle.std.proofs.lemmas.Int.{ints}
use Rattle.std.proofs.lemmas.List.{length-replicate}
use Rattle.std.proofs.lemmas.List.Sums.{count_by-le-length}
use Rattle.placement_programme.specs.Plain.{PlainSide, PlainProgramme, PlainChoice}
use Rattle.placement_programme.specs.Bounds.{AscendWithin}
use Rattle.placement_programme.specs.Programme.{Fits, taken_gains, side_for, gain, gain_on, net_gain, nothing}
use Rattle.placement_programme.proofs.AscendLemmas.{count_within}
use Rattle.certificate_checker.specs.Nodes.{PlainTree}
use Rattle.certificate_checker.specs.Shows.{all_free, ShownBy, IsAccepted}
use Rattle.certificate_checker.specs.Spelling.{IsTreeInRange, AreTreesInRange, IsInRange}
use Rattle.certificate_checker.specs.Reading.{most_levels}
use Rattle.certificate_checker.specs.Views.{plain_tree}
use Rattle.certificate_checker.specs.declared.trees.Tree.{Tree}
use Rattle.branch_bound.specs.Assignments.{taken}
use Rattle.branch_bound.specs.Greedy.{Grows, IsStart}
use Rattle.branch_bound.specs.Growing.{CannotGrow}
use Rattle.branch_bound.specs.Entries.{StatedFrom, StatedOn, IsStated, Each, takes_on, GainsAtMost, Reaches}
use Rattle.branch_bound.specs.Searching.{EntryBelow, Reports, IsClosed, HasLevels, IsIncumbent, choice_of}
use Rattle.branch_bound.specs.Solving.{ReportsOn, ClosesSide, ClosesOn, LacksTree, AreTreesOf, FailsSome, Searched, ReachesFirst, EndsWithin}
use Rattle.branch_bound.specs.declared.outcomes.Trees.{Trees}
use Rattle.branch_bound.specs.declared.incumbents.Incumbent.{Incumbent}
use Rattle.certificate_checker.specs.Fixings.{is_free}
use Rattle.certificate_checker.specs.declared.fixings.Fixing.{Fixing}
use Rattle.certificate_checker.specs.declared.fixings.Fixing.TheVariants.{Free}
use Rattle.branch_bound.proofs.Greater.{holds_more}
use Rattle.branch_bound.proofs.OnesLemmas.{nothing_taken}
use Rattle.branch_bound.proofs.EntryLemmas.{entry_more, each_more, each_less, each_fewer, finished}
use Rattle.branch_bound.proofs.GreedyLemmas.{grows_fit}
use Rattle.branch_bound.proofs.GrowLemmas.{nothing_cannot, gains_grown, grows_ones, grows_length, grown_cannot}
use Rattle.branch_bound.proofs.IncumbentLemmas.{same_side, new_incumbent}
use Rattle.branch_bound.proofs.TellLemmas.{levels_more}

-- the entries that the budget allows
pub tells_entries : (s : PlainSide) (start best more left after : ℕ) (tree : Option Tree) (es : List (List Fixing)) → best ≤ more → Reports s start (all_free s) best left after tree → StatedFrom s start (all_free s) es → Each (EntryBelow s more) (take left es)
tells_entries s start best more left after (Some tree) es order tells stated =
    each_less (EntryBelow s more) left es
    (finished s start more (all_free s) (plain_tree tree) es (holds_more s best more (all_free s) (plain_tree tree) order tells.0) stated)
tells_entries s start best more left after None es order tells stated =
    each_more (EntryBelow s best) (EntryBelow s more) (take left es) (λ e below. entry_more s best more e order below) (tells es stated).0

-- what is left of the budget behind a side's list
rest_left : (s : PlainSide) (start best left after : ℕ) (tree : Option Tree) (es : List (List Fixing)) → Reports s start (all_free s) best left after tree → StatedFrom s start (all_free s) es → left - length es ≤ after
rest_left s start best left after (Some tree) es tells stated = let used = tells.1 es stated in omega (arith, used)
rest_left s start best left after None es tells stated = let short = (tells es stated).1 in omega (arith, short)

off_most : (p : PlainProgramme) (take : List ℕ) (best : ℕ) → taken_gains p.off take ≤ best + p.off.fixed → gain p record { on = false; take = take } ≤ℤ pos best
off_most p [] best most = omega (arith, ints)
off_most p (k ∷ ks) best most = omega (arith, ints, most)

abbrev EntryOn : Option PlainSide → ℕ → List Fixing → Type 0
EntryOn side best marks =
    IsSomeAnd side (λ t. Fits t (takes_on side marks)) → gain_on side (takes_on side marks) ≤ℤ pos best

on_most : (s : PlainSide) (best : ℕ) (marks : List Fixing) → EntryBelow s best marks → EntryOn (Some s) best marks
on_most s best marks below fits = let most = below fits in omega (arith, ints, most)

on_entries : (side : Option PlainSide) (start best more n left after : ℕ) (tree : Option Tree) (es : List (List Fixing)) → best ≤ more → n ≤ left → ReportsOn side start best left after tree → StatedOn side start es → Each (EntryOn side more) (take n es)
on_entries None start best more n left after tree es order few tells stated =
    subst (λ l. Each (EntryOn None more) (take n l)) (sym stated) (each_less (EntryOn None more) n [] tt)
on_entries (Some s) start best more n left after tree es order few tells stated =
    each_fewer (EntryOn (Some s) more) n left es few
    (each_more (EntryBelow s more) (EntryOn (Some s) more) (take left es) (λ e below. on_most s more e below) (tells_entries s start best more left after tree es order tells stated))

pub reaches : (p : PlainProgramme) (n start first second best left after : ℕ) (off_tree on_tree : Option Tree) (off on : List (List Fixing)) → start ≤ best → first ≤ best → second ≤ best → Reports p.off start (all_free p.off) first n left off_tree → ReportsOn p.on start second left after on_tree → IsStated p start off on → Reaches p n best start off on
reaches p n start first second best left after off_tree on_tree off on from order next by_off by_on stated =
    record {
      from_start = from;
      of_off = each_more (EntryBelow p.off best) (GainsAtMost p false (Some p.off) best) (take n off) (λ e below fits. off_most p (taken p.off e) best (below fits)) (tells_entries p.off start first best n left off_tree off order by_off stated.off_list);
      of_on = on_entries p.on start second best (n - length off) left after on_tree on next (rest_left p.off start first n left off_tree off by_off stated.off_list) by_on stated.on_list;
    }

-- a budget that ended had fewer nodes than the list has entries
off_lacks : (s : PlainSide) (start best left after : ℕ) (tree : Option Tree) (es : List (List Fixing)) → tree ≡ None → Reports s start (all_free s) best left after tree → StatedFrom s start (all_free s) es → left < length es
off_lacks s start best left after tree es none tells stated =
    let there = subst (λ o. Reports s start (all_free s) best left after o) none tells in
    (there es stated).1

on_lacks : (side : Option PlainSide) (start best left after : ℕ) (tree : Option Tree) (es : List (List Fixing)) → LacksTree side tree → ReportsOn side start best left after tree → StatedOn side start es → left < length es
on_lacks None start best left after tree es lacks tells stated = absurd lacks
on_lacks (Some s) start best left after tree es lacks tells stated = off_lacks s start best left after tree es lacks tells stated

pub more_entries : (p : PlainProgramme) (n start first second left after : ℕ) (off_tree on_tree : Option Tree) (off on : List (List Fixing)) → (off_tree ≡ None) ⊎ LacksTree p.on on_tree → Reports p.off start (all_free p.off) first n left off_tree → ReportsOn p.on start second left after on_tree → IsStated p start off on → n < length off + length on
more_entries p n start first second left after off_tree on_tree off on (inl none) by_off by_on stated =
    let short = off_lacks p.off start first n left off_tree off none by_off stated.off_list in
    omega (arith, short)
more_entries p n start first second left after off_tree on_tree off on (inr lacks) by_off by_on stated =
    let rest = rest_left p.off start first n left off_tree off by_off stated.off_list in
    let short = on_lacks p.on start second left after on_tree on lacks by_on stated.on_list in
    omega (arith, rest, short)

-- trees close their sides with a greater best, too
pub closes_side : (s : PlainSide) (start best more left after : ℕ) (tree : Option Tree) → best ≤ more → Reports s start (all_free s) best left after tree → ClosesSide s more tree
closes_side s start best more left after (Some tree) order tells = holds_more s best more (all_free s) (plain_tree tree) order tells.0
closes_side s start best more left after None order tells = tt

pub closes_on : (side : Option PlainSide) (start best more left after : ℕ) (tree : Option Tree) → best ≤ more → ReportsOn side start best left after tree → ClosesOn side more tree
closes_on None start best more left after tree order tells = tt
closes_on (Some s) start best more left after tree order tells = closes_side s start best more left after tree order tells

pub reaches_first : (p : PlainProgramme) (n start first second best left after : ℕ) (off_tree on_tree : Option Tree) (c : PlainChoice) → Searched p n start first second best left after off_tree on_tree → gain p c ≡ pos best → ReachesFirst p n c
reaches_first p n start first second best left after off_tree on_tree c searched gains =
    (best, (start, (gains, searched.is_start, λ off on stated. reaches p n start first second best left after off_tree on_tree off on searched.from searched.off_order searched.on_order searched.by_off searched.by_on stated)))

pub ends_within : (p : PlainProgramme) (n start first second best left after : ℕ) (off_tree on_tree : Option Tree) (c : PlainChoice) → Searched p n start first second best left after off_tree on_tree → gain p c ≡ pos best → (off_tree ≡ None) ⊎ LacksTree p.on on_tree → FailsSome p best → EndsWithin p n c
ends_within p n start first second best left after off_tree on_tree c searched gains lacks fails =
    (best, (start, (gains, searched.is_start, λ off on stated. more_entries p n start first second left after off_tree on_tree off on lacks searched.by_off searched.by_on stated, fails)))

-- the empty choice
pub nothing_from : (p : PlainProgramme) (marks : List Fixing) → marks ≡ all_free p.off → (let c : PlainChoice = record { on = false; take = taken p.off marks } in c ≡ nothing)
nothing_from p marks is =
    let c : List ℕ → PlainChoice = λ take. record { on = false; take = take } in
    ap c (ap (taken p.off) is ∙ nothing_taken p.off)

pub nothing_accepted : (p : PlainProgramme) (marks : List Fixing) → marks ≡ all_free p.off → IsAccepted p record { on = false; take = taken p.off marks } 0
nothing_accepted p marks is =
    subst (λ c. IsAccepted p c 0) (sym (nothing_from p marks is))
    record { feasible = record { numbers = tt; rows = λ row inside. omega arith }; gains = refl }

-- an incumbent that gains something, on its side
off_back : (p : PlainProgramme) (take : List ℕ) (g : ℕ) → gain p record { on = false; take = take } ≡ pos g → 0 < g → taken_gains p.off take ≡ g + p.off.fixed
off_back p [] g gains some = absurd (omega (arith, ints, gains, some))
off_back p (k ∷ ks) g gains some = omega (arith, ints, gains)

on_back : (s : PlainSide) (take : List ℕ) (g : ℕ) → net_gain s take ≡ pos g → taken_gains s take ≡ g + s.fixed
on_back s take g gains = omega (arith, ints, gains)

pub gain_back : (p : PlainProgramme) (on : Bool) (s : PlainSide) (take : List ℕ) (g : ℕ) → side_for p on ≡ Some s → gain p record { on = on; take = take } ≡ pos g → 0 < g → taken_gains s take ≡ g + s.fixed
gain_back p false s take g is gains some =
    subst (λ t. taken_gains t take ≡ g + t.fixed) (same_side p.off s is) (off_back p take g gains some)
gain_back p true s take g is gains some =
    on_back s take g (subst (λ side. gain_on side take ≡ pos g) is gains)

-- levels of a tree from the root
pub root_levels : (s : PlainSide) (tree : Option Tree) → length s.vars ≤ 4000 → HasLevels (suc (count_by is_free (all_free s))) tree → HasLevels most_levels tree
unfolding most_levels
root_levels s None few levels = tt
root_levels s (Some tree) few levels =
    let counted = count_by-le-length is_free (all_free s) in
    let all = length-replicate {A = Fixing} (length s.vars) Free in
    levels_more (suc (count_by is_free (all_free s))) most_levels (plain_tree tree) (omega (arith, counted, all, few)) levels

-- a closed node is within the ranges
pub one_level : (t : PlainTree) → IsTreeInRange 1 t → IsTreeInRange most_levels t
unfolding most_levels
one_level t level = levels_more 1 most_levels t (omega arith) level

pub ascend_wider : (low high wide : ℕ) (ns : List ℕ) → high ≤ wide → AscendWithin low high ns → AscendWithin low wide ns
ascend_wider low high wide [] order all = tt
ascend_wider low high wide (n ∷ ns) order all = (all.0, omega (arith, order, all.1), ascend_wider (suc n) high wide ns order all.2)

pub few_taken : (ns : List ℕ) → AscendWithin 0 4000 ns → length ns < 2 ^ 32
few_taken ns all = let few = count_within 0 4000 ns (omega arith) all in omega (arith, few)

pub match_more : {A B : Type 0} {X : Type 0} (P : X → Type 0) (o : Option X) → (A → B) → MatchOption o A P → MatchOption o B P
match_more P None more holds = more holds
match_more P (Some x) more holds = holds

-- an incumbent that was grown
pub grown_gains : (s : PlainSide) (start marks : List Fixing) (gain gains : ℕ) → Grows s start (length s.vars) marks → taken_gains s (taken s start) ≡ gain + s.fixed → gains ≡ taken_gains s (taken s marks) → gain + s.fixed ≤ gains
grown_gains s start marks gain gains grows sum is =
    let more = gains_grown s start marks (grows_ones s start (length s.vars) marks grows) in
    omega (arith, more, sum, is)

pub grown_incumbent : (p : PlainProgramme) (s : PlainSide) (old more : Incumbent) (gains : ℕ) → side_for p old.on ≡ Some s → more.on ≡ old.on → Grows s old.marks.items (length s.vars) more.marks.items → Fits s (taken s old.marks.items) → taken_gains s (taken s old.marks.items) ≡ old.gain + s.fixed → 0 < old.gain → length s.vars ≤ length old.marks.items → gains ≡ taken_gains s (taken s more.marks.items) → more.gain ≡ gains - s.fixed → IsIncumbent p more
grown_incumbent p s old more gains is same grows fits sum some long are gain_is =
    let enough = grown_gains s old.marks.items more.marks.items old.gain gains grows sum are in
    let all = grows_length s old.marks.items (length s.vars) more.marks.items grows in
    new_incumbent p s more (subst (λ b. side_for p b ≡ Some s) (sym same) is) (grows_fit s old.marks.items (length s.vars) more.marks.items fits grows) (omega (arith, enough, are, gain_is)) (omega (arith, enough, some, gain_is)) (omega (arith, all, long))

pub grown_closed : (p : PlainProgramme) (s : PlainSide) (old more : Incumbent) → side_for p old.on ≡ Some s → more.on ≡ old.on → Grows s old.marks.items (length s.vars) more.marks.items → length s.vars ≤ length old.marks.items → CannotGrow p (choice_of p more)
grown_closed p s old more is same grows long =
    let there : side_for p more.on ≡ Some s = subst (λ b. side_for p b ≡ Some s) (sym same) is in
    subst (λ side. CannotGrow p record { on = more.on; take = takes_on side more.marks.items }) (sym there)
    (grown_cannot p more.on s old.marks.items more.marks.items there long grows)

pub if_ok_more : {X E : Type 0} (P Q : X → Type 0) (r : Result X E) → ((x : X) → P x → Q x) → IfOk r P → IfOk r Q
if_ok_more P Q (Ok x) more holds = more x holds
if_ok_more P Q (Err e) more holds = holds

-- where the greedy choices gain nothing, the empty choice can't be grown
pub start_cannot : (p : PlainProgramme) (start : ℕ) → IsStart p start → start ≡ 0 → CannotGrow p nothing
start_cannot p start is_start none =
    let is_off = is_start.1.1.0.1.1 in
    let greatest = is_start.1.1.2 in
    nothing_cannot p is_start.1.1.0.0 is_start.1.1.0.1.0 (omega (arith, is_off, greatest, none))

-- trees of one node
pub trees_off : (p : PlainProgramme) (best : ℕ) (off : Tree) → IsClosed p.off best (all_free p.off) (plain_tree off) → p.on ≡ None → AreTreesOf p best record { off = off; on = None }
trees_off p best off closes none =
    record {
      off = closes.0;
      on = subst (λ side. ShownBy side best None) (sym none) tt;
      off_levels = one_level (plain_tree off) closes.1;
      on_levels = tt;
    }

pub trees_both : (p : PlainProgramme) (s : PlainSide) (best : ℕ) (off on : Tree) → IsClosed p.off best (all_free p.off) (plain_tree off) → p.on ≡ Some s → IsClosed s best (all_free s) (plain_tree on) → AreTreesOf p best record { off = off; on = Some on }
trees_both p s best off on closes is closes_on =
    record {
      off = closes.0;
      on = subst (λ side. ShownBy side best (Some (plain_tree on))) (sym is) closes_on.0;
      off_levels = one_level (plain_tree off) closes.1;
      on_levels = one_level (plain_tree on) closes_on.1;
    }

pub gain_from_zero : (p : PlainProgramme) (c : PlainChoice) (best : ℕ) → gain p c ≡ pos best → pos 0 ≤ℤ gain p c
gain_from_zero p c best gains = omega (arith, ints, gains)

-- what is answered of trees
on_range : (off : PlainTree) (on : Option Tree) → IsTreeInRange most_levels off → HasLevels most_levels on → AreTreesInRange (Some off) (option_map plain_tree on)
on_range off None levels more = levels
on_range off (Some tree) levels more = (levels, more)

pub range_trees : (p : PlainProgramme) (gain : ℕ) (choice : PlainChoice) (trees : Trees) → AscendWithin 0 4000 choice.take → AreTreesOf p gain trees → IsInRange record { choice = choice; off = Some (plain_tree trees.off); on = option_map plain_tree trees.on }
range_trees p gain choice trees all closes =
    record {
      few = few_taken choice.take all;
      numbers = ascend_wider 0 4000 (2 ^ 32) choice.take (omega arith) all;
      trees = on_range (plain_tree trees.off) trees.on closes.off_levels closes.on_levels;
    }

pub range_none : (choice : PlainChoice) → AscendWithin 0 4000 choice.take → IsInRange record { choice = choice; off = None; on = None }
range_none choice all =
    record { few = few_taken choice.take all; numbers = ascend_wider 0 4000 (2 ^ 32) choice.take (omega arith) all; trees = tt }
