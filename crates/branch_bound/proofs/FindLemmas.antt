-- What the search of the stated list finds below a node, from its visit and from the searches of its children.
use Rattle.std.proofs.Common.{◌≡◌, ◌∙◌, ℕ, suc, ◌+◌, ◌<◌, ◌≤◌, Bool, true, false, List, [], ◌∷◌, length, take, slice_set, Option, Some, None, sym, ap, subst, refl, arith}
use Rattle.std.specs.List.{count_by}
use Rattle.placement_programme.specs.Plain.{PlainSide}
use Rattle.placement_programme.specs.Views.{plain_side}
use Rattle.certificate_checker.specs.Nodes.{PlainTree, branch}
use Rattle.certificate_checker.specs.NodeLists.{PlainNode, nodes_of}
use Rattle.certificate_checker.specs.Fixings.{fixing_of, is_free}
use Rattle.certificate_checker.specs.Rules.{Holds}
use Rattle.certificate_checker.specs.Spelling.{IsTreeInRange}
use Rattle.certificate_checker.specs.declared.fixings.Fixing.{Fixing}
use Rattle.certificate_checker.specs.declared.fixings.Fixing.TheVariants.{Zero, One, Free}
use Rattle.certificate_checker.proofs.Children.{free_inside, zero_not_free}
use Rattle.branch_bound.specs.Entries.{StatedFrom, alone, split, Each}
use Rattle.branch_bound.specs.Ranking.{PassedOver, number_at}
use Rattle.branch_bound.specs.Searching.{EntryBelow, IsTried, KeepsIncumbent, Opens, IsOpened, Finds}
use Rattle.branch_bound.specs.Stands.{is_ended, CanVisit, CanLeave, CanAdvance, Stands, ahead}
use Rattle.branch_bound.specs.Exceeding.{ExceedsOnlyRowsOf}
use Rattle.branch_bound.specs.Trails.{steps_on, nodes_on, IsBehind}
use Rattle.branch_bound.specs.declared.open_branches.OpenBranch.{OpenBranch}
use Rattle.branch_bound.specs.declared.open_branches.OpenBranch.TheVariants.{ToOne}
use Rattle.branch_bound.specs.declared.ranking.Ranked.{Ranked}
use Rattle.branch_bound.specs.declared.running.Running.{Running}
use Rattle.branch_bound.specs.declared.searching.Task.{Task}
use Rattle.branch_bound.specs.declared.stands.Next.{Next}
use Rattle.branch_bound.specs.declared.stands.Stand.{Stand}
use Rattle.branch_bound.specs.declared.stands.Stand.TheVariants.{Before, Behind, Ended}
use Rattle.branch_bound.specs.declared.trails.Trail.{Trail}
use Rattle.branch_bound.proofs.ListLemmas.{one_not_free}
use Rattle.branch_bound.proofs.Ranges.{one_level}
use Rattle.branch_bound.proofs.RankingLemmas.{passed_more}
use Rattle.branch_bound.proofs.ExceedLemmas.{one_exceeds}
use Rattle.branch_bound.proofs.TellLemmas.{Branches, Children, tells_first, tells_second, tells_both, levels_both}
use Rattle.branch_bound.proofs.TrailLemmas.{turning, way_opened}
use Rattle.branch_bound.proofs.VisitLemmas.{within_fits, zero_marks, zero_tried}

-- a stated list has its first entry
some_entry : (s : PlainSide) (start : ℕ) (marks : List Fixing) (es : List (List Fixing)) → StatedFrom s start marks es → 1 ≤ length es
some_entry s start marks es (alone none) = omega arith
some_entry s start marks es (split splits greatest by_one by_zero) = omega arith

-- the budget ends before a node
pub finds_none : (on : Bool) (s : PlainSide) (marks : List Fixing) (run : Running) → run.left ≡ 0 → Finds on s marks run run None
finds_none on s marks run out =
    record {
      grows = omega arith;
      keeps = λ p is best. best;
      levels = tt;
      tells = λ start order entries stated.
          let some = some_entry s start marks entries stated in
          subst (λ n. Each (EntryBelow s run.best.gain) (take n entries) × (n < length entries)) (sym out) (tt, omega (arith, some));
    }

-- a node is closed
pub finds_closed : (on : Bool) (s : PlainSide) (marks : List Fixing) (old new : Running) (tree : PlainTree) → Holds s new.best.gain marks tree → IsTreeInRange 1 tree → old.left ≡ suc new.left → old.best.gain ≤ new.best.gain → KeepsIncumbent on s old.best new.best → Finds on s marks old new (Some tree)
finds_closed on s marks old new tree holds one_node spends grows keeps =
    record {
      grows = grows;
      keeps = keeps;
      levels = one_level (suc (count_by is_free marks)) tree (λ none. omega (arith, none)) one_node;
      tells = λ start order. (
        holds,
        λ entries stated. let some = some_entry s start marks entries stated in omega (arith, some, spends),
      );
    }

module _ (on : Bool) (s : PlainSide) (ranking : List Ranked) where
  branches_of : (start place : ℕ) (marks : List Fixing) (old new : Running) → start ≤ old.best.gain → IsOpened on s ranking place marks old new → Branches s start marks (number_at ranking place) new.best.gain
  branches_of start place marks old new order opened =
      let grows = opened.grows in
      record { from_start = omega (arith, order, grows); fails = opened.opens.fails; greatest = opened.opens.greatest; here = opened.here }

  -- the variable is free that a branch fixes
  pub opened_free : (place : ℕ) (marks : List Fixing) (old new : Running) → IsOpened on s ranking place marks old new → fixing_of marks (number_at ranking place) ≡ Free
  opened_free place marks old new opened = opened.opens.greatest.holds

  pub breaks_first : (place : ℕ) (marks : List Fixing) (old middle new : Running) → IsOpened on s ranking place marks old middle → Finds on s (slice_set marks (number_at ranking place) One) middle new None → Finds on s marks old new None
  breaks_first place marks old middle new opened one =
      let first = opened.grows in
      let second = one.grows in
      record {
        grows = omega (arith, first, second);
        keeps = λ p is best. one.keeps p is (opened.keeps p is best);
        levels = tt;
        tells = λ start order.
            tells_first s start marks (number_at ranking place) middle.best.gain new.best.gain old.left middle.left new.left (branches_of start place marks old middle order opened) one.grows opened.spends (one.tells start (omega (arith, order, first)));
      }

  children : (start place : ℕ) (marks : List Fixing) (old middle between new : Running) (one zero_tree : Option PlainTree) → start ≤ old.best.gain → IsOpened on s ranking place marks old middle → Finds on s (slice_set marks (number_at ranking place) One) middle between one → Finds on s (slice_set marks (number_at ranking place) Zero) between new zero_tree → Children s start marks (number_at ranking place) middle.best.gain between.best.gain new.best.gain old.left middle.left between.left new.left one zero_tree
  children start place marks old middle between new one zero_tree order opened by_one by_zero =
      let first = opened.grows in
      let second = by_one.grows in
      record {
        branches = branches_of start place marks old middle order opened;
        grows = by_one.grows;
        grows_on = by_zero.grows;
        used = opened.spends;
        by_one = by_one.tells start (omega (arith, order, first));
        by_zero = by_zero.tells start (omega (arith, order, first, second));
      }

  grown : (place : ℕ) (marks : List Fixing) (old middle between new : Running) (one zero_tree : Option PlainTree) → IsOpened on s ranking place marks old middle → Finds on s (slice_set marks (number_at ranking place) One) middle between one → Finds on s (slice_set marks (number_at ranking place) Zero) between new zero_tree → old.best.gain ≤ new.best.gain
  grown place marks old middle between new one zero_tree opened by_one by_zero =
      let first = opened.grows in
      let second = by_one.grows in
      let third = by_zero.grows in
      omega (arith, first, second, third)

  pub breaks_second : (place : ℕ) (marks : List Fixing) (old middle between new : Running) (one : PlainTree) → IsOpened on s ranking place marks old middle → Finds on s (slice_set marks (number_at ranking place) One) middle between (Some one) → Finds on s (slice_set marks (number_at ranking place) Zero) between new None → Finds on s marks old new None
  breaks_second place marks old middle between new one opened by_one by_zero =
      record {
        grows = grown place marks old middle between new (Some one) None opened by_one by_zero;
        keeps = λ p is best. by_zero.keeps p is (by_one.keeps p is (opened.keeps p is best));
        levels = tt;
        tells = λ start order.
            tells_second s start marks (number_at ranking place) middle.best.gain between.best.gain new.best.gain old.left middle.left between.left new.left one
            (children start place marks old middle between new (Some one) None order opened by_one by_zero);
      }

  pub joins : length s.vars ≤ 4000 → (place : ℕ) (marks : List Fixing) (old middle between new : Running) (one zero_tree : PlainTree) → IsOpened on s ranking place marks old middle → Finds on s (slice_set marks (number_at ranking place) One) middle between (Some one) → Finds on s (slice_set marks (number_at ranking place) Zero) between new (Some zero_tree) → Finds on s marks old new (Some (branch (number_at ranking place) zero_tree one))
  joins few place marks old middle between new one zero_tree opened by_one by_zero =
      let inside = opened.opens.greatest.inside in
      record {
        grows = grown place marks old middle between new (Some one) (Some zero_tree) opened by_one by_zero;
        keeps = λ p is best. by_zero.keeps p is (by_one.keeps p is (opened.keeps p is best));
        levels = levels_both marks (number_at ranking place) one zero_tree opened.opens.greatest.holds (omega (arith, inside, few)) by_one.levels by_zero.levels;
        tells = λ start order.
            tells_both s start marks (number_at ranking place) middle.best.gain between.best.gain new.best.gain old.left middle.left between.left new.left one zero_tree
            (children start place marks old middle between new (Some one) (Some zero_tree) order opened by_one by_zero);
      }

  -- a variable of the order is passed over once it is fixed
  passed_on : (best : ℕ) (marks now : List Fixing) (place : ℕ) (f : Fixing) → Opens s ranking best marks place → (f ≡ Free → ⊥) → now ≡ slice_set marks (number_at ranking place) f → PassedOver ranking now (place + 1)
  passed_on best marks now place f opens fixed is =
      subst (λ ms. PassedOver ranking ms (place + 1)) (sym is)
      (passed_more ranking marks place f (free_inside marks (number_at ranking place) opens.greatest.holds) fixed opens.passed)

  -- the child that fixes it to one may exceed its rows
  pub raised_visit : (best : ℕ) (marks now : List Fixing) (place : ℕ) (next : Next) → length s.vars ≤ length marks → Opens s ranking best marks place → now ≡ slice_set marks (number_at ranking place) One → next ≡ record { place = place + 1; raised = Some (number_at ranking place) } → CanVisit s ranking now best next
  raised_visit best marks now place next marked opens is next_is =
      subst (λ n. CanVisit s ranking now best n) (sym next_is)
      record {
        passed = passed_on best marks now place One opens one_not_free is;
        known = (
          opens.greatest.inside,
          subst (λ ms. ExceedsOnlyRowsOf s ms (number_at ranking place)) (sym is)
              (one_exceeds s marks (number_at ranking place) opens.greatest.inside marked (within_fits s marks opens.fails.within)),
        );
      }

  -- the child that fixes it to zero takes what its parent takes
  pub lowered_visit : (root : List Fixing) (start : Running) (place : ℕ) (steps : List OpenBranch) (nodes : List PlainNode) (marks now : List Fixing) (run : Running) (next : Next) → now ≡ slice_set marks (number_at ranking place) Zero → next ≡ record { place = place + 1; raised = None } → IsBehind (number_at ranking) (IsOpened on s ranking) (Finds on s) root start (ToOne place ∷ steps) nodes marks run → CanVisit s ranking now run.best.gain next
  lowered_visit root start place steps nodes marks now run next is next_is behind =
      let t = turning (number_at ranking) (IsOpened on s ranking) (Finds on s) root start place steps nodes marks run behind in
      let lowered : now ≡ slice_set t.branch_marks (number_at ranking place) Zero = is ∙ zero_marks t.branch_marks marks (number_at ranking place) t.same in
      let tried : IsTried s run.best.gain now = zero_tried s t.middle.best.gain run.best.gain t.branch_marks now (number_at ranking place) t.opened.opens.fails t.opened.here t.finds.grows t.opened.opens.greatest.holds lowered in
      subst (λ n. CanVisit s ranking now run.best.gain n) (sym next_is)
      record { passed = passed_on t.middle.best.gain t.branch_marks now place Zero t.opened.opens zero_not_free lowered; known = tried }

  -- the last step can be taken back
  pub can_leave : (root : List Fixing) (start : Running) (steps : List OpenBranch) (nodes : List PlainNode) (marks : List Fixing) (run : Running) → IsBehind (number_at ranking) (IsOpened on s ranking) (Finds on s) root start steps nodes marks run → CanLeave ranking steps
  can_leave root start [] nodes marks run behind = tt
  can_leave root start (last ∷ steps) nodes marks run behind =
      (way_opened (number_at ranking) (IsOpened on s ranking) (Finds on s) root start last steps behind.others marks behind.old behind.way).opened.opens.inside

  pub can_advance : (root : List Fixing) (start : Running) (trail : Trail) (marks : List Fixing) (run : Running) (stand : Stand) → Stands on s ranking root start trail marks run stand → CanAdvance s ranking (steps_on trail) marks run.best.gain stand
  can_advance root start trail marks run (Before next) before = before.visit
  can_advance root start trail marks run Behind behind = can_leave root start (steps_on trail) (nodes_on trail) marks run behind
  can_advance root start trail marks run (Ended whole) end = tt

  pub whole_nodes : (root : List Fixing) (start : Running) (trail : Trail) (marks : List Fixing) (run : Running) (stand : Stand) → Stands on s ranking root start trail marks run stand → stand ≡ Ended true → (tree : PlainTree) × (nodes_on trail ≡ nodes_of tree)
  whole_nodes root start trail marks run stand stands is =
      let whole = subst (λ (st : Stand). Stands on s ranking root start trail marks run st) is stands in
      (whole.tree, whole.split)

  -- a search that has ended without a tree
  pub ended_without : (root : List Fixing) (start : Running) (trail : Trail) (marks : List Fixing) (run : Running) (stand : Stand) → is_ended stand ≡ true → (stand ≡ Ended true → ⊥) → Stands on s ranking root start trail marks run stand → Finds on s root start run None
  ended_without root start trail marks run (Before next) ended other stands = absurd (let is = ended in cc)
  ended_without root start trail marks run Behind ended other stands = absurd (let is = ended in cc)
  ended_without root start trail marks run (Ended true) ended other stands = absurd (other refl)
  ended_without root start trail marks run (Ended false) ended other stands = stands

-- what the search of a task opens and finds
abbrev pub OpenedIn : Task → ℕ → List Fixing → Running → Running → Type 0
OpenedIn task = IsOpened task.on (plain_side task.side.now) task.ranking.now

abbrev pub FoundIn : Task → List Fixing → Running → Running → Option PlainTree → Type 0
FoundIn task = Finds task.on (plain_side task.side.now)

-- a search that stands behind a node
pub stands_behind : (task : Task) (root : List Fixing) (start : Running) (trail : Trail) (marks : List Fixing) (run : Running) (stand : Stand) → stand ≡ Behind → Stands task.on (plain_side task.side.now) task.ranking.now root start trail marks run stand → IsBehind (number_at task.ranking.now) (OpenedIn task) (FoundIn task) root start (steps_on trail) (nodes_on trail) marks run
stands_behind task root start trail marks run stand is stands =
    subst (λ (st : Stand). Stands task.on (plain_side task.side.now) task.ranking.now root start trail marks run st) is stands

-- a step forward uses up what is ahead
pub ended_ahead : (run : Running) (old new : Trail) (stand : Stand) → stand ≡ Behind → steps_on new ≡ [] → ahead run new (Ended true) < ahead run old stand
ended_ahead run old new stand is none =
    let short : length (steps_on new) ≡ 0 = ap length none in
    subst (λ st. ahead run new (Ended true) < ahead run old st) (sym is) (omega (arith, short))

pub less_ahead : (run : Running) (old middle new : Trail) (last : OpenBranch) (stand next : Stand) → stand ≡ Behind → steps_on old ≡ last ∷ steps_on middle → ahead run new next < ahead run middle Behind + 3 → ahead run new next < ahead run old stand
less_ahead run old middle new last stand next is steps less =
    let longer : length (steps_on old) ≡ suc (length (steps_on middle)) = ap length steps in
    subst (λ st. ahead run new next < ahead run old st) (sym is) (omega (arith, longer, less))
