-- What a search that a guide leads finds below a node, from its visit and from the searches of its children.
use Rattle.std.proofs.Common.{◌≡◌, ℕ, suc, ◌+◌, ◌<◌, ◌≤◌, Bool, true, false, List, [], ◌∷◌, length, slice_set, Option, Some, None, is_some, option_map, refl, sym, ap, subst, arith}
use Rattle.std.specs.List.{count_by}
use Rattle.placement_programme.specs.Plain.{PlainSide, PlainProgramme}
use Rattle.placement_programme.specs.Views.{plain_side, plain_programme}
use Rattle.certificate_checker.specs.Nodes.{PlainTree, branch}
use Rattle.certificate_checker.specs.Fixings.{fixing_of, is_free}
use Rattle.certificate_checker.specs.Rules.{BranchHolds}
use Rattle.certificate_checker.specs.declared.fixings.Fixing.{Fixing}
use Rattle.certificate_checker.specs.declared.fixings.Fixing.TheVariants.{Zero, One, Free}
use Rattle.lagrangian_bound.specs.declared.guiding.NodeBound.{NodeBound}
use Rattle.branch_bound.specs.Guided.{Spends, stand, spent, stuck, closed, broken, branched}
use Rattle.branch_bound.specs.Incumbents.{IsSound, GoesOn}
use Rattle.branch_bound.specs.SideStands.{is_side_ended, number_itself, IsOpenedBy, FindsBy, IsOfSideVars, CanStepBack, SideStands, side_ahead}
use Rattle.branch_bound.specs.Trails.{steps_on, nodes_on, place_of, IsBehind}
use Rattle.branch_bound.specs.Visits.{ShownWithin}
use Rattle.branch_bound.specs.declared.open_branches.OpenBranch.{OpenBranch}
use Rattle.branch_bound.specs.declared.side_incumbents.Incumbent.{Incumbent}
use Rattle.branch_bound.specs.declared.side_searching.Task.{Task}
use Rattle.branch_bound.specs.declared.side_stands.Stand.{Stand}
use Rattle.branch_bound.specs.declared.side_stands.Stand.TheVariants.{Before, Behind, Ended}
use Rattle.branch_bound.specs.declared.trails.Trail.{Trail}
use Rattle.certificate_checker.specs.declared.nodes.TreeNode.{TreeNode}
use Rattle.certificate_checker.specs.NodeLists.{PlainNode, nodes_of, node_tree}
use Rattle.certificate_checker.specs.NodeViews.{plain_node}
use Rattle.branch_bound.specs.declared.side_visiting.Visit.TheVariants.{Closed, Stuck}
use Rattle.branch_bound.proofs.Greater.{holds_more}
use Rattle.branch_bound.proofs.Ranges.{one_level}
use Rattle.branch_bound.proofs.TellLemmas.{levels_more, levels_both}
use Rattle.branch_bound.proofs.TrailLemmas.{way_opened}

-- more levels than a tree has
pub shown_levels : (s : PlainSide) (best : ℕ) (marks : List Fixing) (few levels : ℕ) (tree : Option PlainTree) → few ≤ levels → ShownWithin s best marks few tree → ShownWithin s best marks levels tree
shown_levels s best marks few levels None order shown = tt
shown_levels s best marks few levels (Some tree) order shown = (shown.0, levels_more few levels tree order shown.1)

pub some_same : {A B : Type 0} (f : A → B) (o : Option A) → is_some (option_map f o) ≡ is_some o
some_same f None = refl
some_same f (Some x) = refl

-- a guide and the best choice so far
abbrev pub beside : {G : Type 0} → G → Incumbent → G × Incumbent
beside guide best = (guide, best)

-- what the search of a task opens and finds
abbrev pub OpenedIn : {G : Type 0} → (G → PlainSide → List Fixing → ℕ → NodeBound → G → Type 0) → Task → ℕ → List Fixing → G × Incumbent → G × Incumbent → Type 0
OpenedIn answers task = IsOpenedBy answers (plain_programme task.programme.now) task.on (plain_side task.side.now)

abbrev pub FoundIn : {G : Type 0} → (G → PlainSide → List Fixing → ℕ → NodeBound → G → Type 0) → Task → List Fixing → G × Incumbent → G × Incumbent → Option PlainTree → Type 0
FoundIn answers task = FindsBy answers (plain_programme task.programme.now) task.on (plain_side task.side.now)

-- a search that stands behind a node
pub stands_behind : {G : Type 0} (answers : G → PlainSide → List Fixing → ℕ → NodeBound → G → Type 0) (task : Task) (root : List Fixing) (start : G × Incumbent) (trail : Trail) (marks : List Fixing) (now : G × Incumbent) (stand : Stand) → stand ≡ Behind → SideStands answers (plain_programme task.programme.now) task.on (plain_side task.side.now) root start trail marks now stand → IsBehind number_itself (OpenedIn answers task) (FoundIn answers task) root start (steps_on trail) (nodes_on trail) marks now
stands_behind answers task root start trail marks now stand is stands =
    subst (λ (st : Stand). SideStands answers (plain_programme task.programme.now) task.on (plain_side task.side.now) root start trail marks now st) is stands

module _ {G : Type 0} (answers : G → PlainSide → List Fixing → ℕ → NodeBound → G → Type 0) (p : PlainProgramme) (on : Bool) (s : PlainSide) where
  -- no more nodes may be visited
  pub finds_spent : (marks : List Fixing) (now : G × Incumbent) → IsSound p now.1 → now.1.left ≡ 0 → FindsBy answers p on s marks now now None
  finds_spent marks now sound none =
      record { goes_on = record { sound = sound; grows = omega arith; spends = omega arith }; shown = tt; searches = spent none }

  went_on : (old new : G × Incumbent) → IsSound p new.1 → old.1.gain ≤ new.1.gain → old.1.left ≡ suc new.1.left → GoesOn p old.1 new.1
  went_on old new sound grows spends = record { sound = sound; grows = grows; spends = omega (arith, spends) }

  -- a node can neither be closed nor branched on
  pub finds_stuck : (marks : List Fixing) (old new : G × Incumbent) → IsSound p new.1 → Spends answers p on s marks (stand old.0 old.1) Stuck (stand new.0 new.1) → FindsBy answers p on s marks old new None
  finds_stuck marks old new sound visit =
      record { goes_on = went_on old new sound visit.asks.grows visit.spends; shown = tt; searches = stuck visit }

  -- a node is closed
  pub finds_shown : (marks : List Fixing) (old new : G × Incumbent) (node : TreeNode) → IsSound p new.1 → Spends answers p on s marks (stand old.0 old.1) (Closed node) (stand new.0 new.1) → FindsBy answers p on s marks old new (Some (node_tree (plain_node node)))
  finds_shown marks old new node sound visit =
      let shown = visit.asks.visited in
      record {
        goes_on = went_on old new sound visit.asks.grows visit.spends;
        shown = (shown.0, one_level (suc (count_by is_free marks)) (node_tree (plain_node node)) (λ none. omega (arith, none)) shown.1);
        searches = closed visit;
      }

  rule_of : (var : ℕ) (marks : List Fixing) (old new : G × Incumbent) → IsOpenedBy answers p on s var marks old new → BranchHolds s marks var
  rule_of var marks old new opened = opened.spends.asks.visited

  pub opened_by_free : (var : ℕ) (marks : List Fixing) (old new : G × Incumbent) → IsOpenedBy answers p on s var marks old new → fixing_of marks (number_itself var) ≡ Free
  opened_by_free var marks old new opened = (rule_of var marks old new opened).free_there

  pub broken_first : (var : ℕ) (marks : List Fixing) (old middle new : G × Incumbent) → IsOpenedBy answers p on s var marks old middle → FindsBy answers p on s (slice_set marks (number_itself var) One) middle new None → FindsBy answers p on s marks old new None
  broken_first var marks old middle new opened one =
      let spends = opened.spends.spends in
      let grows = opened.spends.asks.grows in
      let later = one.goes_on.grows in
      let fewer = one.goes_on.spends in
      record {
        goes_on = record { sound = one.goes_on.sound; grows = omega (arith, grows, later); spends = omega (arith, spends, fewer) };
        shown = tt;
        searches = broken opened.spends one.searches;
      }

  both_on : (var : ℕ) (marks : List Fixing) (old middle between new : G × Incumbent) (one zero_tree : Option PlainTree) → IsOpenedBy answers p on s var marks old middle → FindsBy answers p on s (slice_set marks var One) middle between one → FindsBy answers p on s (slice_set marks var Zero) between new zero_tree → GoesOn p old.1 new.1
  both_on var marks old middle between new one zero_tree opened by_one by_zero =
      let spends = opened.spends.spends in
      let grows = opened.spends.asks.grows in
      let first = by_one.goes_on.grows in
      let second = by_zero.goes_on.grows in
      let fewer = by_one.goes_on.spends in
      let fewest = by_zero.goes_on.spends in
      record { sound = by_zero.goes_on.sound; grows = omega (arith, grows, first, second); spends = omega (arith, spends, fewer, fewest) }

  pub broken_second : (var : ℕ) (marks : List Fixing) (old middle between new : G × Incumbent) (one : PlainTree) → IsOpenedBy answers p on s var marks old middle → FindsBy answers p on s (slice_set marks (number_itself var) One) middle between (Some one) → FindsBy answers p on s (slice_set marks (number_itself var) Zero) between new None → FindsBy answers p on s marks old new None
  broken_second var marks old middle between new one opened by_one by_zero =
      record {
        goes_on = both_on var marks old middle between new (Some one) None opened by_one by_zero;
        shown = tt;
        searches = branched opened.spends by_one.searches by_zero.searches;
      }

  pub joined_by : length s.vars ≤ 4000 → (var : ℕ) (marks : List Fixing) (old middle between new : G × Incumbent) (one zero_tree : PlainTree) → IsOpenedBy answers p on s var marks old middle → FindsBy answers p on s (slice_set marks (number_itself var) One) middle between (Some one) → FindsBy answers p on s (slice_set marks (number_itself var) Zero) between new (Some zero_tree) → FindsBy answers p on s marks old new (Some (branch (number_itself var) zero_tree one))
  joined_by few var marks old middle between new one zero_tree opened by_one by_zero =
      let rule = rule_of var marks old middle opened in
      let inside = rule.inside in
      record {
        goes_on = both_on var marks old middle between new (Some one) (Some zero_tree) opened by_one by_zero;
        shown = (
          (rule, by_zero.shown.0, holds_more s between.1.gain new.1.gain (slice_set marks var One) one by_zero.goes_on.grows by_one.shown.0),
          levels_both marks var one zero_tree rule.free_there (omega (arith, inside, few)) by_one.shown.1 by_zero.shown.1,
        );
        searches = branched opened.spends by_one.searches by_zero.searches;
      }

  -- the last step can be taken back
  pub can_step_back : (root : List Fixing) (start : G × Incumbent) (steps : List OpenBranch) (nodes : List PlainNode) (marks : List Fixing) (now : G × Incumbent) → IsBehind number_itself (IsOpenedBy answers p on s) (FindsBy answers p on s) root start steps nodes marks now → IsOfSideVars s steps
  can_step_back root start [] nodes marks now behind = tt
  can_step_back root start (last ∷ steps) nodes marks now behind =
      let o = way_opened number_itself (IsOpenedBy answers p on s) (FindsBy answers p on s) root start last steps behind.others marks behind.old behind.way in
      (rule_of (place_of last) o.branch_marks o.old o.middle o.opened).inside

  pub can_go_on : (root : List Fixing) (start : G × Incumbent) (trail : Trail) (marks : List Fixing) (now : G × Incumbent) (stand : Stand) → SideStands answers p on s root start trail marks now stand → CanStepBack s (steps_on trail) stand
  can_go_on root start trail marks now Before before = tt
  can_go_on root start trail marks now Behind behind = can_step_back root start (steps_on trail) (nodes_on trail) marks now behind
  can_go_on root start trail marks now (Ended whole) end = tt

  pub whole_side : (root : List Fixing) (start : G × Incumbent) (trail : Trail) (marks : List Fixing) (now : G × Incumbent) (stand : Stand) → SideStands answers p on s root start trail marks now stand → stand ≡ Ended true → (tree : PlainTree) × (nodes_on trail ≡ nodes_of tree)
  whole_side root start trail marks now stand stands is =
      let whole = subst (λ (st : Stand). SideStands answers p on s root start trail marks now st) is stands in
      (whole.tree, whole.split)

  -- a search that has ended without a tree
  pub ended_side : (root : List Fixing) (start : G × Incumbent) (trail : Trail) (marks : List Fixing) (now : G × Incumbent) (stand : Stand) → is_side_ended stand ≡ true → (stand ≡ Ended true → ⊥) → SideStands answers p on s root start trail marks now stand → FindsBy answers p on s root start now None
  ended_side root start trail marks now Before ended other stands = absurd (let is = ended in cc)
  ended_side root start trail marks now Behind ended other stands = absurd (let is = ended in cc)
  ended_side root start trail marks now (Ended true) ended other stands = absurd (other refl)
  ended_side root start trail marks now (Ended false) ended other stands = stands

-- a step forward uses up what is ahead
pub ended_side_ahead : (best : Incumbent) (old new : Trail) (stand : Stand) → stand ≡ Behind → steps_on new ≡ [] → side_ahead best new (Ended true) < side_ahead best old stand
ended_side_ahead best old new stand is none =
    let short : length (steps_on new) ≡ 0 = ap length none in
    subst (λ st. side_ahead best new (Ended true) < side_ahead best old st) (sym is) (omega (arith, short))

pub less_side_ahead : (best : Incumbent) (old middle new : Trail) (last : OpenBranch) (stand next : Stand) → stand ≡ Behind → steps_on old ≡ last ∷ steps_on middle → side_ahead best new next < side_ahead best middle Behind + 3 → side_ahead best new next < side_ahead best old stand
less_side_ahead best old middle new last stand next is steps less =
    let longer : length (steps_on old) ≡ suc (length (steps_on middle)) = ap length steps in
    subst (λ st. side_ahead best new next < side_ahead best old st) (sym is) (omega (arith, longer, less))
