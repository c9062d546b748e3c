-- A search forward by one step of its trail.
use Rattle.std.proofs.Common.{◌≡◌, ◌∙◌, ℕ, List, [], ◌∷◌, ◌++◌, append_assoc, slice_set, Option, Some, None, Result, Ok, Err, IfOk, refl, sym, ap, subst}
use Rattle.std.proofs.lemmas.List.{append-nil}
use Rattle.certificate_checker.specs.Nodes.{PlainTree, branch}
use Rattle.certificate_checker.specs.NodeLists.{PlainNode, branch_node, over_node, dual_node, leaf_node, nodes_of, node_tree}
use Rattle.certificate_checker.specs.Spelling.{IsTreeInRange}
use Rattle.certificate_checker.specs.Fixings.{fixing_of}
use Rattle.certificate_checker.specs.declared.fixings.Fixing.{Fixing}
use Rattle.certificate_checker.specs.declared.fixings.Fixing.TheVariants.{Zero, One, Free}
use Rattle.certificate_checker.proofs.Failures.{set_twice}
use Rattle.branch_bound.proofs.MarkLemmas.{back_once}
use Rattle.branch_bound.specs.Trails.{place_of, Way, at_root, in_one, in_zero, IsBehind, IsWhole}
use Rattle.branch_bound.specs.declared.open_branches.OpenBranch.{OpenBranch}
use Rattle.branch_bound.specs.declared.open_branches.OpenBranch.TheVariants.{ToOne, ToZero}

-- a mark that was set twice and freed
freed : (marks now : List Fixing) (j : ℕ) → fixing_of marks j ≡ Free → now ≡ slice_set (slice_set marks j Zero) j Free → now ≡ marks
freed marks now j unfixed is =
    is ∙ back_once marks (slice_set marks j Zero) j Zero Free refl (sym unfixed)

-- a node that closes is a tree of one node
pub closed_nodes : (n : PlainNode) (ns now : List PlainNode) → IsTreeInRange 1 (node_tree n) → now ≡ n ∷ ns → now ≡ nodes_of (node_tree n) ++ ns
closed_nodes (branch_node j) ns now few is = absurd few.1
closed_nodes (over_node row) ns now few is = is
closed_nodes (dual_node scale ms) ns now few is = is
closed_nodes leaf_node ns now few is = is

-- what holds of a result
pub if_ok_more : {X E : Type 0} (P Q : X → Type 0) (r : Result X E) → ((x : X) → P x → Q x) → IfOk r P → IfOk r Q
if_ok_more P Q (Ok x) more holds = more x holds
if_ok_more P Q (Err e) more holds = tt

module _ {R : Type 0} (number : ℕ → ℕ) (Opened : ℕ → List Fixing → R → R → Type 0) (Finds : List Fixing → R → R → Option PlainTree → Type 0) (root : List Fixing) (start : R) where
  -- what was found below a child for zero closes a whole branch
  abbrev pub Joins : Type 0
  Joins = (place : ℕ) (marks : List Fixing) (old middle between new : R) (one zero : PlainTree) → Opened place marks old middle → Finds (slice_set marks (number place) One) middle between (Some one) → Finds (slice_set marks (number place) Zero) between new (Some zero) → Finds marks old new (Some (branch (number place) zero one))

  -- a search that breaks off below a child breaks off below its branch
  abbrev pub BreaksFirst : Type 0
  BreaksFirst = (place : ℕ) (marks : List Fixing) (old middle new : R) → Opened place marks old middle → Finds (slice_set marks (number place) One) middle new None → Finds marks old new None

  abbrev pub BreaksSecond : Type 0
  BreaksSecond = (place : ℕ) (marks : List Fixing) (old middle between new : R) (one : PlainTree) → Opened place marks old middle → Finds (slice_set marks (number place) One) middle between (Some one) → Finds (slice_set marks (number place) Zero) between new None → Finds marks old new None

  pub broken_off : BreaksFirst → BreaksSecond → (steps : List OpenBranch) (nodes : List PlainNode) (marks : List Fixing) (old new : R) → Way number Opened Finds root start steps nodes marks old → Finds marks old new None → Finds root start new None
  broken_off first second steps nodes marks old new at_root finds = finds
  broken_off first second steps nodes marks old new (in_one {steps = os} {nodes = ts} {marks = ms} {old = before} {place = place} way opened) finds =
      broken_off first second os ts ms before new way (first place ms before old new opened finds)
  broken_off first second steps nodes marks old new (in_zero {steps = os} {nodes = ts} {marks = ms} {old = before} {middle = middle} {place = place} {tree = tree} way opened one) finds =
      broken_off first second os ts ms before new way (second place ms before middle old new tree opened one finds)

  -- at the root
  pub begins : (steps : List OpenBranch) (nodes : List PlainNode) → steps ≡ [] → nodes ≡ [] → Way number Opened Finds root start steps nodes root start
  begins steps nodes none nothing =
      subst (λ os. Way number Opened Finds root start os nodes root start) (sym none)
      (subst (λ ts. Way number Opened Finds root start [] ts root start) (sym nothing) at_root)

  -- the same steps and nodes, written so
  pub behind_same : (steps now_steps : List OpenBranch) (nodes now_nodes : List PlainNode) (marks : List Fixing) (new : R) → steps ≡ now_steps → now_nodes ≡ nodes → IsBehind number Opened Finds root start steps nodes marks new → IsBehind number Opened Finds root start now_steps now_nodes marks new
  behind_same steps now_steps nodes now_nodes marks new same_steps same_nodes behind =
      subst (λ ts. IsBehind number Opened Finds root start now_steps ts marks new) (sym same_nodes)
      (subst (λ os. IsBehind number Opened Finds root start os nodes marks new) same_steps behind)

  pub whole_found : (nodes : List PlainNode) (marks : List Fixing) (new : R) → IsBehind number Opened Finds root start [] nodes marks new → IsWhole Finds root start nodes marks new
  whole_found nodes marks new b = at b.others marks b.old b.way b.split b.finds
    where
      at : (others : List PlainNode) (ms : List Fixing) (old : R) → Way number Opened Finds root start [] others ms old → nodes ≡ nodes_of b.tree ++ others → Finds ms old new (Some b.tree) → IsWhole Finds root start nodes ms new
      at others ms old at_root split finds = record { tree = b.tree; split = split ∙ append-nil (nodes_of b.tree); same = refl; finds = finds }

  -- a node is closed
  pub closed_now : (steps now_steps : List OpenBranch) (nodes now_nodes : List PlainNode) (marks : List Fixing) (old new : R) (tree : PlainTree) → now_steps ≡ steps → now_nodes ≡ nodes_of tree ++ nodes → Way number Opened Finds root start steps nodes marks old → Finds marks old new (Some tree) → IsBehind number Opened Finds root start now_steps now_nodes marks new
  closed_now steps now_steps nodes now_nodes marks old new tree same split way finds =
      record {
        tree = tree;
        others = nodes;
        old = old;
        split = split;
        way = subst (λ os. Way number Opened Finds root start os nodes marks old) (sym same) way;
        finds = finds;
      }

  -- a way that is written so
  written : (steps now_steps : List OpenBranch) (nodes now_nodes : List PlainNode) (marks now : List Fixing) (new : R) → now_steps ≡ steps → now_nodes ≡ nodes → now ≡ marks → Way number Opened Finds root start steps nodes marks new → Way number Opened Finds root start now_steps now_nodes now new
  written steps now_steps nodes now_nodes marks now new same_steps same_nodes same way =
      subst (λ os. Way number Opened Finds root start os now_nodes now new) (sym same_steps)
      (subst (λ ts. Way number Opened Finds root start steps ts now new) (sym same_nodes)
      (subst (λ ms. Way number Opened Finds root start steps nodes ms new) (sym same) way))

  -- a node is opened
  pub opened_now : (place : ℕ) (steps now_steps : List OpenBranch) (nodes now_nodes : List PlainNode) (marks now : List Fixing) (old new : R) → now_steps ≡ ToOne place ∷ steps → now_nodes ≡ nodes → now ≡ slice_set marks (number place) One → Way number Opened Finds root start steps nodes marks old → Opened place marks old new → Way number Opened Finds root start now_steps now_nodes now new
  opened_now place steps now_steps nodes now_nodes marks now old new same_steps same_nodes same way opened =
      written (ToOne place ∷ steps) now_steps nodes now_nodes (slice_set marks (number place) One) now new same_steps same_nodes same (in_one way opened)

  -- from the child for one to that for zero
  pub turned : (place : ℕ) (steps now_steps : List OpenBranch) (nodes now_nodes : List PlainNode) (marks now : List Fixing) (new : R) → now_steps ≡ ToZero place ∷ steps → now_nodes ≡ nodes → now ≡ slice_set marks (number place) Zero → IsBehind number Opened Finds root start (ToOne place ∷ steps) nodes marks new → Way number Opened Finds root start now_steps now_nodes now new
  turned place steps now_steps nodes now_nodes marks now new same_steps same_nodes is b = at b.others marks b.old b.way b.split b.finds is
    where
      at : (others : List PlainNode) (ms : List Fixing) (old : R) → Way number Opened Finds root start (ToOne place ∷ steps) others ms old → nodes ≡ nodes_of b.tree ++ others → Finds ms old new (Some b.tree) → now ≡ slice_set ms (number place) Zero → Way number Opened Finds root start now_steps now_nodes now new
      at others ms old (in_one {marks = before} way opened) split finds now_is =
          written (ToZero place ∷ steps) now_steps (nodes_of b.tree ++ others) now_nodes (slice_set before (number place) Zero) now new same_steps (same_nodes ∙ split) (now_is ∙ set_twice before (number place) One Zero) (in_zero way opened finds)

  -- what is known of a branch whose child for one is closed
  pub record Turning (place : ℕ) (marks : List Fixing) (new : R) : Type 0 where
    pub branch_marks : List Fixing
    pub old : R
    pub middle : R
    pub tree : PlainTree
    pub opened : Opened place branch_marks old middle
    pub finds : Finds (slice_set branch_marks (number place) One) middle new (Some tree)
    pub same : marks ≡ slice_set branch_marks (number place) One

  pub turning : (place : ℕ) (steps : List OpenBranch) (nodes : List PlainNode) (marks : List Fixing) (new : R) → IsBehind number Opened Finds root start (ToOne place ∷ steps) nodes marks new → Turning place marks new
  turning place steps nodes marks new b = at b.others marks b.old b.way b.finds
    where
      at : (others : List PlainNode) (ms : List Fixing) (old : R) → Way number Opened Finds root start (ToOne place ∷ steps) others ms old → Finds ms old new (Some b.tree) → Turning place ms new
      at others ms old (in_one {marks = before} {old = first} way opened) finds =
          record { branch_marks = before; old = first; middle = old; tree = b.tree; opened = opened; finds = finds; same = refl }

  -- from the child for zero to the branch
  pub joined : Joins → ((place : ℕ) (marks : List Fixing) (old new : R) → Opened place marks old new → fixing_of marks (number place) ≡ Free) → (place : ℕ) (steps now_steps : List OpenBranch) (nodes later : List PlainNode) (marks now : List Fixing) (new : R) → now_steps ≡ steps → now ≡ slice_set marks (number place) Free → later ≡ branch_node (number place) ∷ nodes → IsBehind number Opened Finds root start (ToZero place ∷ steps) nodes marks new → IsBehind number Opened Finds root start now_steps later now new
  joined joins unfixed place steps now_steps nodes later marks now new same_steps is later_is b = at b.others marks b.old b.way b.split b.finds is
    where
      at : (others : List PlainNode) (ms : List Fixing) (old : R) → Way number Opened Finds root start (ToZero place ∷ steps) others ms old → nodes ≡ nodes_of b.tree ++ others → Finds ms old new (Some b.tree) → now ≡ slice_set ms (number place) Free → IsBehind number Opened Finds root start now_steps later now new
      at others ms old (in_zero {nodes = ts} {marks = before} {old = first} {middle = middle} {tree = one} way opened finds_one) split finds now_is =
          let back = freed before now (number place) (unfixed place before first middle opened) now_is in
          record {
            tree = branch (number place) b.tree one;
            others = ts;
            old = first;
            split = later_is ∙ (ap (λ ns. branch_node (number place) ∷ ns) split ∙ ap (λ ns. branch_node (number place) ∷ ns) (sym (append_assoc (nodes_of b.tree) (nodes_of one) ts)));
            way = written steps now_steps ts ts before now first same_steps refl back way;
            finds = subst (λ m. Finds m first new (Some (branch (number place) b.tree one))) (sym back) (joins place before first middle old new one b.tree opened finds_one finds);
          }

  -- what is known of the last step
  pub record Opening (place : ℕ) : Type 0 where
    pub branch_marks : List Fixing
    pub old : R
    pub middle : R
    pub opened : Opened place branch_marks old middle

  pub way_opened : (step : OpenBranch) (steps : List OpenBranch) (nodes : List PlainNode) (marks : List Fixing) (new : R) → Way number Opened Finds root start (step ∷ steps) nodes marks new → Opening (place_of step)
  way_opened (ToOne place) steps nodes marks new (in_one {marks = before} {old = first} way opened) =
      record { branch_marks = before; old = first; middle = new; opened = opened }
  way_opened (ToZero place) steps nodes marks new (in_zero {marks = before} {old = first} {middle = middle} way opened one) =
      record { branch_marks = before; old = first; middle = middle; opened = opened }
