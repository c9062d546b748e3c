-- What the search of a subtree and what the visit of a node tell.
use Rattle.std.specs.Prelude.{◌≡◌, ℕ, ◌+◌, ◌<◌, ◌≤◌, Bool, List, length, suc, Option, Some, None, IsSomeAnd, option_map}
use Rattle.std.proofs.Common.{take}
use Rattle.std.specs.List.{count_by}
use Rattle.placement_programme.specs.Plain.{PlainSide, PlainProgramme, PlainChoice}
use Rattle.placement_programme.specs.Programme.{side_for, taken_gains, Fits}
use Rattle.certificate_checker.specs.Fixings.{is_free}
use Rattle.certificate_checker.specs.Nodes.{PlainTree}
use Rattle.certificate_checker.specs.NodeLists.{node_tree}
use Rattle.certificate_checker.specs.NodeViews.{plain_node}
use Rattle.certificate_checker.specs.Rules.{Holds}
use Rattle.certificate_checker.specs.Shows.{IsAccepted}
use Rattle.certificate_checker.specs.Spelling.{IsTreeInRange}
use Rattle.certificate_checker.specs.Views.{plain_tree}
use Rattle.certificate_checker.specs.declared.nodes.TreeNode.{TreeNode}
use Rattle.certificate_checker.specs.declared.trees.Tree.{Tree}
use Rattle.branch_bound.specs.Assignments.{taken, FailsEveryLeafRule, IsGreatestFree}
use Rattle.branch_bound.specs.Entries.{StatedFrom, Each, takes_on}
use Rattle.branch_bound.specs.Ranking.{PassedOver, number_at}
use Rattle.branch_bound.specs.Exceeding.{ExceedsOnlyRowsOf}
use Rattle.branch_bound.specs.declared.ranking.Ranked.{Ranked}
use Rattle.branch_bound.specs.declared.incumbents.Incumbent.{Incumbent}
use Rattle.branch_bound.specs.declared.running.Running.{Running}
use Rattle.branch_bound.specs.declared.visiting.Visit.{Visit}
use Rattle.branch_bound.specs.declared.visiting.Visit.TheVariants.{Closed, Open}
use Rattle.certificate_checker.specs.declared.fixings.Fixing.{Fixing}

-- where what an assignment takes fits, it gains at most `best`, the fixed cost taken off
abbrev pub EntryBelow : PlainSide → ℕ → List Fixing → Type 0
EntryBelow s best marks = Fits s (taken s marks) → taken_gains s (taken s marks) ≤ best + s.fixed

-- what an assignment takes fits, and gains at most `best`, the fixed cost taken off
abbrev pub IsTried : PlainSide → ℕ → List Fixing → Type 0
IsTried s best marks = Fits s (taken s marks) × EntryBelow s best marks

-- what is known of an assignment before it is visited: it was tried, or no row is exceeded but those of the variable that
-- was fixed to one last
abbrev pub IsKnown : PlainSide → ℕ → List Fixing → Option ℕ → Type 0
IsKnown s best marks None = IsTried s best marks
IsKnown s best marks (Some j) = (j < length s.vars) × ExceedsOnlyRowsOf s marks j

-- a finished subtree is closed by its tree, and had no more nodes than its stated list has entries; where the budget of
-- `left` nodes ends within it, none of so many entries of its list gains more than `best`, and there are more of them
abbrev pub Tells : PlainSide → ℕ → List Fixing → ℕ → ℕ → ℕ → Option PlainTree → Type 0
Tells s start marks best left after (Some tree) =
    Holds s best marks tree
    × ((entries : List (List Fixing)) → StatedFrom s start marks entries → left ≤ after + length entries)
Tells s start marks best left after None =
    (entries : List (List Fixing)) → StatedFrom s start marks entries → Each (EntryBelow s best) (take left entries) × (left < length entries)

abbrev pub Reports : PlainSide → ℕ → List Fixing → ℕ → ℕ → ℕ → Option Tree → Type 0
Reports s start marks best left after tree = Tells s start marks best left after (option_map plain_tree tree)

-- a tree of one node closes an assignment
abbrev pub IsClosed : PlainSide → ℕ → List Fixing → PlainTree → Type 0
IsClosed s best marks tree = Holds s best marks tree × IsTreeInRange 1 tree

abbrev pub Closes : PlainSide → ℕ → List Fixing → TreeNode → Type 0
Closes s best marks node = IsClosed s best marks (node_tree (plain_node node))

-- a node fails every leaf rule and branches on the variable at a place of the order
pub record Opens (s : PlainSide) (ranking : List Ranked) (best : ℕ) (marks : List Fixing) (place : ℕ) : Type 0 where
  pub inside : place < length ranking
  pub fails : FailsEveryLeafRule s best marks
  pub greatest : IsGreatestFree s marks (number_at ranking place)
  pub passed : PassedOver ranking marks place

-- a node is closed by a tree of one node, or opened
abbrev pub Visits : PlainSide → List Ranked → ℕ → List Fixing → Visit → Type 0
Visits s ranking best marks (Closed node) = Closes s best marks node
Visits s ranking best marks (Open place) = Opens s ranking best marks place

-- a tree's numbers are in their ranges, and it has at most so many levels
abbrev pub AreLevels : ℕ → Option PlainTree → Type 0
AreLevels levels None = Unit {0}
AreLevels levels (Some tree) = IsTreeInRange levels tree

abbrev pub HasLevels : ℕ → Option Tree → Type 0
HasLevels levels tree = AreLevels levels (option_map plain_tree tree)

-- the choice of an incumbent
abbrev pub choice_of : PlainProgramme → Incumbent → PlainChoice
choice_of p best = record { on = best.on; take = takes_on (side_for p best.on) best.marks.items }

-- an incumbent is feasible and gains what it says, and has a mark for each variable of its side
pub record IsIncumbent (p : PlainProgramme) (best : Incumbent) : Type 0 where
  pub accepted : IsAccepted p (choice_of p best) best.gain
  pub marked : IsSomeAnd (side_for p best.on) (λ s. length s.vars ≤ length best.marks.items)

-- a search keeps an incumbent that fits the programmes of which it searches a side
abbrev pub KeepsIncumbent : Bool → PlainSide → Incumbent → Incumbent → Type 0
KeepsIncumbent on s old new =
    (p : PlainProgramme) → side_for p on ≡ Some s → IsIncumbent p old → IsIncumbent p new

-- a node is tried: what its assignment takes gains no more than the incumbent behind it, which gains no less than that
-- before it, and no node is spent
pub record TriesNode (on : Bool) (s : PlainSide) (marks : List Fixing) (old new : Running) : Type 0 where
  pub here : EntryBelow s new.best.gain marks
  pub grows : old.best.gain ≤ new.best.gain
  pub left : new.left ≡ old.left
  pub keeps : KeepsIncumbent on s old.best new.best

-- a node was visited and opened, and branched on at a place of the order
pub record IsOpened (on : Bool) (s : PlainSide) (ranking : List Ranked) (place : ℕ) (marks : List Fixing) (old new : Running) : Type 0 where
  pub opens : Opens s ranking new.best.gain marks place
  pub here : EntryBelow s new.best.gain marks
  pub grows : old.best.gain ≤ new.best.gain
  pub spends : old.left ≡ suc new.left
  pub keeps : KeepsIncumbent on s old.best new.best

-- what the search of a subtree finds: a tree that closes it, or that the budget ends within it
pub record Finds (on : Bool) (s : PlainSide) (marks : List Fixing) (old new : Running) (tree : Option PlainTree) : Type 0 where
  pub grows : old.best.gain ≤ new.best.gain
  pub keeps : KeepsIncumbent on s old.best new.best
  pub levels : AreLevels (suc (count_by is_free marks)) tree
  pub tells : (start : ℕ) → start ≤ old.best.gain → Tells s start marks new.best.gain old.left new.left tree
