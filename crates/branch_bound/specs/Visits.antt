-- What a visit of a node and a search below it find.
use Rattle.std.specs.Prelude.{ℕ, List, Option, Some, None, option_map}
use Rattle.placement_programme.specs.Plain.{PlainSide}
use Rattle.certificate_checker.specs.Nodes.{PlainTree}
use Rattle.certificate_checker.specs.NodeLists.{node_tree}
use Rattle.certificate_checker.specs.NodeViews.{plain_node}
use Rattle.certificate_checker.specs.Rules.{BranchHolds, Holds}
use Rattle.certificate_checker.specs.Shows.{ShownBy}
use Rattle.certificate_checker.specs.Reading.{most_levels}
use Rattle.certificate_checker.specs.Spelling.{IsTreeInRange}
use Rattle.certificate_checker.specs.Views.{plain_tree}
use Rattle.certificate_checker.specs.declared.fixings.Fixing.{Fixing}
use Rattle.certificate_checker.specs.declared.nodes.TreeNode.{TreeNode}
use Rattle.certificate_checker.specs.declared.trees.Tree.{Tree}
use Rattle.branch_bound.specs.declared.side_visiting.OnSide.{OnSide}
use Rattle.branch_bound.specs.declared.side_visiting.OnSide.TheVariants.{Absent, Shown, Unfinished}
use Rattle.branch_bound.specs.declared.side_visiting.Visit.{Visit}
use Rattle.branch_bound.specs.declared.side_visiting.Visit.TheVariants.{Closed, Open, Stuck}

-- a tree that is found shows that nothing below these marks gains more, and is within the ranges of a certificate's text,
-- with at most so many levels
abbrev pub ShownWithin : PlainSide → ℕ → List Fixing → ℕ → Option PlainTree → Type 0
ShownWithin s best marks levels None = Unit {0}
ShownWithin s best marks levels (Some tree) = Holds s best marks tree × IsTreeInRange levels tree

abbrev pub ShownBelow : PlainSide → ℕ → List Fixing → ℕ → Option Tree → Type 0
ShownBelow s best marks levels tree = ShownWithin s best marks levels (option_map plain_tree tree)

-- the same of a node that is found
abbrev pub ShownHere : PlainSide → ℕ → List Fixing → Option TreeNode → Type 0
ShownHere s best marks node = ShownWithin s best marks 1 (option_map (λ n. node_tree (plain_node n)) node)

-- a node is closed by a tree that holds, or may be branched on
abbrev pub IsVisited : PlainSide → ℕ → List Fixing → Visit → Type 0
IsVisited s best marks (Closed node) = ShownHere s best marks (Some node)
IsVisited s best marks (Open var) = BranchHolds s marks var
IsVisited s best marks Stuck = Unit {0}

-- what is found of the side with overlay is what a certificate has to say of it
abbrev pub ShownOn : Option PlainSide → ℕ → OnSide → Type 0
ShownOn side best Absent = ShownBy side best None
ShownOn side best (Shown tree) =
    ShownBy side best (Some (plain_tree tree)) × IsTreeInRange most_levels (plain_tree tree)
ShownOn side best Unfinished = Unit {0}
