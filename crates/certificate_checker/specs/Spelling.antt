-- The text of a certificate, and which certificates have one that is read.
use Rattle.std.specs.Prelude.{◌≡◌, ℕ, zero, suc, ◌^◌, ◌<◌, ◌≤◌, Bool, true, false, List, [], ◌∷◌, ◌++◌, length, slice_index, Option, Some, None}
use Rattle.std.specs.List.{All, flat_map}
use Rattle.placement_programme.specs.Plain.{PlainChoice}
use Rattle.placement_programme.specs.Bounds.{AscendWithin, RowsWithin, row_of, value_of}
use Rattle.certificate_checker.specs.Nodes.{PlainTree, branch, over, dual, leaf, PlainCertificate}
use Rattle.certificate_checker.specs.NodeLists.{PlainNode, branch_node, over_node, dual_node, leaf_node}
use Rattle.certificate_checker.specs.Digits.{number_of}
use Rattle.certificate_checker.specs.Reading.{most_levels}

abbrev pub entry_text : ℕ × ℕ → List ℕ
entry_text m = number_of (row_of m) ++ number_of (value_of m)

-- a tag, the numbers, and the children, zero before one
abbrev pub tree_text : PlainTree → List ℕ
tree_text (branch j l r) = 0 ∷ (number_of j ++ (tree_text l ++ tree_text r))
tree_text (over row) = 1 ∷ number_of row
tree_text (dual scale ms) = 2 ∷ (number_of scale ++ (number_of (length ms) ++ flat_map entry_text ms))
tree_text leaf = 3 ∷ []

-- a node's tag and numbers
abbrev pub node_text : PlainNode → List ℕ
node_text (branch_node j) = 0 ∷ number_of j
node_text (over_node row) = 1 ∷ number_of row
node_text (dual_node scale ms) = 2 ∷ (number_of scale ++ (number_of (length ms) ++ flat_map entry_text ms))
node_text leaf_node = 3 ∷ []

abbrev pub flag_text : Bool → ℕ
flag_text false = 0
flag_text true = 1

-- the side, the count of taken variables and their numbers
abbrev pub choice_text : PlainChoice → List ℕ
choice_text c = flag_text c.on ∷ (number_of (length c.take) ++ flat_map number_of c.take)

-- the count of trees and the trees, where there is one
abbrev pub trees_text : Option PlainTree → Option PlainTree → List ℕ
trees_text None on = []
trees_text (Some l) None = number_of 1 ++ tree_text l
trees_text (Some l) (Some r) = number_of 2 ++ (tree_text l ++ tree_text r)

-- whether there is a tree
abbrev pub has_tree : Option PlainTree → Bool
has_tree None = false
has_tree (Some t) = true

-- the mark, whether there are trees, the choice and the trees
abbrev pub body_text : PlainCertificate → List ℕ
body_text c = flag_text (has_tree c.off) ∷ (choice_text c.choice ++ trees_text c.off c.on)

abbrev pub text_of : PlainCertificate → List ℕ
text_of c = 0x53 ∷ 0x50 ∷ 0x43 ∷ 0x31 ∷ body_text c

pub record IsDualInRange (scale : ℕ) (ms : List (ℕ × ℕ)) : Type 0 where
  pub least : 1 ≤ scale
  pub most : scale ≤ 65536
  pub few : length ms < 2 ^ 32
  pub rows : RowsWithin 0 (2 ^ 32) ms
  pub small : All (λ m. value_of m < 2 ^ 64) ms

-- a tree of at most so many levels, with its numbers in their ranges
abbrev pub IsTreeInRange : ℕ → PlainTree → Type 0
IsTreeInRange zero t = ⊥
IsTreeInRange (suc levels) (branch j l r) = (j < 2 ^ 32) × IsTreeInRange levels l × IsTreeInRange levels r
IsTreeInRange (suc levels) (over row) = row < 2 ^ 32
IsTreeInRange (suc levels) (dual scale ms) = IsDualInRange scale ms
IsTreeInRange (suc levels) leaf = Unit {0}

abbrev pub AreTreesInRange : Option PlainTree → Option PlainTree → Type 0
AreTreesInRange None None = Unit {0}
AreTreesInRange None (Some r) = ⊥
AreTreesInRange (Some l) None = IsTreeInRange most_levels l
AreTreesInRange (Some l) (Some r) = IsTreeInRange most_levels l × IsTreeInRange most_levels r

-- a certificate within its ranges
pub record IsInRange (c : PlainCertificate) : Type 0 where
  pub few : length c.choice.take < 2 ^ 32
  pub numbers : AscendWithin 0 (2 ^ 32) c.choice.take
  pub trees : AreTreesInRange c.off c.on

-- the bytes are a certificate's text
pub record Spells (bytes : List ℕ) (c : PlainCertificate) : Type 0 where
  pub in_range : IsInRange c
  pub text : bytes ≡ text_of c

-- all are bytes
abbrev pub AreBytes : List ℕ → Type 0
AreBytes bytes = (i : ℕ) → slice_index bytes i < 256
