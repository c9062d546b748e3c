-- Trees and certificates as plain lists and numbers.
use Rattle.std.specs.Prelude.{ℕ, ◌+◌, List, Option}
use Rattle.placement_programme.specs.Plain.{PlainChoice}

pub data PlainTree : Type 0 where
  branch : (var : ℕ) (zero_tree one_tree : PlainTree) → PlainTree
  over : (row : ℕ) → PlainTree
  dual : (scale : ℕ) (multipliers : List (ℕ × ℕ)) → PlainTree
  leaf : PlainTree

-- a choice and the trees that show that none is better
pub record PlainCertificate : Type 0 where
  pub choice : PlainChoice
  pub off : Option PlainTree
  pub on : Option PlainTree

-- how many nodes a tree has
abbrev pub size : PlainTree → ℕ
size (branch j l r) = 1 + size l + size r
size (over row) = 1
size (dual scale ms) = 1
size leaf = 1
