-- When a node of a tree holds, and which one fails first.
--
-- A dual node bounds the gain by multipliers of the rows: no choice that fits gains more than the multiplied capacities
-- and what a variable's gain has above its multiplied weights. Both sides of its rule are sums of natural numbers: what
-- is taken off for a variable fixed to one stands on the other side.
use Rattle.std.specs.Prelude.{◌≡◌, ◌⊎◌, ℕ, suc, ◌+◌, ◌-◌, ◌*◌, ◌<◌, ◌≤◌, List, length, slice_index, slice_set}
use Rattle.std.specs.List.{sum_by}
use Rattle.placement_programme.specs.Plain.{PlainSide}
use Rattle.placement_programme.specs.Bounds.{RowsWithin, row_of, value_of}
use Rattle.placement_programme.specs.Programme.{gain_at, weight_at}
use Rattle.placement_programme.specs.Sums.{sum_below}
use Rattle.certificate_checker.specs.Nodes.{PlainTree, branch, over, dual, leaf, size}
use Rattle.certificate_checker.specs.Fixings.{fixing_of}
use Rattle.certificate_checker.specs.declared.fixings.Fixing.{Fixing}
use Rattle.certificate_checker.specs.declared.fixings.Fixing.TheVariants.{Zero, One, Free}

-- a variable's weights, each times the multiplier of its row
abbrev pub price : PlainSide → List (ℕ × ℕ) → ℕ → ℕ
price s ms j = sum_by (λ m. value_of m * weight_at s.vars (row_of m) j) ms

-- the capacities, each times the multiplier of its row
abbrev pub bound : PlainSide → List (ℕ × ℕ) → ℕ
bound s ms = sum_by (λ m. value_of m * slice_index s.rows (row_of m)) ms

-- what a variable adds to the left side, by its scaled gain and its price: a free one what is left of the gain
abbrev pub kept : Fixing → ℕ → ℕ → ℕ
kept Zero gain price = 0
kept One gain price = gain
kept Free gain price = gain - price

-- and to the right side
abbrev pub moved : Fixing → ℕ → ℕ
moved Zero price = 0
moved One price = price
moved Free price = 0

abbrev pub kept_at : PlainSide → List Fixing → ℕ → List (ℕ × ℕ) → ℕ → ℕ
kept_at s marks scale ms j = kept (fixing_of marks j) (scale * gain_at s.vars j) (price s ms j)

abbrev pub moved_at : PlainSide → List Fixing → List (ℕ × ℕ) → ℕ → ℕ
moved_at s marks ms j = moved (fixing_of marks j) (price s ms j)

-- a number where the variable is fixed to one
abbrev pub if_one : Fixing → ℕ → ℕ
if_one Zero n = 0
if_one One n = n
if_one Free n = 0

-- multipliers show that nothing gains more than `best`
pub record DualHolds (s : PlainSide) (best : ℕ) (marks : List Fixing) (scale : ℕ) (ms : List (ℕ × ℕ)) : Type 0 where
  pub least : 1 ≤ scale
  pub most : scale ≤ 65536
  pub rows : RowsWithin 0 (length s.rows) ms
  pub sums : bound s ms + sum_below (length s.vars) (kept_at s marks scale ms) ≤ scale * (best + s.fixed) + sum_below (length s.vars) (moved_at s marks ms)

-- what the variables weigh in a row that are fixed to one
abbrev pub load_of : PlainSide → List Fixing → ℕ → ℕ
load_of s marks row = sum_below (length s.vars) (λ j. if_one (fixing_of marks j) (weight_at s.vars row j))

-- the variables fixed to one exceed the row
pub record OverHolds (s : PlainSide) (marks : List Fixing) (row : ℕ) : Type 0 where
  pub inside : row < length s.rows
  pub exceeded : slice_index s.rows row < load_of s marks row

-- all variables are fixed, and those fixed to one gain at most `best`
pub record LeafHolds (s : PlainSide) (best : ℕ) (marks : List Fixing) : Type 0 where
  pub full : (j : ℕ) → j < length s.vars → fixing_of marks j ≡ Free → ⊥
  pub gains : sum_below (length s.vars) (λ j. if_one (fixing_of marks j) (gain_at s.vars j)) ≤ best + s.fixed

-- a branch fixes a variable that is free
pub record BranchHolds (s : PlainSide) (marks : List Fixing) (j : ℕ) : Type 0 where
  pub inside : j < length s.vars
  pub free_there : fixing_of marks j ≡ Free

-- a node keeps its own rule, with nothing said of those below it
abbrev pub KeepsRule : PlainSide → ℕ → List Fixing → PlainTree → Type 0
KeepsRule s best marks (branch j l r) = BranchHolds s marks j
KeepsRule s best marks (over row) = OverHolds s marks row
KeepsRule s best marks (dual scale ms) = DualHolds s best marks scale ms
KeepsRule s best marks leaf = LeafHolds s best marks

-- every node of a tree keeps its rule
abbrev pub Holds : PlainSide → ℕ → List Fixing → PlainTree → Type 0
Holds s best marks (branch j l r) =
    BranchHolds s marks j
    × Holds s best (slice_set marks j Zero) l
    × Holds s best (slice_set marks j One) r
Holds s best marks (over row) = OverHolds s marks row
Holds s best marks (dual scale ms) = DualHolds s best marks scale ms
Holds s best marks leaf = LeafHolds s best marks

-- a rule is broken at the root, which is node 0 at depth 0
abbrev pub AtRoot : Type 0 → ℕ → ℕ → Type 0
AtRoot Rule node depth = (Rule → ⊥) × (node ≡ 0) × (depth ≡ 0)

-- a node of a child whose own node is number `first`
abbrev pub Below : (ℕ → ℕ → Type 0) → ℕ → ℕ → ℕ → Type 0
Below Fails first node depth =
    (n : ℕ) × ((d : ℕ) × (Fails n d × (node ≡ first + n) × (depth ≡ suc d)))

-- the first node that breaks its rule, depth first and zero before one, counted from 0, and its depth
abbrev pub FirstWrong : PlainSide → ℕ → List Fixing → PlainTree → ℕ → ℕ → Type 0
FirstWrong s best marks (branch j l r) node depth =
    AtRoot (BranchHolds s marks j) node depth
    ⊎ (BranchHolds s marks j × Below (FirstWrong s best (slice_set marks j Zero) l) 1 node depth)
    ⊎ (BranchHolds s marks j
    × Holds s best (slice_set marks j Zero) l
    × Below (FirstWrong s best (slice_set marks j One) r) (1 + size l) node depth)
FirstWrong s best marks (over row) node depth = AtRoot (OverHolds s marks row) node depth
FirstWrong s best marks (dual scale ms) node depth = AtRoot (DualHolds s best marks scale ms) node depth
FirstWrong s best marks leaf node depth = AtRoot (LeafHolds s best marks) node depth
