-- The way from the root of a tree to a node, while the tree is read from its text.
use Rattle.std.specs.Prelude.{◌≡◌, ℕ, suc, ◌+◌, ◌-◌, ◌*◌, ◌<◌, ◌≤◌, Bool, true, false, if◌then◌else◌, List, [], ◌∷◌, length, slice_index_or, slice_set, Result, Ok, Err}
use Rattle.std.specs.Borrow.{Bor}
use Rattle.placement_programme.specs.Plain.{PlainSide}
use Rattle.certificate_checker.specs.Nodes.{PlainTree, branch, size}
use Rattle.certificate_checker.specs.Rules.{BranchHolds, Holds}
use Rattle.certificate_checker.specs.Shows.{all_free, in_32_bits}
use Rattle.certificate_checker.specs.Walks.{FailsIn}
use Rattle.certificate_checker.specs.Reading.{◌>>=◌, tree_at}
use Rattle.certificate_checker.specs.declared.fault.CertFault.{CertFault}
use Rattle.certificate_checker.specs.declared.walking.Failing.{Failing}
use Rattle.certificate_checker.specs.declared.steps.PathStep.{PathStep}
use Rattle.certificate_checker.specs.declared.steps.Progress.{Progress}
use Rattle.certificate_checker.specs.declared.fixings.Fixing.{Fixing}
use Rattle.certificate_checker.specs.declared.fixings.Fixing.TheVariants.{Zero, One}

-- a step from a branch to a child: to that for zero, before that for one is read; or to that for one, behind that for zero.
-- A way has its last step first
pub data Step : Type 0 where
  to_zero : (var : ℕ) → Step
  to_one : (var : ℕ) (zero_tree : PlainTree) → Step

-- what is fixed at the end of a way
abbrev pub marks_at : PlainSide → List Step → List Fixing
marks_at s [] = all_free s
marks_at s (to_zero j ∷ way) = slice_set (marks_at s way) j Zero
marks_at s (to_one j l ∷ way) = slice_set (marks_at s way) j One

-- the number of the node at the end of a way, from 0
abbrev pub node_at : List Step → ℕ
node_at [] = 0
node_at (to_zero j ∷ way) = node_at way + 1
node_at (to_one j l ∷ way) = node_at way + (1 + size l)

-- every node that was read before the end of a way keeps its rule
abbrev pub HeldBefore : PlainSide → ℕ → List Step → Type 0
HeldBefore s best [] = Unit {0}
HeldBefore s best (to_zero j ∷ way) = BranchHolds s (marks_at s way) j × HeldBefore s best way
HeldBefore s best (to_one j l ∷ way) =
    BranchHolds s (marks_at s way) j
    × Holds s best (slice_set (marks_at s way) j Zero) l
    × HeldBefore s best way

-- a whole tree that has the way, and this tree at its end; what is still to be read may be any tree
abbrev pub Completes : List Step → PlainTree → PlainTree → Type 0
Completes [] t whole = whole ≡ t
Completes (to_zero j ∷ way) t whole = (r : PlainTree) × Completes way (branch j t r) whole
Completes (to_one j l ∷ way) t whole = Completes way (branch j l t) whole

-- what is read of the whole tree, where this is read of the tree at the end of the way
abbrev pub resumed : ℕ → ℕ → List Step → Result (PlainTree × List ℕ) CertFault → Result (PlainTree × List ℕ) CertFault
resumed total levels [] read = read
resumed total levels (to_zero j ∷ way) read =
    resumed total levels way (read >>= λ first. tree_at total (levels - suc (length way)) first.1 >>= λ second. Ok (branch j first.0 second.0, second.1))
resumed total levels (to_one j l ∷ way) read =
    resumed total levels way (read >>= λ second. Ok (branch j l second.0, second.1))

-- how a step is written in a path
abbrev pub written_step : Step → PathStep
written_step (to_zero j) = record { var = j; taken = false }
written_step (to_one j l) = record { var = j; taken = true }

-- the step to the child for one of the same branch
abbrev pub step_to_one : PathStep → PathStep
step_to_one step = record { var = step.var; taken = true }

-- the step of a path at a depth
abbrev pub step_in : List PathStep → ℕ → PathStep
step_in path depth = slice_index_or path depth (written_step (to_zero 0))

-- the path has the steps of a way, the first at 0
abbrev pub HasWay : List PathStep → List Step → Type 0
HasWay path [] = Unit {0}
HasWay path (step ∷ way) = (step_in path (length way) ≡ written_step step) × HasWay path way

-- all nodes before the end of the way hold
pub record HoldsSoFar (s : PlainSide) (best : ℕ) (way : List Step) (path : List PathStep) (marks : List Fixing) (node : ℕ) : Type 0 where
  pub written : HasWay path way
  pub fixed : marks ≡ marks_at s way
  pub number : node ≡ in_32_bits (node_at way)
  pub held : HeldBefore s best way

-- the first node of a tree that fails; of a tree that is only read nothing is said
abbrev pub FirstFails : PlainSide → Bool → ℕ → PlainTree → Failing → Type 0
FirstFails s judged best t f = judged ≡ true → FailsIn s best (all_free s) t 0 0 f

-- what is known before the tree at the end of a way is read: all nodes hold, or the first that fails
abbrev pub SoFar : PlainSide → Bool → ℕ → List Step → List PathStep → List Fixing → Result ℕ Failing → Type 0
SoFar s judged best way path marks (Ok node) = HoldsSoFar s best way path marks node
SoFar s judged best way path marks (Err f) =
    HasWay path way × ((t whole : PlainTree) → Completes way t whole → FirstFails s judged best whole f)

-- all nodes of the tree at the end of the way hold too
pub record HoldsWith (s : PlainSide) (best : ℕ) (way : List Step) (t : PlainTree) (path : List PathStep) (marks : List Fixing) (next : ℕ) : Type 0 where
  pub written : HasWay path way
  pub fixed : marks ≡ marks_at s way
  pub number : next ≡ in_32_bits (node_at way + size t)
  pub tree : Holds s best (marks_at s way) t
  pub held : HeldBefore s best way

-- what is known behind the tree at the end of a way: it holds too, or the first node that fails
abbrev pub Behind : PlainSide → Bool → ℕ → List Step → PlainTree → List PathStep → List Fixing → Result ℕ Failing → Type 0
Behind s judged best way t path marks (Ok next) = HoldsWith s best way t path marks next
Behind s judged best way t path marks (Err f) =
    HasWay path way × ((whole : PlainTree) → Completes way t whole → FirstFails s judged best whole f)

-- a tree of at most so many levels that is read, and judged or not: `bytes` begin with it, and end a text of `total` bytes
pub record TreeText : Type 0 where
  pub side : PlainSide
  pub judged : Bool
  pub best : ℕ
  pub total : ℕ
  pub levels : ℕ
  pub bytes : List ℕ

abbrev pub text_of : PlainSide → Bool → ℕ → ℕ → ℕ → List ℕ → TreeText
text_of s judged best total levels bytes = record { side = s; judged = judged; best = best; total = total; levels = levels; bytes = bytes }

-- a tree at this depth is to be read from the rest
pub record IsBefore (x : TreeText) (path : List PathStep) (marks : List Fixing) (depth : ℕ) (answer : Result ℕ Failing) (rest : List ℕ) : Type 0 where
  pub way : List Step
  pub long : length way ≡ depth
  pub read : resumed x.total x.levels way (tree_at x.total (x.levels - depth) rest) ≡ tree_at x.total x.levels x.bytes
  pub so_far : SoFar x.side x.judged x.best way path marks answer

-- a tree at this depth was read, and the rest stands behind it
pub record IsBehind (x : TreeText) (path : List PathStep) (marks : List Fixing) (depth : ℕ) (answer : Result ℕ Failing) (rest : List ℕ) : Type 0 where
  pub way : List Step
  pub tree : PlainTree
  pub long : length way ≡ depth
  pub read : resumed x.total x.levels way (Ok (tree, rest)) ≡ tree_at x.total x.levels x.bytes
  pub so_far : Behind x.side x.judged x.best way tree path marks answer

abbrev pub StandsAt : TreeText → List PathStep → List Fixing → ℕ → Bool → Result ℕ Failing → List ℕ → Type 0
StandsAt x path marks depth false answer rest = IsBefore x path marks depth answer rest
StandsAt x path marks depth true answer rest = IsBehind x path marks depth answer rest

-- what a walk begins with: the number of the root, or a node that fails where nothing is judged
abbrev pub first_answer : Bool → Result ℕ Failing
first_answer true = Ok 0
first_answer false = Err record { node = 0; depth = 0 }

-- how far the walk over the text of a tree has come
abbrev pub Stands : TreeText → List PathStep → List Fixing → Progress → List ℕ → Type 0
Stands x path marks progress rest = StandsAt x path marks progress.depth progress.ended progress.so_far rest

-- what one step forward leaves: a place further on, or the text's fault
abbrev pub Advances : TreeText → List PathStep → List Fixing → Result (Progress × Bor (List ℕ)) CertFault → Type 0
Advances x path marks (Ok r) = Stands x path marks r.0 r.1.now
Advances x path marks (Err e) = tree_at x.total x.levels x.bytes ≡ Err e

-- a variable that is to be marked, as long as all nodes hold, is one of the side
abbrev pub MayMark : PlainSide → ℕ → Result ℕ Failing → Type 0
MayMark s j (Ok node) = j < length s.vars
MayMark s j (Err f) = Unit {0}

-- the marks with another mark, as long as all nodes hold
abbrev pub marked : List Fixing → ℕ → Fixing → Result ℕ Failing → List Fixing
marked marks j f (Ok node) = slice_set marks j f
marked marks j f (Err e) = marks

-- the last step of a path can be taken back
pub record CanRise (s : PlainSide) (path : List PathStep) (depth : ℕ) (answer : Result ℕ Failing) : Type 0 where
  pub some : 1 ≤ depth
  pub inside : MayMark s (step_in path (depth - 1)).var answer

abbrev pub IfEnded : Bool → Type 0 → Type 0
IfEnded false P = Unit {0}
IfEnded true P = P

-- a step forward can be taken
abbrev pub CanAdvance : PlainSide → List PathStep → Progress → Type 0
CanAdvance s path progress = IfEnded progress.ended (CanRise s path progress.depth progress.so_far)

-- what is left to do, in units that each step forward uses up
abbrev pub left : Progress → List ℕ → ℕ
left progress rest = 4 * length rest + (2 * progress.depth + (if progress.ended then 1 else 0))
