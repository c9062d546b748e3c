-- What a search comes upon that a guide leads. Nothing is known of what the guide answers of a node, so the relations
-- have it as a parameter: they tell which nodes it is asked of, and what the search takes of its answers.
use Rattle.std.specs.Prelude.{ℕ, suc, ◌≤◌, ◌≡◌, Bool, true, false, List, slice_set, Option, Some, None, option_map}
use Rattle.placement_programme.specs.Plain.{PlainSide, PlainProgramme, PlainChoice}
use Rattle.certificate_checker.specs.Rules.{BranchHolds}
use Rattle.certificate_checker.specs.Shows.{all_free, IsAccepted}
use Rattle.certificate_checker.specs.declared.fixings.Fixing.{Fixing}
use Rattle.certificate_checker.specs.declared.fixings.Fixing.TheVariants.{Zero, One}
use Rattle.certificate_checker.specs.declared.nodes.TreeNode.{TreeNode}
use Rattle.lagrangian_bound.specs.declared.guiding.NodeBound.{NodeBound}
use Rattle.branch_bound.specs.Visits.{IsVisited}
use Rattle.branch_bound.specs.declared.side_incumbents.Incumbent.{Incumbent}
use Rattle.branch_bound.specs.declared.side_visiting.OnSide.{OnSide}
use Rattle.branch_bound.specs.declared.side_visiting.OnSide.TheVariants.{Absent, Shown, Unfinished}
use Rattle.branch_bound.specs.declared.side_visiting.Visit.{Visit}
use Rattle.branch_bound.specs.declared.side_visiting.Visit.TheVariants.{Closed, Open, Stuck}

-- where a choice is accepted, it gains at most `best`
abbrev pub Gains : PlainProgramme → PlainChoice → ℕ → Type 0
Gains p c best = (gains : ℕ) → IsAccepted p c gains → gains ≤ best

abbrev pub Takes : PlainProgramme → Bool → Option (List ℕ) → ℕ → Type 0
Takes p on None best = Unit {0}
Takes p on (Some take) best = Gains p record { on = on; take = take } best

-- no variable can be branched on: not the one that the guide names, or none at all where it names none
abbrev pub CannotBranch : PlainSide → List Fixing → Option ℕ → Type 0
CannotBranch s marks None = (j : ℕ) → BranchHolds s marks j → ⊥
CannotBranch s marks (Some j) = BranchHolds s marks j → ⊥

-- a visit ends without a tree and without a branch only where there is none
abbrev pub Leads : PlainSide → List Fixing → Option ℕ → Visit → Type 0
Leads s marks named (Closed node) = Unit {0}
Leads s marks named (Open var) = Unit {0}
Leads s marks named Stuck = CannotBranch s marks named

-- A guide is asked of a node whether anything below it gains more than the best choice so far, and answers. The best choice
-- behind that gains no less than the one before it and than the candidate of the answer.
pub record Asks {G : Type 0} (answers : G → PlainSide → List Fixing → ℕ → NodeBound → G → Type 0) (p : PlainProgramme) (on : Bool) (s : PlainSide) (marks : List Fixing) (old : G) (best more : ℕ) (new : G) (found : Visit) : Type 0 where
  pub answer : NodeBound
  pub answered : answers old s marks best answer new
  pub grows : best ≤ more
  pub takes : Takes p on (option_map (λ taken. taken.items) answer.candidate) more
  pub visited : IsVisited s more marks found
  pub leads : Leads s marks answer.branch found

-- how far a search is: its guide, what the best choice so far gains, and how many nodes may still be visited
pub record Stand (G : Type 0) : Type 0 where
  pub guide : G
  pub best : ℕ
  pub left : ℕ

abbrev pub stand : {G : Type 0} → G → Incumbent → Stand G
stand guide best = record { guide = guide; best = best.gain; left = best.left }

-- a node is visited, which is one of those that may be
pub record Spends {G : Type 0} (answers : G → PlainSide → List Fixing → ℕ → NodeBound → G → Type 0) (p : PlainProgramme) (on : Bool) (s : PlainSide) (marks : List Fixing) (old : Stand G) (found : Visit) (new : Stand G) : Type 0 where
  pub asks : Asks answers p on s marks old.guide old.best new.best new.guide found
  pub spends : old.left ≡ suc new.left

-- The nodes below these marks are visited, the child that fixes its variable to one before the other one: to their end, or
-- until no more may be visited or a node can neither be closed nor branched on.
pub data Searches {G : Type 0} (answers : G → PlainSide → List Fixing → ℕ → NodeBound → G → Type 0) (p : PlainProgramme) (on : Bool) (s : PlainSide) : List Fixing → Stand G → Bool → Stand G → Type 0 where
  spent : {marks : List Fixing} {at : Stand G} → at.left ≡ 0 → Searches answers p on s marks at false at
  stuck : {marks : List Fixing} {old new : Stand G} → Spends answers p on s marks old Stuck new → Searches answers p on s marks old false new
  closed : {marks : List Fixing} {old new : Stand G} {node : TreeNode} → Spends answers p on s marks old (Closed node) new → Searches answers p on s marks old true new
  broken : {marks : List Fixing} {old between new : Stand G} {var : ℕ} → Spends answers p on s marks old (Open var) between → Searches answers p on s (slice_set marks var One) between false new → Searches answers p on s marks old false new
  branched : {marks : List Fixing} {old first second new : Stand G} {var : ℕ} {ended : Bool} → Spends answers p on s marks old (Open var) first → Searches answers p on s (slice_set marks var One) first true second → Searches answers p on s (slice_set marks var Zero) second ended new → Searches answers p on s marks old ended new

-- a side is searched with a budget of nodes, and what the best choice gains behind it
abbrev pub SearchesSide : {G : Type 0} → (G → PlainSide → List Fixing → ℕ → NodeBound → G → Type 0) → PlainProgramme → Bool → PlainSide → ℕ → ℕ → Bool → ℕ → Type 0
SearchesSide {G} answers p on s nodes best ended more =
    (old : G)
    × ((new : G)
    × ((left : ℕ)
    × Searches answers p on s (all_free s) record { guide = old; best = best; left = nodes } ended record { guide = new; best = more; left = left }))

-- a side that isn't there is searched at once
abbrev pub SearchesOn : {G : Type 0} → (G → PlainSide → List Fixing → ℕ → NodeBound → G → Type 0) → PlainProgramme → Option PlainSide → ℕ → ℕ → Bool → ℕ → Type 0
SearchesOn answers p None nodes best ended more = (ended ≡ true) × (more ≡ best)
SearchesOn answers p (Some s) nodes best ended more = SearchesSide answers p true s nodes best ended more

abbrev pub has_ended : OnSide → Bool
has_ended Absent = true
has_ended (Shown tree) = true
has_ended Unfinished = false
