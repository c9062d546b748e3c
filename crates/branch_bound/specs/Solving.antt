-- What the search of a programme ends with.
use Rattle.std.specs.Prelude.{◌≡◌, ◌⊎◌, ℕ, ◌+◌, ◌^◌, ◌<◌, ◌≤◌, ◌≤ℤ◌, pos, List, length, Option, Some, None, option_map}
use Rattle.placement_programme.specs.Plain.{PlainSide, PlainProgramme, PlainChoice}
use Rattle.placement_programme.specs.Programme.{IsFeasible, gain}
use Rattle.placement_programme.specs.Views.{plain_choice}
use Rattle.certificate_checker.specs.Nodes.{PlainCertificate}
use Rattle.certificate_checker.specs.Shows.{all_free, ShownBy, Shows}
use Rattle.certificate_checker.specs.Spelling.{IsTreeInRange, IsInRange}
use Rattle.certificate_checker.specs.Reading.{most_levels}
use Rattle.certificate_checker.specs.Views.{plain_tree, plain_certificate}
use Rattle.certificate_checker.specs.declared.trees.Tree.{Tree}
use Rattle.branch_bound.specs.Greedy.{IsStart}
use Rattle.branch_bound.specs.Entries.{all_vars, IsStated, Reaches, FailsFirst}
use Rattle.branch_bound.specs.Growing.{CannotGrow}
use Rattle.branch_bound.specs.Searching.{Reports, HasLevels}
use Rattle.branch_bound.specs.declared.outcomes.Found.{Found}
use Rattle.branch_bound.specs.declared.outcomes.Trees.{Trees}
use Rattle.branch_bound.specs.declared.outcomes.Status.{Status}
use Rattle.branch_bound.specs.declared.outcomes.Status.TheVariants.{Optimal, BestFound}
use Rattle.certificate_checker.specs.declared.fixings.Fixing.{Fixing}

-- what the search of a side tells; a side that isn't there has no tree
abbrev pub ReportsOn : Option PlainSide → ℕ → ℕ → ℕ → ℕ → Option Tree → Type 0
ReportsOn None start best left after tree = tree ≡ None
ReportsOn (Some s) start best left after tree = Reports s start (all_free s) best left after tree

-- the tree of a side closes it, where there is one
abbrev pub ClosesSide : PlainSide → ℕ → Option Tree → Type 0
ClosesSide s best None = Unit {0}
ClosesSide s best (Some tree) = ShownBy (Some s) best (Some (plain_tree tree))

abbrev pub ClosesOn : Option PlainSide → ℕ → Option Tree → Type 0
ClosesOn None best tree = Unit {0}
ClosesOn (Some s) best tree = ClosesSide s best tree

-- a side's tree is missing
abbrev pub LacksTree : Option PlainSide → Option Tree → Type 0
LacksTree None tree = ⊥
LacksTree (Some s) tree = tree ≡ None

-- trees close the sides of a programme, within the ranges of a certificate
pub record AreTreesOf (p : PlainProgramme) (best : ℕ) (trees : Trees) : Type 0 where
  pub off : ShownBy (Some p.off) best (Some (plain_tree trees.off))
  pub on : ShownBy p.on best (option_map plain_tree trees.on)
  pub off_levels : IsTreeInRange most_levels (plain_tree trees.off)
  pub on_levels : HasLevels most_levels trees.on

-- the first entry of some side still fails every leaf rule
abbrev pub FailsSome : PlainProgramme → ℕ → Type 0
FailsSome p best = FailsFirst (Some p.off) best ⊎ FailsFirst p.on best

-- what the searches of both sides, with a budget of n nodes, tell of a best that is no less than those that they end with
pub record Searched (p : PlainProgramme) (n start first second best left after : ℕ) (off_tree on_tree : Option Tree) : Type 0 where
  pub is_start : IsStart p start
  pub from : start ≤ best
  pub off_order : first ≤ best
  pub on_order : second ≤ best
  pub by_off : Reports p.off start (all_free p.off) first n left off_tree
  pub by_on : ReportsOn p.on start second left after on_tree

-- a choice gains no less than the start and than what any of the first n entries of the stated list gains
abbrev pub ReachesFirst : PlainProgramme → ℕ → PlainChoice → Type 0
ReachesFirst p n c =
    (best : ℕ)
    × ((start : ℕ)
    × ((gain p c ≡ pos best) × IsStart p start
    × ((off on : List (List Fixing)) → IsStated p start off on → Reaches p n best start off on)))

-- the stated list has more than n entries, and the first entry of some side still fails every leaf rule with the choice's
-- gain as best
abbrev pub EndsWithin : PlainProgramme → ℕ → PlainChoice → Type 0
EndsWithin p n c =
    (best : ℕ)
    × ((start : ℕ)
    × ((gain p c ≡ pos best) × IsStart p start
    × ((off on : List (List Fixing)) → IsStated p start off on → n < length off + length on) × FailsSome p best))

-- what a status says of a certificate
abbrev pub Certifies : PlainProgramme → ℕ → PlainCertificate → Status → Type 0
Certifies p n c Optimal = Shows p c
Certifies p n c (BestFound m) = (m ≡ n) × (c.off ≡ None) × (c.on ≡ None) × EndsWithin p n c.choice

-- what a search of at most n nodes in the order of the stated list ends with
pub record IsSearched (p : PlainProgramme) (n : ℕ) (found : Found) : Type 0 where
  pub feasible : IsFeasible p (plain_choice found.choice)
  pub not_below_0 : pos 0 ≤ℤ gain p (plain_choice found.choice)
  pub reach : ReachesFirst p n (plain_choice found.choice)
  pub grown : CannotGrow p (plain_choice found.choice)
  pub same : plain_choice found.certificate.choice ≡ plain_choice found.choice
  pub range : IsInRange (plain_certificate found.certificate)
  pub status : Certifies p n (plain_certificate found.certificate) found.status
  pub enough : 2 ^ (all_vars p + 1) ≤ n → found.status ≡ Optimal
