-- The choice that is found of a programme, with the certificate that goes with it.
use Rattle.std.specs.Prelude.{◌≡◌, ℕ, ◌+◌, ◌^◌, ◌≤◌, pos, ◌≤ℤ◌, Bool, true, false, List}
use Rattle.placement_programme.specs.Plain.{PlainProgramme, PlainChoice}
use Rattle.placement_programme.specs.Programme.{IsFeasible, gain, energy}
use Rattle.certificate_checker.specs.Nodes.{PlainCertificate}
use Rattle.certificate_checker.specs.Spelling.{Spells}
use Rattle.certificate_checker.specs.Shows.{Shows, HasNoTree}
use Rattle.branch_bound.specs.Entries.{all_vars}
use Rattle.branch_bound.specs.Growing.{CannotGrow}
use Rattle.branch_bound.specs.Solving.{ReachesFirst, EndsWithin}
use Rattle.branch_bound.specs.declared.outcomes.Status.{Status}
use Rattle.branch_bound.specs.declared.outcomes.Status.TheVariants.{Optimal, BestFound}

-- no feasible choice has less energy
abbrev pub IsLeast : PlainProgramme → PlainChoice → Type 0
IsLeast p choice = (other : PlainChoice) → IsFeasible p other → energy p choice ≤ℤ energy p other

-- whether a status is that the choice was shown to be best
abbrev pub is_optimal : Status → Bool
is_optimal Optimal = true
is_optimal (BestFound nodes) = false

-- A feasible choice that gains no less than 0, no less than what plain branch and bound with this budget of nodes comes
-- upon, and no less with any one variable added. The text spells a certificate with this choice. `optimal` is said exactly
-- where the certificate's trees show that no feasible choice has less energy; and it is not said only where the budget
-- may have ended before. Then the certificate has no tree.
pub record IsFound (p : PlainProgramme) (nodes : ℕ) (choice : PlainChoice) (text : List ℕ) (says_optimal : Bool) : Type 0 where
  pub feasible : IsFeasible p choice
  pub gains : pos 0 ≤ℤ gain p choice
  pub reach : ReachesFirst p nodes choice
  pub grown : CannotGrow p choice
  pub certificate : PlainCertificate
  pub same : certificate.choice ≡ choice
  pub spells : Spells text certificate
  pub shown : says_optimal ≡ true → Shows p certificate
  pub only_shown : Shows p certificate → says_optimal ≡ true
  pub least : says_optimal ≡ true → IsLeast p choice
  pub ended : says_optimal ≡ false → EndsWithin p nodes choice
  pub without_trees : says_optimal ≡ false → HasNoTree certificate
  pub enough : 2 ^ (all_vars p + 1) ≤ nodes → says_optimal ≡ true
