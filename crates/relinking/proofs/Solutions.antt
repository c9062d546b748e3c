-- What a search of a programme ends with, and its certificate.
use Rattle.std.proofs.Common.{◌≡◌, ℕ, ◌+◌, ◌^◌, ◌≤◌, pos, ◌≤ℤ◌, true, false, List, Some, refl, ap, subst}
use Rattle.placement_programme.specs.Plain.{PlainProgramme, PlainChoice}
use Rattle.placement_programme.specs.Programme.{IsFeasible, gain}
use Rattle.placement_programme.specs.Views.{plain_choice}
use Rattle.certificate_checker.specs.Nodes.{PlainCertificate}
use Rattle.certificate_checker.specs.Spelling.{IsInRange, text_of}
use Rattle.certificate_checker.specs.Shows.{ShownBy, Shows, HasNoTree}
use Rattle.certificate_checker.specs.Views.{plain_certificate}
use Rattle.certificate_checker.proofs.Least.{shown_is_least}
use Rattle.branch_bound.specs.Entries.{all_vars}
use Rattle.branch_bound.specs.Growing.{CannotGrow}
use Rattle.branch_bound.specs.Solving.{ReachesFirst, EndsWithin, Certifies}
use Rattle.branch_bound.specs.declared.outcomes.Found.{Found}
use Rattle.branch_bound.specs.declared.outcomes.Status.{Status}
use Rattle.branch_bound.specs.declared.outcomes.Status.TheVariants.{Optimal, BestFound}
use Rattle.relinking.specs.FoundChoice.{IsLeast}
use Rattle.relinking.specs.FoundChoice.{is_optimal, IsFound}

module _ (p : PlainProgramme) (nodes : ℕ) (c : PlainCertificate) where
  shown_of : (s : Status) → Certifies p nodes c s → is_optimal s ≡ true → Shows p c
  shown_of Optimal shows e = shows
  shown_of (BestFound m) ends e = absurd (cc)

  only_of : (s : Status) → Certifies p nodes c s → Shows p c → is_optimal s ≡ true
  only_of Optimal certifies shows = refl
  only_of (BestFound m) ends shows = absurd (subst (ShownBy (Some p.off) shows.0) ends.1 shows.1.off)

  ended_of : (s : Status) → Certifies p nodes c s → is_optimal s ≡ false → EndsWithin p nodes c.choice
  ended_of Optimal certifies e = absurd (cc)
  ended_of (BestFound m) ends e = ends.3

  no_tree_of : (s : Status) → Certifies p nodes c s → is_optimal s ≡ false → HasNoTree c
  no_tree_of Optimal certifies e = absurd (cc)
  no_tree_of (BestFound m) ends e = (ends.1, ends.2)

least_of : (p : PlainProgramme) (c : PlainCertificate) (choice : PlainChoice) → c.choice ≡ choice → Shows p c → IsLeast p choice
least_of p c choice same shows =
    subst (IsLeast p) same (λ other feasible. (shown_is_least p c other shows feasible).1)

-- what `solve` tells
pub record Solves (p : PlainProgramme) (nodes : ℕ) (f : Found) : Type 0 where
  pub feasible : IsFeasible p (plain_choice f.choice)
  pub gains : pos 0 ≤ℤ gain p (plain_choice f.choice)
  pub reach : ReachesFirst p nodes (plain_choice f.choice)
  pub grown : CannotGrow p (plain_choice f.choice)
  pub same : plain_choice f.certificate.choice ≡ plain_choice f.choice
  pub range : IsInRange (plain_certificate f.certificate)
  pub status : Certifies p nodes (plain_certificate f.certificate) f.status
  pub enough : 2 ^ (all_vars p + 1) ≤ nodes → f.status ≡ Optimal

pub is_found : (p : PlainProgramme) (nodes : ℕ) (f : Found) (text : List ℕ) → Solves p nodes f → text ≡ text_of (plain_certificate f.certificate)
    → IsFound p nodes (plain_choice f.choice) text (is_optimal f.status)
is_found p nodes f text solves text_is =
    let c = plain_certificate f.certificate in
    record {
      feasible = solves.feasible;
      gains = solves.gains;
      reach = solves.reach;
      grown = solves.grown;
      certificate = c;
      same = solves.same;
      spells = record { in_range = solves.range; text = text_is };
      shown = shown_of p nodes c f.status solves.status;
      only_shown = only_of p nodes c f.status solves.status;
      least = λ e. least_of p c (plain_choice f.choice) solves.same (shown_of p nodes c f.status solves.status e);
      ended = λ e. subst (EndsWithin p nodes) solves.same (ended_of p nodes c f.status solves.status e);
      without_trees = no_tree_of p nodes c f.status solves.status;
      enough = λ much. ap is_optimal (solves.enough much);
    }
