-- A choice that a certificate shows to be best: what any search could find gains no more.
use Rattle.std.proofs.Common.{◌≡◌, ◌∙◌, ℕ, ◌-◌, ◌≤◌, pos, ◌≤ℤ◌, false, true, length, List, [], ◌∷◌, take, Some, sym, ap, subst, arith}
use Rattle.std.proofs.lemmas.Int.{ints}
use Rattle.placement_programme.specs.Plain.{PlainProgramme, PlainChoice}
use Rattle.placement_programme.specs.Programme.{IsFeasible, gain}
use Rattle.placement_programme.specs.Views.{plain_choice}
use Rattle.certificate_checker.specs.Nodes.{PlainCertificate}
use Rattle.certificate_checker.specs.Shows.{IsAccepted, Shows}
use Rattle.certificate_checker.specs.Spelling.{IsInRange}
use Rattle.certificate_checker.specs.Views.{plain_certificate}
use Rattle.certificate_checker.proofs.Least.{shown_is_least}
use Rattle.branch_bound.specs.Entries.{Each, takes_on, GainsAtMost}
use Rattle.branch_bound.specs.Greedy.{IsStart}
use Rattle.branch_bound.specs.Growing.{CannotGrow}
use Rattle.branch_bound.specs.Solving.{ReachesFirst, Certifies, IsSearched}
use Rattle.branch_bound.specs.declared.outcomes.Found.{Found}
use Rattle.branch_bound.specs.declared.outcomes.Status.TheVariants.{Optimal}
use Rattle.branch_bound.proofs.SolveLemmas.{gain_from_zero}
use Rattle.certificate_checker.specs.declared.fixings.Fixing.{Fixing}

each_all : (P : List Fixing → Type 0) (es : List (List Fixing)) → ((e : List Fixing) → P e) → Each P es
each_all P [] all = tt
each_all P (e ∷ es) all = (all e, each_all P es all)

no_more : (a b : ℕ) → pos a ≤ℤ pos b → a ≤ b
no_more a b most = omega (arith, ints, most)

module _ (p : PlainProgramme) (c : PlainCertificate) (shows : Shows p c) where
  most : (other : PlainChoice) → IsFeasible p other → gain p other ≤ℤ pos shows.0
  most other feasible = subst (λ g. gain p other ≤ℤ g) shows.1.accepted.gains (shown_is_least p c other shows feasible).0

  pub shown_reaches : (n start : ℕ) (first : PlainChoice) → IsStart p start → IsAccepted p first start → ReachesFirst p n c.choice
  shown_reaches n start first is_start accepted = (
    shows.0,
    (
      start,
      (
        shows.1.accepted.gains,
        is_start,
        λ off on stated. record {
          from_start = no_more start shows.0 (subst (λ g. g ≤ℤ pos shows.0) accepted.gains (most first accepted.feasible));
          of_off = each_all (GainsAtMost p false (Some p.off) shows.0) (take n off) (λ e fits. most (record { on = false; take = takes_on (Some p.off) e }) fits);
          of_on = each_all (GainsAtMost p true p.on shows.0) (take (n - length off) on) (λ e fits. most (record { on = true; take = takes_on p.on e }) fits);
        },
      ),
    ),
  )

  pub shown_cannot : CannotGrow p c.choice
  shown_cannot k more adds feasible = (shown_is_least p c (record { on = c.choice.on; take = more }) shows feasible).0

  -- what is answered with the certificate
  pub shown_searched : (n start : ℕ) (first : PlainChoice) (found : Found) → IsStart p start → IsAccepted p first start → IsInRange c → plain_choice found.choice ≡ c.choice → plain_certificate found.certificate ≡ c → found.status ≡ Optimal → IsSearched p n found
  shown_searched n start first found is_start accepted range same_choice same_certificate optimal =
      let back = sym same_choice in
      record {
        feasible = subst (λ choice. IsFeasible p choice) back shows.1.accepted.feasible;
        not_below_0 = subst (λ choice. pos 0 ≤ℤ gain p choice) back (gain_from_zero p c.choice shows.0 shows.1.accepted.gains);
        reach = subst (λ choice. ReachesFirst p n choice) back (shown_reaches n start first is_start accepted);
        grown = subst (λ choice. CannotGrow p choice) back shown_cannot;
        same = ap (λ (it : PlainCertificate). it.choice) same_certificate ∙ back;
        range = subst (λ it. IsInRange it) (sym same_certificate) range;
        status = subst (λ status. Certifies p n (plain_certificate found.certificate) status) (sym optimal) (subst (λ it. Shows p it) (sym same_certificate) shows);
        enough = λ many. optimal;
      }
