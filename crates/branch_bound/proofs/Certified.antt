-- From the searches of both sides to a certificate.
use Rattle.std.proofs.Common.{◌≡◌, ℕ, ◌≤◌, Option, Some, None, option_map, subst}
use Rattle.placement_programme.specs.Plain.{PlainSide}
use Rattle.placement_programme.specs.Views.{plain_side, plain_programme, plain_choice}
use Rattle.placement_programme.specs.declared.sides.Programme.{Programme}
use Rattle.certificate_checker.specs.Nodes.{PlainTree, PlainCertificate}
use Rattle.certificate_checker.specs.Reading.{most_levels}
use Rattle.certificate_checker.specs.Shows.{all_free, ShownBy, Shows}
use Rattle.certificate_checker.specs.Spelling.{IsTreeInRange, AreTreesInRange, IsInRange}
use Rattle.certificate_checker.specs.Views.{plain_tree}
use Rattle.certificate_checker.specs.declared.trees.Tree.{Tree}
use Rattle.branch_bound.specs.Incumbents.{IsSound}
use Rattle.branch_bound.specs.Visits.{ShownBelow}
use Rattle.branch_bound.specs.declared.side_incumbents.Incumbent.{Incumbent}
use Rattle.branch_bound.proofs.Greater.{holds_more}
use Rattle.branch_bound.proofs.Ranges.{choice_listed, few_on}

-- a certificate is sound and within the ranges of its text
pub record IsCertificate (p : Programme) (c : PlainCertificate) : Type 0 where
  pub shows : Shows (plain_programme p) c
  pub range : IsInRange c

-- what is shown with a best choice is shown with a better one
pub shown_more : (s : PlainSide) (best more : ℕ) (t : Option Tree) → best ≤ more → ShownBelow s best (all_free s) most_levels t → ShownBelow s more (all_free s) most_levels t
shown_more s best more None order shown = shown
shown_more s best more (Some t) order shown = (holds_more s best more (all_free s) (plain_tree t) order shown.0, shown.1)

-- where both sides are shown their trees are a certificate
pub certified : (p : Programme) (best : Incumbent) (off : Tree) (on : Option PlainTree) → IsSound (plain_programme p) best → ShownBelow (plain_side p.off) best.gain (all_free (plain_side p.off)) most_levels (Some off) → ShownBy (option_map plain_side p.on) best.gain on → AreTreesInRange (Some (plain_tree off)) on → IsCertificate p record { choice = plain_choice best.choice; off = Some (plain_tree off); on = on }
certified p best off on sound shown_off shown_on levels =
    let choice = plain_choice best.choice in
    let listed = choice_listed (plain_programme p) choice.on choice.take p.off.bounds.few_vars (few_on p.on) sound.feasible in
    record {
      shows = (best.gain, record { accepted = sound; off = shown_off.0; on = shown_on });
      range = record { few = listed.few; numbers = listed.numbers; trees = levels };
    }

-- the tree of the side without overlay was found, and what a certificate has to say of the other one
pub round_certified : (p : Programme) (best : Incumbent) (found : Option Tree) (off : Tree) (on : Option PlainTree) → IsSound (plain_programme p) best → found ≡ Some off → ShownBelow (plain_side p.off) best.gain (all_free (plain_side p.off)) most_levels found → ShownBy (option_map plain_side p.on) best.gain on → (IsTreeInRange most_levels (plain_tree off) → AreTreesInRange (Some (plain_tree off)) on)
    → Shows (plain_programme p) record { choice = plain_choice best.choice; off = Some (plain_tree off); on = on } × IsInRange record { choice = plain_choice best.choice; off = Some (plain_tree off); on = on }
round_certified p best found off on sound is shown_off shown_on levels =
    let first = subst (λ t. ShownBelow (plain_side p.off) best.gain (all_free (plain_side p.off)) most_levels t) is shown_off in
    let whole = certified p best off on sound first shown_on (levels first.1) in
    (whole.shows, whole.range)
