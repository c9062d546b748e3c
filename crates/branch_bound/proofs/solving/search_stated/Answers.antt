use Rattle.std.proofs.Common.{◌≤◌, ◌≤ℤ◌, ℕ, pos, sym, subst, arith}
use Rattle.std.proofs.lemmas.Int.{ints}
use Rattle.placement_programme.specs.Plain.{PlainProgramme}
use Rattle.placement_programme.specs.Programme.{IsFeasible, gain}
use Rattle.placement_programme.specs.Views.{plain_programme}
use Rattle.certificate_checker.specs.Views.{plain_certificate}
use Rattle.certificate_checker.specs.Shows.{all_free}
use Rattle.branch_bound.specs.Greedy.{IsStart}
use Rattle.branch_bound.specs.Growing.{CannotGrow}
use Rattle.branch_bound.specs.Searching.{choice_of, Reports}
use Rattle.branch_bound.specs.declared.outcomes.Outcome.{Outcome}
use Rattle.branch_bound.specs.Solving.{Searched, ReportsOn, ReachesFirst, AreTreesOf}
use Rattle.branch_bound.proofs.ListLemmas.{enough_nodes}
use Rattle.branch_bound.proofs.SolveLemmas.{closes_side, closes_on, reaches_first, ends_within, match_more, gain_from_zero}
use Rattle.branch_bound.proofs.solving.search_stated.Goals as goal

pub finish-requires-clause-start : goal.finish-requires-clause-start
finish-requires-clause-start g c =
    let raised = c.in_ok-first.ensures.grows in
    let first = c.in_ok-off.ensures.grows in
    let second = c.in_ok-on.ensures.grows in
    (c.in_ok-start.start.gain, (c.in_ok-start.ensures.start, omega (arith, raised, first, second)))

pub trees_of-requires-clause-off : goal.trees_of-requires-clause-off
trees_of-requires-clause-off g c =
    let second = c.in_ok-on.ensures.grows in
    let last = c.in_ok-best.ensures.grows in
    closes_side (plain_programme c.args.p.now).off c.in_ok-start.start.gain c.in_ok-off.off.best.gain c.in_ok-best.best.gain c.args.nodes c.in_ok-off.off.left c.in_ok-off.off.tree (omega (arith, second, last)) (c.in_ok-off.ensures.tells c.in_ok-start.start.gain c.in_ok-first.ensures.grows)

pub trees_of-requires-clause-on : goal.trees_of-requires-clause-on
trees_of-requires-clause-on g c =
    let raised = c.in_ok-first.ensures.grows in
    let first = c.in_ok-off.ensures.grows in
    closes_on (plain_programme c.args.p.now).on c.in_ok-start.start.gain c.in_ok-on.on.best.gain c.in_ok-best.best.gain c.in_ok-off.off.left c.in_ok-on.on.left c.in_ok-on.on.tree c.in_ok-best.ensures.grows (c.in_ok-on.ensures.tells c.in_ok-start.start.gain (omega (arith, raised, first)))

-- what both searches tell
searched_in : (p : PlainProgramme) (nodes start first best : ℕ) (off on : Outcome) → IsStart p start → start ≤ first → first ≤ off.best.gain → off.best.gain ≤ on.best.gain → on.best.gain ≤ best
    → ((s : ℕ) → s ≤ first → Reports p.off s (all_free p.off) off.best.gain nodes off.left off.tree)
    → ((s : ℕ) → s ≤ off.best.gain → ReportsOn p.on s on.best.gain off.left on.left on.tree)
    → Searched p nodes start off.best.gain on.best.gain best off.left on.left off.tree on.tree
searched_in p nodes start first best off on is raised by_off_grows by_on_grows last by_off by_on =
    record {
      is_start = is;
      from = omega (arith, raised, by_off_grows, by_on_grows, last);
      off_order = omega (arith, by_on_grows, last);
      on_order = last;
      by_off = by_off start raised;
      by_on = by_on start (omega (arith, raised, by_off_grows));
    }

pub found-requires-clause-trees : goal.found-requires-clause-trees
found-requires-clause-trees g c =
    let p = plain_programme c.args.p.now in
    let off = c.in_ok-off.off in
    let on = c.in_ok-on.on in
    let best = c.in_ok-best.best in
    let searched = searched_in p c.args.nodes c.in_ok-start.start.gain c.in_ok-first.first.gain best.gain off on c.in_ok-start.ensures.start c.in_ok-first.ensures.grows c.in_ok-off.ensures.grows c.in_ok-on.ensures.grows c.in_ok-best.ensures.grows c.in_ok-off.ensures.tells c.in_ok-on.ensures.tells in
    match_more (AreTreesOf p best.gain) c.in_ok-trees.trees (λ both. ends_within p c.args.nodes c.in_ok-start.start.gain off.best.gain on.best.gain best.gain off.left on.left off.tree on.tree (choice_of p best) searched c.in_ok-best.ensures.incumbent.accepted.gains both.0 both.1) c.in_ok-trees.ensures

pub returns-clause-ends : goal.returns-clause-ends
returns-clause-ends g c =
    let p = plain_programme c.args.p.now in
    let off = c.in_ok-off.off in
    let on = c.in_ok-on.on in
    let best = c.in_ok-best.best in
    let chosen = sym c.in_ok-answer.ensures.choice in
    let accepted = c.in_ok-best.ensures.incumbent.accepted in
    let searched = searched_in p c.args.nodes c.in_ok-start.start.gain c.in_ok-first.first.gain best.gain off on c.in_ok-start.ensures.start c.in_ok-first.ensures.grows c.in_ok-off.ensures.grows c.in_ok-on.ensures.grows c.in_ok-best.ensures.grows c.in_ok-off.ensures.tells c.in_ok-on.ensures.tells in
    record {
      feasible = subst (λ choice. IsFeasible p choice) chosen accepted.feasible;
      not_below_0 = subst (λ choice. pos 0 ≤ℤ gain p choice) chosen (gain_from_zero p (choice_of p best) best.gain accepted.gains);
      reach = subst (λ choice. ReachesFirst p c.args.nodes choice) chosen (reaches_first p c.args.nodes c.in_ok-start.start.gain off.best.gain on.best.gain best.gain off.left on.left off.tree on.tree (choice_of p best) searched accepted.gains);
      grown = subst (λ choice. CannotGrow p choice) chosen c.in_ok-best.ensures.cannot;
      same = c.in_ok-answer.ensures.same;
      range = c.in_ok-answer.ensures.range;
      status = c.in_ok-answer.ensures.status;
      enough = enough_nodes p c.args.nodes (plain_certificate c.in_ok-answer.answer.certificate) c.in_ok-answer.answer.status c.in_ok-answer.ensures.status;
    }

pub returns-clause-other : goal.returns-clause-other
returns-clause-other g c =
    let p = plain_programme c.args.p.now in
    let best = c.in_ok-best.best in
    let gains = c.in_ok-best.ensures.incumbent.accepted.gains in
    let reaches = c.in_ok-first.ensures.reaches in
    let first = c.in_ok-off.ensures.grows in
    let second = c.in_ok-on.ensures.grows in
    let last = c.in_ok-best.ensures.grows in
    subst (λ choice. pos c.args.other.now.gain ≤ℤ gain p choice) (sym c.in_ok-answer.ensures.choice) (omega (arith, ints, gains, reaches, first, second, last))
