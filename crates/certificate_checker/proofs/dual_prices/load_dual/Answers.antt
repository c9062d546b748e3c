use Rattle.certificate_checker.proofs.LastLemmas.{same_read}
use Rattle.certificate_checker.proofs.dual_prices.load_dual.Goals as goal

pub returns-in-Some-clause-loads : goal.returns-in-Some-clause-loads
returns-in-Some-clause-loads c =
    let last = c.requires.last in
    let p = c.args.prices.now in
    let there = c.in-Some.ensures in (
      last.0,
      (same_read c.args.task.now.total p.text.items c.args.bytes.now c.in-Some.rest.now p.scale last.0 there.0 last.1.1 there.1, last.1.0, last.1.1),
    )
