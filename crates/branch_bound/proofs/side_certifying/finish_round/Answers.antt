use Rattle.std.proofs.Common.{None, option_map, Some, subst}
use Rattle.placement_programme.specs.Views.{plain_side}
use Rattle.certificate_checker.specs.Views.{plain_tree}
use Rattle.branch_bound.specs.Visits.{ShownOn}
use Rattle.branch_bound.proofs.Certified.{round_certified}
use Rattle.branch_bound.proofs.side_certifying.finish_round.Goals as goal

pub returns-in-Absent-clause-round : goal.returns-in-Absent-clause-round
returns-in-Absent-clause-round c =
    let on = subst (λ found. ShownOn (option_map plain_side c.args.p.now.on) c.args.best.gain found) c.in-Absent.is c.requires.on in
    round_certified c.args.p.now c.args.best c.args.off c.in-Some.off None c.requires.sound c.in-Some.is c.requires.off on (λ some. some)

pub returns-in-Shown-clause-round : goal.returns-in-Shown-clause-round
returns-in-Shown-clause-round c =
    let on = subst (λ found. ShownOn (option_map plain_side c.args.p.now.on) c.args.best.gain found) c.in-Shown.is c.requires.on in
    round_certified c.args.p.now c.args.best c.args.off c.in-Some.off (Some (plain_tree c.in-Shown.on)) c.requires.sound c.in-Some.is c.requires.off on.0 (λ some. (some, on.1))
