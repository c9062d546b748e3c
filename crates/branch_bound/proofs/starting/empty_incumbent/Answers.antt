use Rattle.std.proofs.Common.{length, ap, arith}
use Rattle.std.proofs.lemmas.List.{length-replicate}
use Rattle.placement_programme.specs.Views.{plain_programme}
use Rattle.certificate_checker.specs.declared.fixings.Fixing.{Fixing}
use Rattle.certificate_checker.specs.declared.fixings.Fixing.TheVariants.{Free}
use Rattle.branch_bound.proofs.SolveLemmas.{nothing_from, nothing_accepted}
use Rattle.branch_bound.proofs.starting.empty_incumbent.Goals as goal

pub returns-clause-empty : goal.returns-clause-empty
returns-clause-empty c = nothing_from (plain_programme c.args.p.now) c.in_ok-marks.marks.items c.in_ok-marks.ensures

pub returns-clause-incumbent : goal.returns-clause-incumbent
returns-clause-incumbent c =
    let p = plain_programme c.args.p.now in
    let same = ap length c.in_ok-marks.ensures in
    let all = length-replicate {A = Fixing} (length p.off.vars) Free in
    record {
      accepted = nothing_accepted p c.in_ok-marks.marks.items c.in_ok-marks.ensures;
      marked = omega (arith, same, all);
    }
