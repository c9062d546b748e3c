use Rattle.placement_programme.specs.Views.{plain_programme}
use Rattle.relinking.proofs.Solutions.{is_found}
use Rattle.relinking.proofs.finding.find_choice.Goals as goal

pub returns : goal.returns
returns g c =
    let found = c.in_ok-found.ensures in
    is_found (plain_programme c.args.programme.now) c.args.nodes c.in_ok-found.found _
    (record {
      feasible = found.feasible;
      gains = found.gain;
      reach = found.reach;
      grown = found.grown;
      same = found.same;
      range = found.range;
      status = found.status;
      enough = found.enough;
    })
    c.in_ok-certificate.ensures
