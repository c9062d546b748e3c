use Rattle.branch_bound.proofs.VisitLemmas.{opens}
use Rattle.placement_programme.specs.Views.{plain_side}
use Rattle.branch_bound.specs.Ranking.{number_at}
use Rattle.branch_bound.proofs.searching.close_or_open.Goals as goal

pub returns-in-None : goal.returns-in-None
returns-in-None c =
    let s = plain_side c.args.task.now.side.now in
    record {
      inside = c.requires.place;
      fails = opens s c.args.best c.args.node.now.marks.items (number_at c.args.task.now.ranking.now c.args.place) c.requires.fits c.requires.greatest c.in-None.ensures;
      greatest = c.requires.greatest;
      passed = c.requires.passed;
    }
