use Rattle.placement_programme.specs.Views.{plain_side}
use Rattle.branch_bound.proofs.Certified.{shown_more}
use Rattle.branch_bound.proofs.side_certifying.search_round.Goals as goal

pub finish_round-requires-clause-off : goal.finish_round-requires-clause-off
finish_round-requires-clause-off g c =
    shown_more (plain_side c.args.p.now.off) c.search_side.new.best.gain c.search_on.new.best.gain c.in_ok-off.off c.in_ok-on.ensures.grows c.in_ok-off.ensures.shown
