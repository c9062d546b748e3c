use Rattle.placement_programme.specs.Views.{plain_side}
use Rattle.certificate_checker.proofs.TallyLemmas.{open_few}
use Rattle.certificate_checker.proofs.duals.dual_holds_by_row.Goals as goal

pub loaded_holds-holds-requires-clause-open_gain : goal.loaded_holds-holds-requires-clause-open_gain
loaded_holds-holds-requires-clause-open_gain c =
    open_few (plain_side c.args.weighed.now.side.now) c.args.marks.now c.open_gains.result c.args.weighed.now.side.now.bounds c.open_gains.ensures
