use Rattle.placement_programme.specs.Views.{plain_side}
use Rattle.branch_bound.proofs.ExceedLemmas.{exceeded_is}
use Rattle.branch_bound.proofs.exceeding.exceeded.Goals as goal

pub returns : goal.returns
returns c =
    exceeded_is (plain_side c.args.side.now) c.args.node.now c.args.number c.weights_of_var.result.now c.first_exceeded.result c.requires.tallies c.weights_of_var.ensures.value c.requires.only
    (rw (← c.deref.ensures.value, ← c.deref-2.ensures.value) c.first_exceeded.ensures)
