use Rattle.placement_programme.specs.Views.{plain_side}
use Rattle.certificate_checker.specs.Nodes.{over}
use Rattle.certificate_checker.proofs.StreamLemmas.{over_read}
use Rattle.certificate_checker.proofs.text_walk.walk_over.Goals as goal

pub returns-in-Ok : goal.returns-in-Ok
returns-in-Ok c =
    let task = c.args.task.now in
    let tree = over c.in-Ok.row in (
      tree,
      (
        over_read task.total c.args.bytes.now c.in-Ok.row c.in-Ok.rest.now c.in-Ok.ensures,
        c.single.ensures (plain_side task.side.now) task.best c.args.assignment.now.marks.items tree tt c.tallied_over.ensures,
      ),
    )
