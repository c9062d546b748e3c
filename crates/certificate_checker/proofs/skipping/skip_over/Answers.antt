use Rattle.certificate_checker.specs.Nodes.{over}
use Rattle.certificate_checker.proofs.StreamLemmas.{over_read}
use Rattle.certificate_checker.proofs.skipping.skip_over.Goals as goal

pub returns-in-Ok : goal.returns-in-Ok
returns-in-Ok c =
    (over c.in-Ok._row, over_read c.args.total c.args.bytes.now c.in-Ok._row c.in-Ok.rest.now c.in-Ok.ensures)
