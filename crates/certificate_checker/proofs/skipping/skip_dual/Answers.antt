use Rattle.certificate_checker.specs.Nodes.{dual}
use Rattle.certificate_checker.proofs.StreamLemmas.{dual_read}
use Rattle.certificate_checker.proofs.skipping.skip_dual.Goals as goal

pub returns : goal.returns
returns c =
    let entries = c.in_ok-rest.ensures in (
      dual c.in_ok-_scale._scale entries.0,
      dual_read c.args.total c.args.bytes.now c.in_ok-_scale._scale c.in_ok-_scale.rest.now c.in_ok-count.count c.in_ok-count.rest.now entries.0 c.in_ok-rest.rest.now c.in_ok-_scale.ensures.gives c.in_ok-count.ensures entries.1,
    )
