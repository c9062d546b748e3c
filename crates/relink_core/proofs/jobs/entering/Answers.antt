use Rattle.relink_core.specs.Naming.{in_phase, phase_region, images_at}
use Rattle.relink_core.proofs.PlaceRows.{entering_more, code_more}
use Rattle.relink_core.proofs.jobs.entering.Goals as goal

pub loop-name-preserved : goal.loop-name-preserved
loop-name-preserved c = record {
  jobs = entering_more (in_phase c.args.phase) c.args.items.now.graph.now c.args.items.now.places.now (images_at c.args.images.now c.args.items.now.copies.now) (phase_region c.args.phase) c.args.items.now.names.now _ _ _ _ _ c.loop-name.name-index _ c.loop-name-test.true c.in_ok-push_into.ensures c.next_code-number.ensures c.loop-name.invariant.jobs;
  code = code_more c.args.items.now.names.now _ _ c.loop-name.name-index _ c.loop-name-test.true c.next_code-number.ensures c.loop-name.invariant.code;
}
