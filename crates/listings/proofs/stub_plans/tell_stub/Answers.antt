use Rattle.patch_code.proofs.Plain.{plain_lists, plain_small}
use Rattle.listings.proofs.stub_plans.tell_stub.Goals as goal

pub sizes-requires-clause-lists : goal.sizes-requires-clause-lists
sizes-requires-clause-lists c = plain_lists c.in_ok-plan.plan c.in_ok-plan.ensures.plain

pub sizes-requires-clause-small : goal.sizes-requires-clause-small
sizes-requires-clause-small c = plain_small c.in_ok-plan.plan c.in_ok-plan.ensures.plain c.in_ok-plan.ensures.can
