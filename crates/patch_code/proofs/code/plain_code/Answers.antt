use Rattle.patch_code.proofs.Plain.{plain_lists, plain_holds, plain_code}
use Rattle.patch_code.proofs.code.plain_code.Goals as goal

pub stubs-requires-clause-lists : goal.stubs-requires-clause-lists
stubs-requires-clause-lists c = plain_lists c.args.plan.now c.requires.plain

pub stubs-requires-clause-can : goal.stubs-requires-clause-can
stubs-requires-clause-can c = plain_holds c.args.plan.now c.requires.plain c.requires.can

pub returns-in-Ok : goal.returns-in-Ok
returns-in-Ok c = plain_code c.args.plan.now c.requires.plain c.in-Ok.code c.in-Ok.ensures
