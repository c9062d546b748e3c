use Rattle.std.proofs.Common.{length}
use Rattle.region_former.proofs.reaching.root_called.Goals as goal

pub returns-clause-below : goal.returns-clause-below
returns-clause-below c = c.other_than.ensures.below (length c.args.code.now.functions.items) c.called_function.ensures.below
