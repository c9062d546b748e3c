use Rattle.dataflow.proofs.RegisterLemmas.{one_cleared}
use Rattle.dataflow.proofs.holders.without_register.Goals as goal

pub returns : goal.returns
returns c k = one_cleared c.args.word c.args.x k c.ranges.word.fits c.requires
