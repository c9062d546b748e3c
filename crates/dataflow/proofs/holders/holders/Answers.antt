use Rattle.dataflow.proofs.RegisterLemmas.{holders_among}
use Rattle.dataflow.proofs.holders.holders.Goals as goal

pub returns : goal.returns
returns c x = holders_among c.args.word x
