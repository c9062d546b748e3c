use Rattle.reach_graph.proofs.MarkLemmas.{one_bit}
use Rattle.reach_graph.proofs.marks.one_mark.Goals as goal

pub returns : goal.returns
returns c k = one_bit 64 c.args.mark k c.requires
