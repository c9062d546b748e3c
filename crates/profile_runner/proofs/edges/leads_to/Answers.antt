use Rattle.profile_runner.proofs.EdgeLemmas.{found_early}
use Rattle.profile_runner.proofs.edges.leads_to.Goals as goal

pub returns : goal.returns
returns c is =
    let there = c.is_edge_to.ensures is in found_early c.args.row.now c.args.to c.args.k c.requires there.0 there.1
