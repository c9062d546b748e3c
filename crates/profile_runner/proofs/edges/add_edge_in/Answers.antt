use Rattle.profile_runner.proofs.EdgeLemmas.{edges_in}
use Rattle.profile_runner.proofs.edges.add_edge_in.Goals as goal

pub returns-in-Ok : goal.returns-in-Ok
returns-in-Ok c =
    edges_in c.args.rows.now.items c.args.from c.args.to c.index_mut.result.now c.add.new.self c.requires.row c.index_mut.ensures.value c.in-Ok.ensures
