use Rattle.block_splitter.proofs.PieceLemmas.{of_graph}
use Rattle.block_splitter.proofs.finding.pieces.Goals as goal

pub returns : goal.returns
returns c =
    of_graph c.args.code.now c.args.graph.now c.in_ok-table.table c.pieces_among.result c.in_ok-table.ensures c.pieces_among.ensures
