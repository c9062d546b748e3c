use Rattle.relinking.proofs.Analysed.{may_state}
use Rattle.listings.proofs.moved.list_moved.Goals as goal

pub first_words-requires-clause-read : goal.first_words-requires-clause-read
first_words-requires-clause-read c =
    (may_state c.requires.analysed.0 c.args.board.now c.args.analysis.now c.requires.analysed.1).read

pub first_words-requires-clause-graph : goal.first_words-requires-clause-graph
first_words-requires-clause-graph c =
    (c.args.board.now, (may_state c.requires.analysed.0 c.args.board.now c.args.analysis.now c.requires.analysed.1).graph)
