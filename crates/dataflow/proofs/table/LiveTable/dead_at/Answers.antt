use Rattle.dataflow.proofs.TableLemmas.{least_dead}
use Rattle.dataflow.proofs.table.LiveTable.dead_at.Goals as goal

pub returns : goal.returns
returns c code table =
    least_dead code c.args.leader c.args.avoid c.word_at.result c.joined.result (c.word_at.ensures code table)
    (λ x. rw c.from.ensures at (c.joined.ensures.marks x)) c.lowest_clear.result c.lowest_clear.ensures
