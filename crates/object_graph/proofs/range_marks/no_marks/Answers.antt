use Rattle.loaded_file.proofs.ByteRangeLemmas.{ok_then}
use Rattle.object_graph.proofs.MarkLemmas.{none_of}
use Rattle.object_graph.proofs.range_marks.no_marks.Goals as goal

pub returns-clause-none : goal.returns-clause-none
returns-clause-none c =
    ok_then c.vec.result _ _ (λ marks are. none_of c.args.count marks.items (are (λ y same. same))) c.vec.ensures.items_if_clones_equal
