use Rattle.std.proofs.Common.{◌∙◌, sym, subst, ap}
use Rattle.std.specs.List.{list_any, AllPairs}
use Rattle.std.proofs.lemmas.List.Filters.{dedup_is}
use Rattle.std.proofs.lemmas.List.Sorted.{list_any-IsPermutation}
use Rattle.block_splitter.specs.Pieces.{ComesBefore}
use Rattle.block_splitter.proofs.OrderLemmas.{same, arranged, any_once}
use Rattle.block_splitter.proofs.candidates.arrange.Goals as goal

pub returns-clause-ordered : goal.returns-clause-ordered
returns-clause-ordered c =
    let once = dedup_is same c.sort_unstable.new.self.items c.dedup.new.self.items c.dedup.ensures.filtered in
    subst (AllPairs ComesBefore) (sym once) (arranged c.sort_unstable.new.self.items c.sort_unstable.ensures.sorted)

pub returns-clause-same : goal.returns-clause-same
returns-clause-same c = λ test.
    let once = dedup_is same c.sort_unstable.new.self.items c.dedup.new.self.items c.dedup.ensures.filtered in
    ap (list_any test) once
    ∙ any_once test c.sort_unstable.new.self.items
    ∙ sym (list_any-IsPermutation test c.args.ranges.now.items c.sort_unstable.new.self.items c.sort_unstable.ensures.permutation)
