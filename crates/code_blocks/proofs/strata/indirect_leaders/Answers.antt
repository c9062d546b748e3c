use Rattle.elf_reader.specs.File.{plain_view}
use Rattle.code_blocks.proofs.PairLemmas.{none_yet, those_arranged, are_indirect}
use Rattle.code_blocks.proofs.strata.indirect_leaders.Goals as goal

pub returns : goal.returns
returns c =
    let v = plain_view c.args.file.now.view.now in
    those_arranged _ _ _ c.arrange.ensures.ascending c.arrange.ensures.same
    (λ a.
    are_indirect v c.args.pairs.now a _ _ _ _ c.requires.pairs (none_yet c.new-indirect.result.items a c.new-indirect.ensures.items) (c.in_ok-add_named.ensures a) (c.in_ok-add_flow.ensures a) (c.in_ok-add_pair_leaders.ensures a))
