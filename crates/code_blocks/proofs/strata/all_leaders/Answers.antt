use Rattle.elf_reader.specs.File.{plain_view}
use Rattle.code_blocks.proofs.PairLemmas.{those_arranged, are_leaders}
use Rattle.code_blocks.proofs.strata.all_leaders.Goals as goal

pub returns : goal.returns
returns c =
    let v = plain_view c.args.file.now.view.now in
    those_arranged _ _ _ c.arrange.ensures.ascending c.arrange.ensures.same
    (λ a.
    are_leaders v c.args.pairs.now a _ _ _ c.requires.pairs (c.requires.early a) (c.in_ok-add_pair_leaders.ensures a) (c.in_ok-add_pair_leaders-2.ensures a))
