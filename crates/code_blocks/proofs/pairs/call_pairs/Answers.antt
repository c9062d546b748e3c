use Rattle.std.proofs.Common.{◌∙◌, ◌&&◌, ◌||◌, length, ap}
use Rattle.list_checks.specs.Tests.{any_below}
use Rattle.elf_reader.specs.File.{plain_view}
use Rattle.code_blocks.specs.Leaders.{is_call_by}
use Rattle.code_blocks.specs.Pairs.{may_be_pair}
use Rattle.code_blocks.proofs.PairLemmas.{none_yet, those_arranged, pair_is}
use Rattle.code_blocks.proofs.pairs.call_pairs.Goals as goal

pub returns : goal.returns
returns c =
    let v = plain_view c.args.file.now.view.now in
    those_arranged _ _ _ c.arrange.ensures.ascending c.arrange.ensures.same
    (λ p.
    c.in_ok-add_pairs.ensures p
    ∙ ap (λ b. b || may_be_pair v p && any_below (is_call_by v p) (length v.relocs)) (none_yet c.new-pairs.result.items p c.new-pairs.ensures.items)
    ∙ pair_is v p)
