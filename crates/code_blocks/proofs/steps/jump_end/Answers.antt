use Rattle.std.proofs.Common.{◌∙◌, sym}
use Rattle.elf_reader.specs.File.{plain_view}
use Rattle.code_blocks.proofs.StepLemmas.{pair_ends, word_ends}
use Rattle.code_blocks.proofs.steps.jump_end.Goals as goal

pub returns-then-is_pair : goal.returns-then-is_pair
returns-then-is_pair c =
    let pair = sym (c.requires.leaders.pairs c.args.address) ∙ sym c.is_pair.ensures ∙ c.if-is_pair.true in
    pair_ends (plain_view c.args.file.now.view.now) c.args.address _ pair c.pair_end.ensures

pub returns-else-is_pair : goal.returns-else-is_pair
returns-else-is_pair c =
    let single = sym (c.requires.leaders.pairs c.args.address) ∙ sym c.is_pair.ensures ∙ c.if-is_pair.false in
    word_ends (plain_view c.args.file.now.view.now) c.args.address c.args.word _ single c.requires.word c.word_end.ensures
