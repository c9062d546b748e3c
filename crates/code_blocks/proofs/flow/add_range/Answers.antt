use Rattle.std.proofs.lemmas.Result.{on_ok_weaker}
use Rattle.elf_reader.specs.File.{plain_view}
use Rattle.loaded_file.specs.Code.{is_code_word}
use Rattle.code_blocks.specs.Flow.{leads_by}
use Rattle.code_blocks.proofs.EarlyLemmas.{range_added, no_range}
use Rattle.code_blocks.proofs.flow.add_range.Goals as goal

pub returns-then-is_code_range : goal.returns-then-is_code_range
returns-then-is_code_range c =
    let v = plain_view c.args.file.now.view.now in
    on_ok_weaker c.add_words.result
    (λ added a. range_added v (leads_by c.args.rule v a) c.args.k _ _ (is_code_word v a) _ c.is_code_range.ensures c.if-is_code_range.true (added a))
    c.add_words.ensures

pub returns-else-is_code_range : goal.returns-else-is_code_range
returns-else-is_code_range c a =
    let v = plain_view c.args.file.now.view.now in
    no_range v (leads_by c.args.rule v a) c.args.k _ (is_code_word v a) _ c.is_code_range.ensures c.if-is_code_range.false
