use Rattle.std.proofs.Common.{length}
use Rattle.list_checks.proofs.TestLemmas.{any_at}
use Rattle.elf_reader.specs.File.{plain_view}
use Rattle.loaded_file.specs.Code.{holds_code}
use Rattle.loaded_file.proofs.WordLemmas.{word_fits}
use Rattle.loaded_file.proofs.code_words.word_in_code.Goals as goal

pub returns-in-Some : goal.returns-in-Some
returns-in-Some c =
    let view = c.args.file.now.view.now in
    let v = plain_view view in
    let holds = c.in-Some.ensures.1 in
    (any_at (holds_code v c.args.address) (length v.sections) c.in-Some.k c.in-Some.ensures.0 holds, c.word_in.ensures, word_fits view c.in-Some.k c.args.address c.requires.read holds)
