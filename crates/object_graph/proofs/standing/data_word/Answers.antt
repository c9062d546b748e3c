use Rattle.std.proofs.Common.{length}
use Rattle.list_checks.proofs.TestLemmas.{any_at}
use Rattle.elf_reader.specs.File.{plain_view}
use Rattle.object_graph.specs.Rewritable.{holds_data}
use Rattle.object_graph.proofs.DataWords.{data_content}
use Rattle.object_graph.proofs.standing.data_word.Goals as goal

pub returns-in-Some : goal.returns-in-Some
returns-in-Some c =
    let v = plain_view c.args.file.now.view.now in
    (any_at (holds_data v c.args.address) (length v.sections) c.in-Some.k c.in-Some.ensures.0 c.in-Some.ensures.1, c.content_word.ensures)

pub content_word-requires-clause-has : goal.content_word-requires-clause-has
content_word-requires-clause-has c = data_content (plain_view c.args.file.now.view.now) c.args.address c.in-Some.k c.in-Some.ensures.1
