use Rattle.std.proofs.Common.{length, sym}
use Rattle.list_checks.proofs.TestLemmas.{any_at}
use Rattle.elf_reader.specs.File.{plain_view}
use Rattle.loaded_file.specs.Code.{holds_code}
use Rattle.loaded_file.proofs.code_ranges.is_in_code.Goals as goal

pub returns-in-Some : goal.returns-in-Some
returns-in-Some c =
    let v = plain_view c.args.file.now.view.now in
    sym (any_at (holds_code v c.args.address) (length v.sections) c.in-Some.field-0 c.in-Some.ensures.0 c.in-Some.ensures.1)
