use Rattle.std.proofs.Common.{length, sym}
use Rattle.elf_reader.specs.File.{plain_view}
use Rattle.code_blocks.proofs.RangeLemmas.{is_lowest, none_found}
use Rattle.code_blocks.proofs.ranges.lowest_range.Goals as goal

pub returns-in-Some-clause-first : goal.returns-in-Some-clause-first
returns-in-Some-clause-first c = sym (is_lowest c.args.file.now.view.now c.args.address c.in-Some.k c.requires.read c.in-Some.ensures.0 c.in-Some.ensures.1)

pub returns-in-None-clause-first : goal.returns-in-None-clause-first
returns-in-None-clause-first c =
    let v = plain_view c.args.file.now.view.now in
    sym (none_found v c.args.address (length v.sections) c.in-None.ensures)
