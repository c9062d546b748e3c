use Rattle.std.proofs.lemmas.Result.{err_from_is_err_and}
use Rattle.elf_reader.specs.SectionPasses.{section_fault}
use Rattle.elf_reader.proofs.CheckLemmas.{section_found}
use Rattle.elf_reader.proofs.section_checks.check_each.Goals as goal

pub returns-in_err-check_at : goal.returns-in_err-check_at
returns-in_err-check_at c =
    let file = c.args.bytes.now in
    let p = err_from_is_err_and c.from_residual.result c.from_residual.ensures.1 in
    rw (p.1, p.2)
    (section_found (section_fault c.args.check file) file c.args.header.now c.loop-k.k _ c.requires.headers.0 c.loop-k-test.true c.loop-k.invariant c.in_err-check_at.ensures)
