use Rattle.std.proofs.lemmas.Result.{err_from_is_err_and}
use Rattle.elf_reader.specs.RelocationChecks.{rela_fault}
use Rattle.elf_reader.proofs.CheckLemmas.{section_found}
use Rattle.elf_reader.proofs.relocation_checks.check_relas.Goals as goal

pub returns-in_err-check_rela : goal.returns-in_err-check_rela
returns-in_err-check_rela c =
    let file = c.args.bytes.now in
    let p = err_from_is_err_and c.from_residual.result c.from_residual.ensures.1 in
    rw (p.1, p.2) (section_found (rela_fault file) file c.args.header.now c.loop-k.k _ c.requires.headers.0 c.loop-k-test.true c.loop-k.invariant c.in_err-check_rela.ensures)
