use Rattle.std.proofs.lemmas.Result.{err_from_is_err_and}
use Rattle.elf_reader.specs.SymbolChecks.{second_table_fault}
use Rattle.elf_reader.proofs.CheckLemmas.{section_found}
use Rattle.elf_reader.proofs.symbol_checks.find_table.Goals as goal

pub returns-in_err-table-clause-fault : goal.returns-in_err-table-clause-fault
returns-in_err-table-clause-fault c =
    let file = c.args.bytes.now in
    let p = err_from_is_err_and c.from_residual.result c.from_residual.ensures.1 in
    rw (p.1, p.2) (section_found (second_table_fault file) file c.args.header.now c.loop-k.k _ c.requires.headers.0 c.loop-k-test.true c.loop-k.invariant.none c.in_err-table.ensures.fault)
