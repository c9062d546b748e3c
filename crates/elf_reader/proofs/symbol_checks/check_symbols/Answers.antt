use Rattle.std.proofs.Common.{◌<◌, ◌∙◌, sym, subst}
use Rattle.elf_reader.specs.Layout.{section_count}
use Rattle.elf_reader.specs.declared.records.FileHeader.{FileHeader}
use Rattle.elf_reader.proofs.SymbolLemmas.{table_is, readable}
use Rattle.elf_reader.proofs.symbol_checks.check_symbols.Goals as goal

pub check_table-requires-clause-below : goal.check_table-requires-clause-below
check_table-requires-clause-below c =
    let file = c.args.bytes.now in
    let is = table_is file (section_count file) c.in-Some.table (sym c.in_ok-table.ensures.table ∙ c.in-Some.is) in
    subst (λ (h : FileHeader). c.in-Some.table < h.e_shnum) (sym c.requires.headers.0) is.0

pub check_table-requires-clause-table : goal.check_table-requires-clause-table
check_table-requires-clause-table c =
    let file = c.args.bytes.now in
    (table_is file (section_count file) c.in-Some.table (sym c.in_ok-table.ensures.table ∙ c.in-Some.is)).1

pub returns-in_ok-check_table-in-Some-clause-readable : goal.returns-in_ok-check_table-in-Some-clause-readable
returns-in_ok-check_table-in-Some-clause-readable c =
    let file = c.args.bytes.now in
    let is = table_is file (section_count file) c.in-Some.table (sym c.in_ok-table.ensures.table ∙ c.in-Some.is) in
    readable file c.in-Some.table c.requires.contents is.0 is.1 c.in_ok-check_table-in-Some.ensures
