use Rattle.std.proofs.Common.{◌≡◌, ◌<◌, ◌∙◌, ℕ, ap, subst}
use Rattle.std.proofs.lemmas.Result.{err_from_is_err_and}
use Rattle.list_checks.proofs.FirstLemmas.{first_found}
use Rattle.elf_reader.specs.Layout.{section_header}
use Rattle.elf_reader.specs.Sections.{symbol_count_of}
use Rattle.elf_reader.specs.SymbolChecks.{symbol_fault}
use Rattle.elf_reader.specs.declared.records.SectionHeader.{SectionHeader}
use Rattle.elf_reader.proofs.symbol_checks.check_entries.Goals as goal

pub returns-in_err-check_symbol : goal.returns-in_err-check_symbol
returns-in_err-check_symbol c =
    let file = c.args.bytes.now in
    let count : c.symbol_count_of-count.result ≡ symbol_count_of (section_header file c.args.table) = c.symbol_count_of-count.ensures ∙ ap (λ (s : SectionHeader). symbol_count_of s) c.section_header.ensures in
    let below : c.loop-i.i < symbol_count_of (section_header file c.args.table) = subst (λ (n : ℕ). c.loop-i.i < n) count c.loop-i-test.true in
    let p = err_from_is_err_and c.from_residual.result c.from_residual.ensures.1 in
    rw (p.1, p.2) (first_found (symbol_fault file c.args.table) (symbol_count_of (section_header file c.args.table)) c.loop-i.i _ below c.loop-i.invariant c.in_err-check_symbol.ensures)
