use Rattle.std.proofs.Common.{ap, arith}
use Rattle.elf_reader.specs.Layout.{file_header}
use Rattle.elf_reader.specs.Sections.{is_string_table}
use Rattle.elf_reader.specs.declared.records.SectionHeader.{SectionHeader}
use Rattle.elf_reader.proofs.SymbolLemmas.{named_below}
use Rattle.elf_reader.proofs.symbols.symbol_names.Goals as goal

pub overflow_cast-link : goal.overflow_cast-link
unfolding file_header
overflow_cast-link c =
    let below = named_below c.args.bytes.now is_string_table _ c.requires.strings in
    let link = ap (λ (s : SectionHeader). s.sh_link) c.section_header-link.ensures in
    let low = c.type_inv.bytes 48 in
    let high = c.type_inv.bytes 49 in
    omega (arith, below, link, low, high)
