-- What is written of a file without a fault fails no check but those of its size.
use Rattle.std.proofs.Common.{◌∙◌, None, refl, ap}
use Rattle.list_checks.specs.First.{◌or_else◌}
use Rattle.list_checks.proofs.FirstLemmas.{or_none}
use Rattle.elf_reader.specs.File.{view_in}
use Rattle.elf_reader.specs.ProgramHeaderChecks.{memory_fault}
use Rattle.elf_writer.specs.Written.{written}
use Rattle.elf_writer.specs.Laws.{length_fault, WrittenFaults}
use Rattle.elf_writer.proofs.HeaderFaults.{header_kept}
use Rattle.elf_writer.proofs.ProgramFaults.{programs_kept}
use Rattle.elf_writer.proofs.SectionFaults.{sections_kept}
use Rattle.elf_writer.proofs.SymbolFaults.{symbols_kept}
use Rattle.elf_writer.proofs.RelocationFaults.{relocations_kept}

pub written_faults : WrittenFaults
written_faults file ps new ms none is words =
    let out = written (view_in file) ps new ms in
    let header = header_kept file ps new ms none is words.entry in
    let programs = programs_kept file ps new ms none is words.entry in
    let sections = sections_kept file ps new ms none is in
    let symbols = symbols_kept file ps new ms none is words.values in
    let relocations = relocations_kept file ps new ms none is in
    (λ i. header i or_else programs i or_else sections i or_else symbols i or_else relocations i)
    ∙ ap (λ rest. length_fault out or_else rest) (or_none (memory_fault out) None refl)
