-- The checks of an ELF file, in their order.
use Rattle.std.specs.Prelude.{ℕ, List, Option}
use Rattle.list_checks.specs.First.{◌or_else◌}
use Rattle.elf_reader.specs.HeaderChecks.{header_fault}
use Rattle.elf_reader.specs.ProgramHeaderChecks.{program_headers_fault}
use Rattle.elf_reader.specs.SectionChecks.{sections_fault}
use Rattle.elf_reader.specs.SymbolChecks.{symbols_fault}
use Rattle.elf_reader.specs.RelocationChecks.{relocations_fault}
use Rattle.elf_reader.specs.declared.fault.ElfFault.{ElfFault}

-- the first check of a file that fails
abbrev pub first_fault : List ℕ → Option ElfFault
first_fault file =
    header_fault file
    or_else program_headers_fault file
    or_else sections_fault file
    or_else symbols_fault file
    or_else relocations_fault file
