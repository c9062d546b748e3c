-- Whether the headers of either table lie inside the file, and how many they are.
use Rattle.std.specs.Prelude.{ℕ, List, Option}
use Rattle.elf_reader.specs.Layout.{program_header_count, section_count}
use Rattle.elf_reader.specs.ProgramHeaderChecks.{place_fault}
use Rattle.elf_reader.specs.SectionChecks.{header_place_fault}
use Rattle.elf_reader.specs.declared.fault.ElfFault.{ElfFault}
use Rattle.elf_reader.specs.declared.header_tables.HeaderTable.{HeaderTable}
use Rattle.elf_reader.specs.declared.header_tables.HeaderTable.TheVariants.{Programs, Sections}

-- the fault of header `k`
abbrev pub outside_fault : HeaderTable → List ℕ → ℕ → Option ElfFault
outside_fault Programs = place_fault
outside_fault Sections = header_place_fault

abbrev pub header_count : HeaderTable → List ℕ → ℕ
header_count Programs = program_header_count
header_count Sections = section_count
