-- What is checked of each section header by itself.
use Rattle.std.specs.Prelude.{ℕ, List, Option}
use Rattle.elf_reader.specs.SectionChecks.{section_place_fault, compressed_fault, loaded_relocations_fault}
use Rattle.elf_reader.specs.RelocationChecks.{rel_fault}
use Rattle.elf_reader.specs.declared.fault.ElfFault.{ElfFault}
use Rattle.elf_reader.specs.declared.section_checks.SectionCheck.{SectionCheck}
use Rattle.elf_reader.specs.declared.section_checks.SectionCheck.TheVariants.{Place, Compression, Loaded, Rel}

-- the fault of section header `k`
abbrev pub section_fault : SectionCheck → List ℕ → ℕ → Option ElfFault
section_fault Place = section_place_fault
section_fault Compression = compressed_fault
section_fault Loaded = loaded_relocations_fault
section_fault Rel = rel_fault
