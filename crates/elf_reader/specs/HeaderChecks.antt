-- The checks of the ELF header, each with the fault that it tells, and their order.
use Rattle.std.specs.Prelude.{ℕ, min, ◌==◌, nat_le, not, ◌||◌, List, length, slice_index, Option}
use Rattle.list_checks.specs.First.{◌or_else◌, unless}
use Rattle.elf_reader.specs.Layout.{file_header}
use Rattle.elf_reader.specs.Sections.{bit_of}
use Rattle.elf_reader.specs.declared.fault.ElfFault.{ElfFault}
use Rattle.elf_reader.specs.declared.fault.ElfFault.TheVariants.{TooShort, NotElf, WrongKind, OverLimit}
use Rattle.elf_reader.specs.declared.records.FileHeader.{FileHeader}

-- a count, or the greatest 32-bit number where it is more
abbrev pub capped : ℕ → ℕ
capped n = min n 4294967295

-- a field must have this value
abbrev pub field_fault : ℕ → ℕ → ℕ → Option ElfFault
field_fault field value wanted = unless (value == wanted) (WrongKind field value)

-- the file has at most 64 MiB, and the 52 bytes of an ELF header
abbrev pub size_fault : List ℕ → Option ElfFault
size_fault file =
    unless (nat_le (length file) 67108864) (OverLimit 1 (capped (length file)))
    or_else unless (nat_le 52 (length file)) (TooShort 52 (length file))

-- byte `at` of the magic number
abbrev pub magic_byte_fault : List ℕ → ℕ → ℕ → Option ElfFault
magic_byte_fault file at byte = unless (slice_index file at == byte) (NotElf at)

-- the magic number, 7F 45 4C 46 (ELF, "ELF Identification": EI_MAG0 to EI_MAG3)
abbrev pub magic_fault : List ℕ → Option ElfFault
magic_fault file =
    magic_byte_fault file 0 127
    or_else magic_byte_fault file 1 69
    or_else magic_byte_fault file 2 76
    or_else magic_byte_fault file 3 70

-- 32-bit objects (EI_CLASS is ELFCLASS32), little-endian (EI_DATA is ELFDATA2LSB), in the current
-- version (EI_VERSION is EV_CURRENT)
abbrev pub identification_fault : List ℕ → Option ElfFault
identification_fault file =
    field_fault 1 (slice_index file 4) 1
    or_else field_fault 2 (slice_index file 5) 1
    or_else field_fault 3 (slice_index file 6) 1

-- an executable file (ET_EXEC) for RISC-V (EM_RISCV) in the current version (EV_CURRENT)
abbrev pub machine_fault : FileHeader → Option ElfFault
machine_fault h =
    field_fault 4 h.e_type 2 or_else field_fault 5 h.e_machine 243 or_else field_fault 6 h.e_version 1

-- no compressed instructions (EF_RISCV_RVC, bit 0) and no RV32E (EF_RISCV_RVE, bit 3)
-- (RISC-V psABI, "File Header")
abbrev pub flags_fault : FileHeader → Option ElfFault
flags_fault h = unless (not (bit_of h.e_flags 0 || bit_of h.e_flags 3)) (WrongKind 7 h.e_flags)

-- the sizes of the ELF header and, where there are such, of a program header and a section header
abbrev pub sizes_fault : FileHeader → Option ElfFault
sizes_fault h =
    field_fault 8 h.e_ehsize 52
    or_else unless ((h.e_phnum == 0) || (h.e_phentsize == 32)) (WrongKind 9 h.e_phentsize)
    or_else unless ((h.e_shnum == 0) || (h.e_shentsize == 40)) (WrongKind 10 h.e_shentsize)

-- at most 64 program headers and 4,096 section headers
abbrev pub counts_fault : FileHeader → Option ElfFault
counts_fault h =
    unless (nat_le h.e_phnum 64) (OverLimit 2 h.e_phnum)
    or_else unless (nat_le h.e_shnum 4096) (OverLimit 3 h.e_shnum)

-- the fields behind e_ident
abbrev pub fields_fault : FileHeader → Option ElfFault
fields_fault h =
    machine_fault h
    or_else flags_fault h
    or_else sizes_fault h
    or_else counts_fault h

-- the ELF header
abbrev pub header_fault : List ℕ → Option ElfFault
header_fault file =
    size_fault file
    or_else magic_fault file
    or_else identification_fault file
    or_else fields_fault (file_header file)
