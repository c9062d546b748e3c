-- Where the fields of an ELF32 file stand, all little-endian. Places count bytes from the file's
-- beginning. A byte past the end reads as 0.
use Rattle.std.specs.Prelude.{ℕ, ◌+◌, ◌*◌, List, slice_index}
use Rattle.std.specs.Int.{cast_signed, w32}
use Rattle.rv32im.specs.Words.{half_of, word_of}
use Rattle.elf_reader.specs.declared.records.FileHeader.{FileHeader}
use Rattle.elf_reader.specs.declared.records.ProgramHeader.{ProgramHeader}
use Rattle.elf_reader.specs.declared.records.SectionHeader.{SectionHeader}
use Rattle.elf_reader.specs.declared.records.SymbolRecord.{SymbolRecord}
use Rattle.elf_reader.specs.declared.records.RelocationRecord.{RelocationRecord}

-- the halfword and the word at a place (ELF, "Data Representation": Elf32_Half, Elf32_Word)
abbrev pub half_in : List ℕ → ℕ → ℕ
half_in file at = half_of (slice_index file at) (slice_index file (at + 1))

abbrev pub word_in : List ℕ → ℕ → ℕ
word_in file at =
    word_of (slice_index file at) (slice_index file (at + 1)) (slice_index file (at + 2)) (slice_index file (at + 3))

-- the ELF header, at the file's beginning (ELF, "ELF Header": Elf32_Ehdr, behind e_ident)
unfoldable pub file_header : List ℕ → FileHeader
file_header file =
    record {
      e_type = half_in file 16;
      e_machine = half_in file 18;
      e_version = word_in file 20;
      e_entry = word_in file 24;
      e_phoff = word_in file 28;
      e_shoff = word_in file 32;
      e_flags = word_in file 36;
      e_ehsize = half_in file 40;
      e_phentsize = half_in file 42;
      e_phnum = half_in file 44;
      e_shentsize = half_in file 46;
      e_shnum = half_in file 48;
      e_shstrndx = half_in file 50;
    }

-- how many program headers there are
abbrev pub program_header_count : List ℕ → ℕ
program_header_count file = (file_header file).e_phnum

-- where program header `k` begins; each has 32 bytes
abbrev pub program_header_at : List ℕ → ℕ → ℕ
program_header_at file k = (file_header file).e_phoff + 32 * k

-- the program header at a place (ELF, "Program Header": Elf32_Phdr, without p_paddr and p_align)
unfoldable pub program_header_in : List ℕ → ℕ → ProgramHeader
program_header_in file at =
    record {
      p_type = word_in file at;
      p_offset = word_in file (at + 4);
      p_vaddr = word_in file (at + 8);
      p_filesz = word_in file (at + 16);
      p_memsz = word_in file (at + 20);
      p_flags = word_in file (at + 24);
    }

-- program header `k`
abbrev pub program_header : List ℕ → ℕ → ProgramHeader
program_header file k = program_header_in file (program_header_at file k)

-- how many section headers there are
abbrev pub section_count : List ℕ → ℕ
section_count file = (file_header file).e_shnum

-- where section header `k` begins; each has 40 bytes
abbrev pub section_header_at : List ℕ → ℕ → ℕ
section_header_at file k = (file_header file).e_shoff + 40 * k

-- the section header at a place (ELF, "Sections": Elf32_Shdr, without sh_addralign)
unfoldable pub section_header_in : List ℕ → ℕ → SectionHeader
section_header_in file at =
    record {
      sh_name = word_in file at;
      sh_type = word_in file (at + 4);
      sh_flags = word_in file (at + 8);
      sh_addr = word_in file (at + 12);
      sh_offset = word_in file (at + 16);
      sh_size = word_in file (at + 20);
      sh_link = word_in file (at + 24);
      sh_info = word_in file (at + 28);
      sh_entsize = word_in file (at + 36);
    }

-- section header `k`
abbrev pub section_header : List ℕ → ℕ → SectionHeader
section_header file k = section_header_in file (section_header_at file k)

-- where entry `i` of the symbol table of section header `table` begins; each has 16 bytes
abbrev pub symbol_at : List ℕ → ℕ → ℕ → ℕ
symbol_at file table i = (section_header file table).sh_offset + 16 * i

-- the symbol table entry at a place (ELF, "Symbol Table": Elf32_Sym, without st_other)
unfoldable pub symbol_record_in : List ℕ → ℕ → SymbolRecord
symbol_record_in file at =
    record {
      st_name = word_in file at;
      st_value = word_in file (at + 4);
      st_size = word_in file (at + 8);
      st_info = slice_index file (at + 12);
      st_shndx = half_in file (at + 14);
    }

-- entry `i` of the symbol table of section header `table`
abbrev pub symbol_record : List ℕ → ℕ → ℕ → SymbolRecord
symbol_record file table i = symbol_record_in file (symbol_at file table i)

-- where entry `i` of the relocation section of section header `k` begins; each has 12 bytes
abbrev pub relocation_at : List ℕ → ℕ → ℕ → ℕ
relocation_at file k i = (section_header file k).sh_offset + 12 * i

-- the relocation entry at a place (ELF, "Relocation": Elf32_Rela)
unfoldable pub relocation_record_in : List ℕ → ℕ → RelocationRecord
relocation_record_in file at =
    record {
      r_offset = word_in file at;
      r_info = word_in file (at + 4);
      r_addend = cast_signed w32 (word_in file (at + 8));
    }

-- entry `i` of the relocation section of section header `k`
abbrev pub relocation_record : List ℕ → ℕ → ℕ → RelocationRecord
relocation_record file k i = relocation_record_in file (relocation_at file k i)
