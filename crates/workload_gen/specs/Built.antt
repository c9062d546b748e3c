-- The file that is built of a plan: the ELF header, a program header for each section, the contents at
-- multiples of 4 in the order of the section headers, and the section headers.
-- (ELF, "ELF Header", "Program Header", "Sections", "Symbol Table", "Relocation".)
use Rattle.std.specs.Prelude.{ℕ, ◌+◌, ◌*◌, ◌/◌, ◌%◌, nat_lt, Bool, if◌then◌else◌, List, [], ◌∷◌, ◌++◌, length, map, codes}
use Rattle.std.specs.Int.{cast_unsigned, w32}
use Rattle.elf_reader.specs.declared.view.Reloc.{Reloc}
use Rattle.workload_gen.specs.Plan.{SectionPlan, SymbolPlan, FilePlan}
use Rattle.elf_writer.specs.Pieces.{half_bytes, words_bytes, zero_bytes, padded, string_table, name_size}

-- a section of the file, without its place and the place of its name
pub record Planned : Type 0 where
  pub name : List ℕ
  pub kind : ℕ
  pub flags : ℕ
  pub addr : ℕ
  pub size : ℕ
  pub link : ℕ
  pub info : ℕ
  pub align : ℕ
  pub entsize : ℕ
  pub content : List ℕ

-- a section's size in memory
abbrev pub memory_size : SectionPlan → ℕ
memory_size s = if nat_lt 0 s.empty then s.empty else length s.content

-- SHT_NOBITS (8) where it is empty, else SHT_PROGBITS (1)
abbrev pub kind_of : SectionPlan → ℕ
kind_of s = if nat_lt 0 s.empty then 8 else 1

-- a section as it was asked for
abbrev pub asked : SectionPlan → Planned
asked s =
    record {
      name = s.name;
      kind = kind_of s;
      flags = s.flags;
      addr = s.addr;
      size = memory_size s;
      link = 0;
      info = 0;
      align = 4;
      entsize = 0;
      content = s.content;
    }

-- a symbol, whose name begins at byte `name_at` of the string table. Its binding is STB_GLOBAL
abbrev pub symbol_bytes : ℕ → SymbolPlan → List ℕ
symbol_bytes name_at s =
    words_bytes (name_at ∷ s.value ∷ s.size ∷ [])
    ++ ((16 + s.kind) % 256) ∷ 0 ∷ half_bytes s.section

abbrev pub symbols_bytes : ℕ → List SymbolPlan → List ℕ
symbols_bytes name_at [] = []
symbols_bytes name_at (s ∷ ss) = symbol_bytes name_at s ++ symbols_bytes (name_at + name_size s.name) ss

abbrev pub symbol_name : SymbolPlan → List ℕ
symbol_name s = s.name

-- where the symbol table stands among the section headers: behind the null section and those asked for
abbrev pub symbol_table_number : FilePlan → ℕ
symbol_table_number f = length f.sections + 1

-- the symbol table: the null symbol, and the symbols, all of them global
abbrev pub symbol_table_of : FilePlan → Planned
symbol_table_of f =
    let content = zero_bytes 16 ++ symbols_bytes 1 f.symbols in
    record {
      name = codes ".symtab";
      kind = 2;
      flags = 0;
      addr = 0;
      size = length content;
      link = symbol_table_number f + 1;
      info = 1;
      align = 4;
      entsize = 16;
      content = content;
    }

-- a string table of which the bytes are known
abbrev pub names_section_of : List ℕ → List ℕ → Planned
names_section_of name content =
    record {
      name = name;
      kind = 3;
      flags = 0;
      addr = 0;
      size = length content;
      link = 0;
      info = 0;
      align = 1;
      entsize = 0;
      content = content;
    }

-- a section that holds names
abbrev pub names_of : List ℕ → List (List ℕ) → Planned
names_of name names = names_section_of name (string_table names)

-- a relocation
abbrev pub relocation_bytes : Reloc → List ℕ
relocation_bytes r = words_bytes (r.at ∷ (r.symbol * 256 + r.kind) ∷ cast_unsigned w32 r.addend ∷ [])

abbrev pub relocations_bytes : List Reloc → List ℕ
relocations_bytes [] = []
relocations_bytes (r ∷ rs) = relocation_bytes r ++ relocations_bytes rs

abbrev pub relocation_name : List ℕ → List ℕ
relocation_name name = codes ".rela" ++ name

-- the relocations of section number `k`, by symbols of section number `table`
abbrev pub relocations_of : ℕ → ℕ → SectionPlan → Planned
relocations_of table k s =
    let content = relocations_bytes s.relocs in
    record {
      name = relocation_name s.name;
      kind = 4;
      flags = 0;
      addr = 0;
      size = length content;
      link = table;
      info = k;
      align = 4;
      entsize = 12;
      content = content;
    }

abbrev pub has_relocations : SectionPlan → Bool
has_relocations s = nat_lt 0 (length s.relocs)

-- a relocation section for each section that has relocations, the first of them being number `k`
abbrev pub relocation_sections : ℕ → ℕ → List SectionPlan → List Planned
relocation_sections table k [] = []
relocation_sections table k (s ∷ ss) =
    if has_relocations s then relocations_of table k s ∷ relocation_sections table (k + 1) ss
    else relocation_sections table (k + 1) ss

abbrev pub planned_name : Planned → List ℕ
planned_name s = s.name

-- the sections but the last one, which holds their names
abbrev pub named_sections : FilePlan → List Planned
named_sections f =
    map asked f.sections
    ++ symbol_table_of f
    ∷ names_of (codes ".strtab") (map symbol_name f.symbols)
    ∷ relocation_sections (symbol_table_number f) 1 f.sections

abbrev pub section_names_name : List ℕ
section_names_name = codes ".shstrtab"

-- all sections but the null section
abbrev pub planned_sections : FilePlan → List Planned
planned_sections f =
    let named = named_sections f in
    named ++ names_of section_names_name (map planned_name named ++ section_names_name ∷ []) ∷ []

-- the contents, each up to a multiple of 4
abbrev pub contents : List Planned → List ℕ
contents [] = []
contents (s ∷ ss) = padded s.content ++ contents ss

-- a section header, of a section that stands at `place` and whose name begins at byte `name_at` of the
-- string table
abbrev pub section_header_bytes : ℕ → ℕ → Planned → List ℕ
section_header_bytes place name_at s =
    words_bytes (name_at ∷ s.kind ∷ s.flags ∷ s.addr ∷ place ∷ s.size ∷ s.link ∷ s.info ∷ s.align ∷ s.entsize ∷ [])

-- the section headers, the first section standing at `place`
abbrev pub section_headers : ℕ → ℕ → List Planned → List ℕ
section_headers place name_at [] = []
section_headers place name_at (s ∷ ss) =
    section_header_bytes place name_at s
    ++ section_headers (place + length (padded s.content)) (name_at + name_size s.name) ss

-- a segment's flags: readable (PF_R 4), writable (PF_W 2) and executable (PF_X 1) as its section is
-- (SHF_WRITE, bit 0; SHF_EXECINSTR, bit 2)
abbrev pub segment_flags : ℕ → ℕ
segment_flags flags = 4 + 2 * (flags % 2) + flags / 4 % 2

-- a program header: a segment to be loaded (PT_LOAD 1), whose bytes stand at `place`
abbrev pub program_header_bytes : ℕ → SectionPlan → List ℕ
program_header_bytes place s =
    words_bytes (1 ∷ place ∷ s.addr ∷ s.addr ∷ length s.content ∷ memory_size s ∷ segment_flags s.flags ∷ 4 ∷ [])

abbrev pub program_headers : ℕ → List SectionPlan → List ℕ
program_headers place [] = []
program_headers place (s ∷ ss) =
    program_header_bytes place s ++ program_headers (place + length (padded s.content)) ss

-- where the first content stands: behind the ELF header and a program header for each section
abbrev pub first_place : FilePlan → ℕ
first_place f = 52 + 32 * length f.sections

-- the ELF header of a file with the given entry, program headers, and section headers at `place`
abbrev pub file_header_bytes : ℕ → ℕ → ℕ → ℕ → List ℕ
file_header_bytes entry programs place sections =
    127 ∷ 69 ∷ 76 ∷ 70 ∷ 1 ∷ 1 ∷ 1 ∷ zero_bytes 9
    ++ half_bytes 2
    ++ half_bytes 243
    ++ words_bytes (1 ∷ entry ∷ 52 ∷ place ∷ 0 ∷ [])
    ++ half_bytes 52
    ++ half_bytes 32
    ++ half_bytes programs
    ++ half_bytes 40
    ++ half_bytes (sections + 1)
    ++ half_bytes sections

-- the whole file
abbrev pub built : FilePlan → List ℕ
built f =
    let sections = planned_sections f in
    let place = first_place f in
    file_header_bytes f.entry (length f.sections) (place + length (contents sections)) (length sections)
    ++ program_headers place f.sections
    ++ contents sections
    ++ zero_bytes 40
    ++ section_headers place 1 sections
