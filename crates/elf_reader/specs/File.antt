-- What a view of an ELF file must be, as a function of the file's bytes alone.
use Rattle.std.specs.Prelude.{◌≡◌, ℕ, zero, suc, ◌+◌, ◌%◌, ◌==◌, Bool, if◌then◌else◌, List, [], ◌∷◌, ◌++◌, map, slice_range, Option, Some, None}
use Rattle.elf_reader.specs.Layout.{file_header, program_header_count, program_header, section_count, section_header, symbol_at, symbol_record, relocation_record}
use Rattle.elf_reader.specs.Sections.{section_content, section_names, symbol_names, name_in, symbol_table, symbol_count_of, relocation_count_at, symbol_of_info, kind_of_info}
use Rattle.elf_reader.specs.declared.records.ProgramHeader.{ProgramHeader}
use Rattle.elf_reader.specs.declared.records.RelocationRecord.{RelocationRecord}
use Rattle.elf_reader.specs.declared.view.ElfView.{ElfView}
use Rattle.elf_reader.specs.declared.view.Segment.{Segment}
use Rattle.elf_reader.specs.declared.view.Section.{Section}
use Rattle.elf_reader.specs.declared.view.Symbol.{Symbol}
use Rattle.elf_reader.specs.declared.view.Reloc.{Reloc}

-- a segment to be loaded, with its bytes as a list
pub record PlainSegment : Type 0 where
  pub index : ℕ
  pub offset : ℕ
  pub vaddr : ℕ
  pub memsz : ℕ
  pub flags : ℕ
  pub content : List ℕ

-- a segment without its borrow
abbrev pub plain_segment : Segment → PlainSegment
plain_segment s =
    record { index = s.index; offset = s.offset; vaddr = s.vaddr; memsz = s.memsz; flags = s.flags; content = s.bytes.now }

-- a section, with its name and content as lists
pub record PlainSection : Type 0 where
  pub name : List ℕ
  pub kind : ℕ
  pub flags : ℕ
  pub addr : ℕ
  pub offset : ℕ
  pub size : ℕ
  pub link : ℕ
  pub info : ℕ
  pub content : List ℕ

-- a section without its borrows
abbrev pub plain_section : Section → PlainSection
plain_section s =
    record {
      name = s.name.now;
      kind = s.kind;
      flags = s.flags;
      addr = s.addr;
      offset = s.offset;
      size = s.size;
      link = s.link;
      info = s.info;
      content = s.bytes.now;
    }

-- a symbol, with its name as a list
pub record PlainSymbol : Type 0 where
  pub name : List ℕ
  pub value : ℕ
  pub size : ℕ
  pub kind : ℕ
  pub section : ℕ
  pub at : ℕ

-- a symbol without its borrow
abbrev pub plain_symbol : Symbol → PlainSymbol
plain_symbol s =
    record { name = s.name.now; value = s.value; size = s.size; kind = s.kind; section = s.section; at = s.at }

-- the segments of a view
abbrev pub segments_of : ElfView → List PlainSegment
segments_of view = map plain_segment view.segments.items

-- the address at which execution begins
abbrev pub entry_of : List ℕ → ℕ
entry_of file = (file_header file).e_entry

-- a program header describes a segment to be loaded (PT_LOAD)
abbrev pub is_load : ProgramHeader → Bool
is_load p = p.p_type == 1

-- the segment that program header `k` describes
abbrev pub segment_of : List ℕ → ℕ → ProgramHeader → PlainSegment
segment_of file k p =
    record {
      index = k;
      offset = p.p_offset;
      vaddr = p.p_vaddr;
      memsz = p.p_memsz;
      flags = p.p_flags;
      content = slice_range file p.p_offset (p.p_offset + p.p_filesz);
    }

-- the segment of program header `k`, if it is to be loaded
abbrev pub segments_at : List ℕ → ℕ → List PlainSegment
segments_at file k = if is_load (program_header file k) then segment_of file k (program_header file k) ∷ [] else []

-- the segments to be loaded of the first n program headers, in their order
abbrev pub segments_below : List ℕ → ℕ → List PlainSegment
segments_below file zero = []
segments_below file (suc k) = segments_below file k ++ segments_at file k

-- all segments to be loaded
abbrev pub load_segments : List ℕ → List PlainSegment
load_segments file = segments_below file (program_header_count file)

-- the section of section header `k`
abbrev pub section_of : List ℕ → ℕ → PlainSection
section_of file k =
    let s = section_header file k in
    record {
      name = name_in (section_names file) s.sh_name;
      kind = s.sh_type;
      flags = s.sh_flags;
      addr = s.sh_addr;
      offset = s.sh_offset;
      size = s.sh_size;
      link = s.sh_link;
      info = s.sh_info;
      content = section_content file k;
    }

-- the sections of the first n section headers, in their order
abbrev pub sections_below : List ℕ → ℕ → List PlainSection
sections_below file zero = []
sections_below file (suc k) = sections_below file k ++ section_of file k ∷ []

-- all sections
abbrev pub all_sections : List ℕ → List PlainSection
all_sections file = sections_below file (section_count file)

-- entry `i` of the symbol table of section header `table`. The kind is the low half of st_info
-- (ELF32_ST_TYPE)
abbrev pub symbol_of : List ℕ → ℕ → ℕ → PlainSymbol
symbol_of file table i =
    let s = symbol_record file table i in
    record {
      name = name_in (symbol_names file table) s.st_name;
      value = s.st_value;
      size = s.st_size;
      kind = s.st_info % 16;
      section = s.st_shndx;
      at = symbol_at file table i;
    }

-- its first n entries
abbrev pub symbols_below : List ℕ → ℕ → ℕ → List PlainSymbol
symbols_below file table zero = []
symbols_below file table (suc i) = symbols_below file table i ++ symbol_of file table i ∷ []

-- the symbols of a table; none without a table
abbrev pub symbols_in : List ℕ → Option ℕ → List PlainSymbol
symbols_in file None = []
symbols_in file (Some table) = symbols_below file table (symbol_count_of (section_header file table))

-- all symbols
abbrev pub all_symbols : List ℕ → List PlainSymbol
all_symbols file = symbols_in file (symbol_table file)

-- what a record tells of a relocation of a section
abbrev pub relocation_by : RelocationRecord → ℕ → Reloc
relocation_by r section =
    record {
      at = r.r_offset;
      kind = kind_of_info r.r_info;
      symbol = symbol_of_info r.r_info;
      addend = r.r_addend;
      section = section;
    }

-- relocation `i` of section header `k`, which changes the section that sh_info names
abbrev pub relocation_of : List ℕ → ℕ → ℕ → Reloc
relocation_of file k i = relocation_by (relocation_record file k i) (section_header file k).sh_info

-- its first n relocations
abbrev pub relocations_within : List ℕ → ℕ → ℕ → List Reloc
relocations_within file k zero = []
relocations_within file k (suc i) = relocations_within file k i ++ relocation_of file k i ∷ []

-- the relocations of the first n section headers that are read, in their order
abbrev pub relocations_below : List ℕ → ℕ → List Reloc
relocations_below file zero = []
relocations_below file (suc k) =
    relocations_below file k ++ relocations_within file k (relocation_count_at file k)

-- all relocations that are read
abbrev pub all_relocations : List ℕ → List Reloc
all_relocations file = relocations_below file (section_count file)

-- each part of the view is what stands at its place, and no segment is left out
pub record IsFile (file : List ℕ) (view : ElfView) : Type 0 where
  pub bytes : view.bytes.now ≡ file
  pub entry : view.entry ≡ entry_of file
  pub flags : view.flags ≡ (file_header file).e_flags
  pub ph_at : view.ph_at ≡ (file_header file).e_phoff
  pub ph_count : view.ph_count ≡ program_header_count file
  pub segments : segments_of view ≡ load_segments file
  pub sections : map plain_section view.sections.items ≡ all_sections file
  pub symbols : map plain_symbol view.symbols.items ≡ all_symbols file
  pub relocs : view.relocs.items ≡ all_relocations file

-- a view without its borrows
pub record PlainView : Type 0 where
  pub bytes : List ℕ
  pub entry : ℕ
  pub flags : ℕ
  pub ph_at : ℕ
  pub ph_count : ℕ
  pub segments : List PlainSegment
  pub sections : List PlainSection
  pub symbols : List PlainSymbol
  pub relocs : List Reloc

abbrev pub plain_view : ElfView → PlainView
plain_view view =
    record {
      bytes = view.bytes.now;
      entry = view.entry;
      flags = view.flags;
      ph_at = view.ph_at;
      ph_count = view.ph_count;
      segments = segments_of view;
      sections = map plain_section view.sections.items;
      symbols = map plain_symbol view.symbols.items;
      relocs = view.relocs.items;
    }

-- what a file says: the view that is the file's, without borrows
abbrev pub view_in : List ℕ → PlainView
view_in file =
    record {
      bytes = file;
      entry = entry_of file;
      flags = (file_header file).e_flags;
      ph_at = (file_header file).e_phoff;
      ph_count = program_header_count file;
      segments = load_segments file;
      sections = all_sections file;
      symbols = all_symbols file;
      relocs = all_relocations file;
    }
