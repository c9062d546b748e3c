-- The view of a file that is built of a plan.
use Rattle.std.specs.Prelude.{◌≡◌, ℕ, ◌+◌, ◌<◌, ◌≤◌, if◌then◌else◌, List, [], ◌∷◌, ◌++◌, length, map, All, ◌⊎◌}
use Rattle.std.specs.Int.{cast_signed, cast_unsigned, w32}
use Rattle.elf_reader.specs.File.{PlainSegment, PlainSection, PlainSymbol, PlainView, view_in}
use Rattle.elf_reader.specs.Sections.{bit_of}
use Rattle.elf_reader.specs.declared.view.Reloc.{Reloc}
use Rattle.workload_gen.specs.Plan.{SectionPlan, SymbolPlan, FilePlan}
use Rattle.elf_writer.specs.Pieces.{IsWord, IsName, padded}
use Rattle.workload_gen.specs.Built.{Planned, memory_size, segment_flags, planned_sections, first_place, built}

-- the segments, the first being number `k` and standing at `place`
abbrev pub segments_from : ℕ → ℕ → List SectionPlan → List PlainSegment
segments_from k place [] = []
segments_from k place (s ∷ ss) =
    record {
      index = k;
      offset = place;
      vaddr = s.addr;
      memsz = memory_size s;
      flags = segment_flags s.flags;
      content = s.content;
    }
    ∷ segments_from (k + 1) (place + length (padded s.content)) ss

-- the null section, and the sections from `place` on
abbrev pub null_section : PlainSection
null_section =
    record { name = []; kind = 0; flags = 0; addr = 0; offset = 0; size = 0; link = 0; info = 0; content = [] }

abbrev pub sections_from : ℕ → List Planned → List PlainSection
sections_from place [] = []
sections_from place (s ∷ ss) =
    record {
      name = s.name;
      kind = s.kind;
      flags = s.flags;
      addr = s.addr;
      offset = place;
      size = s.size;
      link = s.link;
      info = s.info;
      content = s.content;
    }
    ∷ sections_from (place + length (padded s.content)) ss

-- the null symbol and the symbols, whose records stand from `place` on
abbrev pub null_symbol : ℕ → PlainSymbol
null_symbol place = record { name = []; value = 0; size = 0; kind = 0; section = 0; at = place }

abbrev pub symbols_from : ℕ → List SymbolPlan → List PlainSymbol
symbols_from place [] = []
symbols_from place (s ∷ ss) =
    record { name = s.name; value = s.value; size = s.size; kind = s.kind; section = s.section; at = place }
    ∷ symbols_from (place + 16) ss

-- where the symbol table stands
abbrev pub sections_size : List SectionPlan → ℕ
sections_size [] = 0
sections_size (s ∷ ss) = length (padded s.content) + sections_size ss

abbrev pub symbol_table_place : FilePlan → ℕ
symbol_table_place f = first_place f + sections_size f.sections

-- the relocations of allocated sections, the first section being number `k`
abbrev pub relocation_in : ℕ → Reloc → Reloc
relocation_in k r = record r { section = k }

abbrev pub relocations_from : ℕ → List SectionPlan → List Reloc
relocations_from k [] = []
relocations_from k (s ∷ ss) =
    (if bit_of s.flags 1 then map (relocation_in k) s.relocs else []) ++ relocations_from (k + 1) ss

-- what the built file says
abbrev pub planned_view : FilePlan → PlainView
planned_view f =
    record {
      bytes = built f;
      entry = f.entry;
      flags = 0;
      ph_at = 52;
      ph_count = length f.sections;
      segments = segments_from 0 (first_place f) f.sections;
      sections = null_section ∷ sections_from (first_place f) (planned_sections f);
      symbols = null_symbol (symbol_table_place f) ∷ symbols_from (symbol_table_place f + 16) f.symbols;
      relocs = relocations_from 1 f.sections;
    }

-- a relocation whose kind and symbol fit into r_info, and whose addend is a 32-bit number
pub record IsRelocation (r : Reloc) : Type 0 where
  pub at : IsWord r.at
  pub addend : cast_signed w32 (cast_unsigned w32 r.addend) ≡ r.addend
  pub kind : r.kind < 256
  pub symbol : r.symbol < 16777216

-- a section whose numbers are words, and which has no bytes where it is to be empty
pub record IsSection (s : SectionPlan) : Type 0 where
  pub name : IsName s.name
  pub addr : IsWord s.addr
  pub flags : IsWord s.flags
  pub empty : IsWord s.empty
  pub bytes : (s.empty ≡ 0) ⊎ (s.content ≡ [])
  pub relocs : All IsRelocation s.relocs

pub record IsSymbol (s : SymbolPlan) : Type 0 where
  pub name : IsName s.name
  pub value : IsWord s.value
  pub size : IsWord s.size
  pub kind : s.kind < 16
  pub section : s.section < 65536

-- a plan whose file can be read back: at most 60 sections, 60,000 symbols, and 2 ^ 24 bytes of file
pub record IsBuildable (f : FilePlan) : Type 0 where
  pub entry : IsWord f.entry
  pub section_count : length f.sections ≤ 60
  pub symbol_count : length f.symbols ≤ 60000
  pub sections : All IsSection f.sections
  pub symbols : All IsSymbol f.symbols
  pub total : length (built f) < 16777216

-- a built file says what was planned
abbrev pub ReadsBack : Type 0
ReadsBack = (f : FilePlan) → IsBuildable f → view_in (built f) ≡ planned_view f
