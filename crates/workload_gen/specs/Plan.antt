-- What a file to be built is asked to hold, without the vectors that hold it.
use Rattle.std.specs.Prelude.{ℕ, List, map, string_bytes}
use Rattle.elf_reader.specs.declared.view.Reloc.{Reloc}
use Rattle.workload_gen.specs.declared.spec.FileSpec.{FileSpec}
use Rattle.workload_gen.specs.declared.spec.SectionSpec.{SectionSpec}
use Rattle.workload_gen.specs.declared.spec.SymbolSpec.{SymbolSpec}

-- a section: its bytes in the file, or a number of bytes that it has in memory alone
pub record SectionPlan : Type 0 where
  pub name : List ℕ
  pub addr : ℕ
  pub flags : ℕ
  pub content : List ℕ
  pub empty : ℕ
  pub relocs : List Reloc

pub record SymbolPlan : Type 0 where
  pub name : List ℕ
  pub value : ℕ
  pub size : ℕ
  pub kind : ℕ
  pub section : ℕ

pub record FilePlan : Type 0 where
  pub entry : ℕ
  pub sections : List SectionPlan
  pub symbols : List SymbolPlan

abbrev pub section_plan : SectionSpec → SectionPlan
section_plan s =
    record {
      name = string_bytes s.name;
      content = s.bytes.items;
      addr = s.addr;
      flags = s.flags;
      empty = s.empty;
      relocs = s.relocs.items;
    }

abbrev pub symbol_plan : SymbolSpec → SymbolPlan
symbol_plan s =
    record { name = string_bytes s.name; value = s.value; size = s.size; kind = s.kind; section = s.section }

abbrev pub file_plan : FileSpec → FilePlan
file_plan f =
    record { entry = f.entry; sections = map section_plan f.sections.items; symbols = map symbol_plan f.symbols.items }
