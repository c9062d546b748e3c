-- The checks of the relocations, each with the fault that it tells, and their order.
use Rattle.std.specs.Prelude.{ℕ, ◌+◌, ◌==◌, nat_lt, nat_le, Bool, false, not, ◌&&◌, if◌then◌else◌, List, [], ◌∷◌, Option, Some, None}
use Rattle.std.specs.List.{list_any}
use Rattle.list_checks.specs.First.{◌or_else◌, unless, first_below}
use Rattle.elf_reader.specs.Layout.{section_count, section_header, relocation_record}
use Rattle.elf_reader.specs.Sections.{is_allocated, is_rel, is_relocation_section, names_section, has_entries, symbol_table, symbol_count, relocation_count_at, relocation_count_below, relocation_count, symbol_of_info, kind_of_info}
use Rattle.elf_reader.specs.HeaderChecks.{capped}
use Rattle.elf_reader.specs.declared.fault.ElfFault.{ElfFault}
use Rattle.elf_reader.specs.declared.fault.ElfFault.TheVariants.{WrongKind, BadIndex, Unsupported, OverLimit}
use Rattle.elf_reader.specs.declared.records.RelocationRecord.{RelocationRecord}
use Rattle.elf_reader.specs.declared.records.SectionHeader.{SectionHeader}

-- a section header is not of relocations without addends (SHT_REL) that change an allocated section
abbrev pub rel_fault_of : List ℕ → SectionHeader → Option ElfFault
rel_fault_of file s = unless (not (is_rel s && names_section file is_allocated s.sh_info)) (WrongKind 14 9)

abbrev pub rel_fault : List ℕ → ℕ → Option ElfFault
rel_fault file k = rel_fault_of file (section_header file k)

abbrev pub rels_fault : List ℕ → Option ElfFault
rels_fault file = first_below (rel_fault file) (section_count file)

-- a number is that of the symbol table's section header
abbrev pub is_table_of : Option ℕ → ℕ → Bool
is_table_of None k = false
is_table_of (Some table) k = k == table

-- relocations of section header `k` that change an allocated section name symbols of the symbol table
-- (sh_link), in entries of 12 bytes
abbrev pub rela_table_fault_of : Option ℕ → ℕ → SectionHeader → Option ElfFault
rela_table_fault_of table k s =
    unless (is_table_of table s.sh_link) (BadIndex 7 k)
    or_else unless (has_entries 12 s) (WrongKind 17 s.sh_entsize)

abbrev pub rela_table_fault : List ℕ → ℕ → Option ElfFault
rela_table_fault file k = rela_table_fault_of (symbol_table file) k (section_header file k)

-- relocations of section header `k` change a section (sh_info). Where that isn't allocated, the rest
-- is not read
abbrev pub rela_section_fault : List ℕ → ℕ → Option ElfFault
rela_section_fault file k =
    unless (nat_lt (section_header file k).sh_info (section_count file)) (BadIndex 7 k)
    or_else (if is_allocated (section_header file (section_header file k).sh_info) then rela_table_fault file k else None)

-- section header `k`, if it is of relocations and not allocated itself
abbrev pub rela_fault : List ℕ → ℕ → Option ElfFault
rela_fault file k = if is_relocation_section (section_header file k) then rela_section_fault file k else None

abbrev pub relas_fault : List ℕ → Option ElfFault
relas_fault file = first_below (rela_fault file) (section_count file)

-- at most 262,144 relocations
abbrev pub relocation_limit_fault : List ℕ → Option ElfFault
relocation_limit_fault file =
    unless (nat_le (relocation_count file) 262144) (OverLimit 6 (capped (relocation_count file)))

-- the kinds that are supported (RISC-V psABI, "Relocations"): NONE 0, 32 1, BRANCH 16, JAL 17, CALL 18,
-- CALL_PLT 19, PCREL_HI20 23, PCREL_LO12_I 24, PCREL_LO12_S 25, HI20 26, LO12_I 27, LO12_S 28,
-- ADD8 33, ADD16 34, ADD32 35, SUB8 37, SUB16 38, SUB32 39, ALIGN 43, RELAX 51, SUB6 52, SET6 53,
-- SET8 54, SET16 55, SET32 56, 32_PCREL 57, and 60 and 61 (SET_ULEB128, SUB_ULEB128), whose effect
-- is not interpreted
abbrev pub supported_kinds : List ℕ
supported_kinds =
    0 ∷ 1 ∷ 16 ∷ 17 ∷ 18 ∷ 19 ∷ 23 ∷ 24 ∷ 25 ∷ 26 ∷ 27 ∷ 28 ∷ 33 ∷ 34 ∷ 35 ∷ 37 ∷ 38 ∷ 39 ∷ 43 ∷ 51 ∷ 52 ∷ 53 ∷ 54 ∷ 55 ∷ 56 ∷ 57 ∷ 60 ∷ 61 ∷ []

abbrev pub is_supported : ℕ → Bool
is_supported kind = list_any (λ supported. kind == supported) supported_kinds

-- a relocation, number `index` of all that are read, names a symbol and is of a supported kind
abbrev pub relocation_fault_of : ℕ → ℕ → RelocationRecord → Option ElfFault
relocation_fault_of symbols index r =
    unless (nat_lt (symbol_of_info r.r_info) symbols) (BadIndex 8 index)
    or_else unless (is_supported (kind_of_info r.r_info)) (Unsupported index (kind_of_info r.r_info))

-- relocation `i` of section header `k`
abbrev pub relocation_fault : List ℕ → ℕ → ℕ → Option ElfFault
relocation_fault file k i =
    relocation_fault_of (symbol_count file) (relocation_count_below file k + i) (relocation_record file k i)

-- each relocation of section header `k`
abbrev pub section_relocations_fault : List ℕ → ℕ → Option ElfFault
section_relocations_fault file k = first_below (relocation_fault file k) (relocation_count_at file k)

-- each relocation
abbrev pub relocation_entries_fault : List ℕ → Option ElfFault
relocation_entries_fault file = first_below (section_relocations_fault file) (section_count file)

-- the relocation sections, and then each relocation
abbrev pub relocations_fault : List ℕ → Option ElfFault
relocations_fault file =
    rels_fault file
    or_else relas_fault file
    or_else relocation_limit_fault file
    or_else relocation_entries_fault file
