-- The records of a file, read where their bytes stand.
use Rattle.std.proofs.Common.{◌≡◌, ℕ, ◌+◌, ◌*◌, ◌<◌, List, [], ◌∷◌, ◌++◌, length, refl, ap, ◌∙◌, arith}
use Rattle.std.specs.Int.{cast_signed, cast_unsigned, w32}
use Rattle.elf_reader.specs.Layout.{file_header, section_header_in, symbol_record_in, relocation_record_in}
use Rattle.elf_reader.specs.Sections.{kind_of_info, symbol_of_info}
use Rattle.elf_reader.specs.declared.view.Reloc.{Reloc}
use Rattle.std.proofs.lemmas.Int.{ints}
use Rattle.workload_gen.specs.Plan.{SectionPlan}
use Rattle.elf_writer.specs.Pieces.{IsWord, half_bytes, words_bytes, zero_bytes}
use Rattle.workload_gen.specs.Built.{Planned, memory_size, segment_flags, section_header_bytes, program_header_bytes, relocation_bytes, file_header_bytes}
use Rattle.workload_gen.specs.Readable.{IsRelocation}
use Rattle.elf_writer.proofs.TableRead.{IsLoadHeader, load_header_there}
use Rattle.elf_writer.proofs.Standing.{Stands, stands_first, stands_behind, byte_there, half_there, words_there}

-- ---- section headers

-- the words of a section header fit
pub record HasWords (s : Planned) : Type 0 where
  pub kind : IsWord s.kind
  pub flags : IsWord s.flags
  pub addr : IsWord s.addr
  pub size : IsWord s.size
  pub link : IsWord s.link
  pub info : IsWord s.info

-- what the section header at a place says
pub record IsHeader (file : List ℕ) (at place name_at : ℕ) (s : Planned) : Type 0 where
  pub name : (section_header_in file at).sh_name ≡ name_at
  pub kind : (section_header_in file at).sh_type ≡ s.kind
  pub flags : (section_header_in file at).sh_flags ≡ s.flags
  pub addr : (section_header_in file at).sh_addr ≡ s.addr
  pub offset : (section_header_in file at).sh_offset ≡ place
  pub size : (section_header_in file at).sh_size ≡ s.size
  pub link : (section_header_in file at).sh_link ≡ s.link
  pub info : (section_header_in file at).sh_info ≡ s.info

pub section_header_there : (file : List ℕ) (at place name_at : ℕ) (s : Planned) → IsWord place → IsWord name_at → HasWords s
    → Stands file at (section_header_bytes place name_at s) → IsHeader file at place name_at s
unfolding section_header_in
section_header_there file at place name_at s place_fits name_fits fits h =
    let words : List ℕ = name_at ∷ s.kind ∷ s.flags ∷ s.addr ∷ place ∷ s.size ∷ s.link ∷ s.info ∷ s.align ∷ s.entsize ∷ [] in
    record {
      name = words_there file at at words 0 (omega arith) (omega arith) name_fits h;
      kind = words_there file at (at + 4) words 1 refl (omega arith) fits.kind h;
      flags = words_there file at (at + 8) words 2 refl (omega arith) fits.flags h;
      addr = words_there file at (at + 12) words 3 refl (omega arith) fits.addr h;
      offset = words_there file at (at + 16) words 4 refl (omega arith) place_fits h;
      size = words_there file at (at + 20) words 5 refl (omega arith) fits.size h;
      link = words_there file at (at + 24) words 6 refl (omega arith) fits.link h;
      info = words_there file at (at + 28) words 7 refl (omega arith) fits.info h;
    }

-- ---- program headers

abbrev pub IsProgram : List ℕ → ℕ → ℕ → SectionPlan → Type 0
IsProgram file at place s = IsLoadHeader file at place s.addr (length s.content) (memory_size s) (segment_flags s.flags)

pub program_header_there : (file : List ℕ) (at place : ℕ) (s : SectionPlan) → IsWord place → IsWord s.addr → IsWord (length s.content) → IsWord (memory_size s)
    → Stands file at (program_header_bytes place s) → IsProgram file at place s
program_header_there file at place s place_fits addr_fits size_fits memory_fits h =
    load_header_there file at place s.addr (length s.content) (memory_size s) (segment_flags s.flags) place_fits addr_fits size_fits memory_fits (omega arith) h

-- ---- symbols

pub record IsRecord (file : List ℕ) (at name_at value size info section : ℕ) : Type 0 where
  pub name_is : (symbol_record_in file at).st_name ≡ name_at
  pub value_is : (symbol_record_in file at).st_value ≡ value
  pub size_is : (symbol_record_in file at).st_size ≡ size
  pub info_is : (symbol_record_in file at).st_info ≡ info
  pub section_is : (symbol_record_in file at).st_shndx ≡ section

pub symbol_there : (file : List ℕ) (at name_at value size info section : ℕ) → IsWord name_at → IsWord value → IsWord size → section < 65536
    → Stands file at (words_bytes (name_at ∷ value ∷ size ∷ []) ++ info ∷ 0 ∷ half_bytes section) → IsRecord file at name_at value size info section
unfolding symbol_record_in
symbol_there file at name_at value size info section name_fits value_fits size_fits section_fits h =
    let words : List ℕ = name_at ∷ value ∷ size ∷ [] in
    let rest : List ℕ = info ∷ 0 ∷ half_bytes section in
    let front = stands_first file at (words_bytes words) rest h in
    let back = stands_behind file at (at + 12) (words_bytes words) rest refl h in
    let last = stands_behind file (at + 12) (at + 14) (info ∷ 0 ∷ []) (half_bytes section) (omega arith) back in
    record {
      name_is = words_there file at at words 0 (omega arith) (omega arith) name_fits front;
      value_is = words_there file at (at + 4) words 1 refl (omega arith) value_fits front;
      size_is = words_there file at (at + 8) words 2 refl (omega arith) size_fits front;
      info_is = byte_there file (at + 12) (at + 12) rest 0 (omega arith) (omega arith) back;
      section_is = half_there file (at + 14) section section_fits last;
    }

-- ---- relocations

pub record IsEntry (file : List ℕ) (at : ℕ) (r : Reloc) : Type 0 where
  pub place : (relocation_record_in file at).r_offset ≡ r.at
  pub kind : kind_of_info (relocation_record_in file at).r_info ≡ r.kind
  pub symbol : symbol_of_info (relocation_record_in file at).r_info ≡ r.symbol
  pub addend : (relocation_record_in file at).r_addend ≡ r.addend

pub relocation_there : (file : List ℕ) (at : ℕ) (r : Reloc) → IsRelocation r
    → Stands file at (relocation_bytes r) → IsEntry file at r
unfolding relocation_record_in
relocation_there file at r fits h =
    let words : List ℕ = r.at ∷ (r.symbol * 256 + r.kind) ∷ cast_unsigned w32 r.addend ∷ [] in
    let symbol_fits : r.symbol < 16777216 = fits.symbol in
    let kind_fits : r.kind < 256 = fits.kind in
    let low : kind_of_info (r.symbol * 256 + r.kind) ≡ r.kind = omega arith in
    let high : symbol_of_info (r.symbol * 256 + r.kind) ≡ r.symbol = omega arith in
    let place = words_there file at at words 0 (omega arith) (omega arith) fits.at h in
    let info = words_there file at (at + 4) words 1 refl (omega arith) (omega arith) h in
    let addend = words_there file at (at + 8) words 2 refl (omega arith) (omega (arith, ints)) h in
    record {
      place = place;
      kind = ap kind_of_info info ∙ low;
      symbol = ap symbol_of_info info ∙ high;
      addend = ap (cast_signed w32) addend ∙ fits.addend;
    }

-- ---- the file header

pub record IsFileHeader (file : List ℕ) (entry programs place sections : ℕ) : Type 0 where
  pub entry_is : (file_header file).e_entry ≡ entry
  pub flags_is : (file_header file).e_flags ≡ 0
  pub programs_at_is : (file_header file).e_phoff ≡ 52
  pub programs_is : (file_header file).e_phnum ≡ programs
  pub sections_at_is : (file_header file).e_shoff ≡ place
  pub sections_is : (file_header file).e_shnum ≡ sections + 1
  pub names_is : (file_header file).e_shstrndx ≡ sections

pub file_header_there : (file : List ℕ) (entry programs place sections : ℕ) → IsWord entry → programs < 65536 → IsWord place → sections + 1 < 65536
    → Stands file 0 (file_header_bytes entry programs place sections) → IsFileHeader file entry programs place sections
unfolding file_header
file_header_there file entry programs place sections entry_fits programs_fit place_fits sections_fit h =
    let ident : List ℕ = 127 ∷ 69 ∷ 76 ∷ 70 ∷ 1 ∷ 1 ∷ 1 ∷ zero_bytes 9 ++ half_bytes 2 ++ half_bytes 243 in
    let words : List ℕ = 1 ∷ entry ∷ 52 ∷ place ∷ 0 ∷ [] in
    let sizes : List ℕ = half_bytes 52 ++ half_bytes 32 in
    let counts : List ℕ = half_bytes (sections + 1) ++ half_bytes sections in
    let behind_programs : List ℕ = half_bytes 40 ++ counts in
    let last : List ℕ = half_bytes programs ++ behind_programs in
    let behind_ident = stands_behind file 0 20 ident (words_bytes words ++ (sizes ++ last)) refl h in
    let front = stands_first file 20 (words_bytes words) (sizes ++ last) behind_ident in
    let behind_words = stands_behind file 20 40 (words_bytes words) (sizes ++ last) refl behind_ident in
    let behind_sizes = stands_behind file 40 44 sizes last refl behind_words in
    let numbers = stands_behind file 44 48 (half_bytes programs ++ half_bytes 40) counts refl behind_sizes in
    record {
      entry_is = words_there file 20 24 words 1 refl (omega arith) entry_fits front;
      flags_is = words_there file 20 36 words 4 refl (omega arith) (omega arith) front;
      programs_at_is = words_there file 20 28 words 2 refl (omega arith) (omega arith) front;
      programs_is = half_there file 44 programs programs_fit (stands_first file 44 (half_bytes programs) behind_programs behind_sizes);
      sections_at_is = words_there file 20 32 words 3 refl (omega arith) place_fits front;
      sections_is = half_there file 48 (sections + 1) sections_fit (stands_first file 48 (half_bytes (sections + 1)) (half_bytes sections) numbers);
      names_is = half_there file 50 sections (omega arith) (stands_behind file 48 50 (half_bytes (sections + 1)) (half_bytes sections) refl numbers);
    }
