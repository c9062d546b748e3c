-- The relocations of a written file, read back.
use Rattle.std.proofs.Common.{◌≡◌, ◌∙◌, ℕ, zero, suc, ◌+◌, ◌*◌, ◌/◌, ◌<◌, ◌≤◌, Bool, true, false, not, ◌&&◌, List, [], ◌∷◌, ◌++◌, Option, None, refl, ap, arith, if◌then◌else◌}
use Rattle.std.proofs.lemmas.Bool.{eqb-true}
use Rattle.list_checks.proofs.TestLemmas.{both}
use Rattle.elf_reader.specs.Layout.{section_count, section_header, relocation_record_in, relocation_record}
use Rattle.elf_reader.specs.Sections.{is_allocated, is_rela, is_relocation_section, names_section, is_read, relocation_count_at, symbol_of_info, kind_of_info}
use Rattle.elf_reader.specs.File.{view_in, relocation_of, relocations_within, relocations_below, all_relocations}
use Rattle.elf_reader.specs.Faults.{first_fault}
use Rattle.elf_writer.specs.declared.parts.Patch.{Patch}
use Rattle.elf_writer.specs.declared.parts.SymbolMove.{SymbolMove}
use Rattle.elf_writer.specs.Parts.{NewSegment}
use Rattle.elf_writer.specs.Written.{written}
use Rattle.elf_writer.specs.Conditions.{IsWritable}
use Rattle.elf_writer.proofs.AlikeLemmas.{part_alike, relocation_alike}
use Rattle.elf_writer.proofs.HeaderRead.{keeps_header}
use Rattle.elf_writer.proofs.SectionsRead.{section_header_is, named_stays, kept_content}

pub count_is : (file : List ℕ) (ps : List Patch) (new : Option NewSegment) (ms : List SymbolMove) → first_fault file ≡ None → IsWritable (view_in file) ps new ms → section_count (written (view_in file) ps new ms) ≡ section_count file
count_is file ps new ms none is = (keeps_header file ps new ms none is).sections

pub read_is : (file : List ℕ) (ps : List Patch) (new : Option NewSegment) (ms : List SymbolMove) (k : ℕ) → first_fault file ≡ None → IsWritable (view_in file) ps new ms → k < section_count file → relocation_count_at (written (view_in file) ps new ms) k ≡ relocation_count_at file k
read_is file ps new ms k none is below =
    let out = written (view_in file) ps new ms in
    let same = section_header_is file ps new ms k none is below in
    let named : names_section out is_allocated (section_header out k).sh_info ≡ names_section file is_allocated (section_header file k).sh_info =
    (λ i. names_section out is_allocated (same i).sh_info) ∙ named_stays file ps new ms is_allocated (section_header file k).sh_info none is
    in
    λ i. if is_relocation_section (same i) && named i then (same i).sh_size / 12 else 0

-- a count that is 0 unless the test passes
counts : (test : Bool) (n i : ℕ) → i < (if test then n else 0) → (test ≡ true) × (i < n)
counts true n i below = (refl, below)
counts false n i below = absurd (omega (arith, below))

pub record_stays : (file : List ℕ) (ps : List Patch) (new : Option NewSegment) (ms : List SymbolMove) (k i : ℕ) → first_fault file ≡ None → IsWritable (view_in file) ps new ms → k < section_count file → i < relocation_count_at file k → relocation_record (written (view_in file) ps new ms) k i ≡ relocation_record file k i
record_stays file ps new ms k i none is below entry =
    let out = written (view_in file) ps new ms in
    let s = section_header file k in
    let at = s.sh_offset + 12 * i in
    let read = counts (is_read file k) (s.sh_size / 12) i entry in
    let is_section = (both (is_relocation_section s) (names_section file is_allocated s.sh_info) read.0).0 in
    let kind : s.sh_type ≡ 4 = eqb-true s.sh_type 4 (both (is_rela s) (not (is_allocated s)) is_section).0 in
    let same = section_header_is file ps new ms k none is below in
    let whole = kept_content file ps new ms k 4 none is below kind refl (λ e. omega (arith, e)) (λ e. omega (arith, e)) in
    let inside : i < s.sh_size / 12 = read.1 in
    let here = part_alike out file s.sh_offset s.sh_offset s.sh_size (12 * i) 12 whole (omega (arith, inside)) in
    (λ j. relocation_record_in out ((same j).sh_offset + 12 * i)) ∙ relocation_alike out at file at here

relocation_read : (file : List ℕ) (ps : List Patch) (new : Option NewSegment) (ms : List SymbolMove) (k i : ℕ) → first_fault file ≡ None → IsWritable (view_in file) ps new ms → k < section_count file → i < relocation_count_at file k → relocation_of (written (view_in file) ps new ms) k i ≡ relocation_of file k i
relocation_read file ps new ms k i none is below entry =
    let same = section_header_is file ps new ms k none is below in
    let there = record_stays file ps new ms k i none is below entry in
    λ j.
    record {
      at = (there j).r_offset;
      kind = kind_of_info (there j).r_info;
      symbol = symbol_of_info (there j).r_info;
      addend = (there j).r_addend;
      section = (same j).sh_info;
    }

read_within : (file : List ℕ) (ps : List Patch) (new : Option NewSegment) (ms : List SymbolMove) (k n : ℕ) → first_fault file ≡ None → IsWritable (view_in file) ps new ms → k < section_count file → n ≤ relocation_count_at file k → relocations_within (written (view_in file) ps new ms) k n ≡ relocations_within file k n
read_within file ps new ms k zero none is below le = refl
read_within file ps new ms k (suc n) none is below le =
    let earlier = read_within file ps new ms k n none is below (omega (arith, le)) in
    let here = relocation_read file ps new ms k n none is below (omega (arith, le)) in
    λ i. earlier i ++ here i ∷ []

read_below : (file : List ℕ) (ps : List Patch) (new : Option NewSegment) (ms : List SymbolMove) (n : ℕ) → first_fault file ≡ None → IsWritable (view_in file) ps new ms → n ≤ section_count file → relocations_below (written (view_in file) ps new ms) n ≡ relocations_below file n
read_below file ps new ms zero none is le = refl
read_below file ps new ms (suc n) none is le =
    let out = written (view_in file) ps new ms in
    let below : n < section_count file = omega (arith, le) in
    let earlier = read_below file ps new ms n none is (omega (arith, le)) in
    let count = read_is file ps new ms n none is below in
    let here = ap (relocations_within out n) count ∙ read_within file ps new ms n (relocation_count_at file n) none is below (omega arith) in
    λ i. earlier i ++ here i

pub relocations_read : (file : List ℕ) (ps : List Patch) (new : Option NewSegment) (ms : List SymbolMove) → first_fault file ≡ None → IsWritable (view_in file) ps new ms → all_relocations (written (view_in file) ps new ms) ≡ all_relocations file
relocations_read file ps new ms none is =
    ap (relocations_below (written (view_in file) ps new ms)) (count_is file ps new ms none is)
    ∙ read_below file ps new ms (section_count file) none is (omega arith)
