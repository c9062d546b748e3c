-- The sections of a written file, read back.
use Rattle.std.proofs.Common.{◌≡◌, ◌∙◌, inl, inr, ℕ, zero, suc, ◌+◌, ◌-◌, ◌*◌, ◌<◌, ◌≤◌, nat_lt, Bool, true, false, ◌&&◌, IsTrue, List, [], ◌∷◌, ◌++◌, map, length, Option, None, refl, sym, ap, arith}
use Rattle.std.proofs.lemmas.Bool.{eqb-true, ltb-true, cases_Bool, cases_lt}
use Rattle.std.proofs.lemmas.Bool.Decides.{nat_tests}
use Rattle.std.proofs.lemmas.List.{map-append}
use Rattle.list_checks.proofs.TestLemmas.{both}
use Rattle.elf_reader.specs.Layout.{file_header, section_count, section_header_in, section_header}
use Rattle.elf_reader.specs.Sections.{stands_in_file, content_of, section_content, is_string_table, names_section, name_in, section_names}
use Rattle.elf_reader.specs.File.{view_in, section_of, sections_below, all_sections}
use Rattle.elf_reader.specs.Faults.{first_fault}
use Rattle.elf_reader.proofs.SectionLemmas.{none_of_sections, section_headers_held, names_table_held}
use Rattle.elf_writer.specs.declared.parts.Patch.{Patch}
use Rattle.elf_writer.specs.declared.parts.SymbolMove.{SymbolMove}
use Rattle.elf_writer.specs.Changes.{changed}
use Rattle.elf_writer.specs.Parts.{NewSegment}
use Rattle.elf_writer.specs.Written.{all_changes, written}
use Rattle.elf_writer.specs.Conditions.{IsWritable}
use Rattle.elf_writer.specs.View.{changed_section}
use Rattle.elf_writer.proofs.FitLemmas.{contents_held}
use Rattle.elf_writer.proofs.WrittenLemmas.{ranges_written}
use Rattle.elf_writer.proofs.AlikeLemmas.{Alike, part_alike, section_header_alike}
use Rattle.elf_writer.proofs.RangeLemmas.{range_alike, range_stays, section_headers_off, content_off}
use Rattle.elf_writer.proofs.HeaderRead.{keeps_header}

-- the section headers stay
headers_inside : (file : List ℕ) (k : ℕ) → first_fault file ≡ None → k < section_count file → (file_header file).e_shoff + 40 * section_count file ≤ length file
headers_inside file k none below =
    let last = section_headers_held file (none_of_sections file none) (section_count file - 1) (omega (arith, below)) in
    omega (arith, below, last)

pub section_header_is : (file : List ℕ) (ps : List Patch) (new : Option NewSegment) (ms : List SymbolMove) (k : ℕ) → first_fault file ≡ None → IsWritable (view_in file) ps new ms → k < section_count file → section_header (written (view_in file) ps new ms) k ≡ section_header file k
section_header_is file ps new ms k none is below =
    let out = written (view_in file) ps new ms in
    let start = (file_header file).e_shoff in
    let whole = range_alike file ps new ms start (40 * section_count file) none is (section_headers_off file none) (headers_inside file k none below) in
    let here = part_alike out file start start (40 * section_count file) (40 * k) 40 whole (omega (arith, below)) in
    ap (λ n. section_header_in out (n + 40 * k)) (keeps_header file ps new ms none is).sections_at
    ∙ section_header_alike out (start + 40 * k) file (start + 40 * k) here

-- a number names a section for which a test holds as before
pub named_stays : (file : List ℕ) (ps : List Patch) (new : Option NewSegment) (ms : List SymbolMove) (test : _ → Bool) (k : ℕ) → first_fault file ≡ None → IsWritable (view_in file) ps new ms → names_section (written (view_in file) ps new ms) test k ≡ names_section file test k
named_stays file ps new ms test k none is =
    let out = written (view_in file) ps new ms in
    let count = (keeps_header file ps new ms none is).sections in
    elim (cases_lt k (section_count file)) [
      | inl below ↦
          let same = section_header_is file ps new ms k none is below in
          λ i. nat_lt k (count i) && test (same i)
      | inr behind ↦
          let over : nat_lt k (section_count file) ≡ false = grind (arith, nat_tests, behind) in
          (λ i. nat_lt k (count i) && test (section_header out k)) ∙ rw over refl
    ]

-- contents have the changes of their places, and those of string tables stay
content_written : (file : List ℕ) (ps : List Patch) (new : Option NewSegment) (ms : List SymbolMove) (k : ℕ) → first_fault file ≡ None → k < section_count file → content_of (written (view_in file) ps new ms) (section_header file k) ≡ changed (all_changes (view_in file) ps new ms) (section_header file k).sh_offset (section_content file k)
content_written file ps new ms k none below =
    let s = section_header file k in
    elim (cases_Bool (stands_in_file s.sh_type)) [
      | inl stands ↦
          rw stands
          (ranges_written (view_in file) ps new ms s.sh_offset (s.sh_offset + s.sh_size) (omega arith) (contents_held file none k below stands))
      | inr absent ↦ rw absent refl
    ]

pub kept_content : (file : List ℕ) (ps : List Patch) (new : Option NewSegment) (ms : List SymbolMove) (k kind : ℕ) → first_fault file ≡ None → IsWritable (view_in file) ps new ms → k < section_count file → (section_header file k).sh_type ≡ kind → stands_in_file kind ≡ true → (kind ≡ 1 → ⊥) → (kind ≡ 2 → ⊥) → Alike (written (view_in file) ps new ms) (section_header file k).sh_offset file (section_header file k).sh_offset (section_header file k).sh_size
kept_content file ps new ms k kind none is below of_kind stands no_content no_symbols =
    let s = section_header file k in
    let standing : stands_in_file s.sh_type ≡ true = ap stands_in_file of_kind ∙ stands in
    range_alike file ps new ms s.sh_offset s.sh_size none is (content_off file k kind none below of_kind stands no_content no_symbols)
    (contents_held file none k below standing)

pub strings_stay : (file : List ℕ) (ps : List Patch) (new : Option NewSegment) (ms : List SymbolMove) (k : ℕ) → first_fault file ≡ None → IsWritable (view_in file) ps new ms → IsTrue (names_section file is_string_table k) → section_content (written (view_in file) ps new ms) k ≡ section_content file k
strings_stay file ps new ms k none is named =
    let out = written (view_in file) ps new ms in
    let s = section_header file k in
    let parts = both (nat_lt k (section_count file)) (is_string_table s) named in
    let below = ltb-true k (section_count file) parts.0 in
    let kind : s.sh_type ≡ 3 = eqb-true s.sh_type 3 parts.1 in
    let stands : stands_in_file s.sh_type ≡ true = ap stands_in_file kind in
    let off = content_off file k 3 none below kind refl (λ e. omega (arith, e)) (λ e. omega (arith, e)) in
    let range = range_stays file ps new ms s.sh_offset s.sh_size none is off (contents_held file none k below stands) in
    let content : content_of out s ≡ content_of file s = rw stands range in
    ap (content_of out) (section_header_is file ps new ms k none is below) ∙ content

pub names_stay : (file : List ℕ) (ps : List Patch) (new : Option NewSegment) (ms : List SymbolMove) (k : ℕ) → first_fault file ≡ None → IsWritable (view_in file) ps new ms → k < section_count file → section_names (written (view_in file) ps new ms) ≡ section_names file
names_stay file ps new ms k none is below =
    let out = written (view_in file) ps new ms in
    let named = names_table_held file (none_of_sections file none) (omega (arith, below)) in
    ap (section_content out) (keeps_header file ps new ms none is).names
    ∙ strings_stay file ps new ms (file_header file).e_shstrndx none is named

section_read : (file : List ℕ) (ps : List Patch) (new : Option NewSegment) (ms : List SymbolMove) (k : ℕ) → first_fault file ≡ None → IsWritable (view_in file) ps new ms → k < section_count file → section_of (written (view_in file) ps new ms) k ≡ changed_section (all_changes (view_in file) ps new ms) (section_of file k)
section_read file ps new ms k none is below =
    let out = written (view_in file) ps new ms in
    let same = section_header_is file ps new ms k none is below in
    let names = names_stay file ps new ms k none is below in
    let content : section_content out k ≡ changed (all_changes (view_in file) ps new ms) (section_header file k).sh_offset (section_content file k) =
    ap (content_of out) same ∙ content_written file ps new ms k none below
    in
    λ i.
    record {
      name = name_in (names i) (same i).sh_name;
      kind = (same i).sh_type;
      flags = (same i).sh_flags;
      addr = (same i).sh_addr;
      offset = (same i).sh_offset;
      size = (same i).sh_size;
      link = (same i).sh_link;
      info = (same i).sh_info;
      content = content i;
    }

read_below : (file : List ℕ) (ps : List Patch) (new : Option NewSegment) (ms : List SymbolMove) (n : ℕ) → first_fault file ≡ None → IsWritable (view_in file) ps new ms → n ≤ section_count file → sections_below (written (view_in file) ps new ms) n ≡ map (changed_section (all_changes (view_in file) ps new ms)) (sections_below file n)
read_below file ps new ms zero none is le = refl
read_below file ps new ms (suc n) none is le =
    let change = changed_section (all_changes (view_in file) ps new ms) in
    let earlier = read_below file ps new ms n none is (omega (arith, le)) in
    let here = section_read file ps new ms n none is (omega (arith, le)) in
    (λ i. earlier i ++ here i ∷ []) ∙ sym (map-append change (sections_below file n) (section_of file n ∷ []))

pub sections_read : (file : List ℕ) (ps : List Patch) (new : Option NewSegment) (ms : List SymbolMove) → first_fault file ≡ None → IsWritable (view_in file) ps new ms → all_sections (written (view_in file) ps new ms) ≡ map (changed_section (all_changes (view_in file) ps new ms)) (all_sections file)
sections_read file ps new ms none is =
    ap (sections_below (written (view_in file) ps new ms)) (keeps_header file ps new ms none is).sections
    ∙ read_below file ps new ms (section_count file) none is (omega arith)
