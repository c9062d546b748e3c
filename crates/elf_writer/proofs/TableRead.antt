-- The program headers of a written file, read back.
use Rattle.std.proofs.Common.{◌≡◌, ◌∙◌, ℕ, ◌+◌, ◌-◌, ◌*◌, ◌<◌, ◌≤◌, ◌==◌, Bool, true, false, not, ◌&&◌, List, [], ◌∷◌, ◌++◌, map, length, slice_range, Some, None, refl, ap, subst, arith}
use Rattle.std.specs.List.{All}
use Rattle.std.proofs.lemmas.List.Elements.{All-nil, All-append}
use Rattle.list_checks.specs.Tests.{ranges_overlap}
use Rattle.elf_writer.specs.Pieces.{IsWord, words_bytes, zero_bytes, padding}
use Rattle.elf_writer.proofs.ZeroLemmas.{length-zero_bytes}
use Rattle.elf_writer.proofs.Standing.{Stands, stands_whole, stands_first, stands_behind, byte_there, words_there}
use Rattle.elf_reader.specs.Layout.{file_header, program_header_count, program_header_in, program_header, section_count, section_header}
use Rattle.elf_reader.specs.File.{PlainSection, view_in}
use Rattle.elf_reader.specs.Faults.{first_fault}
use Rattle.elf_reader.proofs.LoadedLemmas.{length_sections, section_is, byte_of_range}
use Rattle.elf_reader.specs.Loaded.{no_section}
use Rattle.elf_writer.specs.declared.parts.Patch.{Patch}
use Rattle.elf_writer.specs.declared.parts.SymbolMove.{SymbolMove}
use Rattle.elf_writer.specs.Changes.{changes_place, changed, IsUntouched}
use Rattle.elf_writer.specs.Parts.{NewSegment, patch_change, moves_changes, table_place, content_place}
use Rattle.elf_writer.specs.Written.{new_number, new_record, record_place, new_table, all_changes, appended, written}
use Rattle.elf_writer.specs.Conditions.{keeps_program_headers, KeepsProgramHeaders, IsWritable}
use Rattle.elf_writer.specs.Fits.{SegmentFits}
use Rattle.elf_writer.proofs.ChangeLemmas.{length-changed}
use Rattle.elf_writer.proofs.AlikeLemmas.{Alike, part_alike, program_header_alike}
use Rattle.elf_writer.proofs.FitLemmas.{table_inside, length_range, length_table, fits}
use Rattle.elf_writer.proofs.RangeLemmas.{OffTable, off_patches, off_moves, free_byte}
use Rattle.elf_writer.proofs.HeaderRead.{header_is}

-- ---- without a segment they stay where they are

without_headers : (kind overlap : Bool) → not (kind && overlap) ≡ true → kind ≡ true → overlap ≡ false
without_headers kind overlap keeps is = grind arith

kept_headers : (file : List ℕ) → All (KeepsProgramHeaders (view_in file)) (view_in file).sections → OffTable file (file_header file).e_phoff (32 * program_header_count file)
kept_headers file keeps t own =
    let v = view_in file in
    let count = length_sections file (section_count file) in
    let below = own.below in
    let here = keeps t no_section (omega (arith, count, below)) in
    let plain = subst (λ (s : PlainSection). keeps_program_headers v s ≡ true) (section_is file t own.below) here in
    let s = section_header file t in
    without_headers (s.sh_type == 2) (ranges_overlap s.sh_offset s.sh_size v.ph_at (32 * v.ph_count)) plain (ap (λ n. n == 2) own.kind)

table_free : (file : List ℕ) (ps : List Patch) (ms : List SymbolMove) (q : ℕ) → first_fault file ≡ None → IsWritable (view_in file) ps None ms → (file_header file).e_phoff ≤ q → q < (file_header file).e_phoff + 32 * program_header_count file → IsUntouched (all_changes (view_in file) ps None ms) q
table_free file ps [] q none is from to =
    All-append (λ c. changes_place c q ≡ false) (map patch_change ps) []
    (off_patches file ps (file_header file).e_phoff (32 * program_header_count file) q is.patched (λ k own. own.programs) from to)
    (All-nil (λ c. changes_place c q ≡ false))
table_free file ps (m ∷ ms) q none is from to =
    All-append (λ c. changes_place c q ≡ false) (map patch_change ps) (moves_changes (view_in file).symbols (m ∷ ms))
    (off_patches file ps (file_header file).e_phoff (32 * program_header_count file) q is.patched (λ k own. own.programs) from to)
    (off_moves file (m ∷ ms) (file_header file).e_phoff (32 * program_header_count file) q none is.symbols (kept_headers file is.allowed) from to)

pub program_header_stays : (file : List ℕ) (ps : List Patch) (ms : List SymbolMove) (k : ℕ) → first_fault file ≡ None → IsWritable (view_in file) ps None ms → k < program_header_count file → program_header (written (view_in file) ps None ms) k ≡ program_header file k
program_header_stays file ps ms k none is below =
    let out = written (view_in file) ps None ms in
    let start = (file_header file).e_phoff in
    let table = table_inside file none (omega (arith, below)) in
    let inside : start + 32 * program_header_count file ≤ length file = omega (arith, table) in
    let alike : Alike out (start + 32 * k) file (start + 32 * k) 32 =
    λ i low.
    free_byte (view_in file) ps None ms (start + 32 * k + i) (omega (arith, inside, below, low))
    (table_free file ps ms (start + 32 * k + i) none is (omega arith) (omega (arith, below, low)))
    in
    ap (λ n. program_header_in out (n + 32 * k)) (header_is file ps None ms none is tt).at_is
    ∙ program_header_alike out (start + 32 * k) file (start + 32 * k) alike

-- ---- with a segment they stand behind the file's bytes

stands_alike : (file out : List ℕ) (at p n : ℕ) → p + n ≤ length file → Stands out at (slice_range file p (p + n)) → Alike out at file p n
stands_alike file out at p n inside there i below =
    let size = length_range file p (p + n) inside in
    byte_there out at (at + i) (slice_range file p (p + n)) i (omega (arith, size, below)) refl there ∙ byte_of_range file p n i below

-- what stands there
pub record HasTable (file : List ℕ) (s : NewSegment) (out : List ℕ) : Type 0 where
  pub before : Stands out (table_place (view_in file)) (slice_range file (file_header file).e_phoff (record_place (view_in file) (new_number (view_in file) s)))
  pub here : Stands out (table_place (view_in file) + 32 * new_number (view_in file) s) (new_record (view_in file) s)
  pub behind : Stands out (table_place (view_in file) + 32 * new_number (view_in file) s + 32) (slice_range file (record_place (view_in file) (new_number (view_in file) s)) (record_place (view_in file) (program_header_count file)))
  pub content : Stands out (content_place (view_in file)) s.content

pub table_inside_file : (file : List ℕ) (ps : List Patch) (s : NewSegment) (ms : List SymbolMove) → first_fault file ≡ None → IsWritable (view_in file) ps (Some s) ms → SegmentFits (view_in file) s
table_inside_file file ps s ms none is = (fits file ps (Some s) ms none is).segment

pub has_table : (file : List ℕ) (ps : List Patch) (s : NewSegment) (ms : List SymbolMove) → first_fault file ≡ None → IsWritable (view_in file) ps (Some s) ms → HasTable file s (written (view_in file) ps (Some s) ms)
has_table file ps s ms none is =
    let v = view_in file in
    let out = written v ps (Some s) ms in
    let fit = table_inside_file file ps s ms none is in
    let n = new_number v s in
    let front = changed (all_changes v ps (Some s) ms) 0 v.bytes in
    let zeros = zero_bytes (padding (length v.bytes)) in
    let before = slice_range v.bytes v.ph_at (record_place v n) in
    let behind = slice_range v.bytes (record_place v n) (record_place v v.ph_count) in
    let front_size = length-changed (all_changes v ps (Some s) ms) 0 v.bytes in
    let zeros_size = length-zero_bytes (padding (length v.bytes)) in
    let number = fit.number in
    let inside = fit.inside in
    let table_size = length_table v s number inside in
    let before_size = length_range v.bytes v.ph_at (record_place v n) (omega (arith, number, inside)) in
    let record_size : length (new_record v s) ≡ 32 = refl in
    let added = stands_behind out 0 (length v.bytes) front (appended v (Some s)) (omega (arith, front_size)) (stands_whole out) in
    let rest = stands_behind out (length v.bytes) (table_place v) zeros (new_table v s ++ s.content) (omega (arith, zeros_size)) added in
    let table = stands_first out (table_place v) (new_table v s) s.content rest in
    let later = stands_behind out (table_place v) (table_place v + 32 * n) before (new_record v s ++ behind) (omega (arith, before_size)) table in
    record {
      before = stands_first out (table_place v) before (new_record v s ++ behind) table;
      here = stands_first out (table_place v + 32 * n) (new_record v s) behind later;
      behind = stands_behind out (table_place v + 32 * n) (table_place v + 32 * n + 32) (new_record v s) behind (omega (arith, record_size)) later;
      content = stands_behind out (table_place v) (content_place v) (new_table v s) s.content (omega (arith, table_size)) rest;
    }

-- those before the new one, and those behind it
pub program_header_before : (file : List ℕ) (ps : List Patch) (s : NewSegment) (ms : List SymbolMove) (k : ℕ) → first_fault file ≡ None → IsWritable (view_in file) ps (Some s) ms → s.entry < 4294967296 → k < new_number (view_in file) s → program_header (written (view_in file) ps (Some s) ms) k ≡ program_header file k
program_header_before file ps s ms k none is entry below =
    let v = view_in file in
    let out = written v ps (Some s) ms in
    let fit = table_inside_file file ps s ms none is in
    let n = new_number v s in
    let number = fit.number in
    let inside = fit.inside in
    let whole = stands_alike file out (table_place v) v.ph_at (32 * n) (omega (arith, number, inside)) (has_table file ps s ms none is).before in
    let here = part_alike out file (table_place v) v.ph_at (32 * n) (32 * k) 32 whole (omega (arith, below)) in
    ap (λ p. program_header_in out (p + 32 * k)) (header_is file ps (Some s) ms none is entry).at_is
    ∙ program_header_alike out (table_place v + 32 * k) file (v.ph_at + 32 * k) here

pub program_header_behind : (file : List ℕ) (ps : List Patch) (s : NewSegment) (ms : List SymbolMove) (j : ℕ) → first_fault file ≡ None → IsWritable (view_in file) ps (Some s) ms → s.entry < 4294967296 → new_number (view_in file) s + j < program_header_count file → program_header (written (view_in file) ps (Some s) ms) (new_number (view_in file) s + j + 1) ≡ program_header file (new_number (view_in file) s + j)
program_header_behind file ps s ms j none is entry below =
    let v = view_in file in
    let out = written v ps (Some s) ms in
    let fit = table_inside_file file ps s ms none is in
    let n = new_number v s in
    let rest = v.ph_count - n in
    let inside = fit.inside in
    let place = table_place v + 32 * n + 32 in
    let ends : record_place v v.ph_count ≡ record_place v n + 32 * rest = omega (arith, below) in
    let there = subst (λ (end : ℕ). Stands out place (slice_range file (record_place v n) end)) ends (has_table file ps s ms none is).behind in
    let whole = stands_alike file out place (record_place v n) (32 * rest) (omega (arith, inside, below)) there in
    let here = part_alike out file place (record_place v n) (32 * rest) (32 * j) 32 whole (omega (arith, below)) in
    let from : table_place v + 32 * (n + j + 1) ≡ place + 32 * j = omega arith in
    let to : record_place v n + 32 * j ≡ v.ph_at + 32 * (n + j) = omega arith in
    ap (λ p. program_header_in out (p + 32 * (n + j + 1))) (header_is file ps (Some s) ms none is entry).at_is
    ∙ (ap (program_header_in out) from
    ∙ (program_header_alike out (place + 32 * j) file (record_place v n + 32 * j) here ∙ ap (program_header_in file) to))

-- the program header at a place, of a segment that is loaded
pub record IsLoadHeader (out : List ℕ) (at place base size memory flags : ℕ) : Type 0 where
  pub kind : (program_header_in out at).p_type ≡ 1
  pub offset : (program_header_in out at).p_offset ≡ place
  pub vaddr : (program_header_in out at).p_vaddr ≡ base
  pub filesz : (program_header_in out at).p_filesz ≡ size
  pub memsz : (program_header_in out at).p_memsz ≡ memory
  pub flags_are : (program_header_in out at).p_flags ≡ flags

pub load_header_there : (out : List ℕ) (at place base size memory flags : ℕ) → IsWord place → IsWord base → IsWord size → IsWord memory → IsWord flags → Stands out at (words_bytes (1 ∷ place ∷ base ∷ base ∷ size ∷ memory ∷ flags ∷ 4 ∷ [])) → IsLoadHeader out at place base size memory flags
unfolding program_header_in
load_header_there out at place base size memory flags place_fits base_fits size_fits memory_fits flags_fit h =
    let words : List ℕ = 1 ∷ place ∷ base ∷ base ∷ size ∷ memory ∷ flags ∷ 4 ∷ [] in
    record {
      kind = words_there out at at words 0 (omega arith) (omega arith) (omega arith) h;
      offset = words_there out at (at + 4) words 1 refl (omega arith) place_fits h;
      vaddr = words_there out at (at + 8) words 2 refl (omega arith) base_fits h;
      filesz = words_there out at (at + 16) words 4 refl (omega arith) size_fits h;
      memsz = words_there out at (at + 20) words 5 refl (omega arith) memory_fits h;
      flags_are = words_there out at (at + 24) words 6 refl (omega arith) flags_fit h;
    }

pub new_read : (file : List ℕ) (ps : List Patch) (s : NewSegment) (ms : List SymbolMove) → first_fault file ≡ None → IsWritable (view_in file) ps (Some s) ms → IsLoadHeader (written (view_in file) ps (Some s) ms) (table_place (view_in file) + 32 * new_number (view_in file) s) (content_place (view_in file)) s.base (length s.content) (length s.content) 7
new_read file ps s ms none is =
    let v = view_in file in
    let fit = table_inside_file file ps s ms none is in
    let short = fit.short in
    let ends = is.allowed.ends in
    load_header_there (written v ps (Some s) ms) (table_place v + 32 * new_number v s) (content_place v) s.base (length s.content) (length s.content) 7 (omega (arith, short)) (omega (arith, ends)) (omega (arith, short)) (omega (arith, short)) (omega arith) (has_table file ps s ms none is).here
