-- The ELF header of a written file, read back.
use Rattle.std.proofs.Common.{◌≡◌, ◌∙◌, ℕ, ◌+◌, ◌<◌, ◌≤◌, List, slice_index, Option, Some, None, sym, ap, arith}
use Rattle.rv32im.specs.Words.{byte_of, half_of, word_of}
use Rattle.elf_reader.specs.Layout.{half_in, word_in, file_header}
use Rattle.elf_reader.specs.File.{view_in}
use Rattle.elf_reader.specs.Faults.{first_fault}
use Rattle.elf_writer.specs.declared.parts.Patch.{Patch}
use Rattle.elf_writer.specs.declared.parts.SymbolMove.{SymbolMove}
use Rattle.elf_writer.specs.Changes.{byte_changed}
use Rattle.elf_writer.specs.Parts.{NewSegment, content_changes, table_place, header_changes}
use Rattle.elf_writer.specs.Written.{written}
use Rattle.elf_writer.specs.Conditions.{IsWritable, HasWordEntry}
use Rattle.elf_writer.specs.Fits.{SegmentFits}
use Rattle.elf_writer.specs.View.{written_entry, written_ph_at, written_ph_count}
use Rattle.elf_writer.proofs.ChangeLemmas.{byte_changed-append}
use Rattle.elf_writer.proofs.WrittenLemmas.{bytes_written}
use Rattle.elf_writer.proofs.AlikeLemmas.{Alike, half_alike, word_alike}
use Rattle.elf_writer.proofs.FreeLemmas.{free_stays}
use Rattle.elf_writer.proofs.FitLemmas.{header_inside, fits}
use Rattle.elf_writer.proofs.RangeLemmas.{header_contents_free, free_byte}

-- without a segment the header stays; with one it has the changes of the header
header_alike : (file : List ℕ) (ps : List Patch) (ms : List SymbolMove) → first_fault file ≡ None → IsWritable (view_in file) ps None ms → Alike (written (view_in file) ps None ms) 0 file 0 52
header_alike file ps ms none is i below =
    let inside = header_inside file none in
    let same : 0 + i ≡ i = omega arith in
    let here = free_byte (view_in file) ps None ms i (omega (arith, inside, below)) (header_contents_free file ps None ms i none is below) in
    ap (slice_index (written (view_in file) ps None ms)) same ∙ (here ∙ ap (slice_index file) (sym same))

pub header_byte : (file : List ℕ) (ps : List Patch) (s : NewSegment) (ms : List SymbolMove) (q : ℕ) → first_fault file ≡ None → IsWritable (view_in file) ps (Some s) ms → q < 52 → slice_index (written (view_in file) ps (Some s) ms) q ≡ byte_changed (header_changes (view_in file) s) q (slice_index file q)
header_byte file ps s ms q none is below =
    let v = view_in file in
    let inside = header_inside file none in
    let free = header_contents_free file ps (Some s) ms q none is below in
    bytes_written v ps (Some s) ms q (omega (arith, inside, below))
    ∙ (byte_changed-append (content_changes v ps ms) (header_changes v s) q (slice_index file q)
    ∙ ap (byte_changed (header_changes v s) q) (free_stays (content_changes v ps ms) q (slice_index file q) free))

-- without a new segment a field of the header is the same
word_stays : (file : List ℕ) (ps : List Patch) (ms : List SymbolMove) (k : ℕ) → first_fault file ≡ None → IsWritable (view_in file) ps None ms → k + 4 ≤ 52 → word_in (written (view_in file) ps None ms) k ≡ word_in file k
word_stays file ps ms k none is inside =
    word_alike (written (view_in file) ps None ms) 0 file 0 52 k k k (header_alike file ps ms none is) inside (omega arith) (omega arith)

half_stays : (file : List ℕ) (ps : List Patch) (ms : List SymbolMove) (k : ℕ) → first_fault file ≡ None → IsWritable (view_in file) ps None ms → k + 2 ≤ 52 → half_in (written (view_in file) ps None ms) k ≡ half_in file k
half_stays file ps ms k none is inside =
    half_alike (written (view_in file) ps None ms) 0 file 0 52 k k k (header_alike file ps ms none is) inside (omega arith) (omega arith)

-- what stays in any case
pub record KeepsHeader (file out : List ℕ) : Type 0 where
  pub flags : (file_header out).e_flags ≡ (file_header file).e_flags
  pub sections_at : (file_header out).e_shoff ≡ (file_header file).e_shoff
  pub sections : (file_header out).e_shnum ≡ (file_header file).e_shnum
  pub names : (file_header out).e_shstrndx ≡ (file_header file).e_shstrndx

pub keeps_header : (file : List ℕ) (ps : List Patch) (new : Option NewSegment) (ms : List SymbolMove) → first_fault file ≡ None → IsWritable (view_in file) ps new ms → KeepsHeader file (written (view_in file) ps new ms)
unfolding file_header
keeps_header file ps None ms none is =
    record {
      flags = word_stays file ps ms 36 none is (omega arith);
      sections_at = word_stays file ps ms 32 none is (omega arith);
      sections = half_stays file ps ms 48 none is (omega arith);
      names = half_stays file ps ms 50 none is (omega arith);
    }
keeps_header file ps (Some s) ms none is =
    let out = written (view_in file) ps (Some s) ms in
    let byte : (q : ℕ) → q < 52 → slice_index out q ≡ byte_changed (header_changes (view_in file) s) q (slice_index file q) = λ q below. header_byte file ps s ms q none is below in
    record {
      flags = λ i. word_of (byte 36 (omega arith) i) (byte 37 (omega arith) i) (byte 38 (omega arith) i) (byte 39 (omega arith) i);
      sections_at = λ i. word_of (byte 32 (omega arith) i) (byte 33 (omega arith) i) (byte 34 (omega arith) i) (byte 35 (omega arith) i);
      sections = λ i. half_of (byte 48 (omega arith) i) (byte 49 (omega arith) i);
      names = λ i. half_of (byte 50 (omega arith) i) (byte 51 (omega arith) i);
    }

-- where execution begins, and the program headers
pub record IsHeader (out : List ℕ) (entry ph_at ph_count : ℕ) : Type 0 where
  pub entry_is : (file_header out).e_entry ≡ entry
  pub at_is : (file_header out).e_phoff ≡ ph_at
  pub count_is : (file_header out).e_phnum ≡ ph_count

pub whole_word : (n : ℕ) → n < 4294967296 → word_of (byte_of n 0) (byte_of n 1) (byte_of n 2) (byte_of n 3) ≡ n
whole_word n fits = omega arith

whole_half : (n : ℕ) → n < 65536 → half_of (byte_of n 0) (byte_of n 1) ≡ n
whole_half n fits = omega arith

pub header_is : (file : List ℕ) (ps : List Patch) (new : Option NewSegment) (ms : List SymbolMove) → first_fault file ≡ None → IsWritable (view_in file) ps new ms → HasWordEntry new → IsHeader (written (view_in file) ps new ms) (written_entry (view_in file) new) (written_ph_at (view_in file) new) (written_ph_count (view_in file) new)
unfolding file_header
header_is file ps None ms none is entry =
    record {
      entry_is = word_stays file ps ms 24 none is (omega arith);
      at_is = word_stays file ps ms 28 none is (omega arith);
      count_is = half_stays file ps ms 44 none is (omega arith);
    }
header_is file ps (Some s) ms none is entry =
    let v = view_in file in
    let out = written v ps (Some s) ms in
    let byte : (q : ℕ) → q < 52 → slice_index out q ≡ byte_changed (header_changes v s) q (slice_index file q) = λ q below. header_byte file ps s ms q none is below in
    let fit : SegmentFits v s = (fits file ps (Some s) ms none is).segment in
    let short = fit.short in
    let count = fit.count in
    let table : table_place v < 4294967296 = omega (arith, short) in
    record {
      entry_is =
          (λ i. word_of (byte 24 (omega arith) i) (byte 25 (omega arith) i) (byte 26 (omega arith) i) (byte 27 (omega arith) i)) ∙ whole_word s.entry entry;
      at_is =
          (λ i. word_of (byte 28 (omega arith) i) (byte 29 (omega arith) i) (byte 30 (omega arith) i) (byte 31 (omega arith) i)) ∙ whole_word (table_place v) table;
      count_is =
          (λ i. half_of (byte 44 (omega arith) i) (byte 45 (omega arith) i)) ∙ whole_half (v.ph_count + 1) (omega (arith, count));
    }
