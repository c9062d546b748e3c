-- The words of a code range stand in its section's bytes.
use Rattle.std.proofs.Common.{◌≡◌, ◌∙◌, ℕ, zero, suc, ◌+◌, ◌-◌, ◌<◌, ◌≤◌, ◌==◌, true, ◌&&◌, List, [], ◌∷◌, ◌++◌, length, map, slice_index, slice_index_or, None, refl, sym, ap, subst, arith, append-nil, length-take, length-drop}
use Rattle.std.specs.List.{All}
use Rattle.std.proofs.lemmas.Bool.{eqb-true, cond_both}
use Rattle.std.proofs.lemmas.Bool.Decides.{nat_tests}
use Rattle.std.proofs.lemmas.List.{get_or-map, length-map}
use Rattle.std.proofs.lemmas.List.Elements.{All-nil, All-push}
use Rattle.list_checks.specs.Tests.{lies_in}
use Rattle.list_checks.proofs.TestLemmas.{both}
use Rattle.rv32im.specs.Words.{plus, word_of}
use Rattle.elf_reader.specs.Layout.{program_header_count, program_header, section_count, section_header}
use Rattle.elf_reader.specs.Sections.{bit_of, stands_in_file}
use Rattle.elf_reader.specs.File.{PlainSegment, PlainSection, PlainView, IsFile, plain_section, plain_view, view_in, is_load, segment_of, segments_below, load_segments, section_of}
use Rattle.elf_reader.specs.ProgramHeaderChecks.{table_fault, entries_fault}
use Rattle.elf_reader.specs.Faults.{first_fault}
use Rattle.elf_reader.specs.Loadable.{HasSegments}
use Rattle.elf_reader.specs.Placed.{HasContent}
use Rattle.elf_reader.specs.Image.{image_of}
use Rattle.elf_reader.specs.Loaded.{no_section, section_at, no_segment, segment_at, is_loaded}
use Rattle.loaded_file.specs.Code.{is_code_range, holds_code, has_content, image_word}
use Rattle.elf_reader.specs.declared.view.ElfView.{ElfView}
use Rattle.elf_reader.specs.declared.view.Section.{Section}
use Rattle.elf_reader.proofs.SegmentLemmas.{segments_held, none_of_headers}
use Rattle.elf_reader.proofs.SectionLemmas.{none_of_sections, section_contents_held}
use Rattle.elf_reader.proofs.LoadedLemmas.{loaded_found, loaded_below, loaded_bytes, length_sections, section_is}
use Rattle.list_checks.proofs.FirstLemmas.{both_none}
use Rattle.loaded_file.specs.Read.{IsRead}
use Rattle.loaded_file.proofs.ByteRangeLemmas.{both_made}

-- a view of a file says what the file says
pub same_view : (file : List ℕ) (view : ElfView) → IsFile file view → plain_view view ≡ view_in file
same_view file view is =
    λ i.
    record {
      bytes = is.bytes i;
      entry = is.entry i;
      flags = is.flags i;
      ph_at = is.ph_at i;
      ph_count = is.ph_count i;
      segments = is.segments i;
      sections = is.sections i;
      symbols = is.symbols i;
      relocs = is.relocs i;
    }

-- a segment's memory ends below 2 ^ 32
abbrev EndsInMemory : PlainSegment → Type 0
EndsInMemory s = s.vaddr + s.memsz < 4294967296

segments_end : (file : List ℕ) → HasSegments file → (n : ℕ) → n ≤ program_header_count file → All EndsInMemory (segments_below file n)
segments_end file held zero le = All-nil EndsInMemory
segments_end file held (suc n) le =
    let p = program_header file n in
    let earlier = segments_end file held n (omega arith) in
    cond_both (is_load p) (segment_of file n p ∷ []) [] (λ more. All EndsInMemory (segments_below file n ++ more))
    (λ load. All-push EndsInMemory _ _ earlier (held n (omega arith) load).ends)
    (λ other. rw append-nil earlier)

load_segments_end : (file : List ℕ) → first_fault file ≡ None → All EndsInMemory (load_segments file)
load_segments_end file none =
    let after_places = both_none (table_fault file) _ (none_of_headers file none) in
    let records = both_none (entries_fault file) _ after_places.1 in
    segments_end file (segments_held file records.0) (program_header_count file) (omega arith)

-- so does a loaded section's
loaded_ends : (file : List ℕ) (k : ℕ) → first_fault file ≡ None → is_loaded (view_in file) k ≡ true → (section_at (view_in file) k).addr + (section_at (view_in file) k).size < 4294967296
loaded_ends file k none loaded =
    let (g, facts) = loaded_found (view_in file) k loaded in
    let ends : EndsInMemory (segment_at (view_in file) g) = load_segments_end file none g no_segment facts.below in
    let inside = facts.ends in
    omega (arith, ends, inside)

-- a section with content has all of it
content_length : (file : List ℕ) (k : ℕ) → HasContent (length file) (section_header file k) → (section_of file k).kind ≡ 1 → length (section_of file k).content ≡ (section_of file k).size
content_length file k held kind =
    let stands : stands_in_file (section_header file k).sh_type ≡ true = rw kind refl in
    let inside = held stands in
    rw stands (simp (length-take, length-drop) (omega (arith, inside)))

-- what holds of code range `k` of a view, which has the word at `a`
record HasWord (v : PlainView) (k a : ℕ) : Type 0 where
  pub below : k < length v.sections
  pub from : (section_at v k).addr ≤ a
  pub to : a + 4 ≤ (section_at v k).addr + (section_at v k).size
  pub long : length (section_at v k).content ≡ (section_at v k).size
  pub ends : (section_at v k).addr + (section_at v k).size < 4294967296
  pub bytes : (i : ℕ) → i < (section_at v k).size → image_of v.segments ((section_at v k).addr + i) ≡ slice_index (section_at v k).content i

pub lies_from : (base total start size : ℕ) → lies_in base total start size ≡ true → base ≤ start
lies_from base total start size lies = grind (arith, nat_tests, lies)

pub lies_to : (base total start size : ℕ) → lies_in base total start size ≡ true → start + size ≤ base + total
lies_to base total start size lies = grind (arith, nat_tests, lies)

word_of_file : (file : List ℕ) (k a : ℕ) → first_fault file ≡ None → is_loaded (view_in file) k ≡ true → (section_at (view_in file) k).kind ≡ 1 → lies_in (section_at (view_in file) k).addr (section_at (view_in file) k).size a 4 ≡ true → HasWord (view_in file) k a
word_of_file file k a none loaded kind lies =
    let v = view_in file in
    let s = section_at v k in
    let below = loaded_below file k loaded in
    let count = length_sections file (section_count file) in
    let held = section_contents_held file (none_of_sections file none) k below in
    record {
      below = omega (arith, count, below);
      from = lies_from s.addr s.size a 4 lies;
      to = lies_to s.addr s.size a 4 lies;
      long = subst (λ (t : PlainSection). t.kind ≡ 1 → length t.content ≡ t.size) (sym (section_is file k below)) (content_length file k held) kind;
      ends = loaded_ends file k none loaded;
      bytes = λ i inside. loaded_bytes file k i none loaded inside;
    }

-- the word at `a` as the bytes of a section that has it
pub record StandsIn (s : PlainSection) (a word : ℕ) : Type 0 where
  pub from : s.addr ≤ a
  pub inside : a - s.addr + 4 ≤ length s.content
  pub is : word ≡ word_of (slice_index s.content (a - s.addr)) (slice_index s.content (a - s.addr + 1)) (slice_index s.content (a - s.addr + 2)) (slice_index s.content (a - s.addr + 3))

byte_at : (v : PlainView) (k a i b j : ℕ) → HasWord v k a → b ≡ a + i → i < 4 → j ≡ a - (section_at v k).addr + i → image_of v.segments b ≡ slice_index (section_at v k).content j
byte_at v k a i b j has is below behind =
    let s = section_at v k in
    let from = has.from in
    let to = has.to in
    let place : b ≡ s.addr + j = omega (arith, from, is, behind) in
    ap (image_of v.segments) place ∙ has.bytes j (omega (arith, from, to, below, behind))

four_bytes : (a b c d a' b' c' d' : ℕ) → a ≡ a' → b ≡ b' → c ≡ c' → d ≡ d' → word_of a b c d ≡ word_of a' b' c' d'
four_bytes a b c d a' b' c' d' first second third fourth = omega (arith, first, second, third, fourth)

stands_in : (v : PlainView) (k a : ℕ) → HasWord v k a → StandsIn (section_at v k) a (image_word v a)
stands_in v k a has =
    let from = has.from in
    let to = has.to in
    let ends = has.ends in
    let long = has.long in
    let at = a - (section_at v k).addr in
    record {
      from = from;
      inside = omega (arith, from, to, long);
      is =
          four_bytes _ _ _ _ _ _ _ _ (byte_at v k a 0 a at has (omega arith) (omega arith) (omega arith))
          (byte_at v k a 1 (plus a 1) (at + 1) has (omega (arith, to, ends)) (omega arith) (omega arith))
          (byte_at v k a 2 (plus a 2) (at + 2) has (omega (arith, to, ends)) (omega arith) (omega arith))
          (byte_at v k a 3 (plus a 3) (at + 3) has (omega (arith, to, ends)) (omega arith) (omega arith));
    }

-- a section that is loaded and has content has the words that lie in it
content_has : (view : ElfView) (k a : ℕ) → IsRead view → has_content (plain_view view) a k ≡ true → HasWord (plain_view view) k a
content_has view k a read has =
    let v = plain_view view in
    let s = section_at v k in
    let parts = both (is_loaded v k && (s.kind == 1)) (lies_in s.addr s.size a 4) has in
    let front = both (is_loaded v k) (s.kind == 1) parts.0 in
    let (file, is, none) = read in
    let same = same_view file view is in
    subst (λ (v : PlainView). is_loaded v k ≡ true → (section_at v k).kind ≡ 1 → lies_in (section_at v k).addr (section_at v k).size a 4 ≡ true → HasWord v k a) (sym same) (word_of_file file k a none) front.0 (eqb-true s.kind 1 front.1) parts.1

-- a code range has content
pub code_content : (v : PlainView) (k a : ℕ) → holds_code v a k ≡ true → has_content v a k ≡ true
code_content v k a holds =
    let s = section_at v k in
    let parts = both (is_code_range v k) (lies_in s.addr s.size a 4) holds in
    let range = both (is_loaded v k && (s.kind == 1)) (bit_of s.flags 2) parts.0 in
    both_made _ _ range.0 parts.1

has_word : (view : ElfView) (k a : ℕ) → IsRead view → holds_code (plain_view view) a k ≡ true → HasWord (plain_view view) k a
has_word view k a read holds = content_has view k a read (code_content (plain_view view) k a holds)

-- the address behind a word of a code range is below 2 ^ 32
pub word_fits : (view : ElfView) (k a : ℕ) → IsRead view → holds_code (plain_view view) a k ≡ true → a + 4 < 4294967296
word_fits view k a read holds =
    let has = has_word view k a read holds in
    let to = has.to in
    let ends = has.ends in
    omega (arith, to, ends)

-- a section that has a word is one of the view's, and the word stands in its bytes
word_below : (view : ElfView) (k a : ℕ) → HasWord (plain_view view) k a → k < length view.sections.items
word_below view k a has =
    let below : k < length (map plain_section view.sections.items) = has.below in
    rw length-map at below

word_in_section : (view : ElfView) (k a : ℕ) (s : Section) → HasWord (plain_view view) k a → s ≡ slice_index_or view.sections.items k s → StandsIn (plain_section s) a (image_word (plain_view view) a)
word_in_section view k a s has is =
    let same : section_at (plain_view view) k ≡ plain_section s = get_or-map plain_section view.sections.items k s no_section (word_below view k a has) ∙ ap plain_section (sym is) in
    subst (λ (t : PlainSection). StandsIn t a (image_word (plain_view view) a)) same (stands_in (plain_view view) k a has)

-- a code range is one of the sections
pub range_below : (view : ElfView) (k a : ℕ) → IsRead view → holds_code (plain_view view) a k ≡ true → k < length view.sections.items
range_below view k a read holds = word_below view k a (has_word view k a read holds)

-- the words that a section's content has stand in its bytes
pub content_stands : (view : ElfView) (k a : ℕ) (s : Section) → IsRead view → has_content (plain_view view) a k ≡ true → s ≡ slice_index_or view.sections.items k s → StandsIn (plain_section s) a (image_word (plain_view view) a)
content_stands view k a s read has is = word_in_section view k a s (content_has view k a read has) is

-- the memory of a code range ends below 2 ^ 32
pub range_ends : (view : ElfView) (k : ℕ) (s : Section) → IsRead view → is_code_range (plain_view view) k ≡ true → k < length view.sections.items → s ≡ slice_index_or view.sections.items k s → s.addr + s.size < 4294967296
range_ends view k s read range below is =
    let (file, is_file, none) = read in
    let same = same_view file view is_file in
    let here : section_at (plain_view view) k ≡ plain_section s = get_or-map plain_section view.sections.items k s no_section below ∙ ap plain_section (sym is) in
    let v = plain_view view in
    let parts = both (is_loaded v k && ((section_at v k).kind == 1)) (bit_of (section_at v k).flags 2) range in
    let front = both (is_loaded v k) ((section_at v k).kind == 1) parts.0 in
    let ends = subst (λ (u : PlainView). is_loaded u k ≡ true → (section_at u k).addr + (section_at u k).size < 4294967296) (sym same) (loaded_ends file k none) front.0 in
    subst (λ (t : PlainSection). t.addr + t.size < 4294967296) here ends
