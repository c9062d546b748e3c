-- The memory that segments make, and what it holds of a loaded section.
use Rattle.std.proofs.Common.{◌≡◌, ◌∙◌, ◌⊎◌, inl, inr, ℕ, zero, suc, ◌+◌, ◌-◌, ◌<◌, ◌≤◌, ◌==◌, nat_le, Bool, true, false, not, ◌&&◌, ◌||◌, List, [], ◌∷◌, ◌++◌, length, slice_index, slice_index_or, drop, None, refl, sym, ap, subst, arith, append-nil, length-take, length-drop}
use Rattle.std.specs.List.{All, slice_range}
use Rattle.std.proofs.Math.ListN.{get_or-eq_default}
use Rattle.std.proofs.lemmas.Bool.{leb-true, eqb-true, cond_both, cases_Bool, cases_order, cases_lt, both_ways}
use Rattle.std.proofs.lemmas.Bool.Decides.{nat_tests}
use Rattle.std.proofs.lemmas.List.{get_or-take, get_or-drop}
use Rattle.std.proofs.lemmas.List.Elements.{All-nil, All-push}
use Rattle.list_checks.specs.Tests.{any_below, lies_in, ranges_overlap}
use Rattle.list_checks.proofs.TestLemmas.{either, both, not_true, any_found, none_at}
use Rattle.list_checks.proofs.StepLemmas.{length_built, built_at}
use Rattle.elf_reader.specs.Layout.{program_header_count, program_header, section_count, section_header}
use Rattle.elf_reader.specs.Sections.{bit_of, stands_in_file}
use Rattle.elf_reader.specs.File.{PlainSegment, PlainSection, PlainView, view_in, is_load, segment_of, segments_below, load_segments, section_of, sections_below}
use Rattle.elf_reader.specs.ProgramHeaderChecks.{table_fault, entries_fault, program_headers_fault}
use Rattle.elf_reader.specs.Faults.{first_fault}
use Rattle.elf_reader.specs.Image.{has_byte, image_of}
use Rattle.elf_reader.specs.Loadable.{HasSegment, HasSegments, AreDisjoint}
use Rattle.elf_reader.specs.Loaded.{no_section, section_at, no_segment, segment_at, overlaps_headers, overlaps_section, overlaps_segment, has_own_bytes, is_filled, is_zeroed, loads, is_loaded, LoadedBytes}
use Rattle.elf_reader.specs.declared.records.ProgramHeader.{ProgramHeader}
use Rattle.elf_reader.proofs.SegmentLemmas.{segments_held, none_of_headers, load_segments_disjoint}
use Rattle.list_checks.proofs.FirstLemmas.{both_none}

-- a byte of a range of the file
pub byte_of_range : (file : List ℕ) (start size i : ℕ) → i < size → slice_index (slice_range file start (start + size)) i ≡ slice_index file (start + i)
byte_of_range file start size i below =
    let cut : start + size - start ≡ size = omega arith in
    rw (cut, get_or-take size (drop start file) i 0 below, get_or-drop start file i 0) refl

-- a segment's bytes are the file's from its place on, and they fit into its memory
pub record IsPlaced (file : List ℕ) (s : PlainSegment) : Type 0 where
  pub bytes : (i : ℕ) → i < length s.content → slice_index s.content i ≡ slice_index file (s.offset + i)
  pub fits : length s.content ≤ s.memsz

pub is_placed : (file : List ℕ) (k : ℕ) (p : ProgramHeader) → HasSegment (length file) p → IsPlaced file (segment_of file k p)
is_placed file k p held =
    let fits = held.fits in
    let short : length (segment_of file k p).content ≤ p.p_filesz = simp (length-take, length-drop) (omega arith) in
    record {
      bytes = λ i below. byte_of_range file p.p_offset p.p_filesz i (omega (arith, short, below));
      fits = omega (arith, short, fits);
    }

pub are_placed : (file : List ℕ) → HasSegments file → (n : ℕ) → n ≤ program_header_count file → All (IsPlaced file) (segments_below file n)
are_placed file held zero le = All-nil (IsPlaced file)
are_placed file held (suc n) le =
    let p = program_header file n in
    let earlier = are_placed file held n (omega arith) in
    cond_both (is_load p) (segment_of file n p ∷ []) [] (λ more. All (IsPlaced file) (segments_below file n ++ more))
    (λ load. All-push (IsPlaced file) _ _ earlier (is_placed file n p (held n (omega arith) load)))
    (λ other. rw append-nil earlier)

pub load_segments_placed : (file : List ℕ) → program_headers_fault file ≡ None → All (IsPlaced file) (load_segments file)
load_segments_placed file none =
    let after_places = both_none (table_fault file) _ none in
    let records = both_none (entries_fault file) _ after_places.1 in
    are_placed file (segments_held file records.0) (program_header_count file) (omega arith)

-- segment `g` of a list
abbrev pub nth_segment : List PlainSegment → ℕ → PlainSegment
nth_segment ss g = slice_index_or ss g no_segment

-- an address for which no segment has a byte holds 0
pub image_without : (ss : List PlainSegment) (address : ℕ) → ((h : ℕ) → h < length ss → has_byte (nth_segment ss h) address ≡ false) → image_of ss address ≡ 0
image_without [] address none = refl
image_without (s ∷ ss) address none =
    let here : has_byte s address ≡ false = none 0 (omega arith) in
    let later = image_without ss address (λ h below. none (suc h) (omega (arith, below))) in
    rw (here, later) refl

-- an address for which only segment `g` has a byte holds that byte
pub image_at : (ss : List PlainSegment) (g address : ℕ) → g < length ss → has_byte (nth_segment ss g) address ≡ true → ((h : ℕ) → h < length ss → has_byte (nth_segment ss h) address ≡ true → h ≡ g) → image_of ss address ≡ slice_index (nth_segment ss g).content (address - (nth_segment ss g).vaddr)
image_at [] g address below has only = absurd (omega arith)
image_at (s ∷ ss) zero address below has only = rw has refl
image_at (s ∷ ss) (suc g) address below has only =
    let here : has_byte s address ≡ false = elim (cases_Bool (has_byte s address)) [
      | inl first ↦ let same = only 0 (omega arith) first in absurd (omega (arith, same))
      | inr other ↦ other
    ] in
    let later = image_at ss g address (omega arith) has (λ h below has_here. let same = only (suc h) (omega (arith, below)) has_here in omega (arith, same)) in
    rw (here, later) refl

-- ranges that both have the place `a` meet
overlap_at : (b m c n a : ℕ) → b ≤ a → a < b + m → c ≤ a → a < c + n → ranges_overlap b m c n ≡ true
overlap_at b m c n a from to other_from other_to = grind (arith, nat_tests)

-- the segment has memory at the address
pub record HasAddress (s : PlainSegment) (a : ℕ) : Type 0 where
  pub from : s.vaddr ≤ a
  pub to : a < s.vaddr + s.memsz

both_have : (s t : PlainSegment) (a : ℕ) → HasAddress s a → HasAddress t a → ranges_overlap s.vaddr s.memsz t.vaddr t.memsz ≡ true
both_have s t a has has_too = overlap_at s.vaddr s.memsz t.vaddr t.memsz a has.from has.to has_too.from has_too.to

-- only one segment has
pub one_segment : (ss : List PlainSegment) → AreDisjoint ss → (g h a : ℕ) → g < length ss → h < length ss → HasAddress (nth_segment ss g) a → HasAddress (nth_segment ss h) a → h ≡ g
one_segment ss disjoint g h a below below_h has has_h =
    let s = nth_segment ss g in
    let t = nth_segment ss h in
    elim (cases_order h g) [
      | inl same ↦ same
      | inr order ↦ elim order [
        | inl before ↦ absurd (both_ways _ (disjoint h g no_segment before below) (both_have t s a has_h has))
        | inr behind ↦ absurd (both_ways _ (disjoint g h no_segment behind below_h) (both_have s t a has has_h))
      ]
    ]

-- a segment that has a byte for an address has memory there
byte_address : (file : List ℕ) (s : PlainSegment) (a : ℕ) → IsPlaced file s → has_byte s a ≡ true → HasAddress s a
byte_address file s a placed has =
    let fits = placed.fits in
    record { from = grind (arith, nat_tests, has); to = grind (arith, nat_tests, has, fits) }

-- so no other segment than that with the memory has a byte
pub only_segment : (file : List ℕ) (ss : List PlainSegment) → AreDisjoint ss → All (IsPlaced file) ss → (g a : ℕ) → g < length ss → HasAddress (nth_segment ss g) a → (h : ℕ) → h < length ss → has_byte (nth_segment ss h) a ≡ true → h ≡ g
only_segment file ss disjoint placed g a below has_address h below_h has =
    one_segment ss disjoint g h a below below_h has_address (byte_address file (nth_segment ss h) a (placed h no_segment below_h) has)

-- the sections of the first n section headers
pub length_sections : (file : List ℕ) (n : ℕ) → length (sections_below file n) ≡ n
length_sections file n = length_built (sections_below file) (section_of file) refl (λ m. refl) n

pub section_below : (file : List ℕ) (n k : ℕ) → k < n → slice_index_or (sections_below file n) k no_section ≡ section_of file k
section_below file n k below =
    built_at (sections_below file) (section_of file) no_section refl (λ m. refl) n k below

-- section `k` of a file is that of section header `k`
pub section_is : (file : List ℕ) (k : ℕ) → k < section_count file → section_at (view_in file) k ≡ section_of file k
section_is file k below = section_below file (section_count file) k below

-- there is none behind the last
pub section_behind : (file : List ℕ) (k : ℕ) → section_count file ≤ k → section_at (view_in file) k ≡ no_section
section_behind file k behind =
    let count = length_sections file (section_count file) in
    get_or-eq_default (sections_below file (section_count file)) no_section (omega (arith, count, behind))

-- the bytes of the file that a section has for itself
pub record HasOwnBytes (v : PlainView) (k g : ℕ) (s : PlainSection) : Type 0 where
  pub headers : overlaps_headers v s.offset s.size ≡ false
  pub section : (j : ℕ) → j < length v.sections → overlaps_section v k s.offset s.size j ≡ false
  pub segment : (h : ℕ) → h < length v.segments → overlaps_segment v g s.offset s.size h ≡ false

-- a section with content in the file bytes of a segment
pub record IsFilled (v : PlainView) (k g : ℕ) (s : PlainSection) (t : PlainSegment) : Type 0 where
  pub kind : s.kind ≡ 1
  pub aligned : s.offset + t.vaddr ≡ s.addr + t.offset
  pub starts : t.vaddr ≤ s.addr
  pub ends : s.addr + s.size ≤ t.vaddr + length t.content
  pub own : HasOwnBytes v k g s

-- a section of zeros behind them
pub record IsZeroed (s : PlainSection) (t : PlainSegment) : Type 0 where
  pub kind : s.kind ≡ 8
  pub behind : t.vaddr + length t.content ≤ s.addr

-- segment `g` loads section `k`
pub record Loads (v : PlainView) (k g : ℕ) : Type 0 where
  pub below : g < length v.segments
  pub allocated : bit_of (section_at v k).flags 1 ≡ true
  pub starts : (segment_at v g).vaddr ≤ (section_at v k).addr
  pub ends : (section_at v k).addr + (section_at v k).size ≤ (segment_at v g).vaddr + (segment_at v g).memsz
  pub rest : IsFilled v k g (section_at v k) (segment_at v g) ⊎ IsZeroed (section_at v k) (segment_at v g)

lies_from : (base total start size : ℕ) → lies_in base total start size ≡ true → base ≤ start
lies_from base total start size lies = grind (arith, nat_tests, lies)

lies_to : (base total start size : ℕ) → lies_in base total start size ≡ true → start + size ≤ base + total
lies_to base total start size lies = grind (arith, nat_tests, lies)

own_parts : (v : PlainView) (k g : ℕ) (s : PlainSection) → has_own_bytes v k g s ≡ true → HasOwnBytes v k g s
own_parts v k g s own =
    let sections = any_below (overlaps_section v k s.offset s.size) (length v.sections) in
    let segments = any_below (overlaps_segment v g s.offset s.size) (length v.segments) in
    let front = both (not (overlaps_headers v s.offset s.size) && not sections) (not segments) own in
    let first = both (not (overlaps_headers v s.offset s.size)) (not sections) front.0 in
    record {
      headers = not_true (overlaps_headers v s.offset s.size) first.0;
      section = λ j below. none_at (overlaps_section v k s.offset s.size) (length v.sections) j below (not_true sections first.1);
      segment = λ h below. none_at (overlaps_segment v g s.offset s.size) (length v.segments) h below (not_true segments front.1);
    }

filled_parts : (v : PlainView) (k g : ℕ) (s : PlainSection) (t : PlainSegment) → is_filled v k g s t ≡ true → IsFilled v k g s t
filled_parts v k g s t filled =
    let lies = lies_in t.vaddr (length t.content) s.addr s.size in
    let aligned = s.offset + t.vaddr == s.addr + t.offset in
    let last = both ((s.kind == 1) && aligned && lies) (has_own_bytes v k g s) filled in
    let third = both ((s.kind == 1) && aligned) lies last.0 in
    let first = both (s.kind == 1) aligned third.0 in
    record {
      kind = eqb-true s.kind 1 first.0;
      aligned = eqb-true (s.offset + t.vaddr) (s.addr + t.offset) first.1;
      starts = lies_from t.vaddr (length t.content) s.addr s.size third.1;
      ends = lies_to t.vaddr (length t.content) s.addr s.size third.1;
      own = own_parts v k g s last.1;
    }

zeroed_parts : (s : PlainSection) (t : PlainSegment) → is_zeroed s t ≡ true → IsZeroed s t
zeroed_parts s t zeroed =
    let parts = both (s.kind == 8) (nat_le (t.vaddr + length t.content) s.addr) zeroed in
    record {
      kind = eqb-true s.kind 8 parts.0;
      behind = leb-true (t.vaddr + length t.content) s.addr parts.1;
    }

pub loads_parts : (v : PlainView) (k g : ℕ) → g < length v.segments → loads v k g ≡ true → Loads v k g
loads_parts v k g below loaded =
    let s = section_at v k in
    let t = segment_at v g in
    let lies = lies_in t.vaddr t.memsz s.addr s.size in
    let last = both (bit_of s.flags 1 && lies) (is_filled v k g s t || is_zeroed s t) loaded in
    let first = both (bit_of s.flags 1) lies last.0 in
    record {
      below = below;
      allocated = first.0;
      starts = lies_from t.vaddr t.memsz s.addr s.size first.1;
      ends = lies_to t.vaddr t.memsz s.addr s.size first.1;
      rest = elim (either (is_filled v k g s t) (is_zeroed s t) last.1) [
        | inl filled ↦ inl (filled_parts v k g s t filled)
        | inr zeroed ↦ inr (zeroed_parts s t zeroed)
      ];
    }

-- the segment that loads a loaded section
pub loaded_found : (v : PlainView) (k : ℕ) → is_loaded v k ≡ true → (g : ℕ) × Loads v k g
loaded_found v k loaded =
    let (g, below, passes) = any_found (loads v k) (length v.segments) loaded in
    (g, loads_parts v k g below passes)

-- it has memory at each of the section's addresses
pub loads_address : (v : PlainView) (k g i : ℕ) → Loads v k g → i < (section_at v k).size → HasAddress (segment_at v g) ((section_at v k).addr + i)
loads_address v k g i facts below =
    let starts = facts.starts in
    let ends = facts.ends in
    record { from = omega (arith, starts); to = omega (arith, ends, below) }

-- a loaded section is one of the file's
not_allocated : (s : PlainSection) → s ≡ no_section → bit_of s.flags 1 ≡ true → ⊥
not_allocated s none allocated =
    let clear : bit_of s.flags 1 ≡ false = rw none refl in
    both_ways _ clear allocated

pub loaded_below : (file : List ℕ) (k : ℕ) → is_loaded (view_in file) k ≡ true → k < section_count file
loaded_below file k loaded =
    let (g, facts) = loaded_found (view_in file) k loaded in
    elim (cases_lt k (section_count file)) [
      | inl below ↦ below
      | inr behind ↦ absurd (not_allocated (section_at (view_in file) k) (section_behind file k behind) facts.allocated)
    ]

-- the memory of a section with content holds the file's bytes from the section's place on
pub filled_byte : (file : List ℕ) (v : PlainView) (k g i : ℕ) → AreDisjoint v.segments → All (IsPlaced file) v.segments → Loads v k g → IsFilled v k g (section_at v k) (segment_at v g) → i < (section_at v k).size → image_of v.segments ((section_at v k).addr + i) ≡ slice_index file ((section_at v k).offset + i)
filled_byte file v k g i disjoint placed facts filled below =
    let s = section_at v k in
    let t = segment_at v g in
    let a = s.addr + i in
    let starts = filled.starts in
    let ends = filled.ends in
    let from : t.vaddr ≤ a = omega (arith, starts) in
    let to : a < t.vaddr + length t.content = omega (arith, ends, below) in
    let has : has_byte t a ≡ true = grind (arith, nat_tests, from, to) in
    let inside : a - t.vaddr < length t.content = omega (arith, from, to) in
    let same : t.offset + (a - t.vaddr) ≡ s.offset + i = omega (arith, from, filled.aligned) in
    image_at v.segments g a facts.below has (only_segment file v.segments disjoint placed g a facts.below (loads_address v k g i facts below))
    ∙ (placed g no_segment facts.below).bytes (a - t.vaddr) inside
    ∙ ap (slice_index file) same

-- a segment has no byte behind its bytes, and no other has where only it may
no_byte : (t : PlainSegment) (a : ℕ) → t.vaddr + length t.content ≤ a → has_byte t a ≡ false
no_byte t a behind = grind (arith, nat_tests, behind)

no_other : (h g : ℕ) (test : ℕ → Bool) → test g ≡ false → (test h ≡ true → h ≡ g) → test h ≡ false
no_other h g test none only =
    elim (cases_Bool (test h)) [
      | inl found ↦ let same = only found in ap test same ∙ none
      | inr fails ↦ fails
    ]

-- the memory of a section of zeros holds zeros
pub zeroed_byte : (file : List ℕ) (v : PlainView) (k g i : ℕ) → AreDisjoint v.segments → All (IsPlaced file) v.segments → Loads v k g → IsZeroed (section_at v k) (segment_at v g) → i < (section_at v k).size → image_of v.segments ((section_at v k).addr + i) ≡ 0
zeroed_byte file v k g i disjoint placed facts zeroed below =
    let s = section_at v k in
    let t = segment_at v g in
    let a = s.addr + i in
    let none = no_byte t a (omega (arith, zeroed.behind)) in
    let only = only_segment file v.segments disjoint placed g a facts.below (loads_address v k g i facts below) in
    image_without v.segments a (λ h below_h. no_other h g (λ j. has_byte (segment_at v j) a) none (only h below_h))

-- the content of a section of the file
filled_content : (file : List ℕ) (k i : ℕ) → (section_of file k).kind ≡ 1 → i < (section_of file k).size → slice_index (section_of file k).content i ≡ slice_index file ((section_of file k).offset + i)
filled_content file k i kind below =
    let h = section_header file k in
    let stands : stands_in_file h.sh_type ≡ true = rw kind refl in
    rw stands (byte_of_range file h.sh_offset h.sh_size i below)

zeroed_content : (file : List ℕ) (k i : ℕ) → (section_of file k).kind ≡ 8 → slice_index (section_of file k).content i ≡ 0
zeroed_content file k i kind =
    let h = section_header file k in
    let absent : stands_in_file h.sh_type ≡ false = rw kind refl in
    rw absent refl

-- the memory of a loaded section
pub loaded_byte : (file : List ℕ) (k g i : ℕ) → program_headers_fault file ≡ None → k < section_count file → Loads (view_in file) k g → i < (section_at (view_in file) k).size → image_of (view_in file).segments ((section_at (view_in file) k).addr + i) ≡ slice_index (section_at (view_in file) k).content i
loaded_byte file k g i none below facts inside =
    let v = view_in file in
    let disjoint = load_segments_disjoint file none in
    let placed = load_segments_placed file none in
    let is = section_is file k below in
    elim facts.rest [
      | inl filled ↦
          filled_byte file v k g i disjoint placed facts filled inside
          ∙ sym (subst (λ (s : PlainSection). s.kind ≡ 1 → i < s.size → slice_index s.content i ≡ slice_index file (s.offset + i)) (sym is) (filled_content file k i) filled.kind inside)
      | inr zeroed ↦
          zeroed_byte file v k g i disjoint placed facts zeroed inside
          ∙ sym (subst (λ (s : PlainSection). s.kind ≡ 8 → slice_index s.content i ≡ 0) (sym is) (zeroed_content file k i) zeroed.kind)
    ]

pub loaded_bytes : LoadedBytes
loaded_bytes file k i none loaded inside =
    let (g, facts) = loaded_found (view_in file) k loaded in
    loaded_byte file k g i (none_of_headers file none) (loaded_below file k loaded) facts inside

-- the memory of a section with content, in a file in which no check fails
pub file_byte : (file : List ℕ) (k g i : ℕ) → first_fault file ≡ None → Loads (view_in file) k g → IsFilled (view_in file) k g (section_at (view_in file) k) (segment_at (view_in file) g) → i < (section_at (view_in file) k).size → image_of (view_in file).segments ((section_at (view_in file) k).addr + i) ≡ slice_index file ((section_at (view_in file) k).offset + i)
file_byte file k g i none facts filled inside =
    let held = none_of_headers file none in
    filled_byte file (view_in file) k g i (load_segments_disjoint file held) (load_segments_placed file held) facts filled inside

-- sections that share an address are of the same segment
pub same_segment : (v : PlainView) (k g j h i n : ℕ) → AreDisjoint v.segments → Loads v k g → Loads v j h → i < (section_at v k).size → n < (section_at v j).size → (section_at v j).addr + n ≡ (section_at v k).addr + i → h ≡ g
same_segment v k g j h i n disjoint facts other inside inside_other same =
    let has_other = subst (λ (a : ℕ). HasAddress (segment_at v h) a) same (loads_address v j h n other inside_other) in
    one_segment v.segments disjoint g h ((section_at v k).addr + i) facts.below other.below (loads_address v k g i facts inside) has_other

-- sections with content in a segment that share an address are the same: they would share a byte of the
-- file
same_number : (same stands intersect : Bool) → not same && stands && intersect ≡ false → stands ≡ true → intersect ≡ true → same ≡ true
same_number same stands intersect none is_standing is_overlapping = grind arith

pub filled_alone : (v : PlainView) (k j g i n : ℕ) → IsFilled v k g (section_at v k) (segment_at v g) → IsFilled v j g (section_at v j) (segment_at v g) → j < length v.sections → i < (section_at v k).size → n < (section_at v j).size → (section_at v j).addr + n ≡ (section_at v k).addr + i → j ≡ k
filled_alone v k j g i n filled other below inside inside_other same =
    let s = section_at v k in
    let u = section_at v j in
    let stands : stands_in_file u.kind ≡ true = rw (other.kind) refl in
    let shared : u.offset + n ≡ s.offset + i = omega (arith, filled.aligned, other.aligned, same) in
    let intersect = overlap_at s.offset s.size u.offset u.size (s.offset + i) (omega arith) (omega (arith, inside)) (omega (arith, shared)) (omega (arith, shared, inside_other)) in
    eqb-true j k (same_number (j == k) (stands_in_file u.kind) (ranges_overlap s.offset s.size u.offset u.size) (filled.own.section j below) stands intersect)

-- one of zeros shares none with one with content
pub zeroed_disjoint : (v : PlainView) (k g i n : ℕ) (s u : PlainSection) (t : PlainSegment) → IsFilled v k g s t → IsZeroed u t → i < s.size → u.addr + n ≡ s.addr + i → ⊥
zeroed_disjoint v k g i n s u t filled zeroed inside same = absurd (omega (arith, filled.ends, zeroed.behind, inside, same))
