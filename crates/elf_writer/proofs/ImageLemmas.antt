-- The memory that the segments of a written file make.
use Rattle.std.proofs.Common.{◌≡◌, ◌∙◌, ◌⊎◌, inl, inr, ℕ, zero, suc, ◌+◌, ◌-◌, ◌<◌, ◌≤◌, nat_le, nat_lt, true, false, ◌&&◌, List, [], ◌∷◌, map, length, get_or, slice_index, Some, None, refl, sym, ap, subst, arith, if◌then◌else◌}
use Rattle.std.specs.List.{All}
use Rattle.std.proofs.lemmas.Bool.{cases_Bool, cases_lt, cond_both, cond-true, cond-false, both_ways}
use Rattle.std.proofs.lemmas.Bool.Decides.{nat_tests}
use Rattle.std.proofs.lemmas.List.{get_or-map, length-map}
use Rattle.std.proofs.lemmas.List.Elements.{All-head, All-tail, All-map}
use Rattle.list_checks.specs.Tests.{ranges_overlap}
use Rattle.elf_reader.specs.File.{PlainSegment, PlainView, view_in}
use Rattle.elf_reader.specs.Image.{has_byte, image_of}
use Rattle.elf_reader.specs.Loadable.{AreDisjoint}
use Rattle.elf_reader.specs.Loaded.{no_segment, segment_at}
use Rattle.elf_reader.proofs.SegmentLemmas.{none_of_headers, load_segments_disjoint}
use Rattle.elf_reader.proofs.LoadedLemmas.{IsPlaced, load_segments_placed, nth_segment, image_without, image_at, HasAddress, only_segment}
use Rattle.elf_writer.specs.Changes.{Change, byte_changed, changed}
use Rattle.elf_writer.specs.Parts.{NewSegment}
use Rattle.elf_writer.specs.Written.{all_changes}
use Rattle.elf_writer.specs.Conditions.{IsClearOf}
use Rattle.elf_writer.specs.View.{changed_segment, added_segment, numbered_behind, with_added}
use Rattle.elf_writer.specs.Images.{file_place, NewBytesLoaded, ChangedBytesLoaded, ZerosLoaded, UntouchedStay}
use Rattle.elf_writer.proofs.ChangeLemmas.{length-changed, changed_at}
use Rattle.elf_writer.proofs.FreeLemmas.{free_stays}

-- ---- a segment more

image_behind : (ss : List PlainSegment) (a : ℕ) → image_of (map numbered_behind ss) a ≡ image_of ss a
image_behind [] a = refl
image_behind (s ∷ ss) a = ap (λ rest. if has_byte s a then slice_index s.content (a - s.vaddr) else rest) (image_behind ss a)

-- where the new segment has a byte and no other has
added_here : (new : PlainSegment) (ss : List PlainSegment) (a : ℕ) → has_byte new a ≡ true → All (λ s. has_byte s a ≡ false) ss → image_of (with_added new ss) a ≡ slice_index new.content (a - new.vaddr)
added_here new [] a has others = rw has refl
added_here new (s ∷ ss) a has others =
    let first : has_byte s a ≡ false = All-head (λ s. has_byte s a ≡ false) s ss others in
    let later = added_here new ss a has (All-tail (λ s. has_byte s a ≡ false) s ss others) in
    cond_both (nat_lt s.index new.index) (s ∷ with_added new ss) (new ∷ map numbered_behind (s ∷ ss)) (λ (l : List PlainSegment). image_of l a ≡ slice_index new.content (a - new.vaddr))
    (λ before. cond-false (has_byte s a) (slice_index s.content (a - s.vaddr)) (image_of (with_added new ss) a) first ∙ later)
    (λ behind. cond-true (has_byte new a) (slice_index new.content (a - new.vaddr)) (image_of (map numbered_behind (s ∷ ss)) a) has)

-- where it has none
added_other : (new : PlainSegment) (ss : List PlainSegment) (a : ℕ) → has_byte new a ≡ false → image_of (with_added new ss) a ≡ image_of ss a
added_other new [] a none = rw none refl
added_other new (s ∷ ss) a none =
    let later = added_other new ss a none in
    cond_both (nat_lt s.index new.index) (s ∷ with_added new ss) (new ∷ map numbered_behind (s ∷ ss)) (λ (l : List PlainSegment). image_of l a ≡ image_of (s ∷ ss) a)
    (λ before. ap (λ rest. if has_byte s a then slice_index s.content (a - s.vaddr) else rest) later)
    (λ behind. cond-false (has_byte new a) (slice_index new.content (a - new.vaddr)) (image_of (map numbered_behind (s ∷ ss)) a) none ∙ image_behind (s ∷ ss) a)

-- ---- changed segments

pub changed_has : (cs : List Change) (s : PlainSegment) (a : ℕ) → has_byte (changed_segment cs s) a ≡ has_byte s a
changed_has cs s a = ap (λ n. nat_le s.vaddr a && nat_lt a (s.vaddr + n)) (length-changed cs s.offset s.content)

changed_nth : (cs : List Change) (ss : List PlainSegment) (g : ℕ) → g < length ss → nth_segment (map (changed_segment cs) ss) g ≡ changed_segment cs (nth_segment ss g)
changed_nth cs ss g below = get_or-map (changed_segment cs) ss g no_segment no_segment below

changed_nth_has : (cs : List Change) (ss : List PlainSegment) (g a : ℕ) → g < length ss → has_byte (nth_segment (map (changed_segment cs) ss) g) a ≡ has_byte (nth_segment ss g) a
changed_nth_has cs ss g a below = ap (λ s. has_byte s a) (changed_nth cs ss g below) ∙ changed_has cs (nth_segment ss g) a

pub has_from : (s : PlainSegment) (a : ℕ) → has_byte s a ≡ true → s.vaddr ≤ a
has_from s a has = grind (arith, nat_tests, has)

pub has_to : (s : PlainSegment) (a : ℕ) → has_byte s a ≡ true → a < s.vaddr + length s.content
has_to s a has = grind (arith, nat_tests, has)

-- a segment that has a byte has memory there
pub has_address : (file : List ℕ) (s : PlainSegment) (a : ℕ) → IsPlaced file s → has_byte s a ≡ true → HasAddress s a
has_address file s a placed has =
    let to = has_to s a has in
    let fits = placed.fits in
    record { from = has_from s a has; to = omega (arith, to, fits) }

-- the byte of the one segment that has one
pub one_image : (file : List ℕ) (ss : List PlainSegment) (g a : ℕ) → AreDisjoint ss → All (IsPlaced file) ss → g < length ss → has_byte (nth_segment ss g) a ≡ true → image_of ss a ≡ slice_index (nth_segment ss g).content (a - (nth_segment ss g).vaddr)
one_image file ss g a disjoint placed below has =
    let address = has_address file (nth_segment ss g) a (placed g no_segment below) has in
    image_at ss g a below has (only_segment file ss disjoint placed g a below address)

changed_byte : (cs : List Change) (s : PlainSegment) (a : ℕ) → has_byte s a ≡ true → slice_index (changed cs s.offset s.content) (a - s.vaddr) ≡ byte_changed cs (s.offset + (a - s.vaddr)) (slice_index s.content (a - s.vaddr))
changed_byte cs s a has =
    let from = has_from s a has in
    let to = has_to s a has in
    changed_at cs s.offset s.content (a - s.vaddr) (omega (arith, from, to))

pub changed_image : (file : List ℕ) (cs : List Change) (ss : List PlainSegment) (g a : ℕ) → AreDisjoint ss → All (IsPlaced file) ss → g < length ss → has_byte (nth_segment ss g) a ≡ true → image_of (map (changed_segment cs) ss) a ≡ byte_changed cs ((nth_segment ss g).offset + (a - (nth_segment ss g).vaddr)) (image_of ss a)
changed_image file cs ss g a disjoint placed below has =
    let s = nth_segment ss g in
    let address = has_address file s a (placed g no_segment below) has in
    let size : length (map (changed_segment cs) ss) ≡ length ss = length-map ss (changed_segment cs) in
    let only : (h : ℕ) → h < length (map (changed_segment cs) ss) → has_byte (nth_segment (map (changed_segment cs) ss) h) a ≡ true → h ≡ g =
    λ h below_h has_h.
    let within_h : h < length ss = omega (arith, size, below_h) in
    only_segment file ss disjoint placed g a below address h within_h (sym (changed_nth_has cs ss h a within_h) ∙ has_h)
    in
    let here = image_at (map (changed_segment cs) ss) g a (omega (arith, size, below)) (changed_nth_has cs ss g a below ∙ has) only in
    here
    ∙ (ap (λ (t : PlainSegment). slice_index t.content (a - t.vaddr)) (changed_nth cs ss g below)
    ∙ (changed_byte cs s a has
    ∙ ap (byte_changed cs (s.offset + (a - s.vaddr))) (sym (one_image file ss g a disjoint placed below has))))

changed_without : (cs : List Change) (ss : List PlainSegment) (a : ℕ) → ((g : ℕ) → g < length ss → has_byte (nth_segment ss g) a ≡ false) → image_of (map (changed_segment cs) ss) a ≡ 0
changed_without cs ss a none =
    let size : length (map (changed_segment cs) ss) ≡ length ss = length-map ss (changed_segment cs) in
    image_without (map (changed_segment cs) ss) a
    (λ g below.
    let within_g : g < length ss = omega (arith, size, below) in
    changed_nth_has cs ss g a within_g ∙ none g within_g)

-- ---- the segments of a written file

-- the new segment has the address, and so no other has a byte there
is_added : (v : PlainView) (s : NewSegment) (a : ℕ) → s.base ≤ a → a < s.base + length s.content → has_byte (added_segment v s) a ≡ true
is_added v s a from to = grind (arith, nat_tests, from, to)

clear_false : (b m c n a : ℕ) → ranges_overlap b m c n ≡ false → c ≤ a → a < c + n → b ≤ a → a < b + m → ⊥
clear_false b m c n a clear from to starts ends = grind (arith, nat_tests, clear, from, to, starts, ends)

no_byte_there : (file : List ℕ) (s : NewSegment) (t : PlainSegment) (a : ℕ) → IsPlaced file t → IsClearOf s t → s.base ≤ a → a < s.base + length s.content → has_byte t a ≡ false
no_byte_there file s t a placed clear from to =
    elim (cases_Bool (has_byte t a)) [
      | inl has ↦
          let address = has_address file t a placed has in
          absurd (clear_false t.vaddr t.memsz s.base (length s.content) a clear from to address.from address.to)
      | inr none ↦ none
    ]

pub new_bytes_loaded : NewBytesLoaded
new_bytes_loaded file ps s ms i none is below =
    let v = view_in file in
    let cs = all_changes v ps (Some s) ms in
    let a = s.base + i in
    let placed = load_segments_placed file (none_of_headers file none) in
    let size : length (map (changed_segment cs) v.segments) ≡ length v.segments = length-map v.segments (changed_segment cs) in
    let others : All (λ t. has_byte t a ≡ false) (map (changed_segment cs) v.segments) =
    All-map (λ t. has_byte t a ≡ false) (changed_segment cs) v.segments
    (λ k d inside.
    changed_has cs (get_or v.segments k d) a
    ∙ no_byte_there file s (get_or v.segments k d) a (placed k d inside) (is.allowed.clear k d inside) (omega arith) (omega (arith, below)))
    in
    let same : s.base + i - s.base ≡ i = omega arith in
    added_here (added_segment v s) (map (changed_segment cs) v.segments) a (is_added v s a (omega arith) (omega (arith, below))) others
    ∙ ap (slice_index s.content) same

-- the address of another segment isn't in the new one
added_off : (file : List ℕ) (v : PlainView) (s : NewSegment) (t : PlainSegment) (a : ℕ) → IsPlaced file t → IsClearOf s t → has_byte t a ≡ true → has_byte (added_segment v s) a ≡ false
added_off file v s t a placed clear has =
    elim (cases_Bool (has_byte (added_segment v s) a)) [
      | inl both ↦
          absurd (both_ways _ (no_byte_there file s t a placed clear (has_from (added_segment v s) a both) (has_to (added_segment v s) a both)) has)
      | inr none ↦ none
    ]

pub changed_bytes_loaded : ChangedBytesLoaded
changed_bytes_loaded file ps None ms g a none is below has =
    let held = none_of_headers file none in
    changed_image file (all_changes (view_in file) ps None ms) (view_in file).segments g a (load_segments_disjoint file held) (load_segments_placed file held) below has
changed_bytes_loaded file ps (Some s) ms g a none is below has =
    let v = view_in file in
    let cs = all_changes v ps (Some s) ms in
    let held = none_of_headers file none in
    let placed = load_segments_placed file held in
    added_other (added_segment v s) (map (changed_segment cs) v.segments) a (added_off file v s (segment_at v g) a (placed g no_segment below) (is.allowed.clear g no_segment below) has)
    ∙ changed_image file cs v.segments g a (load_segments_disjoint file held) placed below has

pub zeros_loaded : ZerosLoaded
zeros_loaded file ps None ms a outside none = changed_without (all_changes (view_in file) ps None ms) (view_in file).segments a none
zeros_loaded file ps (Some s) ms a outside none =
    let v = view_in file in
    let cs = all_changes v ps (Some s) ms in
    added_other (added_segment v s) (map (changed_segment cs) v.segments) a outside ∙ changed_without cs v.segments a none

-- ---- what stays

has_or_none : (v : PlainView) (a n : ℕ) → ((g : ℕ) → g < n → has_byte (segment_at v g) a ≡ false) ⊎ ((g : ℕ) × (g < n) × (has_byte (segment_at v g) a ≡ true))
has_or_none v a zero = inl (λ h below. absurd (omega (arith, below)))
has_or_none v a (suc n) =
    elim (has_or_none v a n) [
      | inl earlier ↦ elim (cases_Bool (has_byte (segment_at v n) a)) [
        | inl here ↦ inr (n, omega arith, here)
        | inr other ↦ inl (λ h below. elim (cases_lt h n) [
          | inl lower ↦ earlier h lower
          | inr from ↦ let same : n ≡ h = omega (arith, from, below) in subst (λ (k : ℕ). has_byte (segment_at v k) a ≡ false) same other
        ])
      ]
      | inr found ↦ let (h, below, has) = found in inr (h, omega (arith, below), has)
    ]

pub untouched_stay : UntouchedStay
untouched_stay file ps new ms a none is outside untouched =
    let v = view_in file in
    elim (has_or_none v a (length v.segments)) [
      | inl nowhere ↦ zeros_loaded file ps new ms a outside nowhere ∙ sym (image_without v.segments a nowhere)
      | inr found ↦
          let (g, below, has) = found in
          changed_bytes_loaded file ps new ms g a none is below has
          ∙ free_stays (all_changes v ps new ms) (file_place v a g) (image_of v.segments a) (untouched g below has)
    ]
