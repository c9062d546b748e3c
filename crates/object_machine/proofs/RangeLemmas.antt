-- How many words follow a word of code: its code range is the only one that holds it.
use Rattle.std.proofs.Common.{◌≡◌, inl, inr, ℕ, zero, suc, ◌+◌, ◌-◌, ◌*◌, ◌/◌, ◌<◌, ◌==◌, ◌%◌, Bool, true, false, ◌&&◌, not, ◌≤◌, length, Option, Some, None, refl, sym, ◌∙◌, ap, subst, arith}
use Rattle.std.proofs.lemmas.Bool.{eqb-true, both_ways}
use Rattle.std.proofs.lemmas.Bool.Decides.{nat_tests}
use Rattle.list_checks.specs.First.{◌or_else◌, first_below, unless}
use Rattle.list_checks.specs.Tests.{any_below, lies_in}
use Rattle.list_checks.proofs.TestLemmas.{both, any_found, any_at}
use Rattle.elf_reader.specs.Sections.{bit_of}
use Rattle.elf_reader.specs.File.{PlainView, plain_view}
use Rattle.elf_reader.specs.Loadable.{AreDisjoint}
use Rattle.elf_reader.specs.Loaded.{section_at, segment_at, is_loaded}
use Rattle.elf_reader.specs.declared.view.ElfView.{ElfView}
use Rattle.elf_reader.proofs.SegmentLemmas.{none_of_headers, load_segments_disjoint}
use Rattle.elf_reader.proofs.LoadedLemmas.{IsFilled, loaded_found, same_segment, filled_alone, zeroed_disjoint}
use Rattle.loaded_file.specs.Code.{is_code_range, holds_code, is_code_word}
use Rattle.loaded_file.specs.Read.{IsRead}
use Rattle.loaded_file.proofs.WordLemmas.{same_view}
use Rattle.code_blocks.specs.Ends.{range_at, words_left_in, words_left}
use Rattle.code_blocks.proofs.LeaderLemmas.{both_pass}
use Rattle.code_blocks.proofs.RangeLemmas.{code_held, no_range, word_held, code_fits}

-- ---- one code range

-- a loaded section of content with a word
record HasWord (v : PlainView) (a k : ℕ) : Type 0 where
  loaded : is_loaded v k ≡ true
  kind : (section_at v k).kind ≡ 1
  lies : lies_in (section_at v k).addr (section_at v k).size a 4 ≡ true

has_word : (v : PlainView) (a k : ℕ) → holds_code v a k ≡ true → HasWord v a k
has_word v a k holds =
    let s = section_at v k in
    let whole = both (is_code_range v k) (lies_in s.addr s.size a 4) holds in
    let range = both (is_loaded v k && (s.kind == 1)) (bit_of s.flags 2) whole.0 in
    let front = both (is_loaded v k) (s.kind == 1) range.0 in
    record { loaded = front.0; kind = eqb-true s.kind 1 front.1; lies = whole.1 }

-- how far behind a section's beginning an address lies
place_inside : (addr size a : ℕ) → lies_in addr size a 4 ≡ true → (a - addr < size) × (addr + (a - addr) ≡ a)
place_inside addr size a lies = (grind (arith, nat_tests, lies), grind (arith, nat_tests, lies))

one_section : (v : PlainView) (a j k : ℕ) → AreDisjoint v.segments → k < length v.sections → HasWord v a j → HasWord v a k → k ≡ j
one_section v a j k disjoint below has_j has_k =
    let s = section_at v j in
    let t = section_at v k in
    let at_j = place_inside s.addr s.size a has_j.lies in
    let at_k = place_inside t.addr t.size a has_k.lies in
    let same : s.addr + (a - s.addr) ≡ t.addr + (a - t.addr) = at_j.1 ∙ sym at_k.1 in
    let (g, facts) = loaded_found v k has_k.loaded in
    let (h, other) = loaded_found v j has_j.loaded in
    let same_g : h ≡ g = same_segment v k g j h (a - t.addr) (a - s.addr) disjoint facts other at_k.0 at_j.0 same in
    let filled_other : IsFilled v j h (section_at v j) (segment_at v h) = elim other.rest [
      | inl filled ↦ filled
      | inr zeroed ↦ let wrong = zeroed.kind in let kind = has_j.kind in absurd (omega (arith, kind, wrong))
    ] in
    let filled_here : IsFilled v j g (section_at v j) (segment_at v g) = subst (λ (m : ℕ). IsFilled v j m (section_at v j) (segment_at v m)) same_g filled_other in
    elim facts.rest [
      | inl filled ↦ filled_alone v j k g (a - s.addr) (a - t.addr) filled_here filled below at_j.0 at_k.0 (sym same)
      | inr zeroed ↦ absurd (zeroed_disjoint v j g (a - s.addr) (a - t.addr) (section_at v j) (section_at v k) (segment_at v g) filled_here zeroed at_j.0 (sym same))
    ]

-- what counting the words left rests on: loaded segments share no address, and words of code end below 2 ^ 32
pub record HasRanges (v : PlainView) : Type 0 where
  pub disjoint : AreDisjoint v.segments
  pub ends : (a : ℕ) → is_code_word v a ≡ true → a + 4 < 4294967296

-- so it is in a view that was read
pub read_ranges : (view : ElfView) → IsRead view → HasRanges (plain_view view)
read_ranges view read =
    let (file, is, none) = read in
    record {
      disjoint = subst (λ (v : PlainView). AreDisjoint v.segments) (sym (same_view file view is)) (load_segments_disjoint file (none_of_headers file none));
      ends = λ a code. code_fits view a read code;
    }

pub one_range : (v : PlainView) (a j k : ℕ) → HasRanges v → k < length v.sections → holds_code v a j ≡ true → holds_code v a k ≡ true → k ≡ j
one_range v a j k ranges below holds_j holds_k =
    one_section v a j k ranges.disjoint below (has_word v a j holds_j) (has_word v a k holds_k)

-- ---- the words left

held_of : (holds : Bool) (k j : ℕ) → unless (not holds) k ≡ Some j → (holds ≡ true) × (j ≡ k)
held_of true k j some = let e : k ≡ j = cc in (refl, sym e)
held_of false k j some = cc

some_after : (v : PlainView) (a n j : ℕ) (o : Option ℕ) → (o ≡ Some j → (holds_code v a j ≡ true) × (j < n)) → o or_else range_at v a n ≡ Some j → (holds_code v a j ≡ true) × (j < suc n)
some_after v a n j None earlier some =
    let here = held_of (holds_code v a n) n j some in
    let same = here.1 in
    (subst (λ (k : ℕ). holds_code v a k ≡ true) (sym same) here.0, omega (arith, same))
some_after v a n j (Some k) earlier some = let before = earlier some in let less = before.1 in (before.0, omega (arith, less))

some_range : (v : PlainView) (a n j : ℕ) → first_below (range_at v a) n ≡ Some j → (holds_code v a j ≡ true) × (j < n)
some_range v a zero j some = cc
some_range v a (suc n) j some = some_after v a n j (first_below (range_at v a) n) (some_range v a n j) some

-- a code word's range, and the words from it on
pub record HasLeft (v : PlainView) (a k : ℕ) : Type 0 where
  pub below : k < length v.sections
  pub holds : holds_code v a k ≡ true
  pub left : words_left v a ≡ ((section_at v k).addr + (section_at v k).size - a) / 4

first_of : (v : PlainView) (a k : ℕ) (o : Option ℕ) → HasRanges v → k < length v.sections → holds_code v a k ≡ true → first_below (range_at v a) (length v.sections) ≡ o → o ≡ Some k
first_of v a k None ranges below holds is =
    absurd (both_ways (any_below (holds_code v a) (length v.sections)) (no_range v a (length v.sections) is) (any_at (holds_code v a) (length v.sections) k below holds))
first_of v a k (Some j) ranges below holds is =
    let (held, less) = some_range v a (length v.sections) j is in
    ap Some (one_range v a k j ranges less holds held)

pub left_in : (v : PlainView) (a k : ℕ) → HasRanges v → k < length v.sections → holds_code v a k ≡ true → HasLeft v a k
left_in v a k ranges below holds =
    record {
      below = below;
      holds = holds;
      left = ap (words_left_in v a) (first_of v a k (first_below (range_at v a) (length v.sections)) ranges below holds refl);
    }

pub left_at : (v : PlainView) (a : ℕ) → HasRanges v → is_code_word v a ≡ true → (k : ℕ) × HasLeft v a k
left_at v a ranges code =
    let (k, below, holds) = any_found (holds_code v a) (length v.sections) (code_held v a code) in
    (k, left_in v a k ranges below holds)

-- each word on the way has one less
pub left_further : (v : PlainView) (a k i : ℕ) → HasRanges v → HasLeft v a k → i < words_left v a → HasLeft v (a + 4 * i) k
left_further v a k i ranges has less =
    let fewer : i < ((section_at v k).addr + (section_at v k).size - a) / 4 = rw (sym has.left) less in
    left_in v (a + 4 * i) k ranges has.below (word_held v k a i has.holds fewer)

pub one_less : (v : PlainView) (a k i : ℕ) → HasRanges v → HasLeft v a k → i < words_left v a → words_left v (a + 4 * i) + i ≡ words_left v a
one_less v a k i ranges has less =
    let s = section_at v k in
    let further = left_further v a k i ranges has less in
    let here = has.left in
    let there = further.left in
    omega (arith, here, there, less)

-- and is a word of code
even_word : (a i : ℕ) → (a % 4 == 0) ≡ true → ((a + 4 * i) % 4 == 0) ≡ true
even_word a i even = grind (arith, nat_tests, even)

pub left_is_code : (v : PlainView) (a k i : ℕ) → is_code_word v a ≡ true → HasLeft v (a + 4 * i) k → is_code_word v (a + 4 * i) ≡ true
left_is_code v a k i code has =
    let even = even_word a i (both (a % 4 == 0) (any_below (holds_code v a) (length v.sections)) code).0 in
    both_pass ((a + 4 * i) % 4 == 0) (any_below (holds_code v (a + 4 * i)) (length v.sections)) even
    (any_at (holds_code v (a + 4 * i)) (length v.sections) k has.below has.holds)

pub some_left : (v : PlainView) (a k : ℕ) → HasLeft v a k → 0 < words_left v a
some_left v a k has =
    let s = section_at v k in
    let lies = (has_word v a k has.holds).lies in
    let left = has.left in
    let room : a + 4 ≤ s.addr + s.size = grind (arith, nat_tests, lies) in
    omega (arith, left, room)
