-- The lowest code range that holds a word, and the words behind it.
use Rattle.std.proofs.Common.{◌≡◌, ◌∙◌, inl, inr, ℕ, zero, suc, ◌+◌, ◌*◌, ◌-◌, ◌/◌, ◌%◌, ◌<◌, ◌≤◌, ◌==◌, Bool, true, false, not, length, slice_index_or, Some, None, refl, sym, ap, subst, arith}
use Rattle.std.proofs.lemmas.Bool.{cases_Bool}
use Rattle.std.proofs.lemmas.Bool.Decides.{nat_tests}
use Rattle.std.proofs.lemmas.List.{get_or-map}
use Rattle.list_checks.specs.First.{unless, first_below}
use Rattle.list_checks.proofs.FirstLemmas.{both_none, first_found}
use Rattle.list_checks.specs.Tests.{any_below, lies_in}
use Rattle.list_checks.proofs.TestLemmas.{both, neither, any_found}
use Rattle.elf_reader.specs.File.{PlainSection, PlainView, plain_section, plain_view}
use Rattle.elf_reader.specs.Loaded.{no_section, section_at}
use Rattle.elf_reader.specs.declared.view.ElfView.{ElfView}
use Rattle.elf_reader.specs.declared.view.Section.{Section}
use Rattle.loaded_file.specs.Code.{is_code_range, holds_code, is_code_word}
use Rattle.loaded_file.specs.Read.{IsRead}
use Rattle.loaded_file.proofs.DisjointSections.{one_range}
use Rattle.loaded_file.proofs.WordLemmas.{word_fits, range_below, range_ends, lies_from, lies_to}
use Rattle.code_blocks.proofs.LeaderLemmas.{both_pass}
use Rattle.code_blocks.specs.Ends.{range_at}

-- a range that holds the word is found
at_range : (test : Bool) (k : ℕ) → test ≡ true → unless (not test) k ≡ Some k
at_range true k holds = refl
at_range false k holds = cc

not_range : (test : Bool) (k : ℕ) → test ≡ false → unless (not test) k ≡ None
not_range true k holds = cc
not_range false k holds = refl

pub range_found : (v : PlainView) (a n k : ℕ) → k < n → first_below (range_at v a) k ≡ None → holds_code v a k ≡ true → first_below (range_at v a) n ≡ Some k
range_found v a n k below none holds =
    first_found (range_at v a) n k k below none (at_range (holds_code v a k) k holds)

none_holds : (test : Bool) (k : ℕ) → unless (not test) k ≡ None → test ≡ false
none_holds true k none = cc
none_holds false k none = refl

-- where no range is found, none holds it
pub no_range : (v : PlainView) (a n : ℕ) → first_below (range_at v a) n ≡ None → any_below (holds_code v a) n ≡ false
no_range v a zero none = refl
no_range v a (suc n) none =
    let parts = both_none (first_below (range_at v a) n) (range_at v a n) none in
    rw (no_range v a n parts.0) (none_holds (holds_code v a n) n parts.1)

-- and back
pub none_found : (v : PlainView) (a n : ℕ) → any_below (holds_code v a) n ≡ false → first_below (range_at v a) n ≡ None
none_found v a zero none = refl
none_found v a (suc n) none =
    let parts = neither (any_below (holds_code v a) n) (holds_code v a n) none in
    rw (none_found v a n parts.0, not_range (holds_code v a n) n parts.1) refl

-- below a range that holds it, none does
none_lower : (view : ElfView) (a k n : ℕ) → IsRead view → k < length (plain_view view).sections → holds_code (plain_view view) a k ≡ true → n ≤ k → any_below (holds_code (plain_view view) a) n ≡ false
none_lower view a k n read below holds lower =
    let v = plain_view view in
    elim (cases_Bool (any_below (holds_code v a) n)) [
      | inl found ↦
          let (j, earlier, other) = any_found (holds_code v a) n found in
          let same = one_range view k j a read below holds other in
          absurd (omega (arith, earlier, lower, same))
      | inr none ↦ none
    ]

-- so a range that holds it is the lowest
pub is_lowest : (view : ElfView) (a k : ℕ) → IsRead view → k < length (plain_view view).sections → holds_code (plain_view view) a k ≡ true → first_below (range_at (plain_view view) a) (length (plain_view view).sections) ≡ Some k
is_lowest view a k read below holds =
    let v = plain_view view in
    range_found v a (length v.sections) k below (none_found v a k (none_lower view a k k read below holds (omega arith))) holds

-- some range holds a word of code
pub code_held : (v : PlainView) (a : ℕ) → is_code_word v a ≡ true → any_below (holds_code v a) (length v.sections) ≡ true
code_held v a code = (both (a % 4 == 0) _ code).1

-- the section of a code range that holds the word at `a`
pub record IsHeld (view : ElfView) (k a : ℕ) (s : Section) : Type 0 where
  pub is : section_at (plain_view view) k ≡ plain_section s
  pub from : s.addr ≤ a
  pub to : a + 4 ≤ s.addr + s.size
  pub ends : s.addr + s.size < 4294967296

pub held_section : (view : ElfView) (k a : ℕ) (s : Section) → IsRead view → holds_code (plain_view view) a k ≡ true → s ≡ slice_index_or view.sections.items k s → IsHeld view k a s
held_section view k a s read holds is =
    let v = plain_view view in
    let below = range_below view k a read holds in
    let parts = both (is_code_range v k) (lies_in (section_at v k).addr (section_at v k).size a 4) holds in
    let here : section_at v k ≡ plain_section s = get_or-map plain_section view.sections.items k s no_section below ∙ ap plain_section (sym is) in
    let lies = subst (λ (t : PlainSection). lies_in t.addr t.size a 4 ≡ true) here parts.1 in
    record {
      is = here;
      from = lies_from s.addr s.size a 4 lies;
      to = lies_to s.addr s.size a 4 lies;
      ends = range_ends view k s read parts.0 below is;
    }

-- the words behind one that a code range holds
lies_behind : (base size a i : ℕ) → lies_in base size a 4 ≡ true → i < (base + size - a) / 4 → lies_in base size (a + 4 * i) 4 ≡ true
lies_behind base size a i lies below =
    let from = lies_from base size a 4 lies in
    let to = lies_to base size a 4 lies in
    let behind : base ≤ a + 4 * i = omega (arith, from) in
    let inside : a + 4 * i + 4 ≤ base + size = omega (arith, to, below) in
    grind (arith, nat_tests, behind, inside)

pub word_held : (v : PlainView) (k a i : ℕ) → holds_code v a k ≡ true → i < ((section_at v k).addr + (section_at v k).size - a) / 4 → holds_code v (a + 4 * i) k ≡ true
word_held v k a i holds below =
    let s = section_at v k in
    let parts = both (is_code_range v k) (lies_in s.addr s.size a 4) holds in
    both_pass (is_code_range v k) (lies_in s.addr s.size (a + 4 * i) 4) parts.0 (lies_behind s.addr s.size a i parts.1 below)

pub word_held_fits : (view : ElfView) (k a i : ℕ) → IsRead view → holds_code (plain_view view) a k ≡ true → i < ((section_at (plain_view view) k).addr + (section_at (plain_view view) k).size - a) / 4 → a + 4 * i + 4 < 4294967296
word_held_fits view k a i read holds below = word_fits view k (a + 4 * i) read (word_held (plain_view view) k a i holds below)

-- the address behind a word of code is below 2 ^ 32
pub code_fits : (view : ElfView) (a : ℕ) → IsRead view → is_code_word (plain_view view) a ≡ true → a + 4 < 4294967296
code_fits view a read code =
    let (k, below, holds) = any_found (holds_code (plain_view view) a) (length (plain_view view).sections) (code_held (plain_view view) a code) in
    word_fits view k a read holds
