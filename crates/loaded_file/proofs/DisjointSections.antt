-- Loaded sections with content share no byte of memory.
use Rattle.std.proofs.Common.{◌≡◌, inl, inr, ◌≤◌, ℕ, ◌+◌, ◌-◌, ◌<◌, ◌==◌, true, ◌&&◌, List, length, None, sym, subst, arith}
use Rattle.std.proofs.lemmas.Bool.{eqb-true, cases_lt}
use Rattle.std.proofs.lemmas.Bool.Decides.{nat_tests}
use Rattle.list_checks.specs.Tests.{lies_in, ranges_overlap}
use Rattle.list_checks.proofs.TestLemmas.{both}
use Rattle.elf_reader.specs.Sections.{bit_of}
use Rattle.elf_reader.specs.File.{PlainView, plain_view, view_in}
use Rattle.elf_reader.specs.Faults.{first_fault}
use Rattle.elf_reader.specs.Loadable.{AreDisjoint}
use Rattle.elf_reader.specs.Loaded.{section_at, segment_at, is_loaded}
use Rattle.elf_reader.specs.declared.view.ElfView.{ElfView}
use Rattle.elf_reader.proofs.SegmentLemmas.{none_of_headers, load_segments_disjoint}
use Rattle.elf_reader.proofs.LoadedLemmas.{IsFilled, loaded_found, same_segment, filled_alone, zeroed_disjoint}
use Rattle.loaded_file.specs.Code.{is_code_range, holds_code}
use Rattle.loaded_file.specs.Read.{IsRead}
use Rattle.loaded_file.proofs.WordLemmas.{same_view}

-- the places, in two sections, of a byte that two ranges of these share
pub record SharesByte (k_addr k_size j_addr j_size : ℕ) : Type 0 where
  pub i : ℕ
  pub n : ℕ
  pub inside : i < k_size
  pub inside_other : n < j_size
  pub same : j_addr + n ≡ k_addr + i

byte_at : (k_addr k_size j_addr j_size b : ℕ) → k_addr ≤ b → b - k_addr < k_size → j_addr ≤ b → b - j_addr < j_size → SharesByte k_addr k_size j_addr j_size
byte_at k_addr k_size j_addr j_size b from inside from_other inside_other =
    record { i = b - k_addr; n = b - j_addr; inside = inside; inside_other = inside_other; same = omega (arith, from, from_other) }

pub shared_byte : (k_addr k_size j_addr j_size p m a n : ℕ) → lies_in k_addr k_size p m ≡ true → lies_in j_addr j_size a n ≡ true → ranges_overlap p m a n ≡ true → SharesByte k_addr k_size j_addr j_size
shared_byte k_addr k_size j_addr j_size p m a n lies lies_other overlap =
    elim (cases_lt p a) [
      | inl before ↦
          byte_at k_addr k_size j_addr j_size a (grind (arith, nat_tests, lies, lies_other, overlap, before)) (grind (arith, nat_tests, lies, lies_other, overlap, before)) (grind (arith, nat_tests, lies, lies_other, overlap, before)) (grind (arith, nat_tests, lies, lies_other, overlap, before))
      | inr behind ↦
          byte_at k_addr k_size j_addr j_size p (grind (arith, nat_tests, lies, lies_other, overlap, behind)) (grind (arith, nat_tests, lies, lies_other, overlap, behind)) (grind (arith, nat_tests, lies, lies_other, overlap, behind)) (grind (arith, nat_tests, lies, lies_other, overlap, behind))
    ]

-- a section of content that shares a byte with another loaded one is that one
pub one_section : (v : PlainView) (k j : ℕ) → AreDisjoint v.segments → k < length v.sections → is_loaded v k ≡ true → is_loaded v j ≡ true → (section_at v j).kind ≡ 1 → SharesByte (section_at v k).addr (section_at v k).size (section_at v j).addr (section_at v j).size → k ≡ j
one_section v k j disjoint below loaded loaded_other kind shared =
    let (g, facts) = loaded_found v k loaded in
    let (h, other) = loaded_found v j loaded_other in
    let same_g : h ≡ g = same_segment v k g j h shared.i shared.n disjoint facts other shared.inside shared.inside_other shared.same in
    let filled_other : IsFilled v j h (section_at v j) (segment_at v h) = elim other.rest [
      | inl filled ↦ filled
      | inr zeroed ↦ let wrong = zeroed.kind in absurd (omega (arith, kind, wrong))
    ] in
    let filled_here : IsFilled v j g (section_at v j) (segment_at v g) = subst (λ (m : ℕ). IsFilled v j m (section_at v j) (segment_at v m)) same_g filled_other in
    elim facts.rest [
      | inl filled ↦ filled_alone v j k g shared.n shared.i filled_here filled below shared.inside_other shared.inside (sym shared.same)
      | inr zeroed ↦ absurd (zeroed_disjoint v j g shared.n shared.i (section_at v j) (section_at v k) (segment_at v g) filled_here zeroed shared.inside_other (sym shared.same))
    ]

pub file_disjoint : (file : List ℕ) → first_fault file ≡ None → AreDisjoint (view_in file).segments
file_disjoint file none = load_segments_disjoint file (none_of_headers file none)

-- a code range that holds a word
record HoldsCode (v : PlainView) (k a : ℕ) : Type 0 where
  pub loaded : is_loaded v k ≡ true
  pub kind : (section_at v k).kind ≡ 1
  pub lies : lies_in (section_at v k).addr (section_at v k).size a 4 ≡ true

holds_parts : (v : PlainView) (k a : ℕ) → holds_code v a k ≡ true → HoldsCode v k a
holds_parts v k a holds =
    let s = section_at v k in
    let whole = both (is_code_range v k) (lies_in s.addr s.size a 4) holds in
    let range = both (is_loaded v k && (s.kind == 1)) (bit_of s.flags 2) whole.0 in
    let front = both (is_loaded v k) (s.kind == 1) range.0 in
    record { loaded = front.0; kind = eqb-true s.kind 1 front.1; lies = whole.1 }

word_shared : (a : ℕ) → ranges_overlap a 4 a 4 ≡ true
word_shared a = grind (arith, nat_tests)

-- one code range holds a word
pub one_range : (view : ElfView) (k j a : ℕ) → IsRead view → k < length (plain_view view).sections → holds_code (plain_view view) a k ≡ true → holds_code (plain_view view) a j ≡ true → k ≡ j
one_range view k j a read below holds other =
    let v = plain_view view in
    let (file, is, none) = read in
    let disjoint = subst (λ (u : PlainView). AreDisjoint u.segments) (sym (same_view file view is)) (file_disjoint file none) in
    let here = holds_parts v k a holds in
    let there = holds_parts v j a other in
    let s = section_at v k in
    let u = section_at v j in
    one_section v k j disjoint below here.loaded there.loaded there.kind (shared_byte s.addr s.size u.addr u.size a 4 a 4 here.lies there.lies (word_shared a))
