-- What a result changes in its file may be written.
use Rattle.std.proofs.Common.{◌≡◌, inl, inr, ℕ, zero, suc, ◌*◌, ◌<◌, ◌≤◌, ◌==◌, nat_le, Bool, true, false, not, List, [], ◌∷◌, length, None, refl, sym, subst, arith}
use Rattle.std.proofs.lemmas.Bool.{cases_lt, eq-eqb, leb-true}
use Rattle.std.proofs.lemmas.Bool.Decides.{nat_tests}
use Rattle.std.proofs.lemmas.List.{length-append, get_or_default}
use Rattle.list_checks.specs.First.{unless}
use Rattle.list_checks.proofs.FirstLemmas.{none_at, both_none, holds}
use Rattle.list_checks.specs.Tests.{ranges_overlap}
use Rattle.list_checks.proofs.TestLemmas.{not_true}
use Rattle.elf_reader.specs.Layout.{file_header, program_header_count, program_header}
use Rattle.elf_reader.specs.File.{is_load, segments_at, segments_below, PlainView, view_in}
use Rattle.elf_reader.specs.HeaderChecks.{size_fault, magic_fault, identification_fault, machine_fault, flags_fault, sizes_fault, header_fault}
use Rattle.elf_reader.specs.Faults.{first_fault}
use Rattle.elf_reader.specs.Loaded.{no_segment, segment_at}
use Rattle.elf_reader.specs.declared.fault.ElfFault.TheVariants as elf
use Rattle.elf_reader.proofs.LoadedLemmas.{loaded_found}
use Rattle.elf_writer.specs.Pieces.{words_bytes}
use Rattle.elf_writer.specs.Parts.{NewSegment}
use Rattle.elf_writer.specs.Conditions.{IsClearOf, IsAddable}
use Rattle.board_config.specs.declared.board.Board.{Board}
use Rattle.loaded_file.specs.Code.{is_code_word}
use Rattle.object_graph.specs.LayoutFaults.{segment_overlaps, patch_overlap_fault}
use Rattle.object_graph.specs.declared.parts.Graph.{Graph}
use Rattle.result_laws.specs.HomeLaws.{IsAccepted}
use Rattle.result_laws.proofs.Words.{code_range}
use Rattle.relocator.specs.SiteWords.{site_at, is_entry}
use Rattle.relink_core.specs.Faults.{headers_fault}
use Rattle.relink_core.proofs.Near.{entry_is_code, is_near}
use Rattle.relink_core.proofs.RangeLemmas.{segments_off}

-- ---- the new segment

pub length_bytes : (words : List ℕ) → length (words_bytes words) ≡ 4 * length words
length_bytes [] = refl
length_bytes (w ∷ ws) =
    let rest = length_bytes ws in
    omega (arith, rest)

-- ---- program headers

few_segments : (file : List ℕ) (n : ℕ) → length (segments_below file n) ≤ n
few_segments file zero = omega arith
few_segments file (suc n) =
    let earlier = few_segments file n in
    let whole = length-append (segments_below file n) (segments_at file n) in
    let here : length (segments_at file n) ≤ 1 = one_at_most file n (is_load (program_header file n)) refl in
    omega (arith, earlier, whole, here)
  where
    one_at_most : (file : List ℕ) (n : ℕ) (b : Bool) → is_load (program_header file n) ≡ b → length (segments_at file n) ≤ 1
    one_at_most file n true is = rw is (omega arith)
    one_at_most file n false is = rw is (omega arith)

pub some_header : (file : List ℕ) (board : Board) (g : Graph) → IsAccepted file board g → 1 ≤ program_header_count file
some_header file board g accepted =
    let v = view_in file in
    let range = code_range v v.entry (entry_is_code v accepted.code) in
    let found = loaded_found v range.0 range.1.loaded in
    let below = found.1.below in
    let few = few_segments file (program_header_count file) in
    omega (arith, below, few)

pub few_headers : (file : List ℕ) → first_fault file ≡ None → program_header_count file ≤ 64
few_headers file none =
    let h = file_header file in
    let header = (both_none (header_fault file) _ none).0 in
    let after_size = (both_none (size_fault file) _ header).1 in
    let after_magic = (both_none (magic_fault file) _ after_size).1 in
    let fields = (both_none (identification_fault file) _ after_magic).1 in
    let after_machine = (both_none (machine_fault h) _ fields).1 in
    let after_flags = (both_none (flags_fault h) _ after_machine).1 in
    let counts = (both_none (sizes_fault h) _ after_flags).1 in
    leb-true h.e_phnum 64 (holds (nat_le h.e_phnum 64) _ (both_none (unless (nat_le h.e_phnum 64) (elf.OverLimit 2 h.e_phnum)) _ counts).0)

not_full : (count : ℕ) → headers_fault count ≡ None → count ≡ 64 → ⊥
not_full count none is =
    let other = holds (not (count == 64)) _ none in
    let same = eq-eqb count 64 is in
    absurd (cc (other, same))

pub small_file : (file : List ℕ) → first_fault file ≡ None → length file ≤ 67108864
small_file file none =
    let size = (both_none (size_fault file) _ (both_none (header_fault file) _ none).0).0 in
    leb-true (length file) 67108864 (holds (nat_le (length file) 67108864) _ (both_none _ _ size).0)

-- ---- all

-- a part of a range that another one doesn't meet
clear_part : (b m c n k : ℕ) → ranges_overlap b m c n ≡ false → k ≤ n → ranges_overlap b m c k ≡ false
clear_part b m c n k off part = grind (arith, nat_tests, off, part)

pub is_addable : (file : List ℕ) (board : Board) (g : Graph) (s : NewSegment) → IsAccepted file board g → headers_fault (program_header_count file) ≡ None → s.base ≡ board.patch.base → 0 < length s.content → length s.content ≤ board.patch.size → IsAddable (view_in file) s
is_addable file board g s accepted headers base some inside =
    let v = view_in file in
    let laid = segments_off v board accepted.layout in
    let ends = (is_near file board g accepted).ends in
    let few = few_headers file accepted.none in
    let full = not_full (program_header_count file) headers in
    record {
      some = some;
      clear = λ k d below.
          let at = get_or_default v.segments k d no_segment below in
          let none = none_at (patch_overlap_fault v board) (length v.segments) k below laid in
          let off = not_true (segment_overlaps (segment_at v k) board.patch) (holds _ _ none) in
          let clear : IsClearOf s (segment_at v k) =
          subst (λ (b : ℕ). ranges_overlap (segment_at v k).vaddr (segment_at v k).memsz b (length s.content) ≡ false) (sym base)
          (clear_part (segment_at v k).vaddr (segment_at v k).memsz board.patch.base board.patch.size (length s.content) off inside) in
          subst (IsClearOf s) (sym at) clear;
      ends = omega (arith, base, inside, ends);
      from_one = some_header file board g accepted;
      to_limit = at_most_63 (program_header_count file) few full;
    }
  where
    at_most_63 : (n : ℕ) → n ≤ 64 → (n ≡ 64 → ⊥) → n ≤ 63
    at_most_63 n few full =
        elim (cases_lt n 64) [
          | inl below ↦ omega (arith, below)
          | inr above ↦ absurd (full (omega (arith, few, above)))
        ]

-- each entry is of a word of a loaded section
abbrev pub SitesAreCode : PlainView → Graph → Type 0
SitesAreCode v g = (k : ℕ) → k < length g.sites.items → is_code_word v (site_at g k).at ≡ true

pub entry_itself : (e : ℕ × ℕ) → is_entry e.0 e.1 e ≡ true
entry_itself e = grind (arith, nat_tests)
