-- The program headers of a written file fail no check, but that their segments may take too much memory.
use Rattle.std.proofs.Common.{◌≡◌, ◌∙◌, ◌⊎◌, inl, inr, ℕ, zero, suc, ◌+◌, ◌-◌, ◌*◌, ◌<◌, ◌≤◌, ◌==◌, nat_le, nat_lt, Bool, true, false, not, ◌&&◌, List, [], ◌∷◌, length, Option, Some, None, refl, sym, ap, subst, arith, if◌then◌else◌}
use Rattle.std.specs.List.{All, Contains}
use Rattle.std.proofs.lemmas.Bool.{ltb-true, cases_Bool, cases_lt, cond-true}
use Rattle.std.proofs.lemmas.Bool.Decides.{nat_tests}
use Rattle.std.proofs.lemmas.List.Elements.{All-contains, Contains-append_left, Contains-append_right}
use Rattle.list_checks.specs.First.{◌or_else◌, first_below}
use Rattle.list_checks.specs.Tests.{ranges_overlap}
use Rattle.list_checks.proofs.FirstLemmas.{both_none, none_at, none_below, none_or, or_none, unless_true}
use Rattle.elf_reader.specs.Layout.{program_header_count, program_header, program_header_in}
use Rattle.elf_reader.specs.File.{PlainSegment, is_load, segment_of, segments_at, segments_below, load_segments, view_in}
use Rattle.elf_reader.specs.Faults.{first_fault}
use Rattle.elf_reader.specs.Loadable.{HasSegment}
use Rattle.elf_reader.specs.ProgramHeaderChecks.{place_fault, table_fault, type_fault, load_fault, program_fault, entry_fault, entries_fault, memory_fault, overlaps, pair_fault, pairs_fault, overlap_fault, program_headers_fault}
use Rattle.elf_reader.specs.declared.fault.ElfFault.TheVariants.{Overlap}
use Rattle.elf_reader.proofs.SegmentLemmas.{none_of_headers, segment_held, pair_disjoint}
use Rattle.elf_writer.specs.declared.parts.Patch.{Patch}
use Rattle.elf_writer.specs.declared.parts.SymbolMove.{SymbolMove}
use Rattle.elf_writer.specs.Parts.{NewSegment, table_place, content_place}
use Rattle.elf_writer.specs.Written.{new_number, written}
use Rattle.elf_writer.specs.Conditions.{IsClearOf, IsWritable, HasWordEntry}
use Rattle.elf_writer.specs.View.{written_ph_count}
use Rattle.elf_writer.proofs.FitLemmas.{program_inside, number_within, length_written, fits}
use Rattle.elf_writer.proofs.HeaderRead.{header_is}
use Rattle.elf_writer.proofs.HeaderFaults.{length_grows}
use Rattle.elf_writer.proofs.TableRead.{program_header_stays, program_header_before, program_header_behind, IsLoadHeader, new_read}

-- ---- what the checks of the file have found

record ProgramsHeld (file : List ℕ) : Type 0 where
  entries : entries_fault file ≡ None
  overlaps : overlap_fault file ≡ None

programs_held : (file : List ℕ) → first_fault file ≡ None → ProgramsHeld file
programs_held file none =
    let after_places = both_none (table_fault file) _ (none_of_headers file none) in
    let entries = both_none (entries_fault file) _ after_places.1 in
    let memory = both_none (memory_fault file) _ entries.1 in
    record { entries = entries.0; overlaps = memory.1 }

-- ---- one program header

load_holds : (size k : ℕ) (p : _) → HasSegment size p → load_fault size k p ≡ None
load_holds size k p held =
    let inside = held.inside in
    let fits = held.fits in
    let ends = held.ends in
    let first : nat_le (p.p_offset + p.p_filesz) size ≡ true = grind (arith, nat_tests, inside) in
    let second : nat_le p.p_filesz p.p_memsz ≡ true = grind (arith, nat_tests, fits) in
    let third : nat_le (p.p_vaddr + p.p_memsz) 4294967295 ≡ true = grind (arith, nat_tests, ends) in
    none_or _ _ (unless_true _ _ first) (none_or _ _ (unless_true _ _ second) (unless_true _ _ third))

more_segment : (size more : ℕ) (p : _) → size ≤ more → HasSegment size p → HasSegment more p
more_segment size more p le held =
    let inside = held.inside in
    record { inside = omega (arith, le, inside); fits = held.fits; ends = held.ends }

program_kept : (size more j k : ℕ) (p : _) → size ≤ more → program_fault size j p ≡ None → program_fault more k p ≡ None
program_kept size more j k p le none =
    let parts = both_none (type_fault p) (if is_load p then load_fault size j p else None) none in
    elim (cases_Bool (is_load p)) [
      | inl load ↦
          let held = segment_held size j p (rw load at parts.1) in
          none_or (type_fault p) (if is_load p then load_fault more k p else None) parts.0 (rw load (load_holds more k p (more_segment size more p le held)))
      | inr other ↦ none_or (type_fault p) (if is_load p then load_fault more k p else None) parts.0 (rw other refl)
    ]

-- the new one
new_kept : (out : List ℕ) (at place base size k : ℕ) → IsLoadHeader out at place base size size 7 → place + size ≤ length out → base + size < 4294967296 → program_fault (length out) k (program_header_in out at) ≡ None
new_kept out at place base size k facts inside ends =
    let p = program_header_in out at in
    let load : is_load p ≡ true = ap (λ (n : ℕ). n == 1) facts.kind in
    let typed : type_fault p ≡ None = unless_true _ _ (grind (arith, nat_tests, facts.kind)) in
    let held : HasSegment (length out) p =
    record {
      inside = omega (arith, inside, facts.offset, facts.filesz);
      fits = omega (arith, facts.filesz, facts.memsz);
      ends = omega (arith, ends, facts.vaddr, facts.memsz);
    }
    in
    none_or (type_fault p) (if is_load p then load_fault (length out) k p else None) typed (rw load (load_holds (length out) k p held))

-- ---- where program header `k` of the written file comes from: from number `m` of the file, before the new one or behind it

abbrev IsPlaced : ℕ → ℕ → ℕ → Type 0
IsPlaced n k m = ((k < n) × (m ≡ k)) ⊎ ((n < k) × (k ≡ m + 1))

record IsOld (file out : List ℕ) (n k m : ℕ) : Type 0 where
  same : program_header out k ≡ program_header file m
  below : m < program_header_count file
  place : IsPlaced n k m

-- without a segment the new one is behind the last
old_headers : (file : List ℕ) (ps : List Patch) (ms : List SymbolMove) (k : ℕ) → first_fault file ≡ None → IsWritable (view_in file) ps None ms → k < program_header_count file → IsOld file (written (view_in file) ps None ms) (program_header_count file) k k
old_headers file ps ms k none is below =
    record { same = program_header_stays file ps ms k none is below; below = below; place = inl (below, refl) }

from_headers : (file : List ℕ) (ps : List Patch) (s : NewSegment) (ms : List SymbolMove) (k : ℕ) → first_fault file ≡ None → IsWritable (view_in file) ps (Some s) ms → s.entry < 4294967296 → k < program_header_count file + 1
    → ((m : ℕ) × IsOld file (written (view_in file) ps (Some s) ms) (new_number (view_in file) s) k m) ⊎ (k ≡ new_number (view_in file) s)
from_headers file ps s ms k none is entry below =
    let out = written (view_in file) ps (Some s) ms in
    let n = new_number (view_in file) s in
    let number : n ≤ program_header_count file = number_within file s.base in
    elim (cases_lt k n) [
      | inl before ↦
          inl (k, record { same = program_header_before file ps s ms k none is entry before; below = omega (arith, before, number); place = inl (before, refl) })
      | inr later ↦
          elim (cases_lt n k) [
            | inl behind ↦
                let j = k - n - 1 in
                let at : n + j + 1 ≡ k = omega (arith, behind) in
                let inside : n + j < program_header_count file = omega (arith, behind, below) in
                let there = program_header_behind file ps s ms j none is entry inside in
                inl (n + j, record { same = sym (ap (program_header out) at) ∙ there; below = inside; place = inr (behind, sym at) })
            | inr here ↦ inr (omega (arith, later, here))
          ]
    ]

-- ---- each of them

old_entry : (file out : List ℕ) (n k m : ℕ) → ProgramsHeld file → length file ≤ length out → IsOld file out n k m → entry_fault out k ≡ None
old_entry file out n k m held grows old =
    ap (program_fault (length out) k) old.same
    ∙ program_kept (length file) (length out) m k (program_header file m) grows (none_at (entry_fault file) (program_header_count file) m old.below held.entries)

new_entry : (file : List ℕ) (ps : List Patch) (s : NewSegment) (ms : List SymbolMove) → first_fault file ≡ None → IsWritable (view_in file) ps (Some s) ms → s.entry < 4294967296 → entry_fault (written (view_in file) ps (Some s) ms) (new_number (view_in file) s) ≡ None
new_entry file ps s ms none is entry =
    let v = view_in file in
    let out = written v ps (Some s) ms in
    let n = new_number v s in
    let fit = (fits file ps (Some s) ms none is).segment in
    let size = length_written v ps s ms fit.number fit.inside in
    let at = table_place v + 32 * n in
    let found : program_header out n ≡ program_header_in out at = ap (λ from. program_header_in out (from + 32 * n)) (header_is file ps (Some s) ms none is entry).at_is in
    ap (program_fault (length out) n) found
    ∙ new_kept out at (content_place v) s.base (length s.content) n (new_read file ps s ms none is) (omega (arith, size)) is.allowed.ends

entries_kept : (file : List ℕ) (ps : List Patch) (new : Option NewSegment) (ms : List SymbolMove) → first_fault file ≡ None → IsWritable (view_in file) ps new ms → HasWordEntry new → (k : ℕ) → k < written_ph_count (view_in file) new → entry_fault (written (view_in file) ps new ms) k ≡ None
entries_kept file ps None ms none is entry k below =
    old_entry file (written (view_in file) ps None ms) (program_header_count file) k k (programs_held file none) (length_grows file ps None ms) (old_headers file ps ms k none is below)
entries_kept file ps (Some s) ms none is entry k below =
    let out = written (view_in file) ps (Some s) ms in
    elim (from_headers file ps s ms k none is entry below) [
      | inl old ↦ old_entry file out (new_number (view_in file) s) k old.0 (programs_held file none) (length_grows file ps (Some s) ms) old.1
      | inr here ↦ ap (entry_fault out) here ∙ new_entry file ps s ms none is entry
    ]

-- ---- where they stand

place_kept : (file : List ℕ) (ps : List Patch) (new : Option NewSegment) (ms : List SymbolMove) → first_fault file ≡ None → IsWritable (view_in file) ps new ms → HasWordEntry new → (k : ℕ) → k < written_ph_count (view_in file) new → place_fault (written (view_in file) ps new ms) k ≡ None
place_kept file ps None ms none is entry k below =
    let at = (header_is file ps None ms none is entry).at_is in
    let inside = program_inside file none k below in
    let grows = length_grows file ps None ms in
    unless_true _ _ (grind (arith, nat_tests, at, inside, grows))
place_kept file ps (Some s) ms none is entry k below =
    let v = view_in file in
    let at = (header_is file ps (Some s) ms none is entry).at_is in
    let fit = (fits file ps (Some s) ms none is).segment in
    let size = length_written v ps s ms fit.number fit.inside in
    unless_true _ _ (grind (arith, nat_tests, at, size, below))

-- ---- no two share an address

apart : (lower load other_load intersect : Bool) → (lower ≡ true → load ≡ true → other_load ≡ true → intersect ≡ false) → not (lower && (load && other_load && intersect)) ≡ true
apart true true true intersect off = ap not (off refl refl refl)
apart true true false intersect off = refl
apart true false other_load intersect off = refl
apart false load other_load intersect off = refl

pair_kept : (out : List ℕ) (i j : ℕ) → (nat_lt i j ≡ true → is_load (program_header out i) ≡ true → is_load (program_header out j) ≡ true → ranges_overlap (program_header out i).p_vaddr (program_header out i).p_memsz (program_header out j).p_vaddr (program_header out j).p_memsz ≡ false) → pair_fault out i j ≡ None
unfolding pair_fault
pair_kept out i j off =
    let p = program_header out i in
    let q = program_header out j in
    unless_true (not (nat_lt i j && overlaps p q)) (Overlap i j) (apart (nat_lt i j) (is_load p) (is_load q) (ranges_overlap p.p_vaddr p.p_memsz q.p_vaddr q.p_memsz) off)

old_order : (n i j a b : ℕ) → nat_lt i j ≡ true → IsPlaced n i a → IsPlaced n j b → a < b
old_order n i j a b lower (inl p) (inl q) = let low = ltb-true i j lower in let p1 = p.1 in let q1 = q.1 in omega (arith, low, p1, q1)
old_order n i j a b lower (inl p) (inr q) = let p0 = p.0 in let p1 = p.1 in let q0 = q.0 in let q1 = q.1 in omega (arith, p0, p1, q0, q1)
old_order n i j a b lower (inr p) (inl q) = let low = ltb-true i j lower in let p0 = p.0 in let q0 = q.0 in absurd (omega (arith, low, p0, q0))
old_order n i j a b lower (inr p) (inr q) = let low = ltb-true i j lower in let p1 = p.1 in let q1 = q.1 in omega (arith, low, p1, q1)

old_pair : (file out : List ℕ) (n i j a b : ℕ) → ProgramsHeld file → IsOld file out n i a → IsOld file out n j b → pair_fault out i j ≡ None
old_pair file out n i j a b held first second =
    let p = first.same in
    let q = second.same in
    pair_kept out i j
    (λ lower load other.
    let order = old_order n i j a b lower first.place second.place in
    let pairs = none_at (pairs_fault file) (program_header_count file) a first.below held.overlaps in
    let pair = none_at (pair_fault file a) (program_header_count file) b second.below pairs in
    let disjoint = pair_disjoint file a b order pair (sym (ap is_load p) ∙ load) (sym (ap is_load q) ∙ other) in
    (λ i. ranges_overlap (p i).p_vaddr (p i).p_memsz (q i).p_vaddr (q i).p_memsz) ∙ disjoint)

-- a segment that is loaded is among the file's
is_there : (file : List ℕ) (n k : ℕ) → k < n → is_load (program_header file k) ≡ true → Contains (segments_below file n) (segment_of file k (program_header file k))
is_there file zero k below load = absurd (omega (arith, below))
is_there file (suc n) k below load =
    elim (cases_lt k n) [
      | inl earlier ↦ Contains-append_left (segments_below file n) (segments_at file n) (segment_of file k (program_header file k)) (is_there file n k earlier load)
      | inr behind ↦
          let same : k ≡ n = omega (arith, below, behind) in
          let s = segment_of file k (program_header file k) in
          let alone : segments_at file k ≡ s ∷ [] = cond-true (is_load (program_header file k)) (s ∷ []) [] load in
          let here : Contains (segments_at file k) s = subst (λ (l : List PlainSegment). Contains l s) (sym alone) (0, omega arith, refl) in
          Contains-append_right (segments_below file n) (segments_at file n) s (subst (λ (j : ℕ). Contains (segments_at file j) s) same here)
    ]

clear_of_new : (file : List ℕ) (s : NewSegment) (m : ℕ) → All (IsClearOf s) (load_segments file) → m < program_header_count file → is_load (program_header file m) ≡ true → ranges_overlap (program_header file m).p_vaddr (program_header file m).p_memsz s.base (length s.content) ≡ false
clear_of_new file s m clear below load =
    All-contains (IsClearOf s) (load_segments file) (segment_of file m (program_header file m)) clear (is_there file (program_header_count file) m below load)

turned : (a b c d : ℕ) → ranges_overlap a b c d ≡ false → ranges_overlap c d a b ≡ false
turned a b c d off = grind (arith, nat_tests, off)

-- the new one
record IsNew (out : List ℕ) (base size k : ℕ) : Type 0 where
  vaddr : (program_header out k).p_vaddr ≡ base
  memsz : (program_header out k).p_memsz ≡ size

new_there : (file : List ℕ) (ps : List Patch) (s : NewSegment) (ms : List SymbolMove) (k : ℕ) → first_fault file ≡ None → IsWritable (view_in file) ps (Some s) ms → s.entry < 4294967296 → k ≡ new_number (view_in file) s → IsNew (written (view_in file) ps (Some s) ms) s.base (length s.content) k
new_there file ps s ms k none is entry here =
    let v = view_in file in
    let out = written v ps (Some s) ms in
    let at = table_place v + 32 * new_number v s in
    let facts = new_read file ps s ms none is in
    let found : program_header out k ≡ program_header_in out at =
    ap (program_header out) here ∙ ap (λ from. program_header_in out (from + 32 * new_number v s)) (header_is file ps (Some s) ms none is entry).at_is
    in
    record { vaddr = ap (λ p. p.p_vaddr) found ∙ facts.vaddr; memsz = ap (λ p. p.p_memsz) found ∙ facts.memsz }

new_second : (file out : List ℕ) (s : NewSegment) (n i k a : ℕ) → All (IsClearOf s) (load_segments file) → IsOld file out n i a → IsNew out s.base (length s.content) k → pair_fault out i k ≡ None
new_second file out s n i k a clear old new =
    let p = old.same in
    let base = new.vaddr in
    let size = new.memsz in
    pair_kept out i k
    (λ lower load other.
    (λ t. ranges_overlap (p t).p_vaddr (p t).p_memsz (base t) (size t)) ∙ clear_of_new file s a clear old.below (sym (ap is_load p) ∙ load))

new_first : (file out : List ℕ) (s : NewSegment) (n k j b : ℕ) → All (IsClearOf s) (load_segments file) → IsNew out s.base (length s.content) k → IsOld file out n j b → pair_fault out k j ≡ None
new_first file out s n k j b clear new old =
    let p = old.same in
    let base = new.vaddr in
    let size = new.memsz in
    let q = program_header file b in
    pair_kept out k j
    (λ lower load other.
    (λ t. ranges_overlap (base t) (size t) (p t).p_vaddr (p t).p_memsz)
    ∙ turned q.p_vaddr q.p_memsz s.base (length s.content) (clear_of_new file s b clear old.below (sym (ap is_load p) ∙ other)))

not_lower : (out : List ℕ) (n i j : ℕ) → i ≡ n → j ≡ n → pair_fault out i j ≡ None
not_lower out n i j first second =
    pair_kept out i j (λ lower load other. let low = ltb-true i j lower in absurd (omega (arith, low, first, second)))

pairs_kept : (file : List ℕ) (ps : List Patch) (new : Option NewSegment) (ms : List SymbolMove) → first_fault file ≡ None → IsWritable (view_in file) ps new ms → HasWordEntry new → (i j : ℕ) → i < written_ph_count (view_in file) new → j < written_ph_count (view_in file) new → pair_fault (written (view_in file) ps new ms) i j ≡ None
pairs_kept file ps None ms none is entry i j first second =
    old_pair file (written (view_in file) ps None ms) (program_header_count file) i j i j (programs_held file none) (old_headers file ps ms i none is first) (old_headers file ps ms j none is second)
pairs_kept file ps (Some s) ms none is entry i j first second =
    let out = written (view_in file) ps (Some s) ms in
    let n = new_number (view_in file) s in
    let clear = is.allowed.clear in
    elim (from_headers file ps s ms i none is entry first) [
      | inl one ↦
          elim (from_headers file ps s ms j none is entry second) [
            | inl other ↦ old_pair file out n i j one.0 other.0 (programs_held file none) one.1 other.1
            | inr last ↦ new_second file out s n i j one.0 clear one.1 (new_there file ps s ms j none is entry last)
          ]
      | inr here ↦
          elim (from_headers file ps s ms j none is entry second) [
            | inl other ↦ new_first file out s n i j other.0 clear (new_there file ps s ms i none is entry here) other.1
            | inr last ↦ not_lower out n i j here last
          ]
    ]

pub programs_kept : (file : List ℕ) (ps : List Patch) (new : Option NewSegment) (ms : List SymbolMove) → first_fault file ≡ None → IsWritable (view_in file) ps new ms → HasWordEntry new → program_headers_fault (written (view_in file) ps new ms) ≡ memory_fault (written (view_in file) ps new ms)
programs_kept file ps new ms none is entry =
    let out = written (view_in file) ps new ms in
    let n = written_ph_count (view_in file) new in
    let count = (header_is file ps new ms none is entry).count_is in
    let table : table_fault out ≡ None = ap (first_below (place_fault out)) count ∙ none_below (place_fault out) n (place_kept file ps new ms none is entry) in
    let entries : entries_fault out ≡ None = ap (first_below (entry_fault out)) count ∙ none_below (entry_fault out) n (entries_kept file ps new ms none is entry) in
    let row : (i : ℕ) → i < n → pairs_fault out i ≡ None =
    λ i below. ap (first_below (pair_fault out i)) count ∙ none_below (pair_fault out i) n (λ j inside. pairs_kept file ps new ms none is entry i j below inside)
    in
    let overlap : overlap_fault out ≡ None = ap (first_below (pairs_fault out)) count ∙ none_below (pairs_fault out) n row in
    (λ i. table i or_else entries i or_else memory_fault out or_else overlap i) ∙ or_none (memory_fault out) None refl
