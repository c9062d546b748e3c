-- The segments of a file in which no check fails.
use Rattle.std.proofs.Common.{◌≡◌, ℕ, zero, suc, ◌+◌, ◌<◌, ◌≤◌, nat_lt, Bool, true, false, not, ◌&&◌, List, [], ◌∷◌, ◌++◌, length, None, arith, if◌then◌else◌, append-nil, length-take, length-drop}
use Rattle.std.specs.List.{All}
use Rattle.std.proofs.lemmas.Bool.Decides.{nat_tests}
use Rattle.std.proofs.lemmas.Bool.{leb-true, cond_both}
use Rattle.std.proofs.lemmas.List.Elements.{All-nil, All-push, All-take, All-drop}
use Rattle.std.proofs.lemmas.List.Quantifiers.{all_pairs_push}
use Rattle.list_checks.specs.Tests.{ranges_overlap}
use Rattle.elf_reader.specs.Layout.{program_header_count, program_header}
use Rattle.elf_reader.specs.File.{PlainSegment, is_load, segment_of, segments_below, load_segments}
use Rattle.elf_reader.specs.HeaderChecks.{header_fault}
use Rattle.elf_reader.specs.ProgramHeaderChecks.{place_fault, type_fault, load_fault, entry_fault, entries_fault, overlaps, pair_fault, pairs_fault, overlap_fault, memory_fault, table_fault, program_headers_fault}
use Rattle.elf_reader.specs.Faults.{first_fault}
use Rattle.elf_reader.specs.declared.fault.ElfFault.TheVariants.{Overlap}
use Rattle.elf_reader.specs.Loadable.{HasProgramHeaders, HasSegment, HasSegments, IsByte, AreBytes, IsLoadable, AreLoadable, IsDisjoint, AreDisjoint}
use Rattle.elf_reader.specs.declared.records.ProgramHeader.{ProgramHeader}
use Rattle.list_checks.proofs.FirstLemmas.{both_none, none_at, holds}

pub program_headers_held : (file : List ℕ) → table_fault file ≡ None → HasProgramHeaders file
program_headers_held file none k below =
    leb-true _ _ (holds _ _ (none_at (place_fault file) (program_header_count file) k below none))

-- the segment of a program header without a fault
pub segment_held : (size k : ℕ) (p : ProgramHeader) → load_fault size k p ≡ None → HasSegment size p
segment_held size k p none =
    let first = both_none _ _ none in
    let second = both_none _ _ first.1 in
    record {
      inside = leb-true _ _ (holds _ _ first.0);
      fits = leb-true _ _ (holds _ _ second.0);
      ends = let ends : p.p_vaddr + p.p_memsz ≤ 4294967295 = leb-true _ _ (holds _ _ second.1) in omega arith;
    }

pub segments_held : (file : List ℕ) → entries_fault file ≡ None → HasSegments file
segments_held file none k below load =
    let p = program_header file k in
    let held = both_none (type_fault p) (if is_load p then load_fault (length file) k p else None) (none_at (entry_fault file) (program_header_count file) k below none) in
    segment_held (length file) k p (rw load at held.1)

-- such a segment can be loaded
pub is_loadable : (file : List ℕ) → AreBytes file → (k : ℕ) (p : ProgramHeader) → HasSegment (length file) p → IsLoadable (segment_of file k p)
is_loadable file bytes k p held =
    let inside = held.inside in
    let fits = held.fits in
    record {
      bytes = All-take IsByte _ _ (All-drop IsByte _ _ bytes);
      fits = simp (length-take, length-drop) (omega arith);
      ends = held.ends;
    }

pub are_loadable : (file : List ℕ) → AreBytes file → HasSegments file → (n : ℕ) → n ≤ program_header_count file → AreLoadable (segments_below file n)
are_loadable file bytes held zero le = All-nil IsLoadable
are_loadable file bytes held (suc n) le =
    let p = program_header file n in
    let earlier = are_loadable file bytes held n (omega arith) in
    cond_both (is_load p) (segment_of file n p ∷ []) [] (λ more. All IsLoadable (segments_below file n ++ more))
    (λ load. All-push IsLoadable _ _ earlier (is_loadable file bytes n p (held n (omega arith) load)))
    (λ other. rw append-nil earlier)

all_disjoint : (lower load other_load intersect : Bool) → not (lower && (load && other_load && intersect)) ≡ true → lower ≡ true → load ≡ true → other_load ≡ true → intersect ≡ false
all_disjoint lower load other_load intersect none is_lower is_load is_other = grind arith

-- two program headers without a fault have disjoint segments
pub pair_disjoint : (file : List ℕ) (i j : ℕ) → i < j → pair_fault file i j ≡ None → is_load (program_header file i) ≡ true → is_load (program_header file j) ≡ true → IsDisjoint (segment_of file i (program_header file i)) (segment_of file j (program_header file j))
unfolding pair_fault
pair_disjoint file i j lower none load other_load =
    let p = program_header file i in
    let q = program_header file j in
    let is_lower : nat_lt i j ≡ true = grind (arith, nat_tests) in
    let held = holds (not (nat_lt i j && overlaps p q)) (Overlap i j) none in
    all_disjoint (nat_lt i j) (is_load p) (is_load q) (ranges_overlap p.p_vaddr p.p_memsz q.p_vaddr q.p_memsz) held is_lower load other_load

-- the segments below n are disjoint from that of program header `j`
pub all_disjoint_from : (file : List ℕ) (j n : ℕ) → n ≤ j → overlap_fault file ≡ None → j < program_header_count file → is_load (program_header file j) ≡ true → All (λ s. IsDisjoint s (segment_of file j (program_header file j))) (segments_below file n)
all_disjoint_from file j zero le none below load = All-nil _
all_disjoint_from file j (suc n) le none below load =
    let p = program_header file n in
    let IsFrom : PlainSegment → Type 0 = λ s. IsDisjoint s (segment_of file j (program_header file j)) in
    let earlier = all_disjoint_from file j n (omega arith) none below load in
    let none_of = none_at (pairs_fault file) (program_header_count file) n (omega arith) none in
    let none_pair = none_at (pair_fault file n) (program_header_count file) j below none_of in
    cond_both (is_load p) (segment_of file n p ∷ []) [] (λ more. All IsFrom (segments_below file n ++ more))
    (λ is_load. All-push IsFrom _ _ earlier (pair_disjoint file n j (omega arith) none_pair is_load load))
    (λ other. rw append-nil earlier)

pub are_disjoint : (file : List ℕ) → overlap_fault file ≡ None → (n : ℕ) → n ≤ program_header_count file → AreDisjoint (segments_below file n)
are_disjoint file none zero le = λ i j d lower below. absurd (omega arith)
are_disjoint file none (suc n) le =
    let p = program_header file n in
    let earlier = are_disjoint file none n (omega arith) in
    cond_both (is_load p) (segment_of file n p ∷ []) [] (λ more. AreDisjoint (segments_below file n ++ more))
    (λ load. all_pairs_push IsDisjoint _ _ earlier (all_disjoint_from file n n (omega arith) none (omega arith) load))
    (λ other. rw append-nil earlier)

-- where no check fails, none of the program headers' does
pub none_of_headers : (file : List ℕ) → first_fault file ≡ None → program_headers_fault file ≡ None
none_of_headers file none = (both_none (program_headers_fault file) _ (both_none (header_fault file) _ none).1).0

pub load_segments_loadable : (file : List ℕ) → AreBytes file → program_headers_fault file ≡ None → AreLoadable (load_segments file)
load_segments_loadable file bytes none =
    let after_places = both_none (table_fault file) _ none in
    let records = both_none (entries_fault file) _ after_places.1 in
    are_loadable file bytes (segments_held file records.0) (program_header_count file) (omega arith)

pub load_segments_disjoint : (file : List ℕ) → program_headers_fault file ≡ None → AreDisjoint (load_segments file)
load_segments_disjoint file none =
    let after_places = both_none (table_fault file) _ none in
    let after_records = both_none (entries_fault file) _ after_places.1 in
    let overlaps = both_none (memory_fault file) _ after_records.1 in
    are_disjoint file overlaps.1 (program_header_count file) (omega arith)
