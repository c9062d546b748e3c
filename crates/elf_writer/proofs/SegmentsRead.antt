-- The segments of a written file, read back.
use Rattle.std.proofs.Common.{◌≡◌, ◌∙◌, ℕ, zero, suc, ◌+◌, ◌-◌, ◌*◌, ◌<◌, ◌≤◌, ◌==◌, nat_lt, true, false, List, [], ◌∷◌, ◌++◌, map, length, slice_range, Option, Some, None, refl, sym, ap, arith, append_assoc, append-nil, if◌then◌else◌}
use Rattle.std.specs.List.{All}
use Rattle.std.proofs.lemmas.Bool.{cond_both, cond-true, cond-false}
use Rattle.std.proofs.lemmas.Bool.Decides.{nat_tests}
use Rattle.std.proofs.lemmas.List.{map-append}
use Rattle.std.proofs.lemmas.List.Elements.{All-nil, All-head, All-tail, All-push, All-map}
use Rattle.list_checks.proofs.FirstLemmas.{both_none}
use Rattle.elf_writer.proofs.Standing.{Stands, stands_range}
use Rattle.elf_reader.specs.Layout.{program_header_count, program_header, program_header_in}
use Rattle.elf_reader.specs.File.{PlainSegment, view_in, is_load, segment_of, segments_at, segments_below, load_segments}
use Rattle.elf_reader.specs.Faults.{first_fault}
use Rattle.elf_reader.specs.Loadable.{HasSegments}
use Rattle.elf_reader.specs.ProgramHeaderChecks.{table_fault, entries_fault}
use Rattle.elf_reader.proofs.SegmentLemmas.{segments_held, none_of_headers}
use Rattle.elf_writer.specs.declared.parts.Patch.{Patch}
use Rattle.elf_writer.specs.declared.parts.SymbolMove.{SymbolMove}
use Rattle.elf_writer.specs.Changes.{changed}
use Rattle.elf_writer.specs.Parts.{NewSegment, table_place, content_place}
use Rattle.elf_writer.specs.Written.{new_number, all_changes, written}
use Rattle.elf_writer.specs.Conditions.{IsWritable, HasWordEntry}
use Rattle.elf_writer.specs.View.{changed_segment, added_segment, numbered_behind, with_added, written_segments}
use Rattle.elf_writer.proofs.FitLemmas.{numbers_below, number_within}
use Rattle.elf_writer.proofs.WrittenLemmas.{ranges_written}
use Rattle.elf_writer.proofs.HeaderRead.{header_is}
use Rattle.elf_writer.proofs.TableRead.{program_header_stays, program_header_before, program_header_behind, IsLoadHeader, has_table, new_read}

pub segments_hold : (file : List ℕ) → first_fault file ≡ None → HasSegments file
segments_hold file none =
    let after_places = both_none (table_fault file) _ (none_of_headers file none) in
    segments_held file (both_none (entries_fault file) _ after_places.1).0

-- the bytes of a segment of the file have the changes of their places
content_read : (file : List ℕ) (ps : List Patch) (new : Option NewSegment) (ms : List SymbolMove) (k : ℕ) → first_fault file ≡ None → k < program_header_count file → is_load (program_header file k) ≡ true → slice_range (written (view_in file) ps new ms) (program_header file k).p_offset ((program_header file k).p_offset + (program_header file k).p_filesz) ≡ changed (all_changes (view_in file) ps new ms) (program_header file k).p_offset (segment_of file k (program_header file k)).content
content_read file ps new ms k none below load =
    let p = program_header file k in
    ranges_written (view_in file) ps new ms p.p_offset (p.p_offset + p.p_filesz) (omega arith) (segments_hold file none k below load).inside

-- where the written file has the program header, at the same number or at the next
same_number : (file : List ℕ) (ps : List Patch) (new : Option NewSegment) (ms : List SymbolMove) (k : ℕ) → first_fault file ≡ None → k < program_header_count file → program_header (written (view_in file) ps new ms) k ≡ program_header file k → segments_at (written (view_in file) ps new ms) k ≡ map (changed_segment (all_changes (view_in file) ps new ms)) (segments_at file k)
same_number file ps new ms k none below same =
    let out = written (view_in file) ps new ms in
    let change = changed_segment (all_changes (view_in file) ps new ms) in
    let p = program_header file k in
    (λ i. if is_load (same i) then segment_of out k (same i) ∷ [] else [])
    ∙ cond_both (is_load p) (segment_of file k p ∷ []) [] (λ (l : List PlainSegment). (if is_load p then segment_of out k p ∷ [] else []) ≡ map change l)
    (λ load.
    let content = content_read file ps new ms k none below load in
    cond-true (is_load p) (segment_of out k p ∷ []) [] load
    ∙ (λ i. record { index = k; offset = p.p_offset; vaddr = p.p_vaddr; memsz = p.p_memsz; flags = p.p_flags; content = content i } ∷ []))
    (λ other. cond-false (is_load p) (segment_of out k p ∷ []) [] other)

next_number : (file : List ℕ) (ps : List Patch) (new : Option NewSegment) (ms : List SymbolMove) (k : ℕ) → first_fault file ≡ None → k < program_header_count file → program_header (written (view_in file) ps new ms) (k + 1) ≡ program_header file k → segments_at (written (view_in file) ps new ms) (k + 1) ≡ map numbered_behind (map (changed_segment (all_changes (view_in file) ps new ms)) (segments_at file k))
next_number file ps new ms k none below same =
    let out = written (view_in file) ps new ms in
    let change = changed_segment (all_changes (view_in file) ps new ms) in
    let p = program_header file k in
    (λ i. if is_load (same i) then segment_of out (k + 1) (same i) ∷ [] else [])
    ∙ cond_both (is_load p) (segment_of file k p ∷ []) [] (λ (l : List PlainSegment). (if is_load p then segment_of out (k + 1) p ∷ [] else []) ≡ map numbered_behind (map change l))
    (λ load.
    let content = content_read file ps new ms k none below load in
    cond-true (is_load p) (segment_of out (k + 1) p ∷ []) [] load
    ∙ (λ i. record { index = k + 1; offset = p.p_offset; vaddr = p.p_vaddr; memsz = p.p_memsz; flags = p.p_flags; content = content i } ∷ []))
    (λ other. cond-false (is_load p) (segment_of out (k + 1) p ∷ []) [] other)

-- the segments of the first program headers, which stand at the same numbers
first_read : (file : List ℕ) (ps : List Patch) (new : Option NewSegment) (ms : List SymbolMove) (n : ℕ) → first_fault file ≡ None → n ≤ program_header_count file → ((k : ℕ) → k < n → program_header (written (view_in file) ps new ms) k ≡ program_header file k) → segments_below (written (view_in file) ps new ms) n ≡ map (changed_segment (all_changes (view_in file) ps new ms)) (segments_below file n)
first_read file ps new ms zero none le same = refl
first_read file ps new ms (suc n) none le same =
    let change = changed_segment (all_changes (view_in file) ps new ms) in
    let earlier = first_read file ps new ms n none (omega (arith, le)) (λ k below. same k (omega (arith, below))) in
    let here = same_number file ps new ms n none (omega (arith, le)) (same n (omega arith)) in
    (λ i. earlier i ++ here i) ∙ sym (map-append change (segments_below file n) (segments_at file n))

-- ---- with a new segment

-- the segments of `j` program headers from number `n` on
abbrev between : List ℕ → ℕ → ℕ → List PlainSegment
between file n zero = []
between file n (suc j) = between file n j ++ segments_at file (n + j)

between_is : (file : List ℕ) (n j : ℕ) → segments_below file (n + j) ≡ segments_below file n ++ between file n j
between_is file n zero =
    let same : n + 0 ≡ n = omega arith in
    ap (segments_below file) same ∙ sym (append-nil (segments_below file n))
between_is file n (suc j) =
    let same : n + suc j ≡ suc (n + j) = omega arith in
    let earlier = between_is file n j in
    ap (segments_below file) same
    ∙ (ap (λ l. l ++ segments_at file (n + j)) earlier ∙ append_assoc (segments_below file n) (between file n j) (segments_at file (n + j)))

between_from : (file : List ℕ) (n j : ℕ) → All (λ s. nat_lt s.index n ≡ false) (between file n j)
between_from file n zero = All-nil (λ s. nat_lt s.index n ≡ false)
between_from file n (suc j) =
    let p = program_header file (n + j) in
    let earlier = between_from file n j in
    let from : nat_lt (n + j) n ≡ false = grind (arith, nat_tests) in
    cond_both (is_load p) (segment_of file (n + j) p ∷ []) [] (λ more. All (λ s. nat_lt s.index n ≡ false) (between file n j ++ more))
    (λ load. All-push (λ s. nat_lt s.index n ≡ false) (between file n j) (segment_of file (n + j) p) earlier from)
    (λ other. rw append-nil earlier)

-- a segment that is loaded, with its content
pub segment_loaded : (file : List ℕ) (k at place base memory flags : ℕ) (content : List ℕ) → IsLoadHeader file at place base (length content) memory flags → Stands file place content → (if is_load (program_header_in file at) then segment_of file k (program_header_in file at) ∷ [] else []) ≡ record { index = k; offset = place; vaddr = base; memsz = memory; flags = flags; content = content } ∷ []
segment_loaded file k at place base memory flags content facts stands =
    let p = program_header_in file at in
    let load : is_load p ≡ true = ap (λ (n : ℕ). n == 1) facts.kind in
    let end : p.p_offset + p.p_filesz ≡ place + length content = λ i. facts.offset i + facts.filesz i in
    let read : slice_range file p.p_offset (p.p_offset + p.p_filesz) ≡ content = (λ i. slice_range file (facts.offset i) (end i)) ∙ stands_range file place content stands in
    cond-true (is_load p) (segment_of file k p ∷ []) [] load
    ∙ (λ i. record { index = k; offset = facts.offset i; vaddr = facts.vaddr i; memsz = facts.memsz i; flags = facts.flags_are i; content = read i } ∷ [])

new_at : (file : List ℕ) (ps : List Patch) (s : NewSegment) (ms : List SymbolMove) → first_fault file ≡ None → IsWritable (view_in file) ps (Some s) ms → s.entry < 4294967296 → segments_at (written (view_in file) ps (Some s) ms) (new_number (view_in file) s) ≡ added_segment (view_in file) s ∷ []
new_at file ps s ms none is entry =
    let v = view_in file in
    let out = written v ps (Some s) ms in
    let n = new_number v s in
    let at = table_place v + 32 * n in
    let found : program_header out n ≡ program_header_in out at = ap (λ from. program_header_in out (from + 32 * n)) (header_is file ps (Some s) ms none is entry).at_is in
    (λ i. if is_load (found i) then segment_of out n (found i) ∷ [] else [])
    ∙ segment_loaded out n at (content_place v) s.base (length s.content) 7 s.content (new_read file ps s ms none is) (has_table file ps s ms none is).content

last_read : (file : List ℕ) (ps : List Patch) (s : NewSegment) (ms : List SymbolMove) (j : ℕ) → first_fault file ≡ None → IsWritable (view_in file) ps (Some s) ms → s.entry < 4294967296 → new_number (view_in file) s + j ≤ program_header_count file
    → segments_below (written (view_in file) ps (Some s) ms) (suc (new_number (view_in file) s + j))
    ≡ map (changed_segment (all_changes (view_in file) ps (Some s) ms)) (segments_below file (new_number (view_in file) s))
    ++ (added_segment (view_in file) s ∷ map numbered_behind (map (changed_segment (all_changes (view_in file) ps (Some s) ms)) (between file (new_number (view_in file) s) j)))
last_read file ps s ms zero none is entry le =
    let v = view_in file in
    let out = written v ps (Some s) ms in
    let n = new_number v s in
    let same : suc (n + 0) ≡ suc n = omega arith in
    let before = first_read file ps (Some s) ms n none (omega (arith, le)) (λ k below. program_header_before file ps s ms k none is entry below) in
    let here = new_at file ps s ms none is entry in
    ap (segments_below out) same ∙ (λ i. before i ++ here i)
last_read file ps s ms (suc j) none is entry le =
    let v = view_in file in
    let out = written v ps (Some s) ms in
    let n = new_number v s in
    let change = changed_segment (all_changes v ps (Some s) ms) in
    let front = map change (segments_below file n) in
    let some = between file n j in
    let more = segments_at file (n + j) in
    let below : n + j < program_header_count file = omega (arith, le) in
    let same : suc (n + suc j) ≡ suc (suc (n + j)) = omega arith in
    let next : suc (n + j) ≡ n + j + 1 = omega arith in
    let earlier = last_read file ps s ms j none is entry (omega (arith, le)) in
    let here = ap (segments_at out) next ∙ next_number file ps (Some s) ms (n + j) none below (program_header_behind file ps s ms j none is entry below) in
    let joined : map numbered_behind (map change (some ++ more)) ≡ map numbered_behind (map change some) ++ map numbered_behind (map change more) =
    ap (map numbered_behind) (map-append change some more) ∙ map-append numbered_behind (map change some) (map change more)
    in
    ap (segments_below out) same
    ∙ ((λ i. earlier i ++ here i)
    ∙ (append_assoc front (added_segment v s ∷ map numbered_behind (map change some)) (map numbered_behind (map change more))
    ∙ ap (λ l. front ++ (added_segment v s ∷ l)) (sym joined)))

-- the new segment stands behind those of lower numbers
added_split : (new : PlainSegment) (xs ys : List PlainSegment) → All (λ s. nat_lt s.index new.index ≡ true) xs → All (λ s. nat_lt s.index new.index ≡ false) ys → with_added new (xs ++ ys) ≡ xs ++ (new ∷ map numbered_behind ys)
added_split new [] [] low high = refl
added_split new [] (y ∷ ys) low high =
    cond-false (nat_lt y.index new.index) (y ∷ with_added new ys) (new ∷ map numbered_behind (y ∷ ys)) (All-head (λ s. nat_lt s.index new.index ≡ false) y ys high)
added_split new (x ∷ xs) ys low high =
    let later = added_split new xs ys (All-tail (λ s. nat_lt s.index new.index ≡ true) x xs low) high in
    cond-true (nat_lt x.index new.index) (x ∷ with_added new (xs ++ ys)) (new ∷ map numbered_behind (x ∷ (xs ++ ys))) (All-head (λ s. nat_lt s.index new.index ≡ true) x xs low)
    ∙ ap (λ l. x ∷ l) later

low_numbers : (file : List ℕ) (n : ℕ) → All (λ s. nat_lt s.index n ≡ true) (segments_below file n)
low_numbers file n k d below =
    let here = numbers_below file n n (omega arith) k d below in
    grind (arith, nat_tests, here)

pub segments_read : (file : List ℕ) (ps : List Patch) (new : Option NewSegment) (ms : List SymbolMove) → first_fault file ≡ None → IsWritable (view_in file) ps new ms → HasWordEntry new → load_segments (written (view_in file) ps new ms) ≡ written_segments (view_in file) ps new ms
segments_read file ps None ms none is entry =
    let out = written (view_in file) ps None ms in
    ap (segments_below out) (header_is file ps None ms none is entry).count_is
    ∙ first_read file ps None ms (program_header_count file) none (omega arith) (λ k below. program_header_stays file ps ms k none is below)
segments_read file ps (Some s) ms none is entry =
    let v = view_in file in
    let out = written v ps (Some s) ms in
    let n = new_number v s in
    let change = changed_segment (all_changes v ps (Some s) ms) in
    let number : n ≤ program_header_count file = number_within file s.base in
    let rest = program_header_count file - n in
    let total : program_header_count file + 1 ≡ suc (n + rest) = omega (arith, number) in
    let all : program_header_count file ≡ n + rest = omega (arith, number) in
    let first = map change (segments_below file n) in
    let last = map change (between file n rest) in
    let split : map change (load_segments file) ≡ first ++ last =
    ap (map change) (ap (segments_below file) all ∙ between_is file n rest) ∙ map-append change (segments_below file n) (between file n rest)
    in
    let added = added_split (added_segment v s) first last (All-map (λ s. nat_lt s.index n ≡ true) change (segments_below file n) (low_numbers file n)) (All-map (λ s. nat_lt s.index n ≡ false) change (between file n rest) (between_from file n rest)) in
    ap (segments_below out) (header_is file ps (Some s) ms none is entry).count_is
    ∙ (ap (segments_below out) total
    ∙ (last_read file ps s ms rest none is entry (omega (arith, number)) ∙ sym (ap (with_added (added_segment v s)) split ∙ added)))
