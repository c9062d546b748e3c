-- Segments and loaded sections of a view that was read end below 2 ^ 32.
use Rattle.std.proofs.Common.{◌≡◌, inl, inr, ℕ, zero, suc, ◌+◌, ◌<◌, ◌≤◌, true, List, [], ◌∷◌, ◌++◌, length, get_or, map, None, sym, subst, arith, append-nil}
use Rattle.std.specs.List.{All}
use Rattle.std.proofs.lemmas.Bool.{cond_both}
use Rattle.std.proofs.lemmas.List.Elements.{All-nil, All-push}
use Rattle.std.proofs.Math.ListN.{get_or-map, length-map}
use Rattle.list_checks.proofs.FirstLemmas.{both_none}
use Rattle.elf_reader.specs.Layout.{program_header_count, program_header}
use Rattle.elf_reader.specs.ProgramHeaderChecks.{table_fault, entries_fault}
use Rattle.elf_reader.specs.Faults.{first_fault}
use Rattle.elf_reader.specs.File.{PlainSegment, PlainView, plain_segment, plain_view, view_in, is_load, segment_of, segments_below, load_segments}
use Rattle.elf_reader.specs.Loadable.{HasSegments}
use Rattle.elf_reader.specs.Loaded.{no_segment, section_at, segment_at, is_loaded}
use Rattle.elf_reader.specs.declared.view.ElfView.{ElfView}
use Rattle.elf_reader.specs.declared.view.Segment.{Segment}
use Rattle.elf_reader.proofs.SegmentLemmas.{segments_held, none_of_headers}
use Rattle.elf_reader.proofs.LoadedLemmas.{IsPlaced, load_segments_placed, loaded_found}
use Rattle.loaded_file.specs.Read.{IsRead}
use Rattle.loaded_file.proofs.WordLemmas.{same_view}
use Rattle.object_graph.specs.declared.parts.DataWord.{DataWord}
use Rattle.object_graph.specs.declared.parts.Graph.{Graph}
use Rattle.object_graph.specs.Graphs.{IsGraph}
use Rattle.board_config.specs.declared.board.Board.{Board}
use Rattle.object_machine.specs.Starting.{AreShortWords, AreShortSegments, EndsInMemory}
use Rattle.object_machine.proofs.GraphLemmas.{HeldIn, word_held}

segments_end : (file : List ℕ) → HasSegments file → (n : ℕ) → n ≤ program_header_count file → All (λ s. s.vaddr + s.memsz < 4294967296) (segments_below file n)
segments_end file held zero le = All-nil (λ s. s.vaddr + s.memsz < 4294967296)
segments_end file held (suc n) le =
    let p = program_header file n in
    let earlier = segments_end file held n (omega arith) in
    cond_both (is_load p) (segment_of file n p ∷ []) [] (λ more. All (λ s. s.vaddr + s.memsz < 4294967296) (segments_below file n ++ more))
    (λ load. All-push (λ s. s.vaddr + s.memsz < 4294967296) _ _ earlier (held n (omega arith) load).ends)
    (λ other. rw append-nil earlier)

load_segments_end : (file : List ℕ) → first_fault file ≡ None → All (λ s. s.vaddr + s.memsz < 4294967296) (load_segments file)
load_segments_end file none =
    let after_places = both_none (table_fault file) _ (none_of_headers file none) in
    let records = both_none (entries_fault file) _ after_places.1 in
    segments_end file (segments_held file records.0) (program_header_count file) (omega arith)

-- the bytes of a segment end there too
file_segments : (file : List ℕ) → first_fault file ≡ None → All EndsInMemory (load_segments file)
file_segments file none k d below =
    let ends = load_segments_end file none k d below in
    let placed = load_segments_placed file (none_of_headers file none) k d below in
    let fits = placed.fits in
    omega (arith, ends, fits)

pub segments_short : (view : ElfView) → IsRead view → AreShortSegments (plain_view view).segments
segments_short view read =
    let (file, is, none) = read in
    subst (λ (v : PlainView). All EndsInMemory v.segments) (sym (same_view file view is)) (file_segments file none)

pub segment_short : (segments : List Segment) (k : ℕ) (d : Segment) → AreShortSegments (map plain_segment segments) → k < length segments → (get_or segments k d).vaddr + length (get_or segments k d).bytes.now < 4294967296
segment_short segments k d short below =
    let within : k < length (map plain_segment segments) = rw length-map below in
    subst EndsInMemory (get_or-map plain_segment segments k d) (short k (plain_segment d) within)

-- ---- words of data

file_section_ends : (file : List ℕ) (k : ℕ) → first_fault file ≡ None → is_loaded (view_in file) k ≡ true → (section_at (view_in file) k).addr + (section_at (view_in file) k).size < 4294967296
file_section_ends file k none loaded =
    let (g, facts) = loaded_found (view_in file) k loaded in
    let ends = load_segments_end file none g no_segment facts.below in
    let inside = facts.ends in
    omega (arith, ends, inside)

section_ends : (view : ElfView) (k : ℕ) → IsRead view → is_loaded (plain_view view) k ≡ true → (section_at (plain_view view) k).addr + (section_at (plain_view view) k).size < 4294967296
section_ends view k read loaded =
    let (file, is, none) = read in
    subst (λ (v : PlainView). is_loaded v k ≡ true → (section_at v k).addr + (section_at v k).size < 4294967296) (sym (same_view file view is)) (file_section_ends file k none) loaded

pub words_short : (view : ElfView) (board : Board) (g : Graph) → IsRead view → IsGraph (plain_view view) board g → AreShortWords g.data_words.items
words_short view board g read is k d below =
    let (section, held) = word_held (plain_view view) board g k d is below in
    let ends = section_ends view section read held.loaded in
    let to = held.to in
    omega (arith, ends, to)
