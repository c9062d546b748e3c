-- An object that may move takes little space in the scratchpad: it lies in a segment, and these are small.
use Rattle.std.proofs.Common.{◌≡◌, inl, inr, ℕ, zero, suc, ◌+◌, ◌^◌, ◌%◌, ◌<◌, ◌≤◌, nat_le, true, [], ◌∷◌, ◌++◌, List, length, None, refl, sym, subst, arith, append-nil}
use Rattle.std.specs.List.{All}
use Rattle.std.proofs.lemmas.Bool.{leb-true, cond_both}
use Rattle.std.proofs.lemmas.Bool.Decides.{nat_tests}
use Rattle.std.proofs.lemmas.List.Elements.{All-nil, All-push}
use Rattle.list_checks.proofs.FirstLemmas.{both_none, holds}
use Rattle.list_checks.specs.Tests.{lies_in}
use Rattle.elf_reader.specs.Layout.{program_header_count, program_header}
use Rattle.elf_reader.specs.File.{PlainSegment, PlainSymbol, plain_view, is_load, segment_of, segments_below}
use Rattle.elf_reader.specs.HeaderChecks.{capped}
use Rattle.elf_reader.specs.ProgramHeaderChecks.{table_fault, entries_fault, memory_size, memory_below, memory_fault}
use Rattle.elf_reader.specs.Faults.{first_fault}
use Rattle.elf_reader.specs.Loaded.{no_segment, segment_at}
use Rattle.elf_reader.specs.declared.fault.ElfFault.TheVariants.{OverLimit}
use Rattle.elf_reader.specs.declared.view.ElfView.{ElfView}
use Rattle.elf_reader.proofs.SegmentLemmas.{none_of_headers}
use Rattle.elf_reader.proofs.LoadedLemmas.{loaded_found}
use Rattle.board_config.specs.Board.{IsGrain, IsLawful}
use Rattle.board_config.specs.declared.board.Board.{Board}
use Rattle.loaded_file.specs.Read.{IsRead}
use Rattle.loaded_file.specs.Records.{symbol_at}
use Rattle.loaded_file.specs.Ranges.{owner_of}
use Rattle.loaded_file.proofs.RangeLemmas.{IsOf}
use Rattle.object_graph.specs.declared.parts.Graph.{Graph}
use Rattle.object_graph.specs.Graphs.{IsGraph}
use Rattle.cell_values.specs.Objects.{object_of, datum_of}
use Rattle.placement_programme.specs.Rows.{rounded_up, data_span}
use Rattle.placement_candidates.proofs.LimitLemmas.{movable_at}

-- ---- segments: each has at most the memory that all have together

abbrev HasAtMost : ℕ → PlainSegment → Type 0
HasAtMost n s = s.memsz ≤ n

at_most_more : (n more : ℕ) (ss : List PlainSegment) → All (HasAtMost n) ss → All (HasAtMost (n + more)) ss
at_most_more n more ss most k d below = let here = most k d below in omega (arith, here)

at_most_below : (file : List ℕ) (n : ℕ) → All (HasAtMost (memory_below file n)) (segments_below file n)
at_most_below file zero = All-nil (HasAtMost 0)
at_most_below file (suc n) =
    let p = program_header file n in
    let all : ℕ = memory_below file n + memory_size p in
    let earlier = at_most_more (memory_below file n) (memory_size p) (segments_below file n) (at_most_below file n) in
    cond_both (is_load p) (segment_of file n p ∷ []) [] (λ more. All (HasAtMost all) (segments_below file n ++ more))
    (λ load.
    let own : memory_size p ≡ p.p_memsz = rw load refl in
    All-push (HasAtMost all) (segments_below file n) (segment_of file n p) earlier (omega (arith, own)))
    (λ other. rw append-nil earlier)

memory_small : (file : List ℕ) → first_fault file ≡ None → memory_below file (program_header_count file) ≤ 16777216
memory_small file none =
    let total = memory_below file (program_header_count file) in
    let after_places = both_none (table_fault file) _ (none_of_headers file none) in
    let after_records = both_none (entries_fault file) _ after_places.1 in
    let memory = both_none (memory_fault file) _ after_records.1 in
    leb-true total 16777216 (holds (nat_le total 16777216) (OverLimit 4 (capped total)) memory.0)

segments_small : (view : ElfView) → IsRead view → All (HasAtMost 16777216) (plain_view view).segments
segments_small view (file, is, none) =
    let few = memory_small file none in
    subst (λ (ss : List PlainSegment). All (HasAtMost 16777216) ss) (sym is.segments)
    (λ k d below. let here = at_most_below file (program_header_count file) k d below in omega (arith, few, here))

-- ---- objects: each lies in a loaded section, and that in a segment

lies_small : (base total start size : ℕ) → lies_in base total start size ≡ true → size ≤ total
lies_small base total start size lies = grind (arith, nat_tests, lies)

object_small : (view : ElfView) (home n : ℕ) (s : PlainSymbol) → IsRead view → IsOf (plain_view view) home n s → n ≤ 16777216
object_small view home n s read of =
    let v = plain_view view in
    let (g, facts) = loaded_found v s.section of.range.loaded in
    let starts = facts.starts in
    let ends = facts.ends in
    let most : (segment_at v g).memsz ≤ 16777216 = segments_small view read g no_segment facts.below in
    let inside = lies_small (owner_of v s).addr (owner_of v s).size s.value s.size of.range.lies in
    let size = of.size in
    omega (arith, starts, ends, most, inside, size)

-- ---- spans

span_small : (grain home n : ℕ) → IsGrain grain → n ≤ 16777216 → rounded_up grain (home % grain + n) < 2 ^ 32
span_small grain home n (inl is) small = rw is (omega (arith, small))
span_small grain home n (inr (inl is)) small = rw is (omega (arith, small))
span_small grain home n (inr (inr is)) small = rw is (omega (arith, small))

pub objects_small : (view : ElfView) (board : Board) (g : Graph) → IsRead view → IsGraph (plain_view view) board g → (k : ℕ) → k < length g.objects.items → (object_of g k).size ≤ 16777216
objects_small view board g read is k below =
    let v = plain_view view in
    let movable = movable_at v board g k is below in
    object_small view (object_of g k).home (object_of g k).size (symbol_at v movable.symbol) read movable.of

pub spans_small : (view : ElfView) (board : Board) (g : Graph) → IsRead view → IsLawful board → IsGraph (plain_view view) board g → (k : ℕ) → k < length g.objects.items → data_span board.grain (datum_of g k) < 2 ^ 32
spans_small view board g read lawful is k below =
    span_small board.grain (object_of g k).home (object_of g k).size lawful.grain (objects_small view board g read is k below)
