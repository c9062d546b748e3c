-- The checks of a program's layout on a board, each with the fault that it tells, and their order.
use Rattle.std.specs.Prelude.{ℕ, zero, suc, ◌+◌, ◌-◌, ◌==◌, nat_lt, nat_le, min, max, Bool, not, ◌&&◌, ◌||◌, if◌then◌else◌, length, slice_index_or, Option}
use Rattle.list_checks.specs.First.{◌or_else◌, unless, first_below}
use Rattle.list_checks.specs.Tests.{any_below, lies_in, ranges_overlap}
use Rattle.elf_reader.specs.File.{PlainSegment, PlainView}
use Rattle.elf_reader.specs.Loaded.{section_at, segment_at}
use Rattle.loaded_file.specs.Code.{is_code_range}
use Rattle.loaded_file.specs.Records.{symbol_at}
use Rattle.board_config.specs.declared.board.Board.{Board}
use Rattle.board_config.specs.declared.board.Range.{Range}
use Rattle.loaded_file.specs.Ranges.{has_range}
use Rattle.object_graph.specs.Fixed.{is_movable}
use Rattle.object_graph.specs.Sites.{no_area}
use Rattle.object_graph.specs.declared.layout.Reserved.{Reserved}
use Rattle.object_graph.specs.declared.layout.Reserved.TheVariants.{Scratchpad, Patch}
use Rattle.object_graph.specs.declared.fault.GraphFault.{GraphFault}
use Rattle.object_graph.specs.declared.fault.GraphFault.TheVariants.{SpmOverlap, PatchOverlap, PatchFar, SpmOverlapsPatch, SpmAtZero, NoArea, TooManyObjects}

-- a count, or the greatest 32-bit number where it is more
abbrev pub capped : ℕ → ℕ
capped n = min n 4294967295

-- a segment's memory meets a range
abbrev pub segment_overlaps : PlainSegment → Range → Bool
segment_overlaps s r = ranges_overlap s.vaddr s.memsz r.base r.size

-- no segment meets the scratchpad, and none the patch range
abbrev pub spm_overlap_fault : PlainView → Board → ℕ → Option GraphFault
spm_overlap_fault v board g =
    unless (not (segment_overlaps (segment_at v g) board.spm)) (SpmOverlap (segment_at v g).index)

abbrev pub patch_overlap_fault : PlainView → Board → ℕ → Option GraphFault
patch_overlap_fault v board g =
    unless (not (segment_overlaps (segment_at v g) board.patch)) (PatchOverlap (segment_at v g).index)

-- segment `g` meets a reserved range
abbrev pub overlap_fault : Reserved → PlainView → Board → ℕ → Option GraphFault
overlap_fault Scratchpad = spm_overlap_fault
overlap_fault Patch = patch_overlap_fault

-- section `k` is a code range with at least a byte
abbrev pub has_code : PlainView → ℕ → Bool
has_code v k = is_code_range v k && nat_lt 0 (section_at v k).size

-- the least address of the patch range and of the code of the first n sections, and the one behind the
-- greatest
abbrev pub least_below : PlainView → Board → ℕ → ℕ
least_below v board zero = board.patch.base
least_below v board (suc k) =
    if has_code v k then min (least_below v board k) (section_at v k).addr else least_below v board k

abbrev pub greatest_below : PlainView → Board → ℕ → ℕ
greatest_below v board zero = board.patch.base + board.patch.size
greatest_below v board (suc k) =
    if has_code v k then max (greatest_below v board k) ((section_at v k).addr + (section_at v k).size)
    else greatest_below v board k

-- they span at most 2 ^ 20 bytes, which a JAL reaches
abbrev pub span_of : PlainView → Board → ℕ
span_of v board = greatest_below v board (length v.sections) - least_below v board (length v.sections)

abbrev pub patch_far_fault : PlainView → Board → Option GraphFault
patch_far_fault v board = unless (nat_le (span_of v board) 1048576) (PatchFar (capped (span_of v board)))

-- the scratchpad and the patch range are disjoint, and the scratchpad does not begin below address 16
abbrev pub spm_overlaps_patch_fault : Board → Option GraphFault
spm_overlaps_patch_fault board =
    unless (not (ranges_overlap board.spm.base board.spm.size board.patch.base board.patch.size)) SpmOverlapsPatch

abbrev pub spm_at_zero_fault : Board → Option GraphFault
spm_at_zero_fault board = unless (nat_le 16 board.spm.base) SpmAtZero

-- a segment lies in a range, and in area `k` of the board
abbrev pub segment_lies_in : PlainSegment → Range → Bool
segment_lies_in s r = lies_in r.base r.size s.vaddr s.memsz

abbrev pub lies_in_area : Board → PlainSegment → ℕ → Bool
lies_in_area board s k = segment_lies_in s (slice_index_or board.areas.items k no_area)

-- each segment that has memory lies in main or in one area
abbrev pub no_area_fault : PlainView → Board → ℕ → Option GraphFault
no_area_fault v board g =
    unless (((segment_at v g).memsz == 0)
    || segment_lies_in (segment_at v g) board.main
    || any_below (lies_in_area board (segment_at v g)) (length board.areas.items)) (NoArea (segment_at v g).index)

-- symbol `j` is of the same range as symbol `k`
abbrev pub same_range : PlainView → ℕ → ℕ → Bool
same_range v k j =
    has_range v (symbol_at v j)
    && ((symbol_at v j).value == (symbol_at v k).value)
    && ((symbol_at v j).size == (symbol_at v k).size)

-- symbol `k` is the first of an object that may move
abbrev pub names_object : PlainView → Board → ℕ → Bool
names_object v board k =
    has_range v (symbol_at v k)
    && is_movable v board (symbol_at v k).value (symbol_at v k).size
    && not (any_below (same_range v k) k)

-- how many objects may move, of those that the first n symbols name
abbrev pub objects_below : PlainView → Board → ℕ → ℕ
objects_below v board zero = 0
objects_below v board (suc k) =
    if names_object v board k then objects_below v board k + 1 else objects_below v board k

abbrev pub too_many_fault : PlainView → Board → Option GraphFault
too_many_fault v board =
    unless (nat_le (objects_below v board (length v.symbols)) 4096)
    (TooManyObjects (capped (objects_below v board (length v.symbols))))

-- the first check that fails of those of where the ranges lie
abbrev pub places_fault : PlainView → Board → Option GraphFault
places_fault v board =
    first_below (spm_overlap_fault v board) (length v.segments)
    or_else first_below (patch_overlap_fault v board) (length v.segments)
    or_else patch_far_fault v board
    or_else spm_overlaps_patch_fault board
    or_else spm_at_zero_fault board
    or_else first_below (no_area_fault v board) (length v.segments)

-- the first check that fails
abbrev pub layout_fault : PlainView → Board → Option GraphFault
layout_fault v board = places_fault v board or_else too_many_fault v board
