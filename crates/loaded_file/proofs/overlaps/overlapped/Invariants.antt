use Rattle.std.proofs.Common.{◌≡◌, map, take}
use Rattle.loaded_file.specs.ByteRanges.{furthest_end_below, overlaps_another}
use Rattle.loaded_file.proofs.overlaps.overlapped.Given as goal

abbrev pub invariant-loop-k : goal.invariant-loop-k
invariant-loop-k l =
    (l.marks.items ≡ map (overlaps_another l.ranges) (take l.k l.ranges)) × (l.furthest_end ≡ furthest_end_below l.ranges l.k)
