use Rattle.std.proofs.Common.{◌≡◌, map, drop}
use Rattle.elf_reader.specs.File.{plain_segment}
use Rattle.relink_core.specs.Making.{place_in}
use Rattle.relink_core.proofs.patching.place_in.Given as goal

abbrev pub invariant-loop-segment : goal.invariant-loop-segment
invariant-loop-segment l =
    place_in (map plain_segment (drop l.segment-index l.segments)) l.address
    ≡ place_in (map plain_segment l.segments) l.address
