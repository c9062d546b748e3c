use Rattle.std.proofs.Common.{◌≡◌, map, drop}
use Rattle.elf_reader.specs.File.{plain_segment}
use Rattle.elf_writer.specs.Written.{place_among}
use Rattle.elf_writer.proofs.program_headers.place_of.Given as goal

abbrev pub invariant-loop-segment : goal.invariant-loop-segment
invariant-loop-segment l =
    place_among (map plain_segment (drop l.segment-index l.segments)) l.count l.base
    ≡ place_among (map plain_segment l.segments) l.count l.base
