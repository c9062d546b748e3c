use Rattle.std.proofs.Common.{◌≡◌, map}
use Rattle.elf_reader.specs.File.{plain_segment, segments_below}
use Rattle.elf_reader.proofs.segments.read_segments.Given as goal

abbrev pub invariant-loop-k : goal.invariant-loop-k
invariant-loop-k l = map plain_segment l.segments.items ≡ segments_below l.bytes l.k
