use Rattle.std.proofs.Common.{◌≡◌, drop, map}
use Rattle.elf_reader.specs.File.{plain_segment}
use Rattle.elf_reader.specs.Image.{image_of}
use Rattle.flat_machine.proofs.loading.lay_segments.Given as goal

-- the segments from k on were laid
abbrev pub invariant-loop-k : goal.invariant-loop-k
invariant-loop-k g l = g.S.ByteStore.byte_at l.store ≡ image_of (map plain_segment (drop l.k l.segments))
