use Rattle.std.proofs.Common.{◌≡◌, drop, map}
use Rattle.elf_reader.specs.File.{plain_segment, segments_of}
use Rattle.hex_image.specs.Runs.{file_map}
use Rattle.hex_image.proofs.comparing.file_byte.Given as goal

-- the segments that are left give the byte
abbrev pub invariant-loop-segment : goal.invariant-loop-segment
invariant-loop-segment l = file_map (map plain_segment (drop l.segment-index l.view.segments.items)) l.address ≡ file_map (segments_of l.view) l.address
