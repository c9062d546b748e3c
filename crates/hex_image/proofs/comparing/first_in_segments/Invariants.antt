use Rattle.std.proofs.Common.{take}
use Rattle.elf_reader.specs.File.{segments_of}
use Rattle.hex_image.specs.Runs.{file_map, image_map}
use Rattle.hex_image.specs.Difference.{IsInOne, IsFirstOff, view_run}
use Rattle.hex_image.proofs.comparing.first_in_segments.Given as goal

abbrev pub invariant-loop-segment : goal.invariant-loop-segment
invariant-loop-segment l = IsFirstOff (IsInOne view_run (take l.segment-index l.view.segments.items)) (file_map (segments_of l.view)) (image_map l.image) l.first
