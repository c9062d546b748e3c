use Rattle.std.proofs.Common.{take}
use Rattle.elf_reader.specs.File.{segments_of}
use Rattle.hex_image.specs.Runs.{file_map, image_map, plain_run}
use Rattle.hex_image.specs.Difference.{IsInOne, IsFirstOff}
use Rattle.hex_image.proofs.comparing.first_in_runs.Given as goal

abbrev pub invariant-loop-run : goal.invariant-loop-run
invariant-loop-run l = IsFirstOff (IsInOne plain_run (take l.run-index l.image.runs.items)) (file_map (segments_of l.view)) (image_map l.image) l.first
