use Rattle.std.proofs.Common.{◌≡◌, ℕ, ◌+◌}
use Rattle.elf_reader.specs.File.{segments_of}
use Rattle.hex_image.specs.Runs.{file_map, image_map}
use Rattle.hex_image.specs.Difference.{IsBetween}
use Rattle.hex_image.proofs.comparing.first_off.Given as goal

abbrev pub invariant-loop-offset : goal.invariant-loop-offset
invariant-loop-offset l = (address : ℕ) → IsBetween l.start (l.start + l.offset) address → file_map (segments_of l.view) address ≡ image_map l.image address
