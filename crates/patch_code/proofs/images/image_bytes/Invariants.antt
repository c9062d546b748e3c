use Rattle.std.proofs.Common.{◌≡◌, ◌+◌, map, drop}
use Rattle.patch_code.specs.Layout.{image_bytes}
use Rattle.patch_code.specs.StubPlans.{words_of}
use Rattle.patch_code.proofs.images.image_bytes.Given as goal

abbrev pub invariant-loop-image : goal.invariant-loop-image
invariant-loop-image l =
    l.bytes + image_bytes (map words_of (drop l.image-index l.images)) ≡ image_bytes (map words_of l.images)
