use Rattle.std.proofs.Common.{◌≡◌, ◌+◌, ◌++◌, map, drop}
use Rattle.patch_code.specs.Layout.{image_bytes, image_places}
use Rattle.patch_code.specs.StubPlans.{words_of}
use Rattle.patch_code.proofs.images.image_places.Given as goal

abbrev pub invariant-loop-image : goal.invariant-loop-image
invariant-loop-image l =
    (l.places.items ++ image_places l.at (map words_of (drop l.image-index l.images)) ≡ image_places l.fn.first (map words_of l.images))
    × (l.at + image_bytes (map words_of (drop l.image-index l.images)) ≡ l.fn.first + image_bytes (map words_of l.images))
