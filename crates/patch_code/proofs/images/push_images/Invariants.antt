use Rattle.std.proofs.Common.{◌≡◌, ◌++◌, map, drop}
use Rattle.std.specs.List.{concat}
use Rattle.patch_code.specs.StubPlans.{words_of}
use Rattle.patch_code.proofs.images.push_images.Given as goal

abbrev pub invariant-loop-image : goal.invariant-loop-image
invariant-loop-image l =
    l.words.items ++ concat (map words_of (drop l.image-index l.images)) ≡ l.fn.words.items ++ concat (map words_of l.images)
