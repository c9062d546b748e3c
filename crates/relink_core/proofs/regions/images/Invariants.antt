use Rattle.std.proofs.Common.{◌≡◌, map, take}
use Rattle.patch_code.specs.StubPlans.{words_of}
use Rattle.relink_core.specs.Naming.{copied_words}
use Rattle.relink_core.proofs.regions.images.Given as goal

abbrev pub invariant-loop-k : goal.invariant-loop-k
invariant-loop-k l = map words_of l.images.items ≡ map copied_words (take l.k l.copies)
