use Rattle.std.proofs.Common.{◌≡◌, map, take}
use Rattle.elf_reader.specs.File.{plain_view}
use Rattle.relink_core.specs.Making.{patch_of}
use Rattle.relink_core.proofs.patching.patches.Given as goal

abbrev pub invariant-loop-word : goal.invariant-loop-word
invariant-loop-word l = l.patches.items ≡ map (patch_of (plain_view l.view)) (take l.word-index l.words)
