use Rattle.std.proofs.Common.{◌≡◌, map, drop}
use Rattle.elf_writer.specs.Changes.{changed}
use Rattle.elf_writer.specs.Parts.{patch_change}
use Rattle.elf_writer.proofs.changing.put_patches.Given as goal

abbrev pub invariant-loop-patch : goal.invariant-loop-patch
invariant-loop-patch l =
    changed (map patch_change (drop l.patch-index l.patches)) 0 l.out ≡ changed (map patch_change l.patches) 0 l.fn.out
