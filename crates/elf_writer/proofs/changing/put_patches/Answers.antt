use Rattle.std.proofs.Common.{◌∷◌, [], map, refl}
use Rattle.elf_writer.specs.Parts.{patch_change}
use Rattle.elf_writer.proofs.ChangeLemmas.{changes_step, changes_end}
use Rattle.elf_writer.proofs.changing.put_patches.Goals as goal

pub loop-patch-preserved : goal.loop-patch-preserved
loop-patch-preserved c =
    changes_step (λ p. patch_change p ∷ []) (map patch_change) c.args.patches.now c.loop-patch.patch-index _ c.loop-patch.out _ _
    (λ p rest. refl) c.loop-patch-test.true c.put_word.ensures c.loop-patch.invariant

pub returns : goal.returns
returns c =
    changes_end (map patch_change) c.args.patches.now c.loop-patch.patch-index c.loop-patch.out _ refl c.loop-patch-test.false c.loop-patch.invariant
