use Rattle.std.proofs.Common.{map, take}
use Rattle.elf_reader.specs.File.{plain_view}
use Rattle.code_blocks.specs.Kept.{name_in}
use Rattle.code_blocks.proofs.KeptLemmas.{AreSwept}
use Rattle.code_blocks.proofs.functions_kept.keep_disjoint.Given as goal

abbrev pub invariant-loop-key : goal.invariant-loop-key
invariant-loop-key l =
    AreSwept (plain_view l.view) (map name_in (take l.key-index l.keys)) l.functions.items l.furthest_end
