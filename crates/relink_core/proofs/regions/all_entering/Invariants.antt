use Rattle.relink_core.specs.Planning.{AreLists, lists_entering}
use Rattle.relink_core.proofs.regions.all_entering.Given as goal

abbrev pub invariant-loop-i : goal.invariant-loop-i
invariant-loop-i l = AreLists (lists_entering l.kept l.items l.images) l.i l.lists.items
