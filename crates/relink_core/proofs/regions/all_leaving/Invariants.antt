use Rattle.relink_core.specs.Planning.{AreLists, lists_leaving}
use Rattle.relink_core.proofs.regions.all_leaving.Given as goal

abbrev pub invariant-loop-i : goal.invariant-loop-i
invariant-loop-i l = AreLists (lists_leaving l.kept l.items) l.i l.lists.items
