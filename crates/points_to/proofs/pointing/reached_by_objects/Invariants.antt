use Rattle.std.proofs.Common.{map}
use Rattle.reach_graph.specs.Reaching.{plain_rows}
use Rattle.points_to.specs.Tables.{AreGroups, plain}
use Rattle.points_to.proofs.pointing.reached_by_objects.Given as goal

abbrev pub invariant-loop-j : goal.invariant-loop-j
invariant-loop-j l = AreGroups (plain_rows l.rows) l.nodes.blocks l.nodes.objects l.j (map plain l.groups.items)
