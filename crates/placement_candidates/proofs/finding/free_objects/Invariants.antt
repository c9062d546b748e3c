use Rattle.std.proofs.Common.{ℕ, List}
use Rattle.rv32im.specs.declared.instructions.RegSet.{RegSet}
use Rattle.object_graph.specs.declared.parts.Graph.{Graph}
use Rattle.code_blocks.specs.declared.parts.Code.{Code}
use Rattle.dataflow.specs.Exposed.{AreExposed}
use Rattle.placement_candidates.specs.Found.{AreSited, AreFree}
use Rattle.placement_candidates.proofs.finding.free_objects.Given as goal

abbrev pub invariant-loop-object : goal.invariant-loop-object
invariant-loop-object l =
    (c : Code) (g : Graph) (regions : List ℕ) (asked : List RegSet) → AreSited c g regions l.sited → AreExposed c g asked l.exposed → AreFree c g regions asked l.object l.free.items
