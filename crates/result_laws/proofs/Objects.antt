-- Where the objects of a graph may stand: at home.
use Rattle.std.proofs.Common.{refl}
use Rattle.elf_reader.specs.File.{PlainView}
use Rattle.board_config.specs.declared.board.Board.{Board}
use Rattle.object_graph.specs.Graphs.{IsObjects}
use Rattle.object_graph.specs.declared.parts.Graph.{Graph}
use Rattle.cell_values.specs.Objects.{IsGrain, objects_of}
use Rattle.cell_values.proofs.GraphObjects.{object_extends, objects_differ}
use Rattle.cell_values.specs.Stands.{Fit}

-- so their homes are places at which they may stand
pub homes_fit : (v : PlainView) (board : Board) (g : Graph) → IsObjects v board g.objects.items → IsGrain g.grain → Fit (objects_of g) (objects_of g).home
homes_fit v board g is grain =
    record {
      grain = grain;
      congruent = λ o. refl;
      positive = λ o. (object_extends v board g o is).placed;
      below = λ o. (object_extends v board g o is).ends;
      disjoint = λ o p i j other inside inside_other same. objects_differ v board g o p i j is other inside inside_other same;
    }
