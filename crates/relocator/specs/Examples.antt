-- The programme of one table: the first object of a graph, and nothing else that may be taken.
use Rattle.std.specs.Prelude.{◌<◌, false, [], ◌∷◌, length}
use Rattle.board_config.specs.declared.board.Board.{Board}
use Rattle.object_graph.specs.declared.parts.Graph.{Graph}
use Rattle.placement_programme.specs.declared.variables.VarName.TheVariants.{StaticData}
use Rattle.placement_programme.specs.Plain.{PlainSide}
use Rattle.placement_programme.specs.Rows.{data_span, job_bytes}
use Rattle.cell_values.specs.Objects.{datum_of}
use Rattle.relocator.specs.Space.{IsSpaceOf}

-- its side without overlay; its gain plays no part
abbrev pub table_side : Graph → Board → PlainSide
table_side g board =
    record {
      fixed = 0;
      rows = board.spm.size ∷ 65452 ∷ [];
      vars =
          record {
            name = StaticData 0;
            gain = 1;
            weights = (0, data_span g.grain (datum_of g 0)) ∷ (1, job_bytes) ∷ [];
          }
          ∷ [];
    }

-- it is made for the graph and the board
abbrev pub TableHasSpace : Type 0
TableHasSpace =
    (g : Graph) (board : Board) → 0 < length g.objects.items → IsSpaceOf g 0 board false (table_side g board)
