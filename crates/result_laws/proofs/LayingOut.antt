-- A choice that is realised can be laid out.
use Rattle.std.proofs.Common.{◌≡◌, Bool, true, false, List, Option, Some, None, IsSomeAnd, refl, sym}
use Rattle.board_config.specs.declared.board.Board.{Board}
use Rattle.object_graph.specs.declared.parts.Graph.{Graph}
use Rattle.code_blocks.specs.declared.parts.Code.{Code}
use Rattle.region_former.specs.declared.table.RegionTable.{RegionTable}
use Rattle.block_splitter.specs.declared.piece.Piece.{Piece}
use Rattle.placement_programme.specs.Plain.{PlainVar, PlainSide}
use Rattle.placement_programme.specs.Programme.{side_for}
use Rattle.placement_programme.specs.Rows.{Candidate, static_data, static_code, overlay_data, overlay_code, kept_data, IsOfSide}
use Rattle.relocator.specs.Space.{IsOfGraph, IsLayoutOf, IsSpaceOf}
use Rattle.relocator.specs.Laws.{IsWholeVariable}
use Rattle.relocator.proofs.SpaceLemmas.{whole_side_has_space}
use Rattle.result_laws.specs.Choices.{side_layout, IsCandidateFor, IsVarFor, IsSideFor}
use Rattle.result_laws.specs.PlacementLaws.{regions_on, ChoiceLaysOut}

pub layout_is : (on : Bool) (board : Board) (g : Graph) (c : Code) (t : RegionTable) → g.grain ≡ board.grain → IsLayoutOf g (regions_on on t) board (side_layout on board g c t)
layout_is false board g c t grain = record { scratchpad = refl; objects = refl; region_count = refl; grain = sym grain }
layout_is true board g c t grain = record { scratchpad = refl; objects = refl; region_count = refl; grain = sym grain }

of_graph : (on : Bool) (board : Board) (g : Graph) (c : Code) (t : RegionTable) (pieces : List Piece) (d : Candidate) → IsOfSide on d → IsCandidateFor board g c t pieces d → IsOfGraph g (side_layout on board g c t) d
of_graph false board g c t pieces (static_data d) side is = is
of_graph false board g c t pieces (static_code part) side is = tt
of_graph false board g c t pieces (overlay_data r d) side is = absurd side
of_graph false board g c t pieces (overlay_code r part) side is = absurd side
of_graph false board g c t pieces (kept_data pair d) side is = absurd side
of_graph true board g c t pieces (static_data d) side is = is
of_graph true board g c t pieces (static_code part) side is = tt
of_graph true board g c t pieces (overlay_data r d) side is = (is.0, is.1.0)
of_graph true board g c t pieces (overlay_code r part) side is = is.0
of_graph true board g c t pieces (kept_data pair d) side is = ((is.0, is.1.0), is.1.1.0)

whole_var : (on : Bool) (board : Board) (g : Graph) (c : Code) (t : RegionTable) (pieces : List Piece) (v : PlainVar) → IsVarFor on board g c t pieces v → (d : Candidate) × IsWholeVariable g on (side_layout on board g c t) d v
whole_var on board g c t pieces v is = (
  is.candidate,
  record {
    name = is.name;
    side = is.side;
    item = of_graph on board g c t pieces is.candidate is.side is.is;
    weights = is.weights;
  },
)

side_space : (on : Bool) (board : Board) (g : Graph) (c : Code) (t : RegionTable) (pieces : List Piece) (side : PlainSide) → g.grain ≡ board.grain → IsSideFor on board g c t pieces side → IsSpaceOf g (regions_on on t) board on side
side_space on board g c t pieces side grain is =
    whole_side_has_space g (regions_on on t) board on (side_layout on board g c t) side (layout_is on board g c t grain) is.rows
    (λ k d below. whole_var on board g c t pieces _ (is.vars k d below)) is.different

some_space : (on : Bool) (board : Board) (g : Graph) (c : Code) (t : RegionTable) (pieces : List Piece) (s : Option PlainSide) → g.grain ≡ board.grain → IsSomeAnd s (IsSideFor on board g c t pieces) → IsSomeAnd s (λ side. IsSpaceOf g (regions_on on t) board on side)
some_space on board g c t pieces None grain is = absurd is
some_space on board g c t pieces (Some side) grain is = side_space on board g c t pieces side grain is

pub choice_lays_out : ChoiceLaysOut
choice_lays_out board g c t pieces p choice grain is =
    record { feasible = is.feasible; space = some_space choice.on board g c t pieces (side_for p choice.on) grain is.side }
