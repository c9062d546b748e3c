-- The candidates of both sides are of the layout, and without overlay they are those that are taken throughout.
use Rattle.std.proofs.Common.{◌≡◌, ◌∙◌, ℕ, zero, suc, ◌<◌, false, List, [], ◌∷◌, ◌++◌, map, length, refl, sym, ap}
use Rattle.std.specs.List.{All}
use Rattle.std.proofs.lemmas.List.{map-append}
use Rattle.std.proofs.lemmas.List.Elements.{All-nil, All-cons, All-append, All-map}
use Rattle.board_config.specs.declared.board.Board.{Board}
use Rattle.object_graph.specs.declared.parts.Graph.{Graph}
use Rattle.code_blocks.specs.declared.parts.Code.{Code}
use Rattle.region_former.specs.declared.table.RegionTable.{RegionTable}
use Rattle.placement_programme.specs.Plain.{PlainFullVar}
use Rattle.placement_programme.specs.Rows.{Layout, Candidate, static_data, static_code, name_of, off_weights, IsOfSide, IsPartOf, IsCandidateOf}
use Rattle.profile_runner.specs.Transition.{Transition}
use Rattle.block_splitter.specs.declared.piece.Piece.{Piece}
use Rattle.cell_values.specs.Objects.{datum_of}
use Rattle.energy_model.specs.Energy.{Scene}
use Rattle.energy_model.specs.Scenes.{scene_of}
use Rattle.placement_candidates.specs.Stated.{part_of, AreSomePieces, gain_alone, data_var, data_vars, code_var, static_vars}
use Rattle.placement_candidates.specs.Overlaid.{AreOverlaidObjects, static_objects, static_pieces, static_candidates, overlay_candidates, overlay_layout}
use Rattle.placement_candidates.proofs.ChoiceLemmas.{piece_range}
use Rattle.placement_candidates.proofs.EachLemmas.{each_candidate}

module _ (board : Board) (g : Graph) (c : Code) (t : RegionTable) (objects : List ℕ) (pieces : List Piece) (are : AreSomePieces c g pieces) (overlaid : AreOverlaidObjects c g t objects) where
  abbrev w : Scene
  w = scene_of g c t board

  abbrev l : Layout
  l = overlay_layout g c t board

  parts : All (λ p. IsPartOf l (part_of w p)) pieces
  parts j d below = let is = piece_range c g pieces j d are below in (is.ordered, is.below)

  numbers : All (λ o. o < l.objects) objects
  numbers j d below = (overlaid.each j d below).moves

  pub are_of_layout : All (IsCandidateOf l) (static_candidates w pieces ++ overlay_candidates w objects pieces)
  are_of_layout =
      each_candidate (IsCandidateOf l) w objects pieces
      (record {
        object = λ k below. below;
        code = parts;
        region_data = λ r some few j d below. ((some, few), numbers j d below);
        region_code = λ r some few j d below all. ((some, few), parts j d below);
        pair_data = λ pair some few j d below. ((some, few), numbers j d below);
      })

-- ---- the candidates without overlay, and their variables

pub static_sides : (w : Scene) (pieces : List Piece) → All (IsOfSide false) (static_candidates w pieces)
static_sides w pieces =
    All-append (IsOfSide false) (static_objects w.graph (length w.graph.objects.items)) (static_pieces w pieces) (data_sides (length w.graph.objects.items))
    (All-map (IsOfSide false) (λ p. static_code (part_of w p)) pieces (λ i d below. tt))
  where
    data_sides : (n : ℕ) → All (IsOfSide false) (static_objects w.graph n)
    data_sides zero = All-nil (IsOfSide false)
    data_sides (suc n) =
        All-append (IsOfSide false) (static_objects w.graph n) (static_data (datum_of w.graph n) ∷ []) (data_sides n)
        (All-cons (IsOfSide false) (static_data (datum_of w.graph n)) [] tt (All-nil (IsOfSide false)))

-- what a candidate is there
abbrev pub off_var : Scene → Layout → List Transition → Candidate → PlainFullVar
off_var w l ms d = record { name = name_of d; gain = gain_alone w ms (name_of d); weights = off_weights l d }

data_are : (w : Scene) (l : Layout) (ms : List Transition) (n : ℕ) → data_vars w l ms n ≡ map (off_var w l ms) (static_objects w.graph n)
data_are w l ms zero = refl
data_are w l ms (suc n) =
    ap (λ (vs : List PlainFullVar). vs ++ data_var w l ms n ∷ []) (data_are w l ms n)
    ∙ sym (map-append (off_var w l ms) (static_objects w.graph n) (static_data (datum_of w.graph n) ∷ []))

code_are : (w : Scene) (l : Layout) (ms : List Transition) (ps : List Piece) → map (code_var w l ms) ps ≡ map (off_var w l ms) (static_pieces w ps)
code_are w l ms [] = refl
code_are w l ms (p ∷ ps) = ap (λ (vs : List PlainFullVar). code_var w l ms p ∷ vs) (code_are w l ms ps)

pub off_are : (w : Scene) (l : Layout) (ms : List Transition) (pieces : List Piece) → static_vars w l pieces ms ≡ map (off_var w l ms) (static_candidates w pieces)
off_are w l ms pieces =
    let n = length w.graph.objects.items in
    ap (λ (vs : List PlainFullVar). vs ++ map (code_var w l ms) pieces) (data_are w l ms n)
    ∙ (ap (λ (vs : List PlainFullVar). map (off_var w l ms) (static_objects w.graph n) ++ vs) (code_are w l ms pieces)
    ∙ sym (map-append (off_var w l ms) (static_objects w.graph n) (static_pieces w pieces)))
