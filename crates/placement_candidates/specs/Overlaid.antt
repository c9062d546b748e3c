-- The programme with overlay that a run states: what may be taken for a region or for a pair of them, with all that it gains,
-- also where that is nothing.
use Rattle.std.specs.Prelude.{◌≡◌, ℕ, zero, suc, ◌-◌, ◌^◌, ◌<◌, ◌==◌, nat_lt, nat_le, ℤ, pos, ◌-ℤ◌, Bool, true, not, ◌&&◌, if◌then◌else◌, List, [], ◌∷◌, ◌++◌, map, length, Option, Some, None}
use Rattle.std.specs.List.{filter}
use Rattle.board_config.specs.declared.board.Board.{Board}
use Rattle.object_graph.specs.declared.parts.Graph.{Graph}
use Rattle.code_blocks.specs.declared.parts.Code.{Code}
use Rattle.dataflow.specs.Live.{LiveAt}
use Rattle.dataflow.specs.Overlaid.{region_in, AreOverlaid}
use Rattle.region_former.specs.declared.table.RegionTable.{RegionTable}
use Rattle.list_checks.specs.Tests.{any_below}
use Rattle.profile_runner.specs.Transition.{Transition}
use Rattle.placement_programme.specs.declared.variables.VarName.{VarName}
use Rattle.placement_programme.specs.Plain.{PlainFullVar, PlainFullSide, PlainFull}
use Rattle.placement_programme.specs.Rows.{Layout, Candidate, static_data, static_code, overlay_data, overlay_code, kept_data, name_of, pairs_of, fixed_bytes, on_capacities, on_weights}
use Rattle.block_splitter.specs.declared.piece.Piece.{Piece}
use Rattle.block_splitter.specs.Forms.{holds_block}
use Rattle.block_splitter.specs.Pieces.{range_of}
use Rattle.cell_values.specs.Objects.{datum_of}
use Rattle.energy_model.specs.Energy.{nothing_taken, Scene, steps_energy, side_energy}
use Rattle.energy_model.specs.Scenes.{scene_of, layout_of}
use Rattle.energy_model.specs.Together.{taken}
use Rattle.placement_candidates.specs.Stated.{is_border, displaced_at, part_of, off_side, IsSmallSide}

-- ---- what may be taken

-- a register is live where a block begins
abbrev pub Lives : Code → ℕ → ℕ → Type 0
Lives c b x = LiveAt c x b 0

-- these objects may be overlaid, by number
abbrev pub AreOverlaidObjects : Code → Graph → RegionTable → List ℕ → Type 0
AreOverlaidObjects c g t objects = AreOverlaid (Lives c) c g t.of_block.items t.border.items objects

-- all blocks of a piece have region `r`
abbrev pub is_of_region : List ℕ → ℕ → Piece → Bool
is_of_region regions r p =
    not (any_below (λ b. holds_block b (range_of p) && not (region_in regions b == r)) (length regions))

-- ---- variables, in their order

-- the first objects, by home; and pieces
abbrev pub static_objects : Graph → ℕ → List Candidate
static_objects g zero = []
static_objects g (suc n) = static_objects g n ++ static_data (datum_of g n) ∷ []

abbrev pub static_pieces : Scene → List Piece → List Candidate
static_pieces w pieces = map (λ p. static_code (part_of w p)) pieces

-- objects in region `r`, and pieces; and objects for a pair
abbrev pub objects_in : Scene → List ℕ → ℕ → List Candidate
objects_in w objects r = map (λ o. overlay_data r (datum_of w.graph o)) objects

abbrev pub pieces_in : Scene → List Piece → ℕ → List Candidate
pieces_in w pieces r = map (λ p. overlay_code r (part_of w p)) (filter (is_of_region w.regions r) pieces)

abbrev pub objects_of_pair : Scene → List ℕ → ℕ → List Candidate
objects_of_pair w objects pair = map (λ o. kept_data pair (datum_of w.graph o)) objects

-- those of the first regions, and of the first pairs, from 1 on
abbrev pub overlaid_objects : Scene → List ℕ → ℕ → List Candidate
overlaid_objects w objects zero = []
overlaid_objects w objects (suc n) = overlaid_objects w objects n ++ objects_in w objects (suc n)

abbrev pub overlaid_pieces : Scene → List Piece → ℕ → List Candidate
overlaid_pieces w pieces zero = []
overlaid_pieces w pieces (suc n) = overlaid_pieces w pieces n ++ pieces_in w pieces (suc n)

abbrev pub kept_objects : Scene → List ℕ → ℕ → List Candidate
kept_objects w objects zero = []
kept_objects w objects (suc n) = kept_objects w objects n ++ objects_of_pair w objects (suc n)

abbrev pub static_candidates : Scene → List Piece → List Candidate
static_candidates w pieces = static_objects w.graph (length w.graph.objects.items) ++ static_pieces w pieces

abbrev pub overlay_candidates : Scene → List ℕ → List Piece → List Candidate
overlay_candidates w objects pieces =
    overlaid_objects w objects w.region_count ++ overlaid_pieces w pieces w.region_count
    ++ kept_objects w objects (pairs_of w.board.twins w.region_count)

-- ---- the side on which there is overlay

-- what an item saves there: the energy of that side with nothing taken, less that with this item alone
abbrev pub overlay_gain : Scene → List Transition → VarName → ℤ
overlay_gain w transitions name =
    pos (side_energy w (taken true []) transitions) -ℤ pos (side_energy w (taken true (name ∷ [])) transitions)

abbrev pub overlay_var : Scene → Layout → List Transition → Candidate → PlainFullVar
overlay_var w l transitions candidate =
    record {
      name = name_of candidate;
      gain = overlay_gain w transitions (name_of candidate);
      weights = on_weights l candidate;
    }

-- the displaced words of each border entry, of the first blocks; and what the rows depend on with them
abbrev pub displaced_at_border : Scene → ℕ → List ℕ
displaced_at_border w b = if is_border w b then displaced_at w b ∷ [] else []

abbrev pub displaced_below : Scene → ℕ → List ℕ
displaced_below w zero = []
displaced_below w (suc n) = displaced_below w n ++ displaced_at_border w n

abbrev pub overlay_layout : Graph → Code → RegionTable → Board → Layout
overlay_layout g c t board =
    record (layout_of g c t board) {
      displaced = displaced_below (scene_of g c t board) (length c.blocks.items);
    }

-- what it costs: the start stub, and all that overlay costs where nothing is taken
abbrev pub overlay_fixed : Scene → List Transition → ℕ
overlay_fixed w transitions = side_energy w (taken true []) transitions - steps_energy w nothing_taken transitions

abbrev pub on_side : Scene → Layout → List ℕ → List Piece → List Transition → PlainFullSide
on_side w l objects pieces transitions =
    record {
      fixed = overlay_fixed w transitions;
      rows = on_capacities l;
      vars = map (overlay_var w l transitions) (static_candidates w pieces ++ overlay_candidates w objects pieces);
    }

-- there is that side: a region, something that may be overlaid, and room for the patch bytes that no variable changes
abbrev pub has_on_side : Scene → Layout → List ℕ → List Piece → Bool
has_on_side w l objects pieces =
    nat_lt 0 w.region_count && nat_lt 0 (length (overlay_candidates w objects pieces)) && nat_le (fixed_bytes l) l.patch

-- the programme of both sides
abbrev pub whole_full : Scene → Layout → List ℕ → List Piece → List Transition → PlainFull
whole_full w l objects pieces transitions =
    record {
      base = steps_energy w nothing_taken transitions;
      off = off_side w l pieces transitions;
      on = if has_on_side w l objects pieces then Some (on_side w l objects pieces transitions) else None;
    }

-- what that programme says of the side without overlay is what the one of static items says
abbrev pub OffSideStays : Type 0
OffSideStays =
    (g : Graph) (c : Code) (t : RegionTable) (board : Board) (objects : List ℕ) (pieces : List Piece) (transitions : List Transition)
    → (whole_full (scene_of g c t board) (overlay_layout g c t board) objects pieces transitions).off
    ≡ off_side (scene_of g c t board) (layout_of g c t board) pieces transitions

-- the sums of the side with overlay are small, where there is one
abbrev pub IsSmallOn : Option PlainFullSide → Type 0
IsSmallOn None = Unit {0}
IsSmallOn (Some side) = IsSmallSide side

-- a programme is that one; and its sums are small
pub record IsWholeFull (w : Scene) (l : Layout) (objects : List ℕ) (pieces : List Piece) (transitions : List Transition) (f : PlainFull) : Type 0 where
  pub is : f ≡ whole_full w l objects pieces transitions
  pub base_small : f.base < 2 ^ 90
  pub off_small : IsSmallSide f.off
  pub on_small : IsSmallOn f.on
