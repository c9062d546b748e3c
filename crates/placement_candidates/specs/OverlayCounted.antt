-- The side with overlay, as it is counted from the tables of a profile.
use Rattle.std.specs.Prelude.{◌≡◌, ℕ, ◌+◌, ◌*◌, ◌/◌, ◌^◌, ◌<◌, ◌≤◌, ℤ, unsigned_abs, if◌then◌else◌, Option, Some, None, List, ◌++◌, map, length, slice_index_or}
use Rattle.std.specs.List.{All, sum_by}
use Rattle.object_graph.specs.Lookups.{IsSomeGraph}
use Rattle.dataflow.specs.Overlaid.{region_in}
use Rattle.placement_programme.specs.Rows.{Layout, Candidate, static_data, static_code, overlay_data, overlay_code, kept_data, name_of, on_capacities, on_weights}
use Rattle.placement_programme.specs.Plain.{PlainFullVar, PlainFullSide}
use Rattle.placement_programme.specs.Bounds.{IsWithinFullBounds}
use Rattle.block_splitter.specs.declared.piece.Piece.{Piece}
use Rattle.block_splitter.specs.Forms.{body_at}
use Rattle.placement_candidates.specs.declared.measured.Measured.{Measured}
use Rattle.placement_candidates.specs.declared.overlay_rows.OverlayRows.{OverlayRows}
use Rattle.cell_values.specs.Objects.{object_of}
use Rattle.energy_model.specs.Energy.{Scene, into_price}
use Rattle.energy_model.specs.Priced.{range}
use Rattle.energy_model.specs.Counts.{CountsCode}
use Rattle.energy_model.specs.OverlayCost.{CountsOverlay, overlay_cost}
use Rattle.energy_model.specs.Gains.{overlaid_counts, kept_counts, object_saves, piece_saves}
use Rattle.placement_candidates.specs.Counted.{counted_gain, CountsAccesses, CanCountPiece, stub_price}
use Rattle.energy_model.specs.Scenes.{scene_of}
use Rattle.placement_candidates.specs.Overlaid.{overlay_layout, is_of_region, static_candidates, overlay_candidates, has_on_side}

-- ---- the parts of what was measured

abbrev pub scene_in : Measured → Scene
scene_in m = scene_of m.graph.now m.code.now m.regions.now m.board.now

abbrev pub layout_in : Measured → Layout
layout_in m = overlay_layout m.graph.now m.code.now m.regions.now m.board.now

abbrev pub rows_in : Measured → OverlayRows
rows_in m =
    record { regions = m.regions.now.count; blocks = length m.code.now.blocks.items; grain = m.board.now.grain }

-- ---- conditions

-- a piece has few blocks and entries, and all of them are of the code
pub record CanWeighPiece (m : Measured) (p : Piece) : Type 0 where
  pub count : CanCountPiece m.code.now p
  pub ordered : p.first ≤ p.last
  pub below : p.last < length m.code.now.blocks.items
  pub few : length p.entries.items ≤ 65536
  pub entries : All (λ b. b < length m.code.now.blocks.items) p.entries.items

-- the tables are of this code, with few blocks and objects
pub record CanWeigh (m : Measured) : Type 0 where
  pub graph : IsSomeGraph m.graph.now
  pub filled : (b : ℕ) → b < length m.code.now.blocks.items → 0 < length (body_at m.code.now.blocks.items b).units
  pub regions : length m.regions.now.of_block.items ≡ length m.code.now.blocks.items
  pub blocks : length m.code.now.blocks.items ≤ 65536
  pub objects : length m.graph.now.objects.items ≤ 4096
  pub grain : 0 < m.board.now.grain

pub record CanGain (m : Measured) : Type 0 where
  pub code : CountsCode m.code.now m.graph.now m.profile.now
  pub overlay : CountsOverlay m.code.now m.regions.now m.graph.now m.profile.now
  pub accesses : CountsAccesses m.graph.now m.profile.now

-- ---- the region of a piece: that of all its blocks, and 0 where they have not one

abbrev pub piece_region : List ℕ → Piece → ℕ
piece_region regions p = if is_of_region regions (region_in regions p.first) p then region_in regions p.first else 0

-- ---- variables

-- what a piece saves whose copies cost so much
abbrev pub code_gain_in : Measured → ℕ → ℕ → ℕ → ℤ
code_gain_in m first last copies =
    piece_saves m.code.now m.graph.now m.board.now.prices m.profile.now m.regions.now.border.items (range first last) copies

-- what a candidate saves: an object throughout saves what it does without overlay
abbrev pub gain_in : Measured → Candidate → ℤ
gain_in m (static_data o) = counted_gain m.board.now.prices m.profile.now m.graph.now o.number
gain_in m (static_code p) = code_gain_in m p.first p.last (into_price m.board.now.prices (p.copied / 4))
gain_in m (overlay_data r o) =
    object_saves m.board.now.prices (object_of m.graph.now o.number) (overlaid_counts m.profile.now o.number r)
gain_in m (overlay_code r p) =
    code_gain_in m p.first p.last (slice_index_or m.profile.now.enters.items r 0 * into_price m.board.now.prices (p.copied / 4))
gain_in m (kept_data pair o) =
    object_saves m.board.now.prices (object_of m.graph.now o.number) (kept_counts m.profile.now o.number pair)

abbrev pub on_var : Measured → Candidate → PlainFullVar
on_var m candidate =
    record { name = name_of candidate; gain = gain_in m candidate; weights = on_weights (layout_in m) candidate }

abbrev pub on_vars : Measured → List ℕ → List PlainFullVar
on_vars m objects =
    map (on_var m) (static_candidates (scene_in m) m.pieces.now ++ overlay_candidates (scene_in m) objects m.pieces.now)

-- ---- the side

abbrev pub counted_on_side : Measured → List ℕ → PlainFullSide
counted_on_side m objects =
    record {
      fixed = stub_price m.board.now + overlay_cost m.code.now m.graph.now m.regions.now m.board.now m.profile.now;
      rows = on_capacities (layout_in m);
      vars = on_vars m objects;
    }

-- where there is that side
abbrev pub counted_on : Measured → List ℕ → Option PlainFullSide
counted_on m objects =
    if has_on_side (scene_in m) (layout_in m) objects m.pieces.now then Some (counted_on_side m objects) else None

pub record CanCountOverlay (m : Measured) (objects : List ℕ) : Type 0 where
  pub weigh : CanWeigh m
  pub gain : CanGain m
  pub pieces : All (CanWeighPiece m) m.pieces.now
  pub numbers : All (λ o. o < length m.graph.now.objects.items) objects
  pub gains_small : sum_by (λ v. unsigned_abs v.gain) (on_vars m objects) < 2 ^ 90
  pub side : IsWithinFullBounds (record { fixed = 0; rows = on_capacities (layout_in m); vars = on_vars m objects })
