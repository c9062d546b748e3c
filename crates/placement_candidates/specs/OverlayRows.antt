-- What the rows with overlay depend on, and what items weigh, as it is counted.
use Rattle.std.specs.Prelude.{◌≡◌, ℕ, ◌+◌, ◌^◌, ◌<◌, ◌≤◌, false, List, [], ◌∷◌, ◌++◌}
use Rattle.placement_programme.specs.Rows.{Layout, Datum, Part, Candidate, name_of, data_span, code_span, on_code_bytes, in_rows, on_weights}
use Rattle.placement_candidates.specs.declared.overlay_rows.OverlayRows.{OverlayRows}
use Rattle.placement_candidates.specs.declared.overlay_rows.RowDatum.{RowDatum}
use Rattle.placement_candidates.specs.declared.overlay_rows.RowPart.{RowPart}
use Rattle.placement_candidates.specs.declared.overlay_rows.RowItem.{RowItem}

-- a layout with the rows of these; weights depend on no more of it
abbrev pub rows_layout : OverlayRows → Layout
rows_layout rows =
    record {
      scratchpad = 0;
      patch = 0;
      fence_i = false;
      twins = false;
      blocks = rows.blocks;
      objects = 0;
      regions = rows.regions;
      displaced = [];
      grain = rows.grain;
    }

-- rows are numbered below 2 ^ 17
pub record IsSmall (rows : OverlayRows) : Type 0 where
  pub regions : rows.regions ≤ 8
  pub blocks : rows.blocks ≤ 65536

-- what an item weighs
abbrev pub weights_of : OverlayRows → RowItem → List (ℕ × ℕ)
weights_of rows item =
    in_rows item.region item.regions item.span ++ (rows.regions + 1, item.patch) ∷ [] ++ in_rows item.row item.rows 1

-- an object and a piece as they are of a candidate
pub record IsDatum (rows : OverlayRows) (datum : RowDatum) (d : Datum) : Type 0 where
  pub number : d.number ≡ datum.number
  pub span : data_span rows.grain d ≡ datum.span
  pub writable : d.writable ≡ datum.writable

pub record IsPart (rows : OverlayRows) (part : RowPart) (c : Part) : Type 0 where
  pub first : c.first ≡ part.first
  pub last : c.last ≡ part.last
  pub span : code_span rows.grain c ≡ part.span
  pub patch : on_code_bytes c ≡ part.patch

-- an item is a candidate: by name and by weights, which stand in few rows
pub record IsItem (rows : OverlayRows) (item : RowItem) (candidate : Candidate) : Type 0 where
  pub name : item.name ≡ name_of candidate
  pub weights : weights_of rows item ≡ on_weights (rows_layout rows) candidate

pub record IsCandidate {A : Type 0} (rows : OverlayRows) (item : RowItem) (Is : A → Type 0) (candidate : A → Candidate) : Type 0 where
  pub is : (a : A) → Is a → IsItem rows item (candidate a)
  pub space : item.region + item.regions < 2 ^ 32
  pub own : item.row + item.rows < 2 ^ 32
