-- What is asked of a programme whose choices are laid out: it is made for this graph, board and number of regions.
use Rattle.std.specs.Prelude.{◌≡◌, ◌≢◌, ℕ, ◌<◌, ◌≤◌, Bool, true, false, length, slice_index_or}
use Rattle.std.specs.List.{All, AllPairs}
use Rattle.board_config.specs.declared.board.Board.{Board}
use Rattle.object_graph.specs.declared.parts.Graph.{Graph}
use Rattle.cell_values.specs.Objects.{datum_of}
use Rattle.placement_programme.specs.Plain.{PlainVar, PlainSide}
use Rattle.placement_programme.specs.Programme.{weight_in}
use Rattle.placement_programme.specs.Rows.{Layout, Datum, Candidate, static_data, static_code, overlay_data, overlay_code, kept_data, name_of, space_row, off_space_row, object_row, weights, IsOfSide, IsRegionOf, IsPairOf}

-- ---- the rows of places

-- the rows of the scratchpad; and on the on side those of an object in a region
abbrev pub IsSpaceRow : Bool → Layout → ℕ → Type 0
IsSpaceRow false l row = row ≡ off_space_row
IsSpaceRow true l row = (r : ℕ) × ((r ≤ l.regions) × (row ≡ space_row r))

abbrev pub IsObjectRow : Bool → Layout → ℕ → Type 0
IsObjectRow false l row = ⊥
IsObjectRow true l row = (o : ℕ) × ((r : ℕ) × ((o < l.objects) × IsRegionOf l r × (row ≡ object_row l o r)))

-- ---- the variables

abbrev pub IsDatumOf : Graph → Layout → Datum → Type 0
IsDatumOf g l d = (d.number < l.objects) × (d ≡ datum_of g d.number)

-- a candidate is of the graph: its object is one of the graph's, and its region or pair one of the layout's. A piece
-- of code may be any, of any number of bytes
abbrev pub IsOfGraph : Graph → Layout → Candidate → Type 0
IsOfGraph g l (static_data d) = IsDatumOf g l d
IsOfGraph g l (static_code part) = Unit {0}
IsOfGraph g l (overlay_data r d) = IsRegionOf l r × IsDatumOf g l d
IsOfGraph g l (overlay_code r part) = IsRegionOf l r
IsOfGraph g l (kept_data pair d) = IsPairOf l pair × IsDatumOf g l d

-- a variable is that of a candidate of the side, and weighs as much in the rows of places
pub record IsVariableOf (g : Graph) (on : Bool) (l : Layout) (candidate : Candidate) (v : PlainVar) : Type 0 where
  pub name : v.name ≡ name_of candidate
  pub side : IsOfSide on candidate
  pub item : IsOfGraph g l candidate
  pub space : (row : ℕ) → IsSpaceRow on l row → weight_in v.weights row ≡ weight_in (weights on l candidate) row
  pub objects : (row : ℕ) → IsObjectRow on l row → weight_in v.weights row ≡ weight_in (weights on l candidate) row

abbrev pub IsVariable : Graph → Bool → Layout → PlainVar → Type 0
IsVariable g on l v = (candidate : Candidate) × IsVariableOf g on l candidate v

-- ---- the side

-- what its rows and weights depend on is of this graph, this board, and this number of regions. How many blocks there
-- are, what the patch range has, and whether objects may be kept for pairs, may be any
pub record IsLayoutOf (g : Graph) (regions : ℕ) (board : Board) (l : Layout) : Type 0 where
  pub scratchpad : l.scratchpad ≡ board.spm.size
  pub objects : l.objects ≡ length g.objects.items
  pub region_count : l.regions ≡ regions
  pub grain : l.grain ≡ g.grain

-- a side has the row, and the row can hold so much
abbrev pub HoldsIn : PlainSide → ℕ → ℕ → Type 0
HoldsIn side row most = (row < length side.rows) × (slice_index_or side.rows row 0 ≡ most)

-- rows of the scratchpad hold its bytes, and each object stands in one place in each region
pub record HasSpace (g : Graph) (on : Bool) (l : Layout) (side : PlainSide) : Type 0 where
  pub space : (row : ℕ) → IsSpaceRow on l row → HoldsIn side row l.scratchpad
  pub objects : (row : ℕ) → IsObjectRow on l row → HoldsIn side row 1
  pub variables : All (IsVariable g on l) side.vars
  pub different : AllPairs (λ v w. v.name ≢ w.name) side.vars

pub record IsSpaceOf (g : Graph) (regions : ℕ) (board : Board) (on : Bool) (side : PlainSide) : Type 0 where
  pub layout : Layout
  pub is : IsLayoutOf g regions board layout
  pub has : HasSpace g on layout side
