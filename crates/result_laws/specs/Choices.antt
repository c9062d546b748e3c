-- What is asked of a programme and a choice that are realised: rows, weights and variables are those of a program on a board.
use Rattle.std.specs.Prelude.{◌≡◌, ◌≢◌, ℕ, zero, suc, ◌<◌, ◌≤◌, Bool, true, false, not, if◌then◌else◌, List, [], ◌∷◌, ◌++◌, length, map, IsSomeAnd, All, Contains}
use Rattle.std.specs.List.{AllPairs, filter}
use Rattle.board_config.specs.declared.board.Board.{Board}
use Rattle.object_graph.specs.declared.parts.Graph.{Graph}
use Rattle.placement_programme.specs.Plain.{PlainProgramme, PlainChoice, PlainSide, PlainVar}
use Rattle.placement_programme.specs.Programme.{side_for, IsFeasible}
use Rattle.placement_programme.specs.Rows.{Layout, Datum, Part, Candidate, static_data, static_code, overlay_data, overlay_code, kept_data, name_of, pairs_of, fixed_bytes, capacities, weights, IsOfSide}
use Rattle.cell_values.specs.Objects.{datum_of, layout_with}
use Rattle.code_blocks.specs.declared.parts.Code.{Code}
use Rattle.dataflow.specs.Live.{LiveAt}
use Rattle.dataflow.specs.Overlaid.{region_in, is_border, MayBeOverlaid}
use Rattle.region_former.specs.declared.table.RegionTable.{RegionTable}
use Rattle.block_splitter.specs.declared.piece.Piece.{Piece}
use Rattle.block_splitter.specs.Forms.{holds_block, body_at, is_site, kind_of, displaced_size}
use Rattle.block_splitter.specs.Pieces.{range_of}

-- ---- rows

-- the words of the displaced first unit of block `b`, and of those of the first blocks by which control enters a region
abbrev pub displaced_at : Graph → Code → ℕ → ℕ
displaced_at g c b = displaced_size (kind_of (is_site g) (body_at c.blocks.items b) 0)

abbrev pub border_words : Graph → Code → List Bool → ℕ → List ℕ
border_words g c borders zero = []
border_words g c borders (suc n) =
    border_words g c borders n ++ (if is_border borders n then displaced_at g c n ∷ [] else [])

-- what the rows and weights of a side depend on. Without overlay there is no region
abbrev pub side_layout : Bool → Board → Graph → Code → RegionTable → Layout
side_layout false board g c t = layout_with board g (length c.blocks.items) 0
side_layout true board g c t =
    record (layout_with board g (length c.blocks.items) t.count) {
      displaced = border_words g c t.border.items (length c.blocks.items);
    }

-- ---- variables

-- an object of the graph, as the rows see it
abbrev pub IsDatumFor : Graph → Datum → Type 0
IsDatumFor g d = (d.number < length g.objects.items) × (d ≡ datum_of g d.number)

-- a part tells the blocks, the copied bytes and the entries of a piece: how many are no borders, and the displaced words of
-- those that are
pub record IsPartFor (g : Graph) (c : Code) (borders : List Bool) (piece : Piece) (part : Part) : Type 0 where
  pub first : part.first ≡ piece.first
  pub last : part.last ≡ piece.last
  pub copied : part.copied ≡ piece.bytes
  pub plain : part.plain_entries ≡ length (filter (λ b. not (is_border borders b)) piece.entries.items)
  pub border : part.border_entries ≡ map (displaced_at g c) (filter (is_border borders) piece.entries.items)

-- it is of one of these pieces, and all blocks of the piece pass a test
pub record IsOfPiece (g : Graph) (c : Code) (t : RegionTable) (pieces : List Piece) (part : Part) (test : ℕ → Type 0) : Type 0 where
  pub piece : Piece
  pub listed : Contains pieces piece
  pub part_is : IsPartFor g c t.border.items piece part
  pub blocks : (b : ℕ) → holds_block b (range_of piece) ≡ true → test b

abbrev pub IsRegionFor : RegionTable → ℕ → Type 0
IsRegionFor t r = (1 ≤ r) × (r ≤ t.count)

abbrev pub MayBeOverlaidBy : Graph → Code → RegionTable → ℕ → Type 0
MayBeOverlaidBy g c t o = MayBeOverlaid (λ b x. LiveAt c x b 0) c g t.of_block.items t.border.items o

-- a candidate is of the program: of an object of the graph, or of a piece of the code. What is overlaid is so in one of its
-- regions: an object that may be, or a piece whose blocks have the region; and objects are kept for pairs of regions
abbrev pub IsCandidateFor : Board → Graph → Code → RegionTable → List Piece → Candidate → Type 0
IsCandidateFor board g c t pieces (static_data d) = IsDatumFor g d
IsCandidateFor board g c t pieces (static_code part) = IsOfPiece g c t pieces part (λ b. Unit {0})
IsCandidateFor board g c t pieces (overlay_data r d) = IsRegionFor t r × (IsDatumFor g d × MayBeOverlaidBy g c t d.number)
IsCandidateFor board g c t pieces (overlay_code r part) =
    IsRegionFor t r × IsOfPiece g c t pieces part (λ b. region_in t.of_block.items b ≡ r)
IsCandidateFor board g c t pieces (kept_data pair d) =
    (1 ≤ pair) × ((pair ≤ pairs_of board.twins t.count) × (IsDatumFor g d × MayBeOverlaidBy g c t d.number))

-- a variable has the name and the weights of such a candidate
pub record IsVarFor (on : Bool) (board : Board) (g : Graph) (c : Code) (t : RegionTable) (pieces : List Piece) (v : PlainVar) : Type 0 where
  pub candidate : Candidate
  pub name : v.name ≡ name_of candidate
  pub side : IsOfSide on candidate
  pub weights : v.weights ≡ weights on (side_layout on board g c t) candidate
  pub is : IsCandidateFor board g c t pieces candidate

-- ---- sides and choices

-- A side has the rows of the program on the board, and its variables are different ones of it. Gains and the fixed cost may
-- be any. With overlay the patch range has room for what no variable changes.
pub record IsSideFor (on : Bool) (board : Board) (g : Graph) (c : Code) (t : RegionTable) (pieces : List Piece) (side : PlainSide) : Type 0 where
  pub rows : side.rows ≡ capacities on (side_layout on board g c t)
  pub vars : All (IsVarFor on board g c t pieces) side.vars
  pub different : AllPairs (λ v w. v.name ≢ w.name) side.vars
  pub room : on ≡ true → fixed_bytes (side_layout on board g c t) ≤ board.patch.size

-- a feasible choice of such a side
pub record IsChoiceFor (board : Board) (g : Graph) (c : Code) (t : RegionTable) (pieces : List Piece) (p : PlainProgramme) (choice : PlainChoice) : Type 0 where
  pub side : IsSomeAnd (side_for p choice.on) (IsSideFor choice.on board g c t pieces)
  pub feasible : IsFeasible p choice
