-- The programme that a run states, with all that may be taken, also where it gains nothing.
use Rattle.std.specs.Prelude.{◌≡◌, ℕ, zero, suc, ◌^◌, ◌<◌, ℤ, unsigned_abs, pos, ◌-ℤ◌, Bool, false, not, List, [], ◌∷◌, ◌++◌, map, length, slice_index_or, None}
use Rattle.std.specs.List.{All, AllPairs, filter, sum_by}
use Rattle.object_graph.specs.declared.parts.Graph.{Graph}
use Rattle.code_blocks.specs.declared.parts.Code.{Code}
use Rattle.profile_runner.specs.Transition.{Transition}
use Rattle.placement_programme.specs.declared.variables.VarName.{VarName}
use Rattle.placement_programme.specs.declared.variables.VarName.TheVariants.{StaticData, StaticCode}
use Rattle.placement_programme.specs.Plain.{PlainFullVar, PlainFullSide, PlainFull}
use Rattle.placement_programme.specs.Rows.{Layout, Part, static_data, static_code, off_capacities, off_weights}
use Rattle.block_splitter.specs.declared.piece.Piece.{Piece}
use Rattle.block_splitter.specs.Forms.{is_site, kind_of, displaced_size}
use Rattle.block_splitter.specs.Pieces.{range_of, IsPiece, ComesBefore}
use Rattle.cell_values.specs.Objects.{datum_of}
use Rattle.energy_model.specs.Energy.{nothing_taken, Scene, Taken, block_in, stub_energy, steps_energy, side_energy}

-- ---- variables

-- one item is taken alone, without overlay
abbrev pub taken_alone : VarName → Taken
taken_alone name = record { on = false; names = name ∷ [] }

-- what an item saves: the energy of the side with nothing taken, less that with this item alone
abbrev pub gain_alone : Scene → List Transition → VarName → ℤ
gain_alone w transitions name =
    pos (side_energy w nothing_taken transitions) -ℤ pos (side_energy w (taken_alone name) transitions)

-- the variable of object `k` where nothing is overlaid
abbrev pub data_var : Scene → Layout → List Transition → ℕ → PlainFullVar
data_var w l transitions k =
    record {
      name = StaticData k;
      gain = gain_alone w transitions (StaticData k);
      weights = off_weights l (static_data (datum_of w.graph k));
    }

-- those of the first objects, which stand by home
abbrev pub data_vars : Scene → Layout → List Transition → ℕ → List PlainFullVar
data_vars w l transitions zero = []
data_vars w l transitions (suc n) = data_vars w l transitions n ++ data_var w l transitions n ∷ []

-- ---- pieces of code

-- control enters the region of block `b` there
abbrev pub is_border : Scene → ℕ → Bool
is_border w b = slice_index_or w.borders b false

-- the words of the first unit of block `b`, displaced
abbrev pub displaced_at : Scene → ℕ → ℕ
displaced_at w b = displaced_size (kind_of (is_site w.graph) (block_in w b) 0)

-- a piece as the rows see it
abbrev pub part_of : Scene → Piece → Part
part_of w p =
    record {
      first = p.first;
      last = p.last;
      copied = p.bytes;
      plain_entries = length (filter (λ b. not (is_border w b)) p.entries.items);
      border_entries = map (displaced_at w) (filter (is_border w) p.entries.items);
    }

-- its variable where nothing is overlaid
abbrev pub code_var : Scene → Layout → List Transition → Piece → PlainFullVar
code_var w l transitions p =
    record {
      name = StaticCode p.first p.last;
      gain = gain_alone w transitions (StaticCode p.first p.last);
      weights = off_weights l (static_code (part_of w p));
    }

-- pieces of a program, each once and in order: all of them, or some, or none
pub record AreSomePieces (c : Code) (g : Graph) (pieces : List Piece) : Type 0 where
  pub ordered : AllPairs (λ p q. ComesBefore (range_of p) (range_of q)) pieces
  pub each : All (IsPiece c g) pieces

-- ---- the programme of static items

abbrev pub static_vars : Scene → Layout → List Piece → List Transition → List PlainFullVar
static_vars w l pieces transitions =
    data_vars w l transitions (length w.graph.objects.items) ++ map (code_var w l transitions) pieces

abbrev pub off_side : Scene → Layout → List Piece → List Transition → PlainFullSide
off_side w l pieces transitions =
    record {
      fixed = stub_energy w nothing_taken;
      rows = off_capacities l;
      vars = static_vars w l pieces transitions;
    }

abbrev pub static_full : Scene → Layout → List Piece → List Transition → PlainFull
static_full w l pieces transitions =
    record { base = steps_energy w nothing_taken transitions; off = off_side w l pieces transitions; on = None }

-- the sums of a side are small
pub record IsSmallSide (side : PlainFullSide) : Type 0 where
  pub fixed : side.fixed < 2 ^ 90
  pub gains : sum_by (λ v. unsigned_abs v.gain) side.vars < 2 ^ 90

-- a programme is that one; and its sums are small
pub record IsStaticFull (w : Scene) (l : Layout) (pieces : List Piece) (transitions : List Transition) (f : PlainFull) : Type 0 where
  pub is : f ≡ static_full w l pieces transitions
  pub base_small : f.base < 2 ^ 90
  pub off_small : IsSmallSide f.off
