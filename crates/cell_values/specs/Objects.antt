-- What the operations on values ask of the objects that may move.
use Rattle.std.specs.Prelude.{◌≡◌, ◌⊎◌, ℕ, ◌%◌, ◌<◌, Bool, false, List, [], length, slice_index_or, Option, Some, None}
use Rattle.rv32im.specs.Words.{plus}
use Rattle.board_config.specs.declared.board.Board.{Board}
use Rattle.object_graph.specs.declared.parts.Object.{Object}
use Rattle.object_graph.specs.declared.parts.Graph.{Graph}
use Rattle.placement_programme.specs.Rows.{Datum, Layout}
use Rattle.cell_values.specs.declared.values.Val.{Val}
use Rattle.cell_values.specs.declared.values.Val.TheVariants.{Int, Addr, Hi, Low, Piece, Unknown}

-- the grain that places keep, and for each number of an object its home, its size, and whether it may be
-- written
pub record Objects : Type 0 where
  pub grain : ℕ
  pub home : ℕ → ℕ
  pub size : ℕ → ℕ
  pub writable : ℕ → Bool

-- a grain is 16, 32 or 64 bytes
abbrev pub IsGrain : ℕ → Type 0
IsGrain g = (g ≡ 16) ⊎ ((g ≡ 32) ⊎ (g ≡ 64))

-- object `o` of a graph; one without bytes behind the last
abbrev pub absent_object : Object
absent_object = record { name = 0; home = 64; size = 0; writable = false }

abbrev pub object_of : Graph → ℕ → Object
object_of g o = slice_index_or g.objects.items o absent_object

-- the same as a datum of a placement programme
abbrev pub datum_of : Graph → ℕ → Datum
datum_of g o =
    record {
      number = o;
      home = (object_of g o).home;
      size = (object_of g o).size;
      writable = (object_of g o).writable;
    }

-- what the rows of a placement depend on, for a program of so many blocks of code and so many regions
abbrev pub layout_with : Board → Graph → ℕ → ℕ → Layout
layout_with board g blocks regions =
    record {
      scratchpad = board.spm.size;
      patch = board.patch.size;
      fence_i = board.fence_i;
      twins = board.twins;
      blocks = blocks;
      objects = length g.objects.items;
      regions = regions;
      displaced = [];
      grain = board.grain;
    }

-- the objects of a graph
abbrev pub objects_of : Graph → Objects
objects_of g =
    record {
      grain = g.grain;
      home = λ o. (object_of g o).home;
      size = λ o. (object_of g o).size;
      writable = λ o. (object_of g o).writable;
    }

-- the objects that a value names are of a graph
abbrev pub IsOfGraph : Graph → Val → Type 0
IsOfGraph g (Int n) = Unit {0}
IsOfGraph g (Addr o d) = o < length g.objects.items
IsOfGraph g (Hi o d) = o < length g.objects.items
IsOfGraph g (Low n) = Unit {0}
IsOfGraph g (Piece hi o d k) = o < length g.objects.items
IsOfGraph g Unknown = Unit {0}

-- the address that a value of object `o` has while the object is at home
abbrev pub home_address : Objects → ℕ → ℕ → ℕ
home_address os o d = plus (os.home o) d

-- what is known of a value modulo the grain: places are the same modulo it as homes. A chunk is an aligned
-- run of grain bytes; the upper part of an address has no low bits
abbrev pub low_of : Objects → Val → Option ℕ
low_of os (Int n) = Some (n % os.grain)
low_of os (Addr o d) = Some (home_address os o d % os.grain)
low_of os (Hi o d) = Some 0
low_of os (Low n) = Some (n % os.grain)
low_of os (Piece hi o d k) = None
low_of os Unknown = None
