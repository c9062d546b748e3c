-- Values and cells that name objects of a graph alone: that they do has at most one proof.
use Rattle.std.specs.Prelude.{◌≡◌, ℕ, ◌<◌, length}
use Rattle.std.specs.Coded.{Unit-prop, le_prop}
use Rattle.object_graph.specs.declared.parts.Graph.{Graph}
use Rattle.cell_values.specs.declared.values.Val.{Val}
use Rattle.cell_values.specs.declared.values.Val.TheVariants.{Int, Addr, Hi, Low, Piece, Unknown}
use Rattle.cell_values.specs.declared.values.Cell.{Cell}
use Rattle.cell_values.specs.declared.values.Cell.TheVariants.{Byte, Part, Mist}
use Rattle.cell_values.specs.Objects.{IsOfGraph}
use Rattle.cell_values.specs.Cells.{IsCellOfGraph}

pub value_prop : (g : Graph) (v : Val) → IsProp (IsOfGraph g v)
value_prop g (Int n) = Unit-prop
value_prop g (Addr o d) = le_prop
value_prop g (Hi o d) = le_prop
value_prop g (Low n) = Unit-prop
value_prop g (Piece hi o d k) = le_prop
value_prop g Unknown = Unit-prop

pub cell_prop : (g : Graph) (c : Cell) → IsProp (IsCellOfGraph g c)
cell_prop g (Byte b) = Unit-prop
cell_prop g (Part hi o d k) = le_prop
cell_prop g Mist = Unit-prop

pub values_prop : (g : Graph) (values : ℕ → Val) → IsProp ((k : ℕ) → IsOfGraph g (values k))
values_prop g values = λ a b i k. value_prop g (values k) (a k) (b k) i

pub cells_prop : (g : Graph) (table : ℕ → Cell) → IsProp ((a : ℕ) → IsCellOfGraph g (table a))
cells_prop g table = λ a b i k. cell_prop g (table k) (a k) (b k) i
