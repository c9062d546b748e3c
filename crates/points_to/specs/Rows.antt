-- Sets of places, and tables that tell for each register to which places the units of a block lead from it.
use Rattle.std.specs.Prelude.{◌≡◌, ◌↔◌, ℕ, ◌<◌, List, length, slice_index_or}
use Rattle.std.specs.Int.{bit_at}
use Rattle.object_graph.specs.declared.parts.Site.{Site}
use Rattle.code_blocks.specs.declared.parts.Unit.{Unit}
use Rattle.dataflow.specs.Points.{IsHolder}
use Rattle.dataflow.specs.Flows.{Leads}
use Rattle.points_to.specs.declared.flows.Places.{Places}

-- a set of places has place `y`
abbrev pub Has : Places → ℕ → Type 0
Has ps y = bit_at ps.bits y ≡ 1

abbrev pub no_places : Places
no_places = record { bits = 0 }

-- row `x` of a table
abbrev pub row : List Places → ℕ → Places
row rows x = slice_index_or rows x no_places

-- for each register the places to which these units lead from it
pub record AreRows (sites : List Site) (us : List Unit) (rows : List Places) : Type 0 where
  pub whole : length rows ≡ 32
  pub exact : (x y : ℕ) → IsHolder x → y < 32 → Has (row rows x) y ↔ Leads sites us x y
