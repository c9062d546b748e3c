-- The result that is made for a choice: which file it is, where stands what the choice takes, and by what its units stand.
use Rattle.std.specs.Prelude.{◌≡◌, ◌⊎◌, ℕ, ◌<◌, true, false, List, [], length, map, Option, Some, None}
use Rattle.board_config.specs.declared.board.Board.{Board}
use Rattle.object_graph.specs.declared.parts.Graph.{Graph}
use Rattle.code_blocks.specs.declared.parts.Code.{Code}
use Rattle.region_former.specs.declared.table.RegionTable.{RegionTable}
use Rattle.placement_programme.specs.Plain.{PlainProgramme, PlainChoice}
use Rattle.relink_core.specs.{Padding.{home_of}, Placed.{Taken, taken_of, MovesItems}, Standing.{AreStanding}}
use Rattle.relink_core.specs.{UnitMaps.{regions_named, IsUnitAt, AreUnitsAt}, UnitSets.{CollectedForms, CanCollect}}
use Rattle.relink_core.specs.declared.{analysis.Analysis.{Analysis}, form_sources.FormSources.{FormSources}}
use Rattle.relink_core.specs.declared.realising.{MovedParts.{MovedParts}, Realised.{Realised}}
use Rattle.relink_core.specs.declared.unit_forms.UnitAt.{UnitAt}

-- forms are collected from the code of an analysis, from the names and copies of a result, and from these parts
pub record AreFormsOf (a : Analysis) (r : Realised) (m : MovedParts) (w : FormSources) : Type 0 where
  pub code : w.source.now.code.now ≡ a.code
  pub live : w.source.now.live.now ≡ a.live
  pub graph : w.source.now.graph.now ≡ a.graph
  pub pieces : w.source.now.pieces.now ≡ a.pieces.items
  pub sites : w.source.now.sites.now ≡ m.sites.items
  pub homes : w.homes.now ≡ map home_of m.stubs.items
  pub copies : w.copies.now ≡ r.copies.items
  pub regions : w.regions.now ≡ regions_named r.names.items
  pub stubs : w.stubs.now ≡ m.stubs.items
  pub stub_at : w.stub_at.now ≡ m.stub_at.items

-- items stand in the scratchpad in a result, and its units stand in the forms that are collected from some sources
pub record MovesWithForms (file : List ℕ) (board : Board) (g : Graph) (c : Code) (t : RegionTable) (taken : Taken) (out : List ℕ) (IsFrom : FormSources → Type 0) : Type 0 where
  pub moved : MovesItems file board g c t taken out
  pub can : (w : FormSources) → IsFrom w → CanCollect w
  pub forms : (w : FormSources) (units : List UnitAt) → IsFrom w → AreUnitsAt (CollectedForms w) units
      → AreUnitsAt (IsUnitAt board c g moved.pl moved.shows.plan) units

-- where nothing is taken and nothing is overlaid, the result is the file, and has no parts
abbrev pub MadeForms : List ℕ → Board → Analysis → Taken → Realised → Option MovedParts → Type 0
MadeForms file board a taken r None = (taken.on ≡ false) × (taken.items ≡ []) × (r.bytes.items ≡ file)
MadeForms file board a taken r (Some m) =
    ((taken.on ≡ true) ⊎ (0 < length taken.items))
    × MovesWithForms file board a.graph a.code a.regions taken r.bytes.items (AreFormsOf a r m)

pub record IsMadeFor (file : List ℕ) (board : Board) (a : Analysis) (p : PlainProgramme) (choice : PlainChoice) (r : Realised) : Type 0 where
  pub forms : MadeForms file board a (taken_of p choice) r r.moved
  pub stands : AreStanding board a.graph a.code a.regions p choice r.names.items r.copies.items r.places
