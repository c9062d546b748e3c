-- Where the units of a program stand in a result, and where the flat machine comes to them.
use Rattle.std.specs.Prelude.{◌≡◌, ℕ, ◌+◌, ◌<◌, ◌≤◌, Bool, true, false, List, length, Some, Contains}
use Rattle.object_graph.specs.declared.parts.Graph.{Graph}
use Rattle.code_blocks.specs.declared.parts.Code.{Code}
use Rattle.code_blocks.specs.Numbers.{start_at, end_at}
use Rattle.dataflow.specs.Overlaid.{region_in, is_border}
use Rattle.block_splitter.specs.declared.unit_kind.UnitKind.TheVariants.{Plain}
use Rattle.block_splitter.specs.Forms.{holds_block, is_site, kind_of}
use Rattle.block_splitter.specs.Forms.{body_at as body_of}
use Rattle.block_splitter.specs.Copies.{place_of, address_of, is_inside}
use Rattle.result_laws.specs.CopyLaws.{falls_to, place_behind}
use Rattle.patch_code.specs.Serving.{ServingStub}
use Rattle.patch_code.specs.Overlay.{OverlayPlan}
use Rattle.patch_code.specs.Served.{body_at}
use Rattle.simulation.specs.Setups.{Setup}
use Rattle.simulation.specs.Ways.{Comes}
use Rattle.simulation.specs.Switches.{MayLand}
use Rattle.result_laws.specs.LiveUnits.{StandsThere}
use Rattle.result_laws.specs.Entries.{RunsIn, ComesIn}
use Rattle.result_laws.specs.ChosenPlacement.{ChosenPlacement, piece_of, copy_in}
use Rattle.result_laws.specs.PlacedView.{is_padded, IsUncopied, Serves}

-- where the unit at `u` stands: at home, where no pad is; at its place in the copy of its block; and displaced into the body
-- of its block's stub
pub data StandsAs (c : Code) (g : Graph) (pl : ChosenPlacement) (plan : OverlayPlan) : ℕ → ℕ → Type 0 where
  AtHome : (u b k : ℕ) → StandsThere c u b k → is_padded c pl u ≡ false → StandsAs c g pl plan u u
  InCopy : (u n b k : ℕ) → n < length pl.pieces → holds_block b (piece_of pl n).range ≡ true → StandsThere c u b k
      → StandsAs c g pl plan u (address_of (copy_in c g pl n) (place_of (copy_in c g pl n) b k))
  InStub : (u b : ℕ) (stub : ServingStub) → StandsThere c u b 0 → Contains plan.stubs stub → Serves c g pl (body_at plan stub) b stub
      → IsUncopied pl b → StandsAs c g pl plan u (body_at plan stub)

-- it may run while a region is current: its block has that region or none
pub record MayRun (c : Code) (regions : List ℕ) (current u : ℕ) : Type 0 where
  pub block : ℕ
  pub unit : ℕ
  pub there : StandsThere c u block unit
  pub runs : RunsIn regions block current

-- a unit that may run stands at `a`
pub record IsFormOf (c : Code) (g : Graph) (pl : ChosenPlacement) (plan : OverlayPlan) (r u a : ℕ) : Type 0 where
  pub stands : StandsAs c g pl plan u a
  pub may : MayRun c pl.regions r u

-- where control comes in at a unit in one of the regions, or enters another there, at most so many steps lead from `a` to a
-- form of it, or to where a switch begins
abbrev pub ComesTo : Code → Graph → ChosenPlacement → OverlayPlan → Setup → (ℕ → ℕ → Type 0) → (ℕ → ℕ → ℕ → Type 0) → ℕ → ℕ → ℕ → ℕ → Type 0
ComesTo c g pl plan l live switches most r v a =
    r ≤ pl.count → ComesIn c pl.regions pl.borders r v → Comes l live (MayLand (IsFormOf c g pl plan) switches) most r v a

-- control may enter region `to` at the block that begins at an address
pub record EntersAt (c : Code) (regions : List ℕ) (borders : List Bool) (to v : ℕ) : Type 0 where
  pub block : ℕ
  pub there : StandsThere c v block 0
  pub border : is_border borders block ≡ true
  pub region : region_in regions block ≡ to

-- ---- behind a unit

-- control comes to the home of the unit at `v`: its form is there, or a block begins
pub data ArrivesHome (c : Code) (g : Graph) (pl : ChosenPlacement) (plan : OverlayPlan) (r v : ℕ) : Type 0 where
  FormThere : IsFormOf c g pl plan r v v → ArrivesHome c g pl plan r v
  BlockThere : (b : ℕ) → b < length c.blocks.items → start_at c b ≡ v → ArrivesHome c g pl plan r v

-- Where the words of a unit lead while a region is current, if the unit at `v` is next: to a form of it, or to its home;
-- behind the copy of a block from which control falls out of the piece; or behind a displaced unit. Words lead home from
-- the last two
pub data ArrivesAt (c : Code) (g : Graph) (pl : ChosenPlacement) (plan : OverlayPlan) (r v : ℕ) : ℕ → Type 0 where
  AtForm : (a : ℕ) → IsFormOf c g pl plan r v a → ArrivesAt c g pl plan r v a
  AtItsHome : ArrivesHome c g pl plan r v → ArrivesAt c g pl plan r v v
  BehindCopy : (n b d : ℕ) → n < length pl.pieces → holds_block b (piece_of pl n).range ≡ true → RunsIn pl.regions b r
      → falls_to (end_at c b) ≡ Some v → is_inside (copy_in c g pl n) v ≡ false → d < length c.blocks.items → start_at c d ≡ v
      → ArrivesAt c g pl plan r v (address_of (copy_in c g pl n) (place_behind (copy_in c g pl n) b))
  BehindStub : (u b : ℕ) (stub : ServingStub) → StandsThere c u b 0 → Contains plan.stubs stub
      → Serves c g pl (body_at plan stub) b stub → IsUncopied pl b → kind_of (is_site g) (body_of c.blocks.items b) 0 ≡ Plain → v ≡ u + 4
      → ArrivesHome c g pl plan r v → ArrivesAt c g pl plan r v (body_at plan stub + 4)
