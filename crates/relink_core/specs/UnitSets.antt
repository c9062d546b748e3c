-- Forms of units as they are collected: by blocks, by copies and by stubs.
use Rattle.std.specs.Prelude.{◌≡◌, ◌⊎◌, ◌↔◌, ℕ, ◌+◌, ◌<◌, ◌==◌, Bool, true, false, ◌&&◌, List, length, map, slice_index_or, Contains}
use Rattle.std.specs.List.{list_any, All}
use Rattle.list_checks.specs.Sorted.{is_number, IsSorted}
use Rattle.object_graph.specs.declared.parts.Graph.{Graph}
use Rattle.code_blocks.specs.Numbers.{start_at}
use Rattle.code_blocks.specs.Leads.{units_at, no_unit}
use Rattle.code_blocks.specs.declared.parts.Unit.{Unit}
use Rattle.code_blocks.specs.declared.parts.Code.{Code}
use Rattle.block_splitter.specs.Forms.{holds_block, body_at}
use Rattle.block_splitter.specs.Copies.{Copy, Patch, address_of, place_of, unit_of}
use Rattle.patch_code.specs.StubPlans.{serving_stub}
use Rattle.patch_code.specs.Serving.{StubBody, jumps_to, runs_words, ServingStub}
use Rattle.patch_code.specs.declared.stub_plan.Stub.{Stub}
use Rattle.relink_core.specs.declared.copy_source.CopySource.{CopySource}
use Rattle.relink_core.specs.declared.placed_copy.PlacedCopy.{PlacedCopy}
use Rattle.relink_core.specs.Copies.{IsSource, IsPlacedCopy}
use Rattle.relink_core.specs.declared.form_sources.FormSources.{FormSources}
use Rattle.relink_core.specs.declared.unit_forms.UnitAt.{UnitAt}

-- ---- sets

-- `new` has the forms of `old` and those of a set, and no others
pub record Gains (S : UnitAt → Type 0) (old new : List UnitAt) : Type 0 where
  pub each : (x : UnitAt) → Contains new x ↔ (Contains old x ⊎ S x)

-- one of the first `m` sets of a sequence
pub record Upto (m : ℕ) (P : ℕ → UnitAt → Type 0) (x : UnitAt) : Type 0 where
  pub place : ℕ
  pub below : place < m
  pub is : P place x

abbrev pub form_at : ℕ → ℕ → ℕ → UnitAt
form_at at region home = record { at = at; region = region; home = home }

abbrev pub IsForm : ℕ → ℕ → ℕ → UnitAt → Type 0
IsForm at region home x = x ≡ form_at at region home

-- ---- at home

-- unit `k` of a block at home, unless a pad stands there
abbrev pub HomeForm : List Unit → Bool → ℕ → UnitAt → Type 0
HomeForm us padded k x =
    ((padded && (k == 0)) ≡ false) × IsForm (slice_index_or us k no_unit).at 0 (slice_index_or us k no_unit).at x

-- a pad stands at the first unit of block `b`, by the homes of stubs
abbrev pub begins_padded : Code → List ℕ → ℕ → Bool
begins_padded c homes b = list_any (is_number (start_at c b)) homes

abbrev pub HomeForms : Code → List ℕ → ℕ → UnitAt → Type 0
HomeForms c homes b = Upto (length (units_at c b)) (HomeForm (units_at c b) (begins_padded c homes b))

-- ---- in copies

abbrev pub CopiedForm : Copy → ℕ → ℕ → ℕ → UnitAt → Type 0
CopiedForm x region b k = IsForm (address_of x (place_of x b k)) region (unit_of x b k).at

abbrev pub BlockForms : Copy → ℕ → ℕ → UnitAt → Type 0
BlockForms x region b = Upto (length (body_at x.code.blocks.items b).units) (CopiedForm x region b)

abbrev pub HeldForms : Copy → ℕ → ℕ → UnitAt → Type 0
HeldForms x region b y = (holds_block b x.range ≡ true) × BlockForms x region b y

abbrev pub PieceForms : Copy → ℕ → UnitAt → Type 0
PieceForms x region = Upto (length x.code.blocks.items) (HeldForms x region)

-- those of copy `n` of a list, by the regions of all, of a code with its graph and the words of its sites
abbrev pub CopyFormsOf : Code → Graph → List Patch → List PlacedCopy → List ℕ → ℕ → UnitAt → Type 0
CopyFormsOf c g sites copies regions n y =
    (x : PlacedCopy)
    × ((slice_index_or copies n x ≡ x)
    × PieceForms (record { code = c; graph = g; range = x.range; at = x.at; sites = sites }) (slice_index_or regions n 0) y)

abbrev pub CopyForms : CopySource → List PlacedCopy → List ℕ → ℕ → UnitAt → Type 0
CopyForms s copies regions n y = CopyFormsOf s.code.now s.graph.now s.sites.now copies regions n y

-- ---- in stubs

-- a stub's body runs words
abbrev pub runs : StubBody → Bool
runs (jumps_to to) = false
runs (runs_words words) = true

abbrev pub StubForm : ServingStub → ℕ → UnitAt → Type 0
StubForm stub place x = (runs stub.body ≡ true) × IsForm (place + 88) 0 stub.home x

-- those of stub `k`, by their places
abbrev pub no_stub : ServingStub
no_stub = record { home = 0; temp = 0; region = 0; body = jumps_to 0 }

abbrev pub StubForms : List ServingStub → List ℕ → ℕ → UnitAt → Type 0
StubForms stubs places k = StubForm (slice_index_or stubs k no_stub) (slice_index_or places k 0)

-- ---- all of them

-- at home, by the homes of stubs; in copies, by their regions; and in stubs, by their places
abbrev pub CollectedOf : Code → Graph → List Patch → List ℕ → List PlacedCopy → List ℕ → List ServingStub → List ℕ → UnitAt → Type 0
CollectedOf c g sites homes copies regions stubs places x =
    Upto (length c.blocks.items) (HomeForms c homes) x
    ⊎ (Upto (length copies) (CopyFormsOf c g sites copies regions) x ⊎ Upto (length stubs) (StubForms stubs places) x)

abbrev pub CollectedFrom : CopySource → List ℕ → List PlacedCopy → List ℕ → List ServingStub → List ℕ → UnitAt → Type 0
CollectedFrom s homes copies regions stubs places x =
    CollectedOf s.code.now s.graph.now s.sites.now homes copies regions stubs places x

abbrev pub CollectedForms : FormSources → UnitAt → Type 0
CollectedForms w =
    CollectedFrom w.source.now w.homes.now w.copies.now w.regions.now (map serving_stub w.stubs.now) w.stub_at.now

-- forms may be collected: copies are those of the source, and stubs that run words end below 2 ^ 32
pub record CanCollect (w : FormSources) : Type 0 where
  pub source : IsSource w.source.now
  pub copies : All (IsPlacedCopy w.source.now) w.copies.now
  pub sorted : IsSorted w.homes.now
  pub many : length w.stub_at.now ≡ length w.stubs.now
  pub ends : (k : ℕ) (d : Stub) → k < length w.stubs.now → runs (serving_stub (slice_index_or w.stubs.now k d)).body ≡ true
      → slice_index_or w.stub_at.now k 0 + 88 < 4294967296
