-- What is marked on the way to the objects that may be overlaid.
use Rattle.std.specs.Prelude.{◌≡◌, ◌↔◌, ℕ, ◌<◌, ◌==◌, Bool, true, not, ◌&&◌, List, length}
use Rattle.std.specs.List.{All, list_any}
use Rattle.list_checks.specs.Sorted.{is_number}
use Rattle.rv32im.specs.declared.instructions.RegSet.{RegSet}
use Rattle.object_graph.specs.declared.parts.Site.{Site}
use Rattle.object_graph.specs.declared.parts.Graph.{Graph}
use Rattle.code_blocks.specs.Leads.{units_at}
use Rattle.code_blocks.specs.declared.parts.Unit.{Unit}
use Rattle.code_blocks.specs.declared.parts.Code.{Code}
use Rattle.dataflow.specs.Live.{LiveAt}
use Rattle.dataflow.specs.Exposed.{IsAsked, IsExposed, mark_at}
use Rattle.dataflow.specs.Overlaid.{region_in, is_border, site_means, IsInRegion}

-- ---- addresses of units

abbrev pub stands_at : ℕ → Unit → Bool
stands_at a u = a == u.at

abbrev pub HasAddress : List ℕ → ℕ → Type 0
HasAddress addresses a = list_any (is_number a) addresses ≡ true

-- a unit of one of the first `count` blocks stands at `a`, and that block has a region
pub record StandsInRegion (c : Code) (regions : List ℕ) (count a : ℕ) : Type 0 where
  pub block : ℕ
  pub below : block < count
  pub stands : list_any (stands_at a) (units_at c block) ≡ true
  pub region : 0 < region_in regions block

-- ---- objects with sites

-- a site of object `o` stands at none of the addresses
abbrev pub strays : List ℕ → ℕ → Site → Bool
strays addresses o s = site_means o s && not (list_any (is_number s.at) addresses)

-- object `o` has a site, and all its sites are in blocks with regions
pub record IsSited (c : Code) (g : Graph) (regions : List ℕ) (o : ℕ) : Type 0 where
  pub has_site : list_any (site_means o) g.sites.items ≡ true
  pub in_regions : All (λ s. site_means o s ≡ true → IsInRegion c regions s) g.sites.items

pub record AreSited (c : Code) (g : Graph) (regions : List ℕ) (marks : List Bool) : Type 0 where
  pub size : length marks ≡ length g.objects.items
  pub each : (o : ℕ) → o < length g.objects.items → (mark_at marks o ≡ true) ↔ IsSited c g regions o

-- ---- registers where control enters a region

-- of each of the first blocks the registers that are live where it begins, if control enters a region there
pub record AreLiveAtBorders (c : Code) (borders : List Bool) (count : ℕ) (asked : List RegSet) : Type 0 where
  pub size : length asked ≡ count
  pub each : (b x : ℕ) → b < count → x < 32 → IsAsked asked b x ↔ ((is_border borders b ≡ true) × LiveAt c x b 0)

-- ---- objects that may be overlaid

-- object `o` is sited, and is not exposed
pub record IsFree (c : Code) (g : Graph) (regions : List ℕ) (asked : List RegSet) (o : ℕ) : Type 0 where
  pub sited : IsSited c g regions o
  pub hidden : IsExposed c g asked o → ⊥

pub record AreFree (c : Code) (g : Graph) (regions : List ℕ) (asked : List RegSet) (count : ℕ) (marks : List Bool) : Type 0 where
  pub size : length marks ≡ count
  pub each : (o : ℕ) → o < count → (mark_at marks o ≡ true) ↔ IsFree c g regions asked o
