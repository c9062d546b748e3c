-- Which objects may be overlaid: each stands in the scratchpad while one region of the code is current, and at home while
-- another one is. Its place changes only where control enters a region, so what is there must not hold its address.
use Rattle.std.specs.Prelude.{◌≡◌, ℕ, ◌<◌, ◌==◌, Bool, true, false, List, length, slice_index_or}
use Rattle.std.specs.List.{All, Contains, list_any}
use Rattle.std.specs.List.Sorted.{IsStrictlyIncreasing}
use Rattle.object_graph.specs.declared.parts.Site.{Site}
use Rattle.object_graph.specs.declared.parts.DataWord.{DataWord}
use Rattle.object_graph.specs.declared.parts.Graph.{Graph}
use Rattle.code_blocks.specs.Leads.{units_at}
use Rattle.code_blocks.specs.declared.parts.Code.{Code}
use Rattle.dataflow.specs.Points.{unit_of, Before, Escapes}

-- ---- regions, as a list that tells that of each block. Region 0 is none

abbrev pub region_in : List ℕ → ℕ → ℕ
region_in regions b = slice_index_or regions b 0

-- control enters the region of block `b` there
abbrev pub is_border : List Bool → ℕ → Bool
is_border borders b = slice_index_or borders b false

-- ---- sites of an object, and words of data that hold its address

abbrev pub site_means : ℕ → Site → Bool
site_means o s = s.object == o

abbrev pub word_means : ℕ → DataWord → Bool
word_means o d = d.object == o

-- a site is a unit of a block that has a region
pub record IsInRegion (c : Code) (regions : List ℕ) (s : Site) : Type 0 where
  pub block : ℕ
  pub unit : ℕ
  pub is_unit : unit < length (units_at c block)
  pub there : (unit_of c block unit).at ≡ s.at
  pub region : 0 < region_in regions block

-- ---- where control enters a region

-- a register that is live there may hold an address of object `o`; `live` tells which are where a block begins
pub record IsHeldAtBorder (live : ℕ → ℕ → Type 0) (c : Code) (g : Graph) (borders : List Bool) (o : ℕ) : Type 0 where
  pub block : ℕ
  pub register : ℕ
  pub border : is_border borders block ≡ true
  pub is_live : live block register
  pub holds : Before c g block 0 register o

-- ---- objects

-- object `o` may be overlaid: its address is nowhere in memory, it has a site, all its sites are in blocks with regions,
-- and no live register may hold its address where control enters a region
pub record MayBeOverlaid (live : ℕ → ℕ → Type 0) (c : Code) (g : Graph) (regions : List ℕ) (borders : List Bool) (o : ℕ) : Type 0 where
  pub moves : o < length g.objects.items
  pub kept_out : Escapes c g o → ⊥
  pub no_word : list_any (word_means o) g.data_words.items ≡ false
  pub has_site : list_any (site_means o) g.sites.items ≡ true
  pub in_regions : All (λ s. site_means o s ≡ true → IsInRegion c regions s) g.sites.items
  pub free : IsHeldAtBorder live c g borders o → ⊥

-- the objects that may be overlaid, each once, by number
pub record AreOverlaid (live : ℕ → ℕ → Type 0) (c : Code) (g : Graph) (regions : List ℕ) (borders : List Bool) (objects : List ℕ) : Type 0 where
  pub ascending : IsStrictlyIncreasing objects
  pub each : All (MayBeOverlaid live c g regions borders) objects
  pub whole : (o : ℕ) → MayBeOverlaid live c g regions borders o → Contains objects o

-- an object whose address is nowhere in memory has no word of data that holds it
abbrev pub WordsEscape : Type 0
WordsEscape = (c : Code) (g : Graph) (o : ℕ) → (Escapes c g o → ⊥) → list_any (word_means o) g.data_words.items ≡ false
