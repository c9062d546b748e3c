-- Sections by address, in a list that a search by first addresses asks: each with the furthest end up to it.
use Rattle.std.specs.Prelude.{◌≡◌, ℕ, zero, suc, ◌+◌, ◌<◌, ◌≤◌, ◌==◌, nat_le, Bool, true, not, ◌&&◌, if◌then◌else◌, List, [], ◌∷◌, ◌++◌, length, slice_index_or}
use Rattle.std.specs.List.{list_any}
use Rattle.std.specs.List.Sorted.{IsNonDecreasingBy}
use Rattle.list_checks.specs.Tests.{any_below, lies_in}
use Rattle.elf_reader.specs.File.{PlainView}
use Rattle.elf_reader.specs.Loaded.{section_at, is_loaded}
use Rattle.loaded_file.specs.Code.{is_code_range}
use Rattle.loaded_file.specs.Ranges.{is_executable}
use Rattle.loaded_file.specs.declared.reaches.Reach.{Reach}
use Rattle.loaded_file.specs.declared.reaches.SectionKind.{SectionKind}
use Rattle.loaded_file.specs.declared.reaches.SectionKind.TheVariants.{Code, Data}
use denote.Struct.Props.{props}

-- section `k` is loaded, has content and holds no code
abbrev pub is_data_range : PlainView → ℕ → Bool
is_data_range v k = is_loaded v k && ((section_at v k).kind == 1) && not (is_executable (section_at v k))

-- section `k` is of a kind
abbrev pub is_of_kind : SectionKind → PlainView → ℕ → Bool
is_of_kind Code v k = is_code_range v k
is_of_kind Data v k = is_data_range v k

-- the `n` bytes from `a` lie in section `k`, which is of a kind
abbrev pub holds_range : SectionKind → PlainView → ℕ → ℕ → ℕ → Bool
holds_range kind v a n k = is_of_kind kind v k && lies_in (section_at v k).addr (section_at v k).size a n

-- the end of section `k`: the address behind its last byte
abbrev pub section_end : PlainView → ℕ → ℕ
section_end v k = (section_at v k).addr + (section_at v k).size

-- how far section `k` reaches by itself
abbrev pub own_reach : PlainView → ℕ → Reach
own_reach v k = record { start = (section_at v k).addr; furthest_end = section_end v k; section = k }

-- a reach is that of a section of a kind by itself, and passes a test
abbrev pub passes_own : SectionKind → PlainView → (Reach → Bool) → ℕ → Bool
passes_own kind v asked k = is_of_kind kind v k && asked (own_reach v k)

-- a list has the reaches of all sections of a kind, each by itself, by where they begin
pub record AreOwnReaches (kind : SectionKind) (v : PlainView) (reaches : List Reach) : Type 0 where
  pub ascending : IsNonDecreasingBy (λ r. r.start) reaches
  pub exact : (asked : Reach → Bool) → list_any asked reaches ≡ any_below (passes_own kind v asked) (length v.sections)

-- reach `k` of a list; one of no byte behind the last
abbrev pub no_reach : Reach
no_reach = record { start = 0; furthest_end = 0; section = 0 }

abbrev pub reach_at : List Reach → ℕ → Reach
reach_at reaches k = slice_index_or reaches k no_reach

-- the reach `r` as one behind `last`, which begins no later: the end is the further of both
abbrev pub further : Reach → Reach → Reach
further last r = if nat_le last.furthest_end r.furthest_end then r else record last { start = r.start }

-- the reach of the first n of a list together, and these of the first one, of the first two, ..
abbrev pub reach_below : List Reach → ℕ → Reach
reach_below reaches zero = no_reach
reach_below reaches (suc k) = further (reach_below reaches k) (reach_at reaches k)

abbrev pub reaches_below : List Reach → ℕ → List Reach
reaches_below reaches zero = []
reaches_below reaches (suc k) = reaches_below reaches k ++ reach_below reaches (suc k) ∷ []

-- a reach begins at `start`, and ends at `end` or behind it
abbrev pub reaches_from : ℕ → ℕ → Reach → Bool
reaches_from start end r = (r.start == start) && nat_le end r.furthest_end

-- a section of a kind that begins at the reach or before ends where it says
pub record IsReach (kind : SectionKind) (v : PlainView) (r : Reach) : Type 0 where
  pub of_kind : is_of_kind kind v r.section ≡ true
  pub below : r.section < length v.sections
  pub begins : (section_at v r.section).addr ≤ r.start
  pub ends : section_end v r.section ≡ r.furthest_end

-- a list tells of each address how far the sections of a kind reach that begin there or before
pub record AreReaches (kind : SectionKind) (v : PlainView) (reaches : List Reach) : Type 0 where
  pub ascending : IsNonDecreasingBy (λ r. r.start) reaches
  pub further_on : IsNonDecreasingBy (λ r. r.furthest_end) reaches
  pub true_ones : (i : ℕ) → i < length reaches → IsReach kind v (reach_at reaches i)
  pub all : (k : ℕ) → k < length v.sections → is_of_kind kind v k ≡ true → list_any (reaches_from (section_at v k).addr (section_end v k)) reaches ≡ true

-- the lists of the code ranges and of the other loaded sections with content. It is opaque, so that no proof
-- above looks into it
unfoldable pub AreListed : PlainView → List Reach → List Reach → Type 0
AreListed v code others = AreReaches Code v code × AreReaches Data v others

pub AreListed-prop : (v : PlainView) (code others : List Reach) → IsProp (AreListed v code others)
unfolding AreListed
AreListed-prop v code others = hlevel props
