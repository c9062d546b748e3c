-- Where objects are moved to, in a map by their bytes at home.
use Rattle.std.specs.Prelude.{◌≡◌, ℕ, List, Option}
use Rattle.std.specs.BTreeMap.{BTreeMap, get}
use Rattle.std.specs.Ordering.{nat_cmp, ordering_then}
use Rattle.std.specs.declared.cmp.Ordering.{Ordering}
use Rattle.object_graph.specs.declared.parts.Graph.{Graph}
use Rattle.relocator.specs.declared.places.Places.{Places}
use Rattle.relink_core.specs.Making.{range_value}

abbrev pub range_cmp : ℕ × ℕ → ℕ × ℕ → Ordering
range_cmp x y = ordering_then (nat_cmp x.0 y.0) (nat_cmp x.1 y.1)

-- the place that a map has for `n` bytes at `home`
abbrev pub place_of_range : BTreeMap (ℕ × ℕ) ℕ → ℕ → ℕ → Option ℕ
place_of_range ranges home n = get range_cmp ranges (home, n)

-- a map has the places of some objects
abbrev pub HaveRanges : Graph → Places → List ℕ → BTreeMap (ℕ × ℕ) ℕ → Type 0
HaveRanges g places objects ranges =
    (home n : ℕ) → place_of_range ranges home n ≡ range_value g places home n objects
