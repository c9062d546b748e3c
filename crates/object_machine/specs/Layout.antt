-- Where objects and fixed memory lie while the objects are at home.
use Rattle.std.specs.Prelude.{◌≡◌, ℕ, ◌+◌, ◌==◌, ◌<◌, ◌≤◌, nat_lt, Bool, true, false, ◌&&◌, ◌||◌, List}
use Rattle.std.specs.List.{AllPairs, list_any}
use Rattle.board_config.specs.declared.board.Range.{Range}
use Rattle.object_graph.specs.declared.parts.Graph.{Graph}
use Rattle.object_graph.specs.Sites.{in_range}
use Rattle.code_blocks.specs.Early.{has}
use Rattle.cell_values.specs.Objects.{object_of}

-- an address below 2 ^ 32 lies in one of the ranges
abbrev pub is_in_some : List Range → ℕ → Bool
is_in_some ranges a = nat_lt a 4294967296 && list_any (λ r. in_range r a) ranges

-- each range ends where a later one begins, or before
abbrev pub AreAscending : List Range → Type 0
AreAscending ranges = AllPairs (λ r q. r.base + r.size ≤ q.base) ranges

-- objects end below 2 ^ 32, share no byte with one another, and lie in none of the ranges
abbrev pub EndBelow : Graph → Type 0
EndBelow g = (o : ℕ) → (object_of g o).home + (object_of g o).size < 4294967296

abbrev pub HasDisjointObjects : Graph → Type 0
HasDisjointObjects g =
    (o q i j : ℕ) → i < (object_of g o).size → j < (object_of g q).size
    → (object_of g o).home + i ≡ (object_of g q).home + j → o ≡ q

abbrev pub LieOff : List Range → Graph → Type 0
LieOff ranges g =
    (o i : ℕ) → i < (object_of g o).size → is_in_some ranges ((object_of g o).home + i) ≡ false

-- what may be reached is a start
abbrev pub AreAmong : List ℕ → List ℕ → Type 0
AreAmong some all = (a : ℕ) → has some a ≡ true → has all a ≡ true

abbrev pub is_grain : ℕ → Bool
is_grain g = (g == 16) || (g == 32) || (g == 64)
