-- Spans of addresses, and what two lists of them leave.
use Rattle.std.specs.Prelude.{◌≡◌, ℕ, ◌+◌, ◌<◌, ◌≤◌, nat_lt, nat_le, Bool, false, not, ◌&&◌, ◌||◌, List}
use Rattle.std.specs.List.{All, AllPairs, list_any}
use Rattle.board_config.specs.declared.board.Range.{Range}
use Rattle.object_graph.specs.Sites.{in_range}
use Rattle.object_graph.specs.declared.spans.Span.{Span}

-- the addresses of a range
abbrev pub span_of : Range → Span
span_of r = record { start = r.base; end = r.base + r.size }

-- not all addresses below 2 ^ 32
abbrev pub IsShort : Span → Type 0
IsShort s = s.end < s.start + 4294967296

-- an address lies in a span, and in one of a list
abbrev pub holds : ℕ → Span → Bool
holds a s = nat_le s.start a && nat_lt a s.end

abbrev pub any_holds : List Span → ℕ → Bool
any_holds spans a = list_any (holds a) spans

-- it lies in a span of the first list, and in none of the second
abbrev pub is_left : List Span → List Span → ℕ → Bool
is_left kept cut a = any_holds kept a && not (any_holds cut a)

-- a test of the two ends of a span
abbrev pub at_an_end : (ℕ → Bool) → Span → Bool
at_an_end test s = test s.start || test s.end

-- a number is greater than `from`, and at most `a`
abbrev pub is_between : ℕ → ℕ → ℕ → Bool
is_between from a n = nat_lt from n && nat_le n a

-- no span begins or ends behind `from` and before `to`
abbrev pub IsSteady : List Span → List Span → ℕ → ℕ → Type 0
IsSteady kept cut from to =
    (a : ℕ) → a < to
    → (list_any (at_an_end (is_between from a)) kept || list_any (at_an_end (is_between from a)) cut) ≡ false

-- ranges that ascend have the addresses below `to` that are left, and no others
pub record Covers (kept cut : List Span) (ranges : List Range) (to : ℕ) : Type 0 where
  pub below : All (λ r. r.base + r.size ≤ to) ranges
  pub disjoint : AllPairs (λ r q. r.base + r.size ≤ q.base) ranges
  pub exact : (a : ℕ) → a < to → list_any (λ r. in_range r a) ranges ≡ is_left kept cut a
