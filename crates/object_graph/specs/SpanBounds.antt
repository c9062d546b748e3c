-- The first addresses of spans and those behind them, as sorted lists.
use Rattle.std.specs.Prelude.{ℕ, nat_lt, Bool, List, length, slice_index_or}
use Rattle.loaded_file.specs.Listed.{IsListOf}
use Rattle.object_graph.specs.declared.spans.Span.{Span}
use Rattle.object_graph.specs.declared.spans.Bound.{Bound}
use Rattle.object_graph.specs.declared.spans.Bound.TheVariants.{First, Behind}

-- span `k` of a list; one without addresses behind the last
abbrev pub no_span : Span
no_span = record { start = 0; end = 0 }

abbrev pub span_at : List Span → ℕ → Span
span_at spans k = slice_index_or spans k no_span

-- it has addresses
abbrev pub is_filled : List Span → ℕ → Bool
is_filled spans k = nat_lt (span_at spans k).start (span_at spans k).end

-- where it begins or ends
abbrev pub bound_at : Bound → List Span → ℕ → ℕ
bound_at First spans k = (span_at spans k).start
bound_at Behind spans k = (span_at spans k).end

-- the bounds of the spans that have addresses
pub record AreBoundsOf (spans : List Span) (starts ends : List ℕ) : Type 0 where
  pub first : IsListOf (is_filled spans) (bound_at First spans) (length spans) starts
  pub behind : IsListOf (is_filled spans) (bound_at Behind spans) (length spans) ends
