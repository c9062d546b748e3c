-- What a profile counts of a run.
use Rattle.std.specs.Prelude.{◌≡◌, ℕ, suc, ◌-◌, ◌<◌, ◌==◌, nat_lt, Bool, true, false, not, ◌&&◌, ◌||◌, List, [], ◌∷◌, length, map, slice_index_or, Option, Some, None, Vec, if◌then◌else◌}
use Rattle.std.specs.Global.{Global}
use Rattle.std.specs.List.{All, AllPairs}
use Rattle.list_checks.specs.Sorted.{count_below, sum_below}
use Rattle.object_machine.specs.declared.events.Access.{Access}
use Rattle.object_machine.specs.declared.events.Outcome.{Outcome}
use Rattle.profile_runner.specs.Transition.{Transition, transition_at}
use Rattle.profile_runner.specs.Standing.{begins, number_of, block_of, units_run, current}
use Rattle.profile_runner.specs.declared.counts.Edge.{Edge}
use Rattle.profile_runner.specs.declared.counts.Profile.{Profile}

-- ---- counts over the transitions

-- how often block `b` began
abbrev pub arrivals_of : List ℕ → List Transition → ℕ → ℕ
arrivals_of starts transitions b =
    count_below (λ i. begins starts transitions i && (number_of starts (transition_at transitions i).at == b)) (length transitions)

-- how often control went from block `a` to block `b`: counted with the unit that goes there, also where the run ends
-- before `b` begins
abbrev pub is_edge : List ℕ → List Transition → ℕ → ℕ → ℕ → Bool
is_edge starts transitions a b i =
    (transition_at transitions i).goes_on
    && (block_of starts transitions i == a)
    && (nat_lt b (length starts) && (number_of starts (transition_at transitions i).next == b))

abbrev pub edges_of : List ℕ → List Transition → ℕ → ℕ → ℕ
edges_of starts transitions a b = count_below (is_edge starts transitions a b) (length transitions)

-- how often an object was read, or written, while a region was current
abbrev pub same_direction : Bool → Bool → Bool
same_direction write other = if write then other else not other

abbrev pub is_access_to : Bool → ℕ → Option Access → Bool
is_access_to write o None = false
is_access_to write o (Some a) = (a.object == o) && same_direction write a.write

abbrev pub accesses_of : List ℕ → List ℕ → List Transition → Bool → ℕ → ℕ → ℕ
accesses_of starts regions transitions write o r =
    count_below
    (λ i. is_access_to write o (transition_at transitions i).access && (current starts regions transitions (suc i) == r))
    (length transitions)

-- how often the current region changed from `s` to `r`
abbrev pub switches_of : List ℕ → List ℕ → List Transition → ℕ → ℕ → ℕ
switches_of starts regions transitions s r =
    count_below
    (λ i. not (s == r) && ((current starts regions transitions i == s) && (current starts regions transitions (suc i) == r)))
    (length transitions)

-- ---- tables of counts

abbrev pub plain_rows : List (Vec ℕ Global) → List (List ℕ)
plain_rows rows = map (λ row. row.items) rows

abbrev pub row_of : List (List ℕ) → ℕ → List ℕ
row_of rows j = slice_index_or rows j []

abbrev pub entry : List (List ℕ) → ℕ → ℕ → ℕ
entry rows j k = slice_index_or (row_of rows j) k 0

-- a table of so many rows and columns has these counts
pub record IsTable (rows : List (List ℕ)) (height width : ℕ) (count : ℕ → ℕ → ℕ) : Type 0 where
  pub height_is : length rows ≡ height
  pub widths : (j : ℕ) → j < height → length (row_of rows j) ≡ width
  pub counts : (j k : ℕ) → j < height → k < width → entry rows j k ≡ count j k

-- the same of a list of counts
pub record IsList (counts : List ℕ) (size : ℕ) (count : ℕ → ℕ) : Type 0 where
  pub size_is : length counts ≡ size
  pub each : (k : ℕ) → k < size → slice_index_or counts k 0 ≡ count k

-- ---- edges: those that were taken, by where they begin and then by where they lead

abbrev pub precedes : Edge → Edge → Bool
precedes d e = nat_lt d.from e.from || ((d.from == e.from) && nat_lt d.to e.to)

abbrev pub count_in : List Edge → ℕ → ℕ → ℕ
count_in [] a b = 0
count_in (e ∷ edges) a b = if (e.from == a) && (e.to == b) then e.count else count_in edges a b

pub record AreEdges (edges : List Edge) (size : ℕ) (count : ℕ → ℕ → ℕ) : Type 0 where
  pub ordered : AllPairs (λ d e. precedes d e ≡ true) edges
  pub within : All (λ e. (e.from < size) × (e.to < size)) edges
  pub positive : All (λ e. 0 < e.count) edges
  pub counts : (a b : ℕ) → a < size → b < size → count_in edges a b ≡ count a b

-- ---- the profile of the transitions of a run, of which there is one at least

-- `size` objects may move, and there are regions 1 to `last`
pub record IsProfile (starts regions : List ℕ) (last size : ℕ) (transitions : List Transition) (outcome : Outcome) (q : Profile) : Type 0 where
  pub steps : q.steps ≡ length transitions
  pub outcome_is : q.outcome ≡ outcome
  pub arrivals : IsList q.arrivals.items (length starts) (arrivals_of starts transitions)
  pub edges : AreEdges q.edges.items (length starts) (edges_of starts transitions)
  pub last_block : q.last.0 ≡ block_of starts transitions (length transitions - 1)
  pub last_units : q.last.1 ≡ units_run starts transitions (length transitions - 1)
  pub reads : IsTable (plain_rows q.reads.items) size (suc last) (accesses_of starts regions transitions false)
  pub writes : IsTable (plain_rows q.writes.items) size (suc last) (accesses_of starts regions transitions true)
  pub switches : IsTable (plain_rows q.switches.items) (suc last) (suc last) (switches_of starts regions transitions)
  pub leaves : IsList q.leaves.items (suc last) (λ s. sum_below (switches_of starts regions transitions s) (suc last))
  pub enters : IsList q.enters.items (suc last) (λ r. sum_below (λ s. switches_of starts regions transitions s r) (suc last))
