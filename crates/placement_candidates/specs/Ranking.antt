-- Where the variables are cut off of which there are too many.
use Rattle.std.specs.Prelude.{◌≡◌, ◌⊎◌, ℕ, ◌+◌, ◌-◌, ◌<◌, ◌≤◌, ◌==◌, nat_lt, nat_le, Bool, ◌&&◌, ◌||◌, if◌then◌else◌, List, length, slice_index_or}
use Rattle.list_checks.specs.Sorted.{count_below}
use Rattle.placement_programme.specs.Plain.{PlainFullVar}
use Rattle.placement_candidates.specs.Selected.{worth_at}
use Rattle.placement_candidates.specs.declared.ranking.Cut.{Cut}

-- the least of the 4,000 greatest of some numbers that ascend, and 0 where there are no more
abbrev pub least_of : List ℕ → ℕ
least_of numbers = if nat_lt (length numbers) 4000 then 0 else slice_index_or numbers (length numbers - 4000) 0

-- fewer than 4,000 variables save more than that; and so many save that or more, unless it is 0
pub record IsLeast (vs : List PlainFullVar) (least : ℕ) : Type 0 where
  pub few : count_below (λ j. nat_lt least (worth_at vs j)) (length vs) < 4000
  pub enough : (least ≡ 0) ⊎ (4000 ≤ count_below (λ j. nat_le least (worth_at vs j)) (length vs))

pub record IsCut (vs : List PlainFullVar) (cut : Cut) : Type 0 where
  pub least : IsLeast vs cut.least
  pub above : cut.above ≡ count_below (λ j. nat_lt cut.least (worth_at vs j)) (length vs)

-- a variable is kept where it saves more, or as much and there is room for it behind those before it that do
abbrev pub passes_cut : List PlainFullVar → Cut → ℕ → ℕ → Bool
passes_cut vs cut ties k =
    nat_lt 0 (worth_at vs k)
    && (nat_lt cut.least (worth_at vs k) || ((worth_at vs k == cut.least) && nat_lt (cut.above + ties) 4000))

-- how many of the first variables save as much as the cut
abbrev pub ties_before : List PlainFullVar → Cut → ℕ → ℕ
ties_before vs cut k = count_below (λ j. worth_at vs j == cut.least) k
