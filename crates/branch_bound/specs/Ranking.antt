-- The order in which the search branches: by gain, the greatest first and the lowest number on a tie.
use Rattle.std.specs.Prelude.{◌≡◌, ◌⊎◌, ℕ, ◌<◌, ◌≤◌, List, length, slice_index_or}
use Rattle.placement_programme.specs.Plain.{PlainSide}
use Rattle.placement_programme.specs.Programme.{gain_at}
use Rattle.certificate_checker.specs.Fixings.{fixing_of}
use Rattle.certificate_checker.specs.declared.fixings.Fixing.{Fixing}
use Rattle.certificate_checker.specs.declared.fixings.Fixing.TheVariants.{Free}
use Rattle.branch_bound.specs.declared.ranking.Ranked.{Ranked}

-- a variable with its gain
abbrev pub ranked_of : PlainSide → ℕ → Ranked
ranked_of s k = record { number = k; gain = gain_at s.vars k }

-- the number of the variable at a place
abbrev pub number_of : Ranked → ℕ
number_of r = r.number

abbrev pub number_at : List Ranked → ℕ → ℕ
number_at ranked place = number_of (slice_index_or ranked place record { number = 0; gain = 0 })

-- the first n variables of a side with their gains, by number
pub record AreListed (s : PlainSide) (n : ℕ) (ranked : List Ranked) : Type 0 where
  pub long : length ranked ≡ n
  pub exact : (k : ℕ) (d : Ranked) → k < n → slice_index_or ranked k d ≡ ranked_of s k

-- a variable comes before another
abbrev pub RanksBefore : PlainSide → ℕ → ℕ → Type 0
RanksBefore s j k = (gain_at s.vars k < gain_at s.vars j) ⊎ ((gain_at s.vars j ≡ gain_at s.vars k) × (j ≤ k))

-- all variables of a side, in order
pub record IsRanking (s : PlainSide) (ranked : List Ranked) : Type 0 where
  pub inside : (place : ℕ) → place < length ranked → number_at ranked place < length s.vars
  pub whole : (k : ℕ) → k < length s.vars → (place : ℕ) × ((place < length ranked) × (number_at ranked place ≡ k))
  pub ordered : (first second : ℕ) → first ≤ second → second < length ranked → RanksBefore s (number_at ranked first) (number_at ranked second)

-- none of the variables before a place is free
abbrev pub PassedOver : List Ranked → List Fixing → ℕ → Type 0
PassedOver ranked marks place = (k : ℕ) → k < place → fixing_of marks (number_at ranked k) ≡ Free → ⊥
