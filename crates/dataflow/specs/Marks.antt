-- Words of marks, of which bit `k` is register `k`.
use Rattle.std.specs.Prelude.{ℕ, ◌<◌, ◌≤◌, Option, MatchOption}
use Rattle.reach_graph.specs.Reaching.{HasMark}

-- the lowest register from x5 on whose bit in a word is 0, if one is
pub record IsLowestClear (word r : ℕ) : Type 0 where
  pub from : 5 ≤ r
  pub below : r < 32
  pub clear : HasMark word r → ⊥
  pub least : (x : ℕ) → 5 ≤ x → x < r → HasMark word x

abbrev pub ReportsClear : ℕ → Option ℕ → Type 0
ReportsClear word o = MatchOption o ((x : ℕ) → 5 ≤ x → x < 32 → HasMark word x) (IsLowestClear word)
