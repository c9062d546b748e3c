-- What a choice gains, what it puts into each row, and when it is feasible.
use Rattle.std.specs.Prelude.{ℕ, zero, suc, ◌==◌, ◌<◌, ◌≤◌, ℤ, pos, ◌-ℤ◌, Bool, true, false, if◌then◌else◌, List, [], ◌∷◌, length, slice_index, Option, Some, None, IsSomeAnd}
use Rattle.std.specs.List.{sum_by}
use Rattle.placement_programme.specs.Plain.{PlainVar, PlainSide, PlainProgramme, PlainChoice}
use Rattle.placement_programme.specs.Bounds.{AscendWithin}

-- the gain and the weights of variable `k`; none past the last
abbrev pub gain_at : List PlainVar → ℕ → ℕ
gain_at [] k = 0
gain_at (v ∷ vs) zero = v.gain
gain_at (v ∷ vs) (suc k) = gain_at vs k

abbrev pub weights_at : List PlainVar → ℕ → List (ℕ × ℕ)
weights_at [] k = []
weights_at (v ∷ vs) zero = v.weights
weights_at (v ∷ vs) (suc k) = weights_at vs k

-- the value that some weights have in a row, 0 where they don't name it
abbrev pub weight_in : List (ℕ × ℕ) → ℕ → ℕ
weight_in [] row = 0
weight_in (w ∷ ws) row = if w.0 == row then w.1 else weight_in ws row

-- the weight of variable `k` in a row
abbrev pub weight_at : List PlainVar → ℕ → ℕ → ℕ
weight_at vars row k = weight_in (weights_at vars k) row

-- the weights of the taken variables in a row, summed
abbrev pub load_in : List PlainVar → List ℕ → ℕ → ℕ
load_in vs take row = sum_by (weight_at vs row) take

abbrev pub load : PlainSide → List ℕ → ℕ → ℕ
load side take row = load_in side.vars take row

-- the gains of the taken variables, summed
abbrev pub taken_gains : PlainSide → List ℕ → ℕ
taken_gains side take = sum_by (gain_at side.vars) take

-- taken variables fit: their numbers ascend and are in range, and no row is exceeded
pub record FitsIn (vs : List PlainVar) (capacities take : List ℕ) : Type 0 where
  pub numbers : AscendWithin 0 (length vs) take
  pub rows : (row : ℕ) → row < length capacities → load_in vs take row ≤ slice_index capacities row

abbrev pub Fits : PlainSide → List ℕ → Type 0
Fits side take = FitsIn side.vars side.rows take

-- the side of a choice, if the programme has it
abbrev pub side_for : PlainProgramme → Bool → Option PlainSide
side_for p false = Some p.off
side_for p true = p.on

-- a choice is feasible: its side exists, and what it takes fits that
abbrev pub IsFeasible : PlainProgramme → PlainChoice → Type 0
IsFeasible p c = IsSomeAnd (side_for p c.on) (λ side. Fits side c.take)

-- what taken variables gain on a side, whose fixed cost is paid also where nothing is taken
abbrev pub net_gain : PlainSide → List ℕ → ℤ
net_gain side take = pos (taken_gains side take) -ℤ pos side.fixed

abbrev pub gain_on : Option PlainSide → List ℕ → ℤ
gain_on None take = pos 0
gain_on (Some side) take = net_gain side take

abbrev pub gain_for : PlainProgramme → Bool → List ℕ → ℤ
gain_for p true take = gain_on p.on take
gain_for p false [] = pos 0
gain_for p false (k ∷ ks) = net_gain p.off (k ∷ ks)

-- the gain of a choice; the empty choice, which takes nothing on the off side, leaves the file as it is and gains 0
abbrev pub gain : PlainProgramme → PlainChoice → ℤ
gain p c = gain_for p c.on c.take

-- the energy of a choice
abbrev pub energy : PlainProgramme → PlainChoice → ℤ
energy p c = pos p.base -ℤ gain p c

-- the empty choice
abbrev pub nothing : PlainChoice
nothing = record { on = false; take = [] }
