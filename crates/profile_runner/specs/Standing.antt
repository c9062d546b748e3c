-- In which block and which region the transitions of a run are.
use Rattle.std.specs.Prelude.{ℕ, zero, suc, ◌==◌, Bool, if◌then◌else◌, List, [], ◌∷◌, slice_index_or}
use Rattle.code_blocks.specs.Early.{has}
use Rattle.profile_runner.specs.Transition.{Transition, transition_at}

-- the number of the block that begins at an address, by the starts of the blocks
abbrev pub number_of : List ℕ → ℕ → ℕ
number_of [] a = 0
number_of (s ∷ starts) a = if s == a then 0 else suc (number_of starts a)

-- a block begins with transition `i`
abbrev pub begins : List ℕ → List Transition → ℕ → Bool
begins starts transitions i = has starts (transition_at transitions i).at

-- the block of transition `i`: the one that began last. A run starts with a block
abbrev pub block_of : List ℕ → List Transition → ℕ → ℕ
block_of starts transitions zero = number_of starts (transition_at transitions 0).at
block_of starts transitions (suc i) =
    if begins starts transitions (suc i) then number_of starts (transition_at transitions (suc i)).at else block_of starts transitions i

-- how many units of that block ran with transition `i`
abbrev pub units_run : List ℕ → List Transition → ℕ → ℕ
units_run starts transitions zero = 1
units_run starts transitions (suc i) = if begins starts transitions (suc i) then 1 else suc (units_run starts transitions i)

-- ---- regions: region 0 is none, and a block without one leaves the current region as it is

abbrev pub region_of : List ℕ → ℕ → ℕ
region_of regions b = slice_index_or regions b 0

abbrev pub entered : ℕ → ℕ → ℕ
entered current zero = current
entered current (suc r) = suc r

-- the region that is current once the blocks of the first `i` transitions have begun
abbrev pub current : List ℕ → List ℕ → List Transition → ℕ → ℕ
current starts regions transitions zero = 0
current starts regions transitions (suc i) =
    if begins starts transitions i
    then entered (current starts regions transitions i) (region_of regions (number_of starts (transition_at transitions i).at))
    else current starts regions transitions i
