-- Prices of units and of objects, by which the energy of a run is counted.
use Rattle.std.specs.Prelude.{◌≡◌, ℕ, ◌+◌, ◌*◌, ◌==◌, Bool, true, false, List, [], ◌∷◌, length, slice_index_or, Option, Some, None, if◌then◌else◌}
use Rattle.board_config.specs.declared.board.Prices.{Prices}
use Rattle.code_blocks.specs.declared.parts.Unit.{Unit}
use Rattle.object_machine.specs.declared.events.Access.{Access}
use Rattle.placement_programme.specs.declared.variables.VarName.{VarName}
use Rattle.placement_programme.specs.declared.variables.VarName.TheVariants.{StaticData, StaticCode, OverlayData, OverlayCode, KeptData}
use Rattle.profile_runner.specs.Transition.{Transition, transition_at}
use Rattle.list_checks.specs.Sorted.{sum_below}
use Rattle.block_splitter.specs.declared.block_range.BlockRange.{BlockRange}
use Rattle.block_splitter.specs.Forms.{unit_in, holds_block}
use Rattle.code_blocks.specs.Leads.{no_unit}
use Rattle.energy_model.specs.Energy.{Scene, block_in, read_price, write_price, data_price}

-- ---- units

-- a unit that goes on, at home
abbrev pub unit_price : Prices → Unit → ℕ
unit_price prices u = u.words * prices.main_fetch + data_price prices false u.instr

-- unit `k` of block `b`
abbrev pub price_at : Scene → ℕ → ℕ → ℕ
price_at w b k = unit_price w.board.prices (unit_in (block_in w b) k)

-- the first `n` of some units
abbrev pub units_price : Prices → List Unit → ℕ → ℕ
units_price prices units n = sum_below (λ k. unit_price prices (slice_index_or units k no_unit)) n

-- ---- objects

abbrev pub direction_price : Prices → Bool → Bool → ℕ
direction_price prices fast write = if write then write_price fast prices else read_price fast prices

-- what an access costs if it is one to object `o`
abbrev pub touch_price : Prices → Bool → ℕ → Option Access → ℕ
touch_price prices fast o None = 0
touch_price prices fast o (Some a) = if a.object == o then direction_price prices fast a.write else 0

-- all accesses to object `o`, where it is in the scratchpad or not
abbrev pub touches_price : Scene → List Transition → Bool → ℕ → ℕ
touches_price w ms fast o =
    sum_below (λ i. touch_price w.board.prices fast o (transition_at ms i).access) (length ms)

-- ---- what may be taken together without overlay

abbrev pub range : ℕ → ℕ → BlockRange
range first last = record { first = first; last = last }

-- it is static
abbrev pub IsStatic : VarName → Type 0
IsStatic (StaticData o) = Prim.Unit {0}
IsStatic (StaticCode first last) = Prim.Unit {0}
IsStatic (OverlayData r o) = ⊥
IsStatic (OverlayCode r first last) = ⊥
IsStatic (KeptData pair o) = ⊥

-- two have nothing in common: different objects, or pieces that share no block
abbrev pub IsApart : VarName → VarName → Type 0
IsApart (StaticData o) (StaticData other) = (o == other) ≡ false
IsApart (StaticCode first last) (StaticCode other_first other_last) =
    (b : ℕ) → holds_block b (range first last) ≡ true → holds_block b (range other_first other_last) ≡ false
IsApart one other = Prim.Unit {0}

abbrev pub IsApartFrom : VarName → List VarName → Type 0
IsApartFrom name [] = IsStatic name
IsApartFrom name (other ∷ names) = IsApart name other × IsApartFrom name names

-- static items of which no two have anything in common
abbrev pub AreApart : List VarName → Type 0
AreApart [] = Prim.Unit {0}
AreApart (name ∷ names) = IsApartFrom name names × AreApart names
