-- The energy of a run in which nothing is moved, as it is counted from the tables of a profile.
use Rattle.std.specs.Prelude.{◌≡◌, ℕ, ◌+◌, ◌-◌, ◌*◌, ◌^◌, ◌<◌, ◌≤◌, List, length, slice_index_or, if◌then◌else◌}
use Rattle.board_config.specs.declared.board.Prices.{Prices}
use Rattle.code_blocks.specs.declared.parts.Unit.{Unit}
use Rattle.code_blocks.specs.declared.parts.Block.{Block}
use Rattle.object_machine.specs.declared.events.Outcome.{Outcome}
use Rattle.profile_runner.specs.Transition.{is_going}
use Rattle.profile_runner.specs.declared.counts.Profile.{Profile}
use Rattle.list_checks.specs.Sorted.{sum_below}
use Rattle.block_splitter.specs.Forms.{Body, body_at, unit_in}
use Rattle.energy_model.specs.Priced.{unit_price, units_price}

abbrev pub body_price : Prices → Body → ℕ
body_price prices b = units_price prices b.units (length b.units)

-- the first `n` blocks, as often as each began
abbrev pub arrived_price : Prices → List Block → List ℕ → ℕ → ℕ
arrived_price prices blocks arrivals n =
    sum_below (λ k. slice_index_or arrivals k 0 * body_price prices (body_at blocks k)) n

-- a unit behind which a machine is in this outcome
abbrev pub ended_price : Prices → Outcome → Unit → ℕ
ended_price prices outcome u = if is_going outcome then unit_price prices u else prices.main_fetch

-- a block in which a run ended behind `n` units and one more
abbrev pub part_price : Prices → Outcome → Body → ℕ → ℕ
part_price prices outcome b n = units_price prices b.units n + ended_price prices outcome (unit_in b n)

-- the energy of a run can be counted from a profile's tables: its last block and unit are of the code
pub record CountsEnergy (prices : Prices) (blocks : List Block) (q : Profile) : Type 0 where
  pub arrivals : length q.arrivals.items ≡ length blocks
  pub block : q.last.0 < length blocks
  pub some : 0 < q.last.1
  pub units : q.last.1 ≤ length (body_at blocks q.last.0).units
  pub small : arrived_price prices blocks q.arrivals.items (length blocks) < 2 ^ 100
  pub enough : body_price prices (body_at blocks q.last.0) ≤
      arrived_price prices blocks q.arrivals.items (length blocks)
      + part_price prices q.outcome (body_at blocks q.last.0) (q.last.1 - 1)

-- and is this one: each block ran whole as often as it began, but for the last one
abbrev pub IsCounted : Prices → List Block → Profile → ℕ → Type 0
IsCounted prices blocks q energy =
    energy + body_price prices (body_at blocks q.last.0)
    ≡ arrived_price prices blocks q.arrivals.items (length blocks)
    + part_price prices q.outcome (body_at blocks q.last.0) (q.last.1 - 1)
