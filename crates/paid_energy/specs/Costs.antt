-- What a run of the flat machine costs, in units of a board's prices: each fetch, load and store, by where it is.
use Rattle.std.specs.Prelude.{ℕ, ◌+◌, Bool, if◌then◌else◌, List, Option, Some, None}
use Rattle.std.specs.List.{sum_by}
use Rattle.board_config.specs.declared.board.Board.{Board}
use Rattle.flat_machine.specs.declared.events.FlatAccess.{FlatAccess}
use Rattle.flat_machine.specs.declared.events.FlatEvent.{FlatEvent}
use Rattle.flat_machine.specs.Mapping.{in_range}
use Rattle.energy_model.specs.Priced.{direction_price}

-- an address lies in the scratchpad
abbrev pub is_fast : Board → ℕ → Bool
is_fast board a = in_range board.spm a

-- a fetch at an address, also one that traps
abbrev pub fetch_cost : Board → ℕ → ℕ
fetch_cost board a = if is_fast board a then board.prices.spm_fetch else board.prices.main_fetch

-- a load or a store, by the least address of its bytes; it is aligned, so all of them are in the scratchpad or none is
abbrev pub access_cost : Board → FlatAccess → ℕ
access_cost board access = direction_price board.prices (is_fast board access.at) access.write

abbrev pub told_cost : Board → Option FlatAccess → ℕ
told_cost board None = 0
told_cost board (Some access) = access_cost board access

-- a step fetches once, and makes at most one access. Bytes that a call moves cost nothing
abbrev pub event_cost : Board → FlatEvent → ℕ
event_cost board e = fetch_cost board e.at + told_cost board e.access

abbrev pub run_cost : Board → List FlatEvent → ℕ
run_cost board es = sum_by (event_cost board) es
