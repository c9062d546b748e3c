-- Two results for one choice start alike, and so run alike.
use Rattle.std.specs.Prelude.{◌≡◌, ◌↔◌, ℕ, List, length}
use Rattle.board_config.specs.declared.board.Board.{Board}
use Rattle.flat_machine.specs.declared.events.FlatEvent.{FlatEvent}
use Rattle.flat_machine.specs.declared.events.FlatOutcome.{FlatOutcome}
use Rattle.flat_machine.specs.State.{State}
use Rattle.flat_machine.specs.Runs.{Does, Steps}
use Rattle.object_graph.specs.declared.parts.Graph.{Graph}
use Rattle.code_blocks.specs.declared.parts.Code.{Code}
use Rattle.region_former.specs.declared.table.RegionTable.{RegionTable}
use Rattle.result_laws.specs.HomeLaws.{file_start}
use Rattle.relink_core.specs.Placed.{Taken, Realises}
use Rattle.paid_energy.specs.FlatRuns.{PaysRun}
use Rattle.paid_energy.specs.Laws.{IsPassed}

-- two machines are at one address with the same registers, and have the same byte at each address of memory. All else is
-- the same
pub record AreAlike (s t : State) : Type 0 where
  pub pc : s.hart.pc ≡ t.hart.pc
  pub registers : (k : ℕ) → s.hart.regs k ≡ t.hart.regs k
  pub memory : (a : ℕ) → s.hart.mem a ≡ t.hart.mem a
  pub whole : s ≡ t

-- each run of one is one of the other, with the same events; so many steps lead both to one state, which has what was written
-- and how the run ended; and both pay the same
pub record RunAlike (board : Board) (s t : State) : Type 0 where
  pub steps : (n : ℕ) (u : State) → Steps n s u ↔ Steps n t u
  pub events : (es : List FlatEvent) (u : State) → Does es s u ↔ Does es t u
  pub one_state : (n : ℕ) (u w : State) → Steps n s u → Steps n t w → u ≡ w
  pub one_list : (es fs : List FlatEvent) (u w : State) → length es ≡ length fs → Does es s u → Does fs t w → es ≡ fs
  pub pays : (most : ℕ) (outcome : FlatOutcome) (steps energy : ℕ) → PaysRun board most s outcome steps energy ↔ PaysRun board most t outcome steps energy
  pub one_price : (most : ℕ) (outcome other : FlatOutcome) (steps more energy paid : ℕ)
      → PaysRun board most s outcome steps energy → PaysRun board most t other more paid
      → (outcome ≡ other) × (steps ≡ more) × (energy ≡ paid)

-- so do files that realise the same of one that has passed its checks, with any input
abbrev pub ResultsStartAlike : Type 0
ResultsStartAlike =
    (file out other : List ℕ) (board : Board) (g : Graph) (c : Code) (t : RegionTable) (taken : Taken) (input : List ℕ)
    → IsPassed file board g c → Realises file board g c t taken out → Realises file board g c t taken other
    → AreAlike (file_start out board input) (file_start other board input)
    × RunAlike board (file_start out board input) (file_start other board input)
