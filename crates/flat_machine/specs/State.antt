-- The state of the flat machine: one hart, its memory, and the world that its calls see.
use Rattle.std.specs.Prelude.{ℕ, List}
use Rattle.rv32im.specs.Acts.{Hart}
use Rattle.board_config.specs.declared.board.Range.{Range}
use Rattle.flat_machine.specs.declared.events.FlatOutcome.{FlatOutcome}
use Rattle.flat_machine.specs.declared.events.FlatOutcome.TheVariants.{Trapped}

pub record State : Type 0 where
  -- the mapped memory, which never changes
  pub map : List Range
  pub hart : Hart
  -- the input that no call has read yet
  pub input : List ℕ
  -- all that was written
  pub output : List ℕ
  pub outcome : FlatOutcome

-- a step that traps changes nothing but the outcome
abbrev pub trap : State → State
trap s = record s { outcome = Trapped s.hart.pc }
