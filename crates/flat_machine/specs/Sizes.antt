-- Registers hold words, and memory and input hold bytes, in each state that a program reaches.
use Rattle.std.specs.Prelude.{ℕ, ◌<◌, List}
use Rattle.rv32im.specs.Acts.{HoldsWords}
use Rattle.elf_reader.specs.File.{PlainSegment}
use Rattle.elf_reader.specs.Loadable.{AreBytes, AreLoadable}
use Rattle.board_config.specs.declared.board.Range.{Range}
use Rattle.flat_machine.specs.declared.events.FlatEvent.{FlatEvent}
use Rattle.flat_machine.specs.State.{State}
use Rattle.flat_machine.specs.Start.{start_of}
use Rattle.flat_machine.specs.Step.{Step}
use Rattle.flat_machine.specs.Runs.{Steps}

-- the pc and the registers hold words, and the memory and the input's rest hold bytes
pub record HasWords (s : State) : Type 0 where
  pub hart : HoldsWords s.hart
  pub input : AreBytes s.input

-- so it is at the start of a program, and stays
pub record WordsStay : Type 0 where
  pub start : (entry : ℕ) (segments : List PlainSegment) (map : List Range) (input : List ℕ) →
      entry < 4294967296 → AreLoadable segments → AreBytes input →
      HasWords (start_of entry segments map input)
  pub step : (s t : State) (e : FlatEvent) → HasWords s → Step s e t → HasWords t
  pub steps : (n : ℕ) (s t : State) → HasWords s → Steps n s t → HasWords t
