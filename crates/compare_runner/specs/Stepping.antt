-- A step of the program and what is traced of it, as the code has them.
use Rattle.std.specs.Prelude.{◌≡◌, ℕ, length, Option, MatchOption}
use Rattle.std.specs.List.{AllPairs}
use Rattle.std.specs.List.Sorted.{IsStrictlyIncreasing}
use Rattle.rv32im.specs.declared.instructions.Instr.{Instr}
use Rattle.flat_machine.specs.State.{State}
use Rattle.code_blocks.specs.Numbers.{starts_of}
use Rattle.object_machine.specs.declared.events.Event.{Event}
use Rattle.object_machine.specs.Program.{Program}
use Rattle.object_machine.specs.State.{SourceState}
use Rattle.object_machine.specs.Step.{Reads, next_state}
use Rattle.relink_core.specs.UnitMaps.{StandsBefore}
use Rattle.compare_runner.specs.declared.marks.TracedStep.{TracedStep}
use Rattle.compare_runner.specs.declared.seeking.Came.{Came}
use Rattle.compare_runner.specs.declared.stepping.Traced.{Traced}
use Rattle.compare_runner.specs.Tracing.{TracedProgram, region_in, told_access, IsTracedStep, IsLostStep}

-- the program of which the parts are
abbrev pub traced_by : Program → Traced → TracedProgram
traced_by p x =
    record {
      program = p;
      starts = starts_of x.code.now;
      regions = x.regions.now.of_block.items;
      units = x.units.now;
      board = x.board.now;
    }

-- each block has a region, and blocks and forms are in order
pub record AreInOrder (x : Traced) : Type 0 where
  pub ascending : IsStrictlyIncreasing (starts_of x.code.now)
  pub regions : length x.regions.now.of_block.items ≡ length x.code.now.blocks.items
  pub ordered : AllPairs StandsBefore x.units.now

-- what is told of a step of the program, behind which the result came along so, from a form that stands at an address
abbrev pub told_step : Event → ℕ → ℕ → Came → TracedStep
told_step e region at came =
    record { home = e.at; region = region; at = at; steps = came.steps; access = told_access e.access came.access }

-- the program takes a step, and the result those that belong to it: what is told, or nothing where the step can't be traced
pub record TracesStep (w : TracedProgram) (region : ℕ) (s : SourceState) (t : State) (region' : ℕ) (s' : SourceState) (t' : State) (told : Option TracedStep) : Type 0 where
  pub read : Option Instr
  pub reads : Reads (w.program.word s.pc) read
  pub state : s' ≡ next_state w.program s read
  pub region_is : region' ≡ region_in w region s'
  pub is : MatchOption told (IsLostStep w region s read t) (λ x. IsTracedStep w region s read t x t')
