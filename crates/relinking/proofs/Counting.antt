-- The counts of a program's run, and its address fault.
use Rattle.std.proofs.Common.{◌≡◌, ◌∙◌, ℕ, List, length, Some, None, Result, Ok, Err, subst}
use Rattle.elf_reader.specs.File.{PlainView}
use Rattle.board_config.specs.declared.board.Board.{Board}
use Rattle.object_graph.specs.declared.parts.Graph.{Graph}
use Rattle.code_blocks.specs.Numbers.{starts_of}
use Rattle.code_blocks.specs.declared.parts.Code.{Code}
use Rattle.object_machine.specs.declared.events.Outcome.{Outcome}
use Rattle.object_machine.specs.declared.events.Outcome.TheVariants.{GoesOn, Exited, Trapped, AddressFault}
use Rattle.object_machine.specs.Program.{program_of}
use Rattle.object_machine.specs.State.{SourceState}
use Rattle.object_machine.specs.Start as start
use Rattle.region_former.specs.declared.table.RegionTable.{RegionTable}
use Rattle.profile_runner.specs.Transitions.{Transitions}
use Rattle.profile_runner.specs.Running.{fault_of, ReportsOfRun}
use Rattle.profile_runner.specs.declared.counts.Profile.{Profile}
use Rattle.profile_runner.specs.declared.fault.ProfileFault.{ProfileFault}
use Rattle.profile_runner.specs.declared.fault.ProfileFault.TheVariants.{AddressFault as FaultAt, Memory}
use Rattle.printed_lines.specs.Endings.{IsAddressFault}
use Rattle.relinking.specs.Runs.{ReportsCounts}
use Rattle.relinking.specs.MeasuredRuns.{EndsSo}
use Rattle.relinking.specs.declared.measuring.MeasuredEnd.{MeasuredEnd}

pub faulted : (o : Outcome) (pc why : ℕ) → fault_of o ≡ Some (FaultAt pc why) → o ≡ AddressFault pc why
faulted GoesOn pc why e = absurd (cc)
faulted (Exited code) pc why e = absurd (cc)
faulted (Trapped a) pc why e = absurd (cc)
faulted (AddressFault a b) pc why e = cc

pub unfaulted : (o : Outcome) → fault_of o ≡ None → IsAddressFault o → ⊥
unfaulted GoesOn e f = f
unfaulted (Exited code) e f = f
unfaulted (Trapped a) e f = f
unfaulted (AddressFault a b) e f = absurd (cc)

-- what is told of a run from the start
pub told_counts : (v : PlainView) (board : Board) (g : Graph) (c : Code) (t : RegionTable) (input : List ℕ) (first last : SourceState) (result : Result Profile ProfileFault)
    → first ≡ start.start_of v (program_of v board g) g input
    → ReportsOfRun (starts_of c) t.of_block.items t.count (length g.objects.items) (program_of v board g) board.steps first last result
    → ReportsCounts v board g c t input result
told_counts v board g c t input first last result same told =
    let p = program_of v board g in (
      last,
      subst (λ (s : SourceState). ReportsOfRun (starts_of c) t.of_block.items t.count (length g.objects.items) p board.steps s last result) same told,
    )

-- how it ended, where this is its profile
pub ends_so : (v : PlainView) (board : Board) (g : Graph) (c : Code) (t : RegionTable) (input : List ℕ) (first last : SourceState) (q : Profile) (e : MeasuredEnd)
    → first ≡ start.start_of v (program_of v board g) g input
    → ReportsOfRun (starts_of c) t.of_block.items t.count (length g.objects.items) (program_of v board g) board.steps first last (Ok q)
    → e.steps ≡ q.steps → e.outcome ≡ q.outcome → e.at ≡ last.pc → EndsSo v board g input e
ends_so v board g c t input first last q e same told steps outcome at =
    record {
      transitions = told.transitions;
      last = last;
      run = subst (λ (s : SourceState). Transitions (program_of v board g) board.steps s told.transitions last) same told.run;
      steps_are = steps ∙ told.profile.steps;
      outcome_is = outcome ∙ told.profile.outcome_is;
      at_is = at;
    }

pub no_memory : (v : PlainView) (board : Board) (g : Graph) (c : Code) (t : RegionTable) (input : List ℕ) → ReportsCounts v board g c t input (Err Memory)
no_memory v board g c t input = (start.start_of v (program_of v board g) g input, tt)
