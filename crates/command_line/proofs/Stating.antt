-- A program that is relinked was run.
use Rattle.std.proofs.Common.{ℕ, List, refl}
use Rattle.result_laws.specs.HomeLaws.{program_in, source_start}
use Rattle.profile_runner.proofs.RunLemmas.{transitions_steps}
use Rattle.relinking.specs.Runs.{RunsProgram}
use Rattle.command_line.specs.RelinkFile.{RelinksTo}

pub relinked_runs : (file board_text input certificate out report : List ℕ) (made : RelinksTo file board_text input certificate out report)
    → RunsProgram file made.board input made.states.states.last.outcome
relinked_runs file board_text input certificate out report made =
    record {
      graph = made.states.found.graph;
      is_graph = made.states.found.is_graph;
      last = made.states.states.last;
      taken = transitions_steps (program_in file made.board made.states.found.graph) made.board.steps (source_start file made.board made.states.found.graph input) made.states.states.last made.states.states.transitions made.states.states.run;
      outcome_is = refl;
    }
