-- Which states of the flat machine match one of the program, while a result runs.
use Rattle.std.specs.Prelude.{◌≡◌, ℕ, ◌+◌, ◌*◌, ◌≤◌, List}
use Rattle.rv32im.specs.Memory.{word_at}
use Rattle.elf_reader.specs.Loadable.{AreBytes}
use Rattle.board_config.specs.declared.board.Board.{Board}
use Rattle.flat_machine.specs.State.{State}
use Rattle.flat_machine.specs.Runs as flat
use Rattle.object_graph.specs.declared.parts.Graph.{Graph}
use Rattle.code_blocks.specs.declared.parts.Code.{Code}
use Rattle.object_machine.specs.declared.events.Outcome.TheVariants.{GoesOn}
use Rattle.object_machine.specs.State.{SourceState}
use Rattle.object_machine.specs.Runs.{Steps}
use Rattle.object_machine.specs.Paired.{at_start}
use Rattle.patch_code.specs.Overlay.{OverlayPlan}
use Rattle.simulation.specs.Relation.{Alike}
use Rattle.simulation.specs.Changes.{AreAtHomeToo}
use Rattle.result_laws.specs.HomeLaws.{program_in, unnamed_in, source_start, file_start}
use Rattle.result_laws.specs.LiveUnits.{live_at}
use Rattle.result_laws.specs.ResultLaws.{most_steps}
use Rattle.result_laws.specs.Held.{IsHeld}
use Rattle.result_laws.specs.ChosenPlacement.{ChosenPlacement}
use Rattle.result_laws.specs.PlacedLaws.{IsPlacedResult, setup_of}
use Rattle.result_laws.specs.PlacedForms.{IsFormOf}

-- Both machines are before the same unit while a region is current, whose number the first control word has. What matters is
-- alike: registers, fixed memory, and each object at its place. Objects that nothing writes are at their homes too. The unit
-- may run in that region, the flat machine is at one of its forms, and addresses are where they may be
pub record Match (file out : List ℕ) (board : Board) (g : Graph) (c : Code) (pl : ChosenPlacement) (plan : OverlayPlan) (s : SourceState) (t : State) : Type 0 where
  pub region : ℕ
  pub known : region ≤ pl.count
  pub alike : Alike (unnamed_in file board g) (setup_of file out board g pl) (live_at c) region s.pc s at_start t
  pub homes : AreAtHomeToo (unnamed_in file board g) (setup_of file out board g pl) region s at_start t
  pub number : word_at t.hart.mem board.patch.base ≡ region
  pub at : IsFormOf c g pl plan region s.pc t.hart.pc
  pub held : IsHeld c g s

-- so many steps lead from the start of a result to such a state
pub record Matched (file out : List ℕ) (board : Board) (g : Graph) (c : Code) (pl : ChosenPlacement) (plan : OverlayPlan) (input : List ℕ) (least most : ℕ) (s : SourceState) : Type 0 where
  pub steps : ℕ
  pub after : State
  pub some : least ≤ steps
  pub few : steps ≤ most
  pub ran : flat.Steps steps (file_start out board input) after
  pub match : Match file out board g c pl plan s after

-- where a program goes on, its result matches it behind each of its steps
abbrev pub PlacedStatesMatch : Type 0
PlacedStatesMatch =
    (file out : List ℕ) (board : Board) (g : Graph) (c : Code) (pl : ChosenPlacement)
    (result : IsPlacedResult file out board g c pl) (input : List ℕ) (n : ℕ) (s : SourceState)
    → AreBytes input → Steps (program_in file board g) n (source_start file board g input) s → s.outcome ≡ GoesOn
    → Matched file out board g c pl result.view.plan input n ((n + 1) * most_steps board) s
