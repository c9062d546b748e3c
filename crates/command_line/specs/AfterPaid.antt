-- The number that `relink` and `mix` print behind `after`: what OUT pays.
use Rattle.std.specs.Prelude.{◌≡◌, ℕ, ◌+◌, ◌*◌, Bool, List, [], ◌∷◌, ◌++◌, length, All}
use Rattle.elf_reader.specs.Loadable.{AreBytes}
use Rattle.board_config.specs.Board.{IsBoard}
use Rattle.board_config.specs.declared.board.Board.{Board}
use Rattle.object_machine.specs.State.{SourceState}
use Rattle.object_machine.specs.declared.events.Outcome.TheVariants.{Exited}
use Rattle.profile_runner.specs.Transition.{Transition}
use Rattle.profile_runner.specs.Transitions.{Transitions}
use Rattle.placement_programme.specs.Plain.{PlainProgramme, PlainChoice}
use Rattle.energy_model.specs.Energy.{Taken, is_nothing, energy}
use Rattle.energy_model.specs.Scenes.{scene_of}
use Rattle.placement_candidates.specs.Whole.{taken_of}
use Rattle.certificate_checker.specs.Nodes.{PlainCertificate}
use Rattle.certificate_checker.specs.Spelling.{Spells}
use Rattle.result_laws.specs.HomeLaws.{program_in, source_start, file_start}
use Rattle.relink_core.specs.Findings.{Findings}
use Rattle.relinking.specs.MixOfRuns.{WeightedInput}
use Rattle.printed_lines.specs.ReportText.{report_text}
use Rattle.paid_energy.specs.Inward.{inward_calls}
use Rattle.paid_energy.specs.Laws.{enough_steps, IsPairedWhereNothing, PaysEnergy}
use Rattle.shelf_io.specs.Shelf.{ShelfView}
use Rattle.shelf_io.specs.Sink.{SinkView, PutAll}
use Rattle.command_language.specs.Command.{PlainCommand, relink_command, mix_command, IsCommand, writes}
use Rattle.command_language.specs.Lines.{mix_lines}
use Rattle.command_line.specs.ProgramRun.{StatesOf}
use Rattle.command_line.specs.MixFile.{inputs_of, StatesOfAll}
use Rattle.command_line.specs.Answers.{ReportsAll, ReportsInputs}

-- ---- what is printed, and for which choice

-- a report tells this number behind `after`
pub record TellsAfter (report : List ℕ) (after : ℕ) : Type 0 where
  pub optimal : Bool
  pub nodes : ℕ
  pub before : ℕ
  pub lines : List ℕ
  pub report_is : report ≡ report_text optimal nodes before after ++ lines

-- a text spells a certificate of this choice
pub record IsCertificateOf (choice : PlainChoice) (text : List ℕ) : Type 0 where
  pub certificate : PlainCertificate
  pub spells : Spells text certificate
  pub choice_is : choice ≡ certificate.choice

-- ---- what is paid

-- The program's run on an input, for the board's steps, costs so much by the model with what is taken. Where it exits, OUT
-- exits with its code within so many steps, and where none of the run's calls is inward, OUT pays exactly this. Where nothing
-- is moved, that is said of a paired run
pub record OutPays (file out : List ℕ) (board : Board) (found : Findings file board) (taken : Taken) (input : List ℕ) (cost : ℕ) : Type 0 where
  pub transitions : List Transition
  pub last : SourceState
  pub run : Transitions (program_in file board found.graph) board.steps (source_start file board found.graph input) transitions last
  pub modelled : cost ≡ energy (scene_of found.graph found.code found.regions board) taken transitions
  pub pays : (code : ℕ) → last.outcome ≡ Exited code
      → IsPairedWhereNothing (is_nothing taken) file board found.graph input board.steps last
      → PaysEnergy board (enough_steps board (is_nothing taken) (length transitions)) (file_start out board input) code
      (inward_calls (scene_of found.graph found.code found.regions board) found.code taken transitions) cost

-- so it is on each of several inputs, each with its cost
abbrev pub OutPaysEach : (file out : List ℕ) (board : Board) → Findings file board → Taken → List WeightedInput → List ℕ → Type 0
OutPaysEach file out board found taken [] [] = Unit {0}
OutPaysEach file out board found taken [] (cost ∷ costs) = ⊥
OutPaysEach file out board found taken (i ∷ is) [] = ⊥
OutPaysEach file out board found taken (i ∷ is) (cost ∷ costs) =
    OutPays file out board found taken i.bytes cost × OutPaysEach file out board found taken is costs

-- each cost counts as often as its input weighs
abbrev pub weighted_sum : List WeightedInput → List ℕ → ℕ
weighted_sum (i ∷ is) (cost ∷ costs) = i.weight * cost + weighted_sum is costs
weighted_sum is costs = 0

-- ---- the commands

-- `relink`: with what the certificate's choice takes OUT pays on INPUT what the report tells behind `after`
pub record RelinkedPays (file board_text input certificate out report : List ℕ) : Type 0 where
  pub board : Board
  pub is_board : IsBoard board_text board
  pub programme : PlainProgramme
  pub states : StatesOf file board input programme
  pub choice : PlainChoice
  pub chosen : IsCertificateOf choice certificate
  pub after : ℕ
  pub told : TellsAfter report after
  pub pays : OutPays file out board states.found (taken_of programme choice) input after

-- `mix`: of what OUT pays on each input the report tells the weighted sum behind `after`
pub record MixedPays (file board_text : List ℕ) (inputs : List WeightedInput) (certificate out report : List ℕ) : Type 0 where
  pub board : Board
  pub is_board : IsBoard board_text board
  pub programme : PlainProgramme
  pub states : StatesOfAll file board inputs programme
  pub choice : PlainChoice
  pub chosen : IsCertificateOf choice certificate
  pub costs : List ℕ
  pub told : TellsAfter report (weighted_sum inputs costs)
  pub pays : OutPaysEach file out board states.found (taken_of programme choice) inputs costs

-- the words are those of a command, and the shelf tells what this reads before the call, and what it writes behind it
pub record TellsFiles (words : List (List ℕ)) (command : PlainCommand) (old new : ShelfView) (inputs outputs : List (List ℕ)) : Type 0 where
  pub is_command : IsCommand words command
  pub inputs_are : ReportsInputs old command inputs
  pub outputs_are : ReportsAll new (writes command) outputs

-- a text of which this holds was printed
abbrev pub Prints : (List ℕ → Type 0) → SinkView → SinkView → Type 0
Prints Holds sink sink' = (text : List ℕ) × (PutAll text sink sink' × Holds text)

-- what is printed for these bytes tells what OUT pays
abbrev pub RelinkPrintsPaid : List (List ℕ) → ShelfView → ShelfView → SinkView → SinkView → Type 0
RelinkPrintsPaid words old new sink sink' =
    (file_name board_name input_name out_name cert_name file board_text input certificate out : List ℕ)
    → TellsFiles words (relink_command file_name board_name input_name out_name cert_name) old new (file ∷ board_text ∷ input ∷ []) (certificate ∷ out ∷ [])
    → AreBytes file → AreBytes input
    → Prints (RelinkedPays file board_text input certificate out) sink sink'

-- so it does for those of the inputs that MIX lists
abbrev pub MixPrintsPaid : List (List ℕ) → ShelfView → ShelfView → SinkView → SinkView → Type 0
MixPrintsPaid words old new sink sink' =
    (file_name board_name mix_name out_name cert_name file board_text mix certificate out : List ℕ) (texts : List (List ℕ))
    → TellsFiles words (mix_command file_name board_name mix_name out_name cert_name) old new (file ∷ board_text ∷ mix ∷ texts) (certificate ∷ out ∷ [])
    → AreBytes file → All AreBytes texts
    → Prints (MixedPays file board_text (inputs_of (mix_lines mix) texts) certificate out) sink sink'

abbrev pub PrintsPaid : List (List ℕ) → ShelfView → ShelfView → SinkView → SinkView → Type 0
PrintsPaid words old new sink sink' = RelinkPrintsPaid words old new sink sink' × MixPrintsPaid words old new sink sink'
