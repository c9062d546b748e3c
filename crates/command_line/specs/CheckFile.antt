-- What `check` tells of a file, a board, an input and a certificate.
use Rattle.std.specs.Prelude.{◌≡◌, ◌⊎◌, ℕ, Bool, true, false, List, Option, Some, None, Err}
use Rattle.board_config.specs.declared.board.Board.{Board}
use Rattle.placement_programme.specs.Plain.{PlainProgramme, PlainChoice}
use Rattle.certificate_checker.specs.Nodes.{PlainCertificate}
use Rattle.certificate_checker.specs.Reading.{certificate_of}
use Rattle.certificate_checker.specs.Spelling.{Spells}
use Rattle.certificate_checker.specs.Shows.{PlainVerdict, optimal, best_found, bad_choice, wrong, Answers}
use Rattle.certificate_checker.specs.declared.fault.CertFault.{CertFault}
use Rattle.command_language.specs.FaultLine.{Parts, cert_parts, choice_parts, tree_parts, parts_of}
use Rattle.command_line.specs.Analysed.{Accepts}
use Rattle.command_line.specs.ProgramRun.{StatesOf, ReportsProfiled}
use Rattle.printed_lines.specs.ReportText.{IsReport}
use Rattle.relinking.specs.FoundChoice.{IsLeast}
use Rattle.command_language.specs.declared.faults.CommandFault.{CommandFault}
use Rattle.command_language.specs.declared.faults.CommandFault.TheVariants as command_fault

-- the answers of which a report is made: that the choice is best, and that no tree says so
abbrev pub answer_of : Bool → PlainVerdict
answer_of true = optimal
answer_of false = best_found

-- the text spells a certificate of this choice, which is answered so: the choice is feasible and gains no less than 0
pub record AcceptsChoice (p : PlainProgramme) (text : List ℕ) (says_optimal : Bool) (choice : PlainChoice) : Type 0 where
  pub certificate : PlainCertificate
  pub spells : Spells text certificate
  pub answers : Answers p certificate (answer_of says_optimal)
  pub choice_is : choice ≡ certificate.choice

-- The text spells a certificate whose choice is feasible and gains no less than 0. The report says `optimal` where its
-- trees show that no feasible choice has less energy, and `best found` where it has none.
pub record ReportsText (p : PlainProgramme) (nodes : ℕ) (text report : List ℕ) : Type 0 where
  pub certificate : PlainCertificate
  pub spells : Spells text certificate
  pub says_optimal : Bool
  pub answers : Answers p certificate (answer_of says_optimal)
  pub least : says_optimal ≡ true → IsLeast p certificate.choice
  pub is_report : IsReport p nodes certificate.choice says_optimal report

-- the text's certificate is one for the programme that the run states, and the report is on its choice
pub record ChecksTo (file board_text input text report : List ℕ) : Type 0 where
  pub board : Board
  pub accepts : Accepts board_text file board
  pub programme : PlainProgramme
  pub states : StatesOf file board input programme
  pub reports : ReportsText programme board.nodes text report

-- what is told of a certificate that is answered so
abbrev pub told_of : PlainVerdict → Option Parts
told_of optimal = None
told_of best_found = None
told_of bad_choice = Some choice_parts
told_of (wrong side node depth) = Some (tree_parts side node)

-- what is told of a text, if it is rejected: where it breaks the grammar, or how its certificate fails
pub data ReportsCertificate (p : PlainProgramme) (text : List ℕ) (told : Option Parts) : Type 0 where
  unspelled : (fault : CertFault) → certificate_of text ≡ Err fault → told ≡ Some (cert_parts fault)
      → ReportsCertificate p text told
  answered : (certificate : PlainCertificate) (verdict : PlainVerdict) → Spells text certificate
      → Answers p certificate verdict → told ≡ told_of verdict → ReportsCertificate p text told

-- what is told of the first fault, if there is one: those of the board, the file and the run come before the text
pub data ReportsChecked (board_text file input text : List ℕ) (told : Option Parts) : Type 0 where
  of_run : (parts : Parts) → ReportsProfiled board_text file input (Some parts) → told ≡ Some parts
      → ReportsChecked board_text file input text told
  of_certificate : (board : Board) (programme : PlainProgramme) → Accepts board_text file board
      → StatesOf file board input programme → ReportsCertificate programme text told
      → ReportsChecked board_text file input text told

-- a computation on the inputs was rejected: for want of memory, or by the first fault
abbrev pub RejectsChecked : List ℕ → List ℕ → List ℕ → List ℕ → CommandFault → Type 0
RejectsChecked board_text file input text fault =
    (fault ≡ command_fault.Memory) ⊎ ReportsChecked board_text file input text (Some (parts_of fault))

-- the same of a computation on a programme and a text
abbrev pub RejectsText : PlainProgramme → List ℕ → CommandFault → Type 0
RejectsText p text fault = (fault ≡ command_fault.Memory) ⊎ ReportsCertificate p text (Some (parts_of fault))
