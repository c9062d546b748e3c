-- A certificate for the programme that a run states: what is told of it.
use Rattle.std.proofs.Common.{◌≡◌, inl, inr, ℕ, Bool, true, false, List, Some, None, Ok, Err, refl, sym, subst}
use Rattle.placement_programme.specs.Plain.{PlainProgramme, PlainChoice}
use Rattle.placement_programme.specs.Programme.{IsFeasible}
use Rattle.elf_reader.specs.File.{PlainView, plain_view}
use Rattle.board_config.specs.declared.board.Board.{Board}
use Rattle.certificate_checker.specs.Nodes.{PlainCertificate}
use Rattle.certificate_checker.specs.Reading.{certificate_of}
use Rattle.certificate_checker.specs.Spelling.{AreBytes}
use Rattle.certificate_checker.specs.Shows.{Answers}
use Rattle.certificate_checker.specs.Rooms.{KeepsChoice, BodyAnswers}
use Rattle.certificate_checker.specs.Views.{plain_verdict}
use Rattle.certificate_checker.specs.declared.verdict.Verdict.{Verdict}
use Rattle.certificate_checker.specs.declared.fault.CertFault.{CertFault}
use Rattle.certificate_checker.specs.declared.fault.CertFault.TheVariants as cert
use Rattle.certificate_checker.proofs.Least.{shown_is_least}
use Rattle.certificate_checker.proofs.TextLaws.{certificate_takes}
use Rattle.command_language.specs.FaultLine.{parts_of, cert_command_fault}
use Rattle.command_line.specs.Analysed.{Accepts, IsOpened}
use Rattle.command_line.specs.ProgramRun.{StatesOf, RejectsProfiled}
use Rattle.relinking.specs.ProgrammeOfRun.{StatesProgramme}
use Rattle.relinking.specs.FoundChoice.{IsLeast}
use Rattle.printed_lines.specs.ReportText.{IsReport}
use Rattle.command_line.specs.CheckFile.{answer_of, AcceptsChoice, ReportsText, told_of, ReportsCertificate, unspelled, answered, of_run, of_certificate, RejectsChecked, RejectsText}
use Rattle.command_line.specs.declared.opened.Opened.{Opened}
use Rattle.command_language.specs.declared.faults.CommandFault.{CommandFault}
use Rattle.relinking.proofs.Analysed.{findings}
use Rattle.command_line.proofs.Analysing.{opened_view}

-- ---- an answer

kept_is : (says : Bool) (choice kept : PlainChoice) → KeepsChoice choice kept (answer_of says) → kept ≡ choice
kept_is true choice kept same = same
kept_is false choice kept same = same

answered_feasible : (p : PlainProgramme) (says : Bool) (c : PlainCertificate) → Answers p c (answer_of says) → IsFeasible p c.choice
answered_feasible p true c answers = answers.1.accepted.feasible
answered_feasible p false c answers = answers.0.1.feasible

answered_least : (p : PlainProgramme) (says : Bool) (c : PlainCertificate) → Answers p c (answer_of says) → says ≡ true → IsLeast p c.choice
answered_least p true c answers is = λ other feasible. (shown_is_least p c other answers feasible).1
answered_least p false c answers is = absurd (cc (is))

-- a choice that is accepted is feasible
pub accepted_feasible : (p : PlainProgramme) (text : List ℕ) (says : Bool) (choice : PlainChoice) → AcceptsChoice p text says choice → IsFeasible p choice
accepted_feasible p text says choice accepted =
    subst (IsFeasible p) (sym accepted.choice_is) (answered_feasible p says accepted.certificate accepted.answers)

-- and has its report
pub accepted_reported : (p : PlainProgramme) (nodes : ℕ) (text : List ℕ) (says : Bool) (choice : PlainChoice) (report : List ℕ)
    → AcceptsChoice p text says choice → IsReport p nodes choice says report → ReportsText p nodes text report
accepted_reported p nodes text says choice report accepted made =
    record {
      certificate = accepted.certificate;
      spells = accepted.spells;
      says_optimal = says;
      answers = accepted.answers;
      least = answered_least p says accepted.certificate accepted.answers;
      is_report = subst (λ (x : PlainChoice). IsReport p nodes x says report) accepted.choice_is made;
    }

module _ (p : PlainProgramme) (text : List ℕ) (kept : PlainChoice) (all : AreBytes text) where
  -- a text whose choice is kept
  pub text_accepted : (v : Verdict) (says : Bool) → BodyAnswers p kept (Ok v) (certificate_of text) → plain_verdict v ≡ answer_of says → AcceptsChoice p text says kept
  text_accepted v says body is =
      let (c, (read, answers, same)) = body in
      record {
        certificate = c;
        spells = certificate_takes text c all read;
        answers = subst (Answers p c) is answers;
        choice_is = kept_is says c.choice kept (subst (KeepsChoice c.choice kept) is same);
      }

  -- and one that is rejected for its answer tells that
  pub text_rejected : (v : Verdict) (fault : CommandFault) → BodyAnswers p kept (Ok v) (certificate_of text)
      → told_of (plain_verdict v) ≡ Some (parts_of fault) → RejectsText p text fault
  text_rejected v fault body told =
      let (c, (read, answers, same)) = body in inr (answered c (plain_verdict v) (certificate_takes text c all read) answers (sym told))

-- a text that spells no certificate
pub unspelled_rejected : (p : PlainProgramme) (text : List ℕ) (fault : CertFault) → certificate_of text ≡ Err fault
    → RejectsText p text (cert_command_fault fault)
unspelled_rejected p text (cert.BadHead at) read = inr (unspelled (cert.BadHead at) read refl)
unspelled_rejected p text (cert.Truncated at) read = inr (unspelled (cert.Truncated at) read refl)
unspelled_rejected p text (cert.BadNode at) read = inr (unspelled (cert.BadNode at) read refl)
unspelled_rejected p text (cert.TooDeep at) read = inr (unspelled (cert.TooDeep at) read refl)
unspelled_rejected p text (cert.Trailing at) read = inr (unspelled (cert.Trailing at) read refl)
unspelled_rejected p text cert.Memory read = inl refl

-- ---- the command

none_told : (says : Bool) → None ≡ told_of (answer_of says)
none_told true = refl
none_told false = refl

-- of a text that has a report nothing is told
pub nothing_told : (p : PlainProgramme) (nodes : ℕ) (text report : List ℕ) → ReportsText p nodes text report → ReportsCertificate p text None
nothing_told p nodes text report made =
    answered made.certificate (answer_of made.says_optimal) made.spells made.answers (none_told made.says_optimal)

-- a fault before the text
pub run_rejected_first : (board_text file input text : List ℕ) (fault : CommandFault) → RejectsProfiled board_text file input fault
    → RejectsChecked board_text file input text fault
run_rejected_first board_text file input text fault (inl memory) = inl memory
run_rejected_first board_text file input text fault (inr told) = inr (of_run (parts_of fault) told refl)

-- a fault of the text
pub certificate_told : (board_text file input text : List ℕ) (board : Board) (p : PlainProgramme) (fault : CommandFault)
    → Accepts board_text file board → StatesOf file board input p → RejectsText p text fault → RejectsChecked board_text file input text fault
certificate_told board_text file input text board p fault accepts states (inl memory) = inl memory
certificate_told board_text file input text board p fault accepts states (inr told) = inr (of_certificate board p accepts states told)

-- what a view states, its file states
pub states_of : (board_text file input : List ℕ) (o : Opened) (p : PlainProgramme) → IsOpened board_text file o
    → StatesProgramme (plain_view o.analysis.view) o.board o.analysis.graph o.analysis.code o.analysis.regions o.analysis.pieces.items input p
    → StatesOf file o.board input p
states_of board_text file input o p is states =
    let a = o.analysis in
    record {
      found = findings file o.board a is.analysed;
      states = subst (λ (u : PlainView). StatesProgramme u o.board a.graph a.code a.regions a.pieces.items input p) (opened_view board_text file o is) states;
    }
