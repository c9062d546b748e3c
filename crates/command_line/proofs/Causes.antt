-- From a command to the words of the command line.
use Rattle.std.proofs.Common.{◌≡◌, inl, inr, ℕ, List, refl, subst, sym, arith}
use Rattle.shelf_io.specs.Shelf.{ShelfView}
use Rattle.shelf_io.specs.Sink.{SinkView}
use Rattle.command_language.specs.Command.{PlainCommand, IsCommand}
use Rattle.command_files.specs.Diagnostic.{IsDiagnosticOrMemory}
use Rattle.command_line.specs.Listing.{name_fails, names_want_memory}
use Rattle.command_line.specs.Performing.{Performs, YieldsOf, InputsFail, RejectsPreparing, RejectsPerforming, IsRejectedBy, preparing_fails, write_fails, print_fails, line_wants_memory, write_wants_memory}
use Rattle.command_line.specs.Answers.{Produces, InputFails, IsDone, IsNoCommand, WantsBeforeWriting, Cause, HasCause}
use Rattle.command_files.specs.declared.diagnostic.Diagnostic.{Diagnostic}
use Rattle.command_language.specs.declared.faults.CommandFault.{CommandFault}
use Rattle.command_language.specs.declared.faults.CommandFault.TheVariants as command_fault
use Rattle.command_line.proofs.Statuses.{first_least}

abbrev produces : (words : List (List ℕ)) (command : PlainCommand) (outputs : List (List ℕ)) (text : List ℕ) (shelf : ShelfView)
    → IsCommand words command → YieldsOf command outputs text shelf → Produces words outputs text shelf
produces words command outputs text shelf is yields = record { command = command; is_command = is; of_shelf = yields }

-- a performed command is done
pub done_of_performs : (words : List (List ℕ)) (command : PlainCommand) (old new : ShelfView) (sink sink' : SinkView)
    → IsCommand words command → Performs command old new sink sink' → IsDone words old new sink sink'
done_of_performs words command old new sink sink' is p =
    record {
      text = p.text;
      delivers = record { outputs = p.outputs; produces = produces words command p.outputs p.text old is p.of_shelf; set = p.set };
      printed = p.printed;
    }

-- what was read is rejected by its first fault
input_cause : (fault : CommandFault) (words : List (List ℕ)) (old new : ShelfView) (sink mid : SinkView)
    → InputFails words fault old new → mid ≡ sink → Cause fault words old new sink mid
input_cause (command_fault.Board fault) words old new sink mid f same = (f, same)
input_cause (command_fault.Elf fault) words old new sink mid f same = (f, same)
input_cause (command_fault.Analyse fault) words old new sink mid f same = (f, same)
input_cause (command_fault.AddressFault pc why) words old new sink mid f same = (f, same)
input_cause (command_fault.Certificate fault) words old new sink mid f same = (f, same)
input_cause command_fault.BadChoice words old new sink mid f same = (f, same)
input_cause (command_fault.WrongTree side node) words old new sink mid f same = (f, same)
input_cause (command_fault.Hex fault) words old new sink mid f same = (f, same)
input_cause (command_fault.BadMix at) words old new sink mid f same = (f, same)
input_cause (command_fault.Differs at) words old new sink mid f same = (f, same)
input_cause (command_fault.SourceFault pc why) words old new sink mid f same = (f, same)
input_cause command_fault.Usage words old new sink mid f same =
    let low = first_least f.command f.inputs _ f.first in absurd (omega arith)
input_cause (command_fault.Read place) words old new sink mid f same =
    let low = first_least f.command f.inputs _ f.first in absurd (omega arith)
input_cause (command_fault.Write place) words old new sink mid f same =
    let low = first_least f.command f.inputs _ f.first in absurd (omega arith)
input_cause command_fault.Memory words old new sink mid f same = (inl (inl f.same), same)

inputs_cause : (words : List (List ℕ)) (command : PlainCommand) (old new : ShelfView) (sink mid : SinkView) (fault : CommandFault)
    → IsCommand words command → (f : InputsFail command old new fault) → mid ≡ sink → Cause fault words old new sink mid
inputs_cause words command old new sink mid fault is f same =
    elim f.rejects [
      | inl e ↦ subst (λ (r : CommandFault). Cause r words old new sink mid) (sym e) (inl (inl f.same), same)
      | inr first ↦ input_cause fault words old new sink mid
          (record { command = command; is_command = is; inputs = f.inputs; holds = f.holds; first = first; same = f.same }) same
    ]

-- a command that can't be prepared has written nothing
before_writing : (words : List (List ℕ)) (command : PlainCommand) (old new : ShelfView) (fault : CommandFault)
    → IsCommand words command → RejectsPreparing command old new fault → WantsBeforeWriting words old new
before_writing words command old new fault is (inl (name_fails n is_read e logged)) =
    inr (n.place, record { command = command; is_command = is; read = n; is_read = is_read; place_is = refl; logged = logged })
before_writing words command old new fault is (inl (names_want_memory e same)) = inl same
before_writing words command old new fault is (inr f) = inl f.same

-- a rejected command has its cause
cause_of_rejects : (words : List (List ℕ)) (command : PlainCommand) (old new : ShelfView) (sink mid : SinkView) (fault : CommandFault)
    → IsCommand words command → RejectsPerforming command old new sink mid fault → Cause fault words old new sink mid
cause_of_rejects words command old new sink mid fault is (preparing_fails (inl (name_fails n is_read e logged)) same) =
    subst (λ (r : CommandFault). Cause r words old new sink mid) (sym e)
    (record { command = command; is_command = is; read = n; is_read = is_read; place_is = refl; logged = logged }, same)
cause_of_rejects words command old new sink mid fault is (preparing_fails (inl (names_want_memory e shelf_same)) same) =
    subst (λ (r : CommandFault). Cause r words old new sink mid) (sym e) (inl (inl shelf_same), same)
cause_of_rejects words command old new sink mid fault is (preparing_fails (inr f) same) =
    inputs_cause words command old new sink mid fault is f same
cause_of_rejects words command old new sink mid fault is (write_fails outputs text place yields e lost same) =
    subst (λ (r : CommandFault). Cause r words old new sink mid) (sym e)
    (inl (record { outputs = outputs; text = text; produces = produces words command outputs text old is yields; lost = lost }, same))
cause_of_rejects words command old new sink mid fault is (print_fails outputs text yields e set printed) =
    subst (λ (r : CommandFault). Cause r words old new sink mid) (sym e)
    (inr (record {
      place_is = refl;
      text = text;
      delivers = record { outputs = outputs; produces = produces words command outputs text old is yields; set = set };
      printed = printed;
    }))
cause_of_rejects words command old new sink mid fault is (line_wants_memory untold preparing e same) =
    subst (λ (r : CommandFault). Cause r words old new sink mid) (sym e) (inl (before_writing words command old new untold is preparing), same)
cause_of_rejects words command old new sink mid fault is (write_wants_memory outputs text yields e wants same) =
    subst (λ (r : CommandFault). Cause r words old new sink mid) (sym e)
    (inr (record { outputs = outputs; text = text; produces = produces words command outputs text old is yields; wants = wants }), same)

pub has_cause : (words : List (List ℕ)) (command : PlainCommand) (old new : ShelfView) (sink mid : SinkView) (r : Diagnostic)
    → IsCommand words command → IsRejectedBy command old new sink mid r → HasCause words old new sink mid r
has_cause words command old new sink mid r is x =
    record { fault = x.fault; prepared = x.prepared; cause = cause_of_rejects words command old new sink mid x.fault is x.cause }

-- words that are no command
pub usage_cause : (words : List (List ℕ)) (old : ShelfView) (sink : SinkView) (r : Diagnostic)
    → IsNoCommand words → IsDiagnosticOrMemory command_fault.Usage r → HasCause words old old sink sink r
usage_cause words old sink r none (inl prepared) =
    record { fault = command_fault.Usage; prepared = prepared; cause = (none, refl, refl) }
usage_cause words old sink r none (inr prepared) =
    record { fault = command_fault.Memory; prepared = prepared; cause = (inl (inl refl), refl) }
