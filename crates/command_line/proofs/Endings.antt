-- How the parts of a command make its ending.
use Rattle.std.proofs.Common.{◌≡◌, ◌⊎◌, inl, inr, ℕ, List, [], ◌∷◌, Option, refl, subst, sym, arith}
use Rattle.shelf_io.specs.Shelf.{ShelfView, SetsName, LosesName}
use Rattle.shelf_io.specs.Sink.{SinkView}
use Rattle.printed_lines.specs.Texts.{text_of}
use Rattle.command_language.specs.Command.{PlainCommand, Named, writes}
use Rattle.command_files.specs.Diagnostic.{IsDiagnosticOf, IsDiagnosticOrMemory}
use Rattle.command_files.specs.Writing.{ArePrepared, SetsAll, SetsPrepared, LosesOne, WantsInOne, FailsToWrite, write_fails, wants_memory}
use Rattle.command_line.specs.Delivery.{DeliversAll, FailsToDeliver, writing_fails, print_fails}
use Rattle.relinking.specs.declared.measuring.MeasuredEnd.{MeasuredEnd}
use Rattle.command_files.proofs.Diagnostics.{memory_prepared}
use Rattle.command_line.specs.Performing.{IsPrepared, RejectsPreparing, Performs, TellsEndOf, YieldsOf, IsRejectedBy}
use Rattle.command_line.specs.Performing as performing
use Rattle.command_files.specs.declared.writing.Output.{Output}
use Rattle.command_line.specs.declared.delivery.PreparedResult.{PreparedResult}
use Rattle.command_files.specs.declared.diagnostic.Diagnostic.{Diagnostic}
use Rattle.command_files.specs.declared.diagnostic.Diagnostic.TheVariants as diagnostic
use Rattle.command_language.specs.declared.faults.CommandFault.{CommandFault}
use Rattle.command_language.specs.declared.faults.CommandFault.TheVariants as command_fault

-- a write under the name and with the bytes that stand ready
named_set : (name name' bytes bytes' : List ℕ) (old new : ShelfView)
    → name ≡ name' → bytes ≡ bytes' → SetsName name bytes old new → SetsName name' bytes' old new
named_set name name' bytes bytes' old new same_name same_bytes set =
    subst (λ (n : List ℕ). SetsName n bytes' old new) same_name
    (subst (λ (b : List ℕ). SetsName name b old new) same_bytes set)

-- what was written of outputs that stood ready
pub sets_all : (names : List Named) (outputs : List (List ℕ)) (prepared : List Output) (old new : ShelfView)
    → ArePrepared names outputs prepared → SetsPrepared prepared old new → SetsAll names outputs old new
sets_all [] [] [] old new r s = s
sets_all [] [] (o ∷ prepared) old new r s = absurd r
sets_all [] (x ∷ outputs) prepared old new r s = absurd r
sets_all (w ∷ names) [] prepared old new r s = absurd r
sets_all (w ∷ names) (x ∷ outputs) [] old new r s = absurd r
sets_all (w ∷ names) (x ∷ outputs) (o ∷ prepared) old new r s =
    let (mid, set, rest) = s in
    (mid, named_set _ _ _ _ old mid r.0.name r.0.bytes set, sets_all names outputs prepared mid new r.1 rest)

-- a write of them failed, or wanted memory, and `r` is the fault of that
abbrev WriteFailure : List Named → List (List ℕ) → ShelfView → ShelfView → Diagnostic → Type 0
WriteFailure names outputs old new r =
    ((place : ℕ) × LosesOne names outputs place old new × IsDiagnosticOf (command_fault.Write place) r)
    ⊎ (WantsInOne names outputs old new × IsDiagnosticOf command_fault.Memory r)

write_failure : (names : List Named) (outputs : List (List ℕ)) (prepared : List Output) (old new : ShelfView) (r : Diagnostic)
    → ArePrepared names outputs prepared → FailsToWrite prepared old new r → WriteFailure names outputs old new r
write_failure [] [] [] old new r a f = absurd f
write_failure [] [] (o ∷ prepared) old new r a f = absurd a
write_failure [] (x ∷ outputs) prepared old new r a f = absurd a
write_failure (w ∷ names) [] prepared old new r a f = absurd a
write_failure (w ∷ names) (x ∷ outputs) [] old new r a f = absurd a
write_failure (w ∷ names) (x ∷ outputs) (o ∷ prepared) old new r a (inl (write_fails e lost)) =
    inl (
      w.place,
      inl (refl, subst (λ (n : List ℕ). LosesName n old new) a.0.name lost),
      subst (IsDiagnosticOf (command_fault.Write w.place)) (sym e) a.0.fault,
    )
write_failure (w ∷ names) (x ∷ outputs) (o ∷ prepared) old new r a (inl (wants_memory e same)) =
    inr (inl same, subst (IsDiagnosticOf command_fault.Memory) (sym e) memory_prepared)
write_failure (w ∷ names) (x ∷ outputs) (o ∷ prepared) old new r a (inr later) =
    let (mid, set, f) = later in
    let set' = named_set _ _ _ _ old mid a.0.name a.0.bytes set in
    elim (write_failure names outputs prepared mid new r a.1 f) [
      | inl lost ↦ inl (lost.0, inr (mid, set', lost.1), lost.2)
      | inr wants ↦ inr (inr (mid, set', wants.0), wants.1)
    ]

-- what a prepared command yields of the shelf as it was
yields_of : (command : PlainCommand) (prepared : PreparedResult) (old mid : ShelfView) (p : IsPrepared command prepared old mid)
    → YieldsOf command p.prepared_for.outputs (text_of prepared.text) old
yields_of command prepared old mid p =
    record { inputs = p.inputs; holds = p.holds; yields = p.prepared_for.yields }

-- a result that stands ready and was delivered
pub performs : (command : PlainCommand) (prepared : PreparedResult) (old mid new : ShelfView) (sink sink' : SinkView)
    → IsPrepared command prepared old mid → DeliversAll prepared mid new sink sink' → Performs command old new sink sink'
performs command prepared old mid new sink sink' p d =
    let d' = subst (λ (s : ShelfView). DeliversAll prepared s new sink sink') p.same d in
    record {
      outputs = p.prepared_for.outputs;
      text = _;
      of_shelf = yields_of command prepared old mid p;
      set = sets_all (writes command) p.prepared_for.outputs prepared.outputs.items old new p.prepared_for.prepared_outputs d'.set;
      printed = d'.printed;
    }

-- a step that failed has its own fault
fails_to_deliver : (command : PlainCommand) (prepared : PreparedResult) (old mid_shelf new : ShelfView) (sink mid : SinkView) (r : Diagnostic)
    → IsPrepared command prepared old mid_shelf → FailsToDeliver prepared old new sink mid r → IsRejectedBy command old new sink mid r
fails_to_deliver command prepared old mid_shelf new sink mid r p (writing_fails f same) =
    elim (write_failure (writes command) p.prepared_for.outputs prepared.outputs.items old new r p.prepared_for.prepared_outputs f) [
      | inl lost ↦ record {
        fault = command_fault.Write lost.0;
        prepared = lost.2;
        cause = performing.write_fails _ _ lost.0 (yields_of command prepared old mid_shelf p) refl lost.1 same;
      }
      | inr wants ↦ record {
        fault = command_fault.Memory;
        prepared = wants.1;
        cause = performing.write_wants_memory _ _ (yields_of command prepared old mid_shelf p) refl wants.0 same;
      }
    ]
fails_to_deliver command prepared old mid_shelf new sink mid r p (print_fails e set printed) =
    let set' = sets_all (writes command) p.prepared_for.outputs prepared.outputs.items old new p.prepared_for.prepared_outputs set in
    record {
      fault = command_fault.Write 0;
      prepared = subst (IsDiagnosticOf (command_fault.Write 0)) (sym e) p.prepared_for.print_fault;
      cause = performing.print_fails _ _ (yields_of command prepared old mid_shelf p) refl set' printed;
    }

pub rejected_delivery : (command : PlainCommand) (prepared : PreparedResult) (old mid_shelf new : ShelfView) (sink mid : SinkView) (r : Diagnostic)
    → IsPrepared command prepared old mid_shelf → FailsToDeliver prepared mid_shelf new sink mid r → IsRejectedBy command old new sink mid r
rejected_delivery command prepared old mid_shelf new sink mid r p f =
    fails_to_deliver command prepared old mid_shelf new sink mid r p
    (subst (λ (s : ShelfView). FailsToDeliver prepared s new sink mid r) p.same f)

-- a result that could not be made has its fault, or that of want of memory
pub rejected_preparing : (command : PlainCommand) (old new : ShelfView) (sink : SinkView) (fault : CommandFault) (r : Diagnostic)
    → RejectsPreparing command old new fault → IsDiagnosticOrMemory fault r → IsRejectedBy command old new sink sink r
rejected_preparing command old new sink fault r c (inl prepared) =
    record { fault = fault; prepared = prepared; cause = performing.preparing_fails c refl }
rejected_preparing command old new sink fault r c (inr prepared) =
    record { fault = command_fault.Memory; prepared = prepared; cause = performing.line_wants_memory fault c refl refl }

-- what a command does from a shelf it does from an equal one
pub performs_from : (command : PlainCommand) (mid old new : ShelfView) (sink sink' : SinkView)
    → mid ≡ old → Performs command mid new sink sink' → Performs command old new sink sink'
performs_from command mid old new sink sink' same it = subst (λ (s : ShelfView). Performs command s new sink sink') same it

pub tells_from : (command : PlainCommand) (told : Option MeasuredEnd) (mid old : ShelfView)
    → mid ≡ old → TellsEndOf command told mid → TellsEndOf command told old
tells_from command told mid old same it = subst (TellsEndOf command told) same it

pub rejected_from : (command : PlainCommand) (mid old new : ShelfView) (sink sink' : SinkView) (r : Diagnostic)
    → mid ≡ old → IsRejectedBy command mid new sink sink' r → IsRejectedBy command old new sink sink' r
rejected_from command mid old new sink sink' r same it = subst (λ (s : ShelfView). IsRejectedBy command s new sink sink' r) same it
