-- Each status comes exactly where the inputs call for it.
use Rattle.std.proofs.Common.{◌≡◌, inl, inr, ℕ, List, [], ◌∷◌, ◌++◌, length, Option, Some, None, option_map, refl, subst, sym, ap, ◌∙◌, arith, length-append}
use Rattle.shelf_io.specs.Counts.{Rose}
use Rattle.shelf_io.specs.Shelf.{ShelfView}
use Rattle.shelf_io.specs.Sink.{SinkView}
use Rattle.elf_reader.specs.File.{entry_of, load_segments}
use Rattle.hex_image.specs.Runs.{file_map}
use Rattle.hex_image.specs.Reading as hex
use Rattle.command_language.specs.Command.{PlainCommand, IsCommand, Named}
use Rattle.command_language.specs.Lines.{mix_lines}
use Rattle.command_language.specs.FaultLine.{Parts, status_of, fault_line, parts_of, elf_parts}
use Rattle.command_files.specs.Writing.{LosesOne}
use Rattle.command_files.specs.Diagnostic.{PutsLine, rejected_status, rejected_line}
use Rattle.command_line.specs.Listing.{HoldsInputs}
use Rattle.compare_runner.specs.declared.comparing.Comparison.TheVariants.{Same}
use Rattle.relink_core.specs.ResultFaults.{no_fault}
use Rattle.command_line.specs.ProgramRun.{of_none}
use Rattle.command_line.specs.ShowFile as show
use Rattle.command_line.specs.CompareFiles.{of_comparison}
use Rattle.command_line.specs.CheckFile.{of_certificate}
use Rattle.command_line.specs.PaidFile.{of_result}
use Rattle.command_line.specs.MixFile as mixed
use Rattle.command_line.specs.Meaning.{Compares, IsFirst, run_first, relink_first, profile_first, compare_first, check_first, mix_first, check_mix_first, gen_first, hex_first, check_difference, Yields, runs, relinks, profiles, compares, checks, mixes, checks_mix, generates, writes_hex, agrees, show_first, shows, paid_first, pays, trace_first, traces}
use Rattle.command_line.specs.Answers.{IsDone, Cause, HasCause, EndsRejected, InputFails, AnswersInputs, AnswersUsage, AnswersCommand, ReportsInputs}
use Rattle.command_files.specs.declared.diagnostic.Diagnostic.{Diagnostic}
use Rattle.command_language.specs.declared.faults.CommandFault.{CommandFault}
use Rattle.command_language.specs.declared.faults.CommandFault.TheVariants as command_fault
use Rattle.command_line.proofs.OneCommand.{one_command, one_inputs}
use Rattle.command_line.proofs.Profiling.{profile_runs}
use Rattle.command_line.proofs.Stating.{relinked_runs}
use Rattle.command_line.proofs.Certificates.{nothing_told}
use Rattle.command_line.proofs.MixedRuns.{nothing_told_of_runs}

-- ---- what the inputs are

compares_same : (file text : List ℕ)
    → hex.Spells text (file_map (load_segments file)) (Some (entry_of file)) → Compares file text None
compares_same file text spelled =
    record { given = file_map (load_segments file); start = Some (entry_of file); spelled = spelled; first = (λ address. refl, refl) }

-- inputs of which a command yields something have no fault
yields_first : (command : PlainCommand) (inputs outputs : List (List ℕ)) (text : List ℕ)
    → Yields command inputs outputs text → IsFirst command inputs None
yields_first command inputs outputs text (runs f b i o file board input output is are outs ran) =
    run_first f b i o file board input is are (sym ran.sound)
yields_first command inputs outputs text (relinks f b i o c file board input certificate out is are outs made) =
    relink_first f b i o c file board input is are
    (of_none made.board made.states.states.last.outcome made.accepts (relinked_runs file board input certificate out text made) made.states.states.no_address_fault refl)
yields_first command inputs outputs text (profiles f b i file board input is are outs made) =
    profile_first f b i file board input is are
    (of_none made.board made.last.outcome made.accepts (profile_runs file board input text made) made.no_address_fault refl)
yields_first command inputs outputs text (compares f r b i file relinked board input is are outs made) =
    compare_first f r b i file relinked board input is are
    (of_comparison made.board (Same made.outcome) made.accepts made.sound made.compared refl)
yields_first command inputs outputs text (checks f b i c file board input cert is are outs made) =
    check_first f b i c file board input cert is are
    (of_certificate made.board made.programme made.accepts made.states (nothing_told made.programme made.board.nodes cert text made.reports))
yields_first command inputs outputs text (pays f b i c file board input cert is are outs made) =
    paid_first f b i c file board input cert is are (of_result made.board made.out made.accepts made.makes (no_fault made.sound) (sym (ap (option_map elf_parts) made.sound)))
yields_first command inputs outputs text (traces f b i c n o file board input cert output is are outs made) =
    trace_first f b i c n o file board input cert is are (of_result made.board made.result made.accepts made.makes (no_fault made.sound) (sym (ap (option_map elf_parts) made.sound)))
yields_first command inputs outputs text (mixes f b m o c file board mix certificate out texts is are outs unbroken made) =
    mix_first f b m o c file board mix texts is are
    (mixed.of_runs unbroken (nothing_told_of_runs board file made.board (mixed.inputs_of (mix_lines mix) texts) made.programme made.accepts made.states))
yields_first command inputs outputs text (checks_mix f b m c file board mix cert texts is are outs unbroken made) =
    check_mix_first f b m c file board mix cert texts is are
    (mixed.of_checked_runs unbroken (mixed.of_certificate made.board made.programme made.accepts made.states (nothing_told made.programme made.board.nodes cert text made.reports)))
yields_first command inputs outputs text (shows f b file board is are outs made) =
    show_first f b file board is are (show.of_none made.board made.accepts refl)
yields_first command inputs outputs text (generates s k o is are outs printed) = gen_first s k o is are refl
yields_first command inputs outputs text (writes_hex f o file is are none outs printed) = hex_first f o file is are (sym none)
yields_first command inputs outputs text (agrees f h file hex_text is are none spelled outs printed) =
    check_difference f h file hex_text None is are none (compares_same file hex_text spelled) refl

-- a first fault of what a command read is that of what the shelf tells
first_told : (words : List (List ℕ)) (shelf : ShelfView) (one other : PlainCommand) (read told : List (List ℕ)) (first : Option Parts)
    → IsCommand words one → IsCommand words other → HoldsInputs shelf one read → ReportsInputs shelf other told
    → IsFirst one read first → IsFirst other told first
first_told words shelf one other read told first is is' h t f =
    let same = one_command words one other is is' in
    let h' = subst (λ (c : PlainCommand). HoldsInputs shelf c read) same h in
    let same_read = one_inputs shelf other read told h' t in
    subst (λ (c : PlainCommand). IsFirst c told first) same (subst (λ (r : List (List ℕ)). IsFirst one r first) same_read f)

-- ---- nothing failed

longer : {A : Type 0} (xs : List A) (x : A) → xs ++ x ∷ [] ≡ xs → ⊥
longer xs x e = let lengths = ap length e in omega (arith, length-append xs (x ∷ []), lengths)

-- a write that failed is in the list of failed calls
lost_logs : (names : List Named) (outputs : List (List ℕ)) (place : ℕ) (old new : ShelfView)
    → LosesOne names outputs place old new → new.failed ≡ old.failed → ⊥
lost_logs [] outputs place old new l same = l
lost_logs (w ∷ names) [] place old new l same = l
lost_logs (w ∷ names) (x ∷ outputs) place old new (inl l) same =
    longer old.failed _ (sym (ap (λ (s : ShelfView). s.failed) l.1.logged) ∙ same)
lost_logs (w ∷ names) (x ∷ outputs) place old new (inr l) same =
    let (mid, set, later) = l in
    let kept = ap (λ (s : ShelfView). s.failed) set.others in
    lost_logs names outputs place mid new later (same ∙ sym kept)

rose_more : (a b c : ℕ) → Rose a b → Rose b c → Rose a c
rose_more a b c (inl less) (inl more) = inl (omega arith)
rose_more a b c (inl less) (inr last) = inl (omega arith)
rose_more a b c (inr last) (inl more) = inl (omega arith)
rose_more a b c (inr first) (inr last) = inr (first.0, last.1)

rose_on : (fault : CommandFault) (sink mid sink' : SinkView)
    → Rose sink.faults mid.faults → PutsLine (fault_line fault) mid sink' → Rose sink.faults sink'.faults
rose_on fault sink mid sink' rose (inl all) = subst (Rose sink.faults) (sym all.faults) rose
rose_on fault sink mid sink' rose (inr some) = rose_more _ _ _ rose some.rose

-- ---- a command that was done

pub done_usage : (words : List (List ℕ)) (old new : ShelfView) (sink sink' : SinkView)
    → IsDone words old new sink sink' → AnswersUsage 0 words
done_usage words old new sink sink' d none =
    absurd (none d.delivers.produces.command d.delivers.produces.is_command)

pub done_command : (words : List (List ℕ)) (old new : ShelfView) (sink sink' : SinkView)
    → IsDone words old new sink sink' → AnswersCommand 0 words old new sink sink'
done_command words old new sink sink' d command inputs is told nothing =
    let p = d.delivers.produces in
    let first = yields_first p.command p.of_shelf.inputs d.delivers.outputs d.text p.of_shelf.yields in
    inl (record {
      told = None;
      first = first_told words old p.command command p.of_shelf.inputs inputs None p.is_command is p.of_shelf.holds told first;
      status_is = refl;
    })

-- ---- a command that was rejected

rejected_usage : (fault : CommandFault) (status : ℕ) (words : List (List ℕ)) (old new : ShelfView) (sink mid : SinkView)
    → status ≡ status_of fault → Cause fault words old new sink mid → AnswersUsage status words
rejected_usage command_fault.Usage status words old new sink mid e c none = inl e
rejected_usage (command_fault.Read place) status words old new sink mid e c none = absurd (none c.0.command c.0.is_command)
rejected_usage (command_fault.Write place) status words old new sink mid e (inl x) none =
    absurd (none x.0.produces.command x.0.produces.is_command)
rejected_usage (command_fault.Write place) status words old new sink mid e (inr x) none =
    absurd (none x.delivers.produces.command x.delivers.produces.is_command)
rejected_usage (command_fault.Board fault) status words old new sink mid e c none = absurd (none c.0.command c.0.is_command)
rejected_usage (command_fault.Elf fault) status words old new sink mid e c none = absurd (none c.0.command c.0.is_command)
rejected_usage (command_fault.Analyse fault) status words old new sink mid e c none = absurd (none c.0.command c.0.is_command)
rejected_usage (command_fault.AddressFault pc why) status words old new sink mid e c none = absurd (none c.0.command c.0.is_command)
rejected_usage (command_fault.Certificate fault) status words old new sink mid e c none = absurd (none c.0.command c.0.is_command)
rejected_usage command_fault.BadChoice status words old new sink mid e c none = absurd (none c.0.command c.0.is_command)
rejected_usage (command_fault.WrongTree side node) status words old new sink mid e c none = absurd (none c.0.command c.0.is_command)
rejected_usage (command_fault.Hex fault) status words old new sink mid e c none = absurd (none c.0.command c.0.is_command)
rejected_usage (command_fault.BadMix at) status words old new sink mid e c none = absurd (none c.0.command c.0.is_command)
rejected_usage (command_fault.Differs at) status words old new sink mid e c none = absurd (none c.0.command c.0.is_command)
rejected_usage (command_fault.SourceFault pc why) status words old new sink mid e c none = absurd (none c.0.command c.0.is_command)
rejected_usage command_fault.Memory status words old new sink mid e c none = inr e

input_answers : (fault : CommandFault) (status : ℕ) (words : List (List ℕ)) (old new : ShelfView)
    → status ≡ status_of fault → InputFails words fault old new
    → (command : PlainCommand) (inputs : List (List ℕ)) → IsCommand words command → ReportsInputs old command inputs
    → AnswersInputs status command inputs
input_answers fault status words old new e f command inputs is told =
    record {
      told = Some (parts_of fault);
      first = first_told words old f.command command f.inputs inputs (Some (parts_of fault)) f.is_command is f.holds told f.first;
      status_is = e;
    }

rejected_command : (fault : CommandFault) (status : ℕ) (words : List (List ℕ)) (old new : ShelfView) (sink mid sink' : SinkView)
    → status ≡ status_of fault → Cause fault words old new sink mid → PutsLine (fault_line fault) mid sink'
    → AnswersCommand status words old new sink sink'
rejected_command command_fault.Usage status words old new sink mid sink' e c line command inputs is told nothing =
    absurd (c.0 command is)
rejected_command (command_fault.Read place) status words old new sink mid sink' e c line command inputs is told nothing =
    absurd (longer old.failed _ (sym (ap (λ (s : ShelfView). s.failed) c.0.logged) ∙ nothing.no_call))
rejected_command (command_fault.Write place) status words old new sink mid sink' e (inl x) line command inputs is told nothing =
    absurd (lost_logs _ _ place old new x.0.lost nothing.no_call)
rejected_command (command_fault.Write place) status words old new sink mid sink' e (inr x) line command inputs is told nothing =
    absurd (nothing.no_put (rose_on (command_fault.Write place) sink mid sink' x.printed.rose line))
rejected_command (command_fault.Board fault) status words old new sink mid sink' e c line command inputs is told nothing =
    inl (input_answers (command_fault.Board fault) status words old new e c.0 command inputs is told)
rejected_command (command_fault.Elf fault) status words old new sink mid sink' e c line command inputs is told nothing =
    inl (input_answers (command_fault.Elf fault) status words old new e c.0 command inputs is told)
rejected_command (command_fault.Analyse fault) status words old new sink mid sink' e c line command inputs is told nothing =
    inl (input_answers (command_fault.Analyse fault) status words old new e c.0 command inputs is told)
rejected_command (command_fault.AddressFault pc why) status words old new sink mid sink' e c line command inputs is told nothing =
    inl (input_answers (command_fault.AddressFault pc why) status words old new e c.0 command inputs is told)
rejected_command (command_fault.Certificate fault) status words old new sink mid sink' e c line command inputs is told nothing =
    inl (input_answers (command_fault.Certificate fault) status words old new e c.0 command inputs is told)
rejected_command command_fault.BadChoice status words old new sink mid sink' e c line command inputs is told nothing =
    inl (input_answers command_fault.BadChoice status words old new e c.0 command inputs is told)
rejected_command (command_fault.WrongTree side node) status words old new sink mid sink' e c line command inputs is told nothing =
    inl (input_answers (command_fault.WrongTree side node) status words old new e c.0 command inputs is told)
rejected_command (command_fault.Hex fault) status words old new sink mid sink' e c line command inputs is told nothing =
    inl (input_answers (command_fault.Hex fault) status words old new e c.0 command inputs is told)
rejected_command (command_fault.BadMix at) status words old new sink mid sink' e c line command inputs is told nothing =
    inl (input_answers (command_fault.BadMix at) status words old new e c.0 command inputs is told)
rejected_command (command_fault.Differs at) status words old new sink mid sink' e c line command inputs is told nothing =
    inl (input_answers (command_fault.Differs at) status words old new e c.0 command inputs is told)
rejected_command (command_fault.SourceFault pc why) status words old new sink mid sink' e c line command inputs is told nothing =
    inl (input_answers (command_fault.SourceFault pc why) status words old new e c.0 command inputs is told)
rejected_command command_fault.Memory status words old new sink mid sink' e c line command inputs is told nothing = inr e

-- a fault whose line was put
pub ends_rejected : (words : List (List ℕ)) (old new : ShelfView) (sink mid sink' : SinkView) (r : Diagnostic) (status : ℕ)
    → HasCause words old new sink mid r → status ≡ rejected_status r → PutsLine (rejected_line r) mid sink'
    → EndsRejected status words old new sink sink'
ends_rejected words old new sink mid sink' r status h e line =
    record {
      fault = h.fault;
      status_is = e ∙ h.prepared.status;
      rejected = record { mid = mid; cause = h.cause; line = subst (λ (l : List ℕ). PutsLine l mid sink') h.prepared.line line };
    }

pub ends_usage : (words : List (List ℕ)) (old new : ShelfView) (sink sink' : SinkView) (status : ℕ)
    → EndsRejected status words old new sink sink' → AnswersUsage status words
ends_usage words old new sink sink' status r =
    rejected_usage r.fault status words old new sink r.rejected.mid r.status_is r.rejected.cause

pub ends_command : (words : List (List ℕ)) (old new : ShelfView) (sink sink' : SinkView) (status : ℕ)
    → EndsRejected status words old new sink sink' → AnswersCommand status words old new sink sink'
ends_command words old new sink sink' status r =
    rejected_command r.fault status words old new sink r.rejected.mid sink' r.status_is r.rejected.cause r.rejected.line
