-- The results of the commands, put together.
use Rattle.std.proofs.Common.{inl, inr, ℕ, List, [], ◌∷◌, Some, refl, sym, subst}
use Rattle.command_language.specs.Command.{run_command, relink_command, profile_command, compare_command, check_command, paid_command, trace_command, hex_command, hex_check_command, show_command}
use Rattle.command_language.specs.FaultLine.{parts_of}
use Rattle.command_line.specs.RunFile.{IsFirstCommandFault}
use Rattle.command_line.specs.ProgramRun.{RejectsProfiled}
use Rattle.command_line.specs.Analysed.{RejectsAnalysed}
use Rattle.command_line.specs.CompareFiles.{RejectsCompared}
use Rattle.command_line.specs.CheckFile.{RejectsChecked}
use Rattle.command_line.specs.PaidFile.{RejectsPaid}
use Rattle.command_line.specs.Meaning.{RejectsInputs, RejectsFile, RejectsTexts, memory_wanting, faulty, differing, run_first, relink_first, profile_first, compare_first, check_first, paid_first, trace_first, hex_first, check_fault, check_difference, show_first}
use Rattle.command_line.specs.ShowFile as show
use Rattle.command_language.specs.declared.faults.CommandFault.{CommandFault}

pub run_rejected : (board file input : List ℕ) (fault : CommandFault) → IsFirstCommandFault board file fault
    → (f b i o : List ℕ) → RejectsInputs (run_command f b i o) (file ∷ board ∷ input ∷ []) fault
run_rejected board file input fault (inl e) f b i o = inl e
run_rejected board file input fault (inr e) f b i o = inr (run_first f b i o file board input refl refl (sym e))

pub relink_rejected : (board file input : List ℕ) (fault : CommandFault) → RejectsProfiled board file input fault
    → (f b i o c : List ℕ) → RejectsInputs (relink_command f b i o c) (file ∷ board ∷ input ∷ []) fault
relink_rejected board file input fault (inl e) f b i o c = inl e
relink_rejected board file input fault (inr tells) f b i o c = inr (relink_first f b i o c file board input refl refl tells)

pub profile_rejected : (board file input : List ℕ) (fault : CommandFault) → RejectsProfiled board file input fault
    → (f b i : List ℕ) → RejectsInputs (profile_command f b i) (file ∷ board ∷ input ∷ []) fault
profile_rejected board file input fault (inl e) f b i = inl e
profile_rejected board file input fault (inr tells) f b i = inr (profile_first f b i file board input refl refl tells)

pub compare_rejected : (board file relinked input : List ℕ) (fault : CommandFault) → RejectsCompared board file relinked input fault
    → (f r b i : List ℕ) → RejectsInputs (compare_command f r b i) (file ∷ relinked ∷ board ∷ input ∷ []) fault
compare_rejected board file relinked input fault (inl e) f r b i = inl e
compare_rejected board file relinked input fault (inr tells) f r b i = inr (compare_first f r b i file relinked board input refl refl tells)

pub certificate_rejected : (board file input cert : List ℕ) (fault : CommandFault) → RejectsChecked board file input cert fault
    → (f b i c : List ℕ) → RejectsInputs (check_command f b i c) (file ∷ board ∷ input ∷ cert ∷ []) fault
certificate_rejected board file input cert fault (inl e) f b i c = inl e
certificate_rejected board file input cert fault (inr tells) f b i c = inr (check_first f b i c file board input cert refl refl tells)

pub paid_rejected : (board file input cert : List ℕ) (fault : CommandFault) → RejectsPaid board file input cert fault
    → (f b i c : List ℕ) → RejectsInputs (paid_command f b i c) (file ∷ board ∷ input ∷ cert ∷ []) fault
paid_rejected board file input cert fault (inl e) f b i c = inl e
paid_rejected board file input cert fault (inr tells) f b i c = inr (paid_first f b i c file board input cert refl refl tells)

pub trace_rejected : (board file input cert : List ℕ) (fault : CommandFault) → RejectsPaid board file input cert fault
    → (f b i c : List ℕ) (n : ℕ) (o : List ℕ) → RejectsInputs (trace_command f b i c n o) (file ∷ board ∷ input ∷ cert ∷ []) fault
trace_rejected board file input cert fault (inl e) f b i c n o = inl e
trace_rejected board file input cert fault (inr tells) f b i c n o = inr (trace_first f b i c n o file board input cert refl refl tells)

pub show_rejected : (board file : List ℕ) (fault : CommandFault) → RejectsAnalysed board file fault
    → (f b : List ℕ) → RejectsInputs (show_command f b) (file ∷ board ∷ []) fault
show_rejected board file fault (inl e) f b = inl e
show_rejected board file fault (inr tells) f b =
    inr (show_first f b file board refl refl (show.of_files (parts_of fault) tells refl))

pub hex_rejected : (file : List ℕ) (fault : CommandFault) → RejectsFile file fault
    → (f o : List ℕ) → RejectsInputs (hex_command f o) (file ∷ []) fault
hex_rejected file fault (inl e) f o = inl e
hex_rejected file fault (inr e) f o = inr (hex_first f o file refl refl (sym e))

pub check_rejected : (file text : List ℕ) (fault : CommandFault) → RejectsTexts file text fault
    → (f h : List ℕ) → RejectsInputs (hex_check_command f h) (file ∷ text ∷ []) fault
check_rejected file text fault (memory_wanting e) f h = inl e
check_rejected file text fault (faulty e) f h = inr (check_fault f h file text (parts_of fault) refl refl e refl)
check_rejected file text fault (differing at none compares e) f h =
    subst (λ (r : CommandFault). RejectsInputs (hex_check_command f h) (file ∷ text ∷ []) r) (sym e)
    (inr (check_difference f h file text (Some at) refl refl none compares refl))
