-- A file and the file that it was relinked to, compared.
use Rattle.std.proofs.Common.{◌≡◌, ◌⊎◌, inl, inr, ℕ, List, Some, None, refl, sym, ap, subst}
use Rattle.elf_reader.specs.File.{PlainView, plain_view, view_in}
use Rattle.elf_reader.specs.Faults.{first_fault}
use Rattle.elf_reader.specs.declared.fault.ElfFault.{ElfFault}
use Rattle.elf_reader.specs.declared.fault.ElfFault.TheVariants as elf
use Rattle.board_config.specs.Board.{mapped_ranges}
use Rattle.board_config.specs.declared.board.Board.{Board}
use Rattle.flat_machine.specs.State.{State}
use Rattle.flat_machine.specs.Start as flat_start
use Rattle.flat_machine.specs.declared.events.FlatOutcome.{FlatOutcome}
use Rattle.object_machine.specs.declared.events.Outcome.{Outcome}
use Rattle.object_machine.specs.declared.events.Outcome.TheVariants.{GoesOn, Exited, Trapped, AddressFault}
use Rattle.object_machine.specs.Program.{Program, program_of}
use Rattle.object_machine.specs.State.{SourceState}
use Rattle.object_machine.specs.Start.{start_of}
use Rattle.result_laws.specs.HomeLaws.{program_in, source_start}
use Rattle.compare_runner.specs.Comparing.{Judges, Reports, JudgesRun, Compares}
use Rattle.compare_runner.specs.declared.comparing.Comparison.{Comparison}
use Rattle.compare_runner.specs.declared.comparing.Comparison.TheVariants.{Same, Differs, SourceFault}
use Rattle.command_language.specs.FaultLine.{elf_parts, parts_of, elf_command_fault}
use Rattle.command_line.specs.Analysed.{Accepts, IsOpened}
use Rattle.printed_lines.specs.Endings.{IsAddressFault}
use Rattle.command_line.specs.CompareFiles.{Compared, ComparesTo, HasEnding, AnswersComparison, RejectsComparison, RejectsCompared, of_relinked, of_comparison}
use Rattle.command_line.specs.declared.opened.Opened.{Opened}
use Rattle.command_language.specs.declared.faults.CommandFault.{CommandFault}
use Rattle.command_language.specs.declared.faults.CommandFault.TheVariants as command_fault
use Rattle.command_line.proofs.Analysing.{opened_view}

-- the comparison of two views is that of their files
pub compared_files : (board_text file relinked input : List ℕ) (o : Opened) (c : Comparison) (w : PlainView) → IsOpened board_text file o → w ≡ view_in relinked
    → (
    let v = plain_view o.analysis.view in
    let p = program_of v o.board o.analysis.graph in
    Compares p o.board o.board.steps (start_of v p o.analysis.graph input) (flat_start.start_of w.entry w.segments (mapped_ranges o.board) input) c
    )
    → Compared file relinked o.board input c
compared_files board_text file relinked input o c w is same_relinked compares =
    let board = o.board in
    let g = o.analysis.graph in
    record {
      graph = g;
      is_graph = is.analysed.graph;
      compares =
          subst (λ (u : PlainView). Compares (program_in file board g) board board.steps (source_start file board g input) (flat_start.start_of u.entry u.segments (mapped_ranges board) input) c) same_relinked
          (subst (λ (u : PlainView). Compares (program_of u board g) board board.steps (start_of u (program_of u board g) g input) (flat_start.start_of w.entry w.segments (mapped_ranges board) input) c) (opened_view board_text file o is) compares);
    }

-- ---- where both do the same, it is no address fault that they do

judged_ending : (o : Outcome) (xs ys : List ℕ) (other : FlatOutcome) (told : Outcome) → Judges o xs other ys (Same told) → IsAddressFault told → ⊥
judged_ending GoesOn xs ys other told j fault = subst IsAddressFault j.0 fault
judged_ending (Exited code) xs ys other told j fault = subst IsAddressFault j.0 fault
judged_ending (Trapped pc) xs ys other told j fault = subst IsAddressFault j.0 fault
judged_ending (AddressFault pc why) xs ys other told j fault = j.1

run_ending : (board : Board) (k : ℕ) (s : SourceState) (start : State) (told : Outcome) → JudgesRun board k s start (Same told) → IsAddressFault told → ⊥
run_ending board k s start told run fault =
    let (m, (t, (ends, judges))) = run in judged_ending s.outcome s.output t.output t.outcome told judges fault

told_ending : (o : Outcome) (board : Board) (k : ℕ) (s : SourceState) (start : State) (told : Outcome) → Reports o (JudgesRun board k s start) (Same told) → IsAddressFault told → ⊥
told_ending GoesOn board k s start told run fault = run_ending board k s start told run fault
told_ending (Exited code) board k s start told run fault = run_ending board k s start told run fault
told_ending (Trapped pc) board k s start told run fault = run_ending board k s start told run fault
told_ending (AddressFault pc why) board k s start told run fault = absurd (cc)

pub has_ending : (p : Program) (board : Board) (n : ℕ) (start : SourceState) (other : State) (c : Comparison) → Compares p board n start other c → HasEnding c
has_ending p board n start other (Same told) compares =
    let (k, (s, (ends, tells))) = compares in λ fault. told_ending s.outcome board k s other told tells fault
has_ending p board n start other (Differs at) compares = tt
has_ending p board n start other (SourceFault pc why) compares = tt

-- ---- what is told

-- a fault of a file that is read, other than want of memory, is told as it is
elf_apart : {First : Type 0} (fault : ElfFault) → (fault ≡ elf.Memory) ⊎ First → (fault ≡ elf.Memory → ⊥)
    → (command_fault.Elf fault ≡ command_fault.Memory) ⊎ (First × (parts_of (command_fault.Elf fault) ≡ elf_parts fault))
elf_apart fault (inl memory) other = absurd (other memory)
elf_apart fault (inr first) other = inr (first, refl)

pub elf_told : {First : Type 0} (fault : ElfFault) → (fault ≡ elf.Memory) ⊎ First
    → (elf_command_fault fault ≡ command_fault.Memory) ⊎ (First × (parts_of (elf_command_fault fault) ≡ elf_parts fault))
elf_told (elf.TooShort need have) told = elf_apart (elf.TooShort need have) told (λ e. cc)
elf_told (elf.NotElf at) told = elf_apart (elf.NotElf at) told (λ e. cc)
elf_told (elf.WrongKind field value) told = elf_apart (elf.WrongKind field value) told (λ e. cc)
elf_told (elf.OutOfFile table index) told = elf_apart (elf.OutOfFile table index) told (λ e. cc)
elf_told (elf.BadIndex table index) told = elf_apart (elf.BadIndex table index) told (λ e. cc)
elf_told (elf.Unsupported index kind) told = elf_apart (elf.Unsupported index kind) told (λ e. cc)
elf_told (elf.OverLimit what count) told = elf_apart (elf.OverLimit what count) told (λ e. cc)
elf_told (elf.Compressed section) told = elf_apart (elf.Compressed section) told (λ e. cc)
elf_told (elf.Overlap first second) told = elf_apart (elf.Overlap first second) told (λ e. cc)
elf_told elf.Memory told = inl refl

module _ (board_text file relinked input : List ℕ) (board : Board) (accepts : Accepts board_text file board) where
  pub relinked_rejected : (fault : ElfFault) → (fault ≡ elf.Memory) ⊎ (first_fault relinked ≡ Some fault)
      → RejectsCompared board_text file relinked input (elf_command_fault fault)
  relinked_rejected fault told =
      elim (elf_told fault told) [
        | inl memory ↦ inl memory
        | inr first ↦ inr (of_relinked board fault accepts first.0 (ap Some first.1))
      ]

  pub comparison_rejected : (c : Comparison) (fault : CommandFault) → first_fault relinked ≡ None → Compared file relinked board input c
      → RejectsComparison c fault → RejectsCompared board_text file relinked input fault
  comparison_rejected c fault sound compared (inl memory) = inl memory
  comparison_rejected c fault sound compared (inr told) = inr (of_comparison board c accepts sound compared (sym told))

  pub comparison_answered : (c : Comparison) (text : List ℕ) → first_fault relinked ≡ None → Compared file relinked board input c
      → AnswersComparison c text → ComparesTo file relinked board_text input text
  comparison_answered (Same outcome) text sound compared answers =
      record { board = board; accepts = accepts; sound = sound; outcome = outcome; compared = compared; text_is = answers }
  comparison_answered (Differs at) text sound compared answers = absurd answers
  comparison_answered (SourceFault pc why) text sound compared answers = absurd answers
