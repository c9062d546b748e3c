-- What holds of all comparisons.
use Rattle.std.specs.Prelude.{◌≡◌, ◌⊎◌, ℕ, ◌≤◌, List, None}
use Rattle.elf_reader.specs.File.{view_in}
use Rattle.elf_reader.specs.Loadable.{AreBytes}
use Rattle.board_config.specs.Board.{IsLawful}
use Rattle.board_config.specs.declared.board.Board.{Board}
use Rattle.flat_machine.specs.State.{State}
use Rattle.flat_machine.specs.Runs as flat_runs
use Rattle.flat_machine.specs.declared.events.FlatOutcome.TheVariants as flat
use Rattle.object_graph.specs.Graphs.{IsGraph}
use Rattle.object_graph.specs.declared.parts.Graph.{Graph}
use Rattle.object_machine.specs.declared.events.Outcome.TheVariants.{GoesOn}
use Rattle.object_machine.specs.Program.{Program}
use Rattle.object_machine.specs.State.{SourceState}
use Rattle.object_machine.specs.Runs.{Steps}
use Rattle.object_machine.specs.Paired.{at_start, PairedSteps}
use Rattle.result_laws.specs.HomeLaws.{program_in, source_start, file_start}
use Rattle.result_laws.specs.Absolute.{IsAbsolute}
use Rattle.result_laws.specs.ResultLaws.{KeepsRuns}
use Rattle.relink_core.specs.Faults.{analyse_fault}
use Rattle.relink_core.specs.Keeps.{KeepsPaired}
use Rattle.compare_runner.specs.declared.comparing.Comparison.{Comparison}
use Rattle.compare_runner.specs.declared.comparing.Comparison.TheVariants.{Differs}
use Rattle.compare_runner.specs.Comparing.{Compares}

-- a program and its result compare in one way
abbrev pub OneComparison : Type 0
OneComparison =
    (p : Program) (board : Board) (n : ℕ) (s : SourceState) (t : State) (c d : Comparison)
    → Compares p board n s t c → Compares p board n s t d → c ≡ d

-- the comparison of the runs of two files on an input
abbrev pub ComparesFiles : List ℕ → List ℕ → Board → Graph → List ℕ → ℕ → Comparison → Type 0
ComparesFiles file out board g input n c =
    Compares (program_in file board g) board n (source_start file board g input) (file_start out board input) c

-- `n` paired steps of a file on an input
abbrev pub IsPairedRun : List ℕ → Board → Graph → List ℕ → ℕ → Type 0
IsPairedRun file board g input n =
    (s : SourceState) × PairedSteps (program_in file board g) n (source_start file board g input) at_start s

-- a result that keeps the meaning of a file never differs from it in a paired run
abbrev pub KeptNeverDiffers : Type 0
KeptNeverDiffers =
    (file out : List ℕ) (board : Board) (g : Graph) (input : List ℕ) (n at : ℕ)
    → KeepsPaired file out board → IsGraph (view_in file) board g → AreBytes input
    → IsPairedRun file board g input n → ComparesFiles file out board g input n (Differs at) → ⊥

-- one that keeps it in every run, as one in which objects are moved, never differs from it
abbrev pub KeptRunsNeverDiffer : Type 0
KeptRunsNeverDiffer =
    (file out : List ℕ) (board : Board) (g : Graph) (input : List ℕ) (n at : ℕ)
    → KeepsRuns file out board → IsGraph (view_in file) board g → AreBytes input
    → ComparesFiles file out board g input n (Differs at) → ⊥

-- so a file in which the analysis finds no fault never differs from itself in a paired run, and in none where its code
-- makes addresses by absolute relocations alone
abbrev pub UnmovedNeverDiffers : Type 0
UnmovedNeverDiffers =
    (file : List ℕ) (board : Board) (g : Graph) (input : List ℕ) (n at : ℕ)
    → AreBytes file → IsLawful board → analyse_fault file board ≡ None → IsGraph (view_in file) board g
    → AreBytes input → IsPairedRun file board g input n ⊎ IsAbsolute (view_in file)
    → ComparesFiles file file board g input n (Differs at) → ⊥

-- ---- what a comparison doesn't tell

-- A program that goes on is the same as a result that has written its bytes, also where that has ended. One that keeps
-- the meaning hasn't: where the program goes on after `n` steps, so does the result after as many, or fewer
abbrev pub GoesOnFor : List ℕ → Board → List ℕ → ℕ → Type 0
GoesOnFor out board input n =
    (j : ℕ) (t : State) → j ≤ n → flat_runs.Steps j (file_start out board input) t → t.outcome ≡ flat.GoesOn

abbrev pub KeptGoesOn : Type 0
KeptGoesOn =
    (file out : List ℕ) (board : Board) (g : Graph) (input : List ℕ) (n : ℕ) (s : SourceState)
    → KeepsPaired file out board → IsGraph (view_in file) board g → AreBytes input
    → PairedSteps (program_in file board g) n (source_start file board g input) at_start s → s.outcome ≡ GoesOn
    → GoesOnFor out board input n

abbrev pub KeptRunsGoOn : Type 0
KeptRunsGoOn =
    (file out : List ℕ) (board : Board) (g : Graph) (input : List ℕ) (n : ℕ) (s : SourceState)
    → KeepsRuns file out board → IsGraph (view_in file) board g → AreBytes input
    → Steps (program_in file board g) n (source_start file board g input) s → s.outcome ≡ GoesOn
    → GoesOnFor out board input n
