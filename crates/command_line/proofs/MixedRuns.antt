-- Runs of a program on several inputs.
use Rattle.std.proofs.Common.{◌≡◌, inl, inr, ℕ, suc, ◌≤◌, List, [], ◌∷◌, length, All, None, refl, subst, ap, arith}
use Rattle.std.proofs.lemmas.List.Elements.{All-nil, All-cons, All-head, All-tail}
use Rattle.elf_reader.specs.File.{PlainView, plain_view, view_in}
use Rattle.board_config.specs.declared.board.Board.{Board}
use Rattle.object_graph.specs.declared.parts.Graph.{Graph}
use Rattle.object_graph.specs.Graphs.{IsGraph}
use Rattle.result_laws.specs.HomeLaws.{program_in, source_start}
use Rattle.placement_programme.specs.Plain.{PlainProgramme}
use Rattle.profile_runner.specs.Transition.{Transition}
use Rattle.profile_runner.proofs.RunLemmas.{transitions_steps}
use Rattle.profile_runner.specs.declared.fault.ProfileFault.{ProfileFault}
use Rattle.profile_runner.specs.declared.fault.ProfileFault.TheVariants.{AddressFault as FaultAt, Memory}
use Rattle.placement_candidates.specs.Mixed.{WeightedRun}
use Rattle.relinking.specs.MixOfRuns.{WeightedInput, AreRunsOn, StatesTogether, AreSomeInputs, FaultsFirst}
use Rattle.relinking.specs.ProgrammeOfRun.{RunsOn}
use Rattle.command_language.specs.Lines.{MixLine, broken_at, mix_lines}
use Rattle.command_language.specs.MixLaws.{IsMixLine}
use Rattle.command_language.proofs.LawLemmas.{spelling}
use Rattle.relinking.proofs.Analysed.{findings}
use Rattle.command_language.specs.FaultLine.{parts_of, profile_command_fault}
use Rattle.command_line.specs.Analysed.{Accepts, IsOpened, RejectsAnalysed}
use Rattle.command_line.specs.CheckFile.{RejectsText}
use Rattle.command_line.specs.MixFile.{inputs_of, StatesOfAll, RunsWell, ReportsRuns, of_files, of_run, of_none, of_inputs, of_certificate, RejectsRuns, RejectsCheckedRuns}
use Rattle.command_line.specs.declared.opened.Opened.{Opened}
use Rattle.command_line.proofs.Analysing.{opened_view}
use Rattle.command_line.proofs.Profiling.{fault_run}
use Rattle.command_language.specs.declared.faults.CommandFault.{CommandFault}

-- ---- the inputs of lines

abbrev IsWeighted : WeightedInput → Type 0
IsWeighted i = (1 ≤ i.weight) × (i.weight ≤ 1000)

weighted_lines : (written : List (List ℕ)) (lines : List MixLine) (texts : List (List ℕ)) → All (IsMixLine written) lines → All IsWeighted (inputs_of lines texts)
weighted_lines written [] texts each = All-nil IsWeighted
weighted_lines written (l ∷ ls) [] each = All-nil IsWeighted
weighted_lines written (l ∷ ls) (text ∷ texts) each =
    let is = All-head (IsMixLine written) l ls each in
    All-cons IsWeighted (record { weight = l.weight; bytes = text }) (inputs_of ls texts) (is.some, is.most)
    (weighted_lines written ls texts (All-tail (IsMixLine written) l ls each))

size_of_inputs : (lines : List MixLine) (texts : List (List ℕ)) → length texts ≡ length lines → length (inputs_of lines texts) ≡ length lines
size_of_inputs [] texts same = refl
size_of_inputs (l ∷ ls) [] same = absurd (omega (arith, same))
size_of_inputs (l ∷ ls) (text ∷ texts) same = ap suc (size_of_inputs ls texts (omega (arith, same)))

-- a text in which no line breaks a rule lists some inputs
pub some_inputs : (written : List (List ℕ)) (mix : List ℕ) (texts : List (List ℕ)) → broken_at written mix ≡ None → length texts ≡ length (mix_lines mix)
    → AreSomeInputs (inputs_of (mix_lines mix) texts)
some_inputs written mix texts none same =
    let spelled = (spelling written mix (mix_lines mix)).1 (none, refl) in
    let size = size_of_inputs (mix_lines mix) texts same in
    let some = spelled.some in
    let few = spelled.few in
    record { some = omega (arith, size, some); few = omega (arith, size, few); weights = weighted_lines written (mix_lines mix) texts spelled.each }

-- ---- runs that meet no address fault

module _ (file : List ℕ) (board : Board) (g : Graph) (is : IsGraph (view_in file) board g) where
  run_well : (i : WeightedInput) (transitions : List Transition) → RunsOn (view_in file) board g i.bytes transitions → RunsWell file board i
  run_well i transitions on =
      record {
        outcome = on.last.outcome;
        runs = record {
          graph = g;
          is_graph = is;
          last = on.last;
          taken = transitions_steps (program_in file board g) board.steps (source_start file board g i.bytes) on.last transitions on.run;
          outcome_is = refl;
        };
        no_address_fault = on.no_address_fault;
      }

  pub all_run_well : (inputs : List WeightedInput) (runs : List WeightedRun) → AreRunsOn (view_in file) board g inputs runs
      → All (RunsWell file board) inputs
  all_run_well [] [] are = All-nil (RunsWell file board)
  all_run_well [] (r ∷ runs) are = absurd are
  all_run_well (i ∷ inputs) [] are = absurd are
  all_run_well (i ∷ inputs) (r ∷ runs) are =
      All-cons (RunsWell file board) i inputs (run_well i r.transitions are.1) (all_run_well inputs runs are.2)

-- inputs of which a programme is stated have no fault
pub nothing_told_of_runs : (board_text file : List ℕ) (board : Board) (inputs : List WeightedInput) (p : PlainProgramme) → Accepts board_text file board
    → StatesOfAll file board inputs p → ReportsRuns board_text file inputs None
nothing_told_of_runs board_text file board inputs p accepts s =
    of_none board accepts (all_run_well file board s.found.graph s.found.is_graph inputs s.states.runs s.states.are_runs) refl

-- ---- faults

pub analysed_rejected : (board_text file : List ℕ) (inputs : List WeightedInput) (fault : CommandFault) → RejectsAnalysed board_text file fault
    → RejectsRuns board_text file inputs fault
analysed_rejected board_text file inputs fault (inl memory) = inl memory
analysed_rejected board_text file inputs fault (inr told) = inr (of_files (parts_of fault) told refl)

pub runs_rejected : (board_text file : List ℕ) (inputs : List WeightedInput) (o : Opened) (fault : ProfileFault) → IsOpened board_text file o
    → FaultsFirst (plain_view o.analysis.view) o.board o.analysis.graph o.analysis.code o.analysis.regions inputs fault
    → RejectsRuns board_text file inputs (profile_command_fault fault)
runs_rejected board_text file inputs o (FaultAt pc why) is told =
    let a = o.analysis in
    let f = subst (λ (u : PlainView). FaultsFirst u o.board a.graph a.code a.regions inputs (FaultAt pc why)) (opened_view board_text file o is) told in
    inr (of_run o.board f.before f.after f.one pc why is.accepts f.inputs_are
    (all_run_well file o.board a.graph is.analysed.graph f.before f.earlier_runs f.earlier)
    (fault_run file o.board a.graph a.code a.regions f.one.bytes pc why is.analysed.graph f.faults)
    refl)
runs_rejected board_text file inputs o Memory is told = inl refl

pub checked_rejected : (board_text file : List ℕ) (inputs : List WeightedInput) (text : List ℕ) (fault : CommandFault) → RejectsRuns board_text file inputs fault
    → RejectsCheckedRuns board_text file inputs text fault
checked_rejected board_text file inputs text fault (inl memory) = inl memory
checked_rejected board_text file inputs text fault (inr told) = inr (of_inputs (parts_of fault) told refl)

pub certificate_rejected : (board_text file : List ℕ) (inputs : List WeightedInput) (text : List ℕ) (board : Board) (p : PlainProgramme) (fault : CommandFault)
    → Accepts board_text file board → StatesOfAll file board inputs p → RejectsText p text fault → RejectsCheckedRuns board_text file inputs text fault
certificate_rejected board_text file inputs text board p fault accepts states (inl memory) = inl memory
certificate_rejected board_text file inputs text board p fault accepts states (inr told) = inr (of_certificate board p accepts states told)

-- ---- programmes

-- what a view states, its file states
pub states_of_all : (board_text file : List ℕ) (inputs : List WeightedInput) (o : Opened) (p : PlainProgramme) → IsOpened board_text file o
    → StatesTogether (plain_view o.analysis.view) o.board o.analysis.graph o.analysis.code o.analysis.regions o.analysis.pieces.items inputs p
    → StatesOfAll file o.board inputs p
states_of_all board_text file inputs o p is states =
    let a = o.analysis in
    record {
      found = findings file o.board a is.analysed;
      states = subst (λ (u : PlainView). StatesTogether u o.board a.graph a.code a.regions a.pieces.items inputs p) (opened_view board_text file o is) states;
    }
