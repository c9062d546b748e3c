-- What `trace` tells, of what its parts do.
use Rattle.std.proofs.Common.{◌≡◌, ◌⊎◌, ◌∙◌, inl, inr, ℕ, ◌<◌, min, Bool, true, false, List, [], length, take, None, refl, sym, ap, subst, arith}
use Rattle.std.specs.List.{AllPairs}
use Rattle.std.proofs.Math.Nat.{min-le_right}
use Rattle.elf_reader.specs.File.{PlainView, plain_view, view_in}
use Rattle.elf_reader.specs.Faults.{first_fault}
use Rattle.elf_reader.specs.Loadable.{AreBytes}
use Rattle.board_config.specs.Board.{mapped_ranges}
use Rattle.board_config.specs.declared.board.Board.{Board}
use Rattle.flat_machine.specs.Start as flat_start
use Rattle.loaded_file.proofs.WordLemmas.{same_view}
use Rattle.object_graph.specs.declared.parts.Graph.{Graph}
use Rattle.code_blocks.specs.declared.parts.Code.{Code}
use Rattle.cell_values.specs.Stands.{Places}
use Rattle.object_machine.specs.Program.{Program}
use Rattle.object_machine.specs.Start.{start_of}
use Rattle.object_machine.specs.State.{SourceState}
use Rattle.object_machine.specs.Runs.{Steps}
use Rattle.object_machine.proofs.RunLemmas.{one_run}
use Rattle.simulation.proofs.PairedRuns.{is_run}
use Rattle.profile_runner.specs.Transition.{Transition}
use Rattle.profile_runner.proofs.RunLemmas.{transitions_steps, transitions_few}
use Rattle.region_former.specs.declared.table.RegionTable.{RegionTable}
use Rattle.rv32im.proofs.Meaning.{same_instruction}
use Rattle.placement_programme.specs.Plain.{PlainProgramme, PlainChoice}
use Rattle.placement_programme.specs.Views.{plain_programme}
use Rattle.result_laws.specs.HomeLaws.{program_in, source_start, file_start}
use Rattle.result_laws.specs.Walks.{IsNoFault}
use Rattle.relink_core.specs.Choices.{IsAnalysisOf}
use Rattle.relink_core.specs.Placed.{Taken, taken_of, Realises}
use Rattle.relink_core.specs.Placed as placed
use Rattle.relink_core.specs.UnitMaps.{MakesWithUnits, hands_on, moves, StandsBefore}
use Rattle.relink_core.specs.declared.unit_forms.UnitAt.{UnitAt}
use Rattle.relink_core.proofs.RealiseLemmas.{prepared}
use Rattle.compare_runner.specs.Laws.{IsPairedRun}
use Rattle.relinking.specs.declared.stating.MeasuredProgramme.{MeasuredProgramme}
use Rattle.compare_runner.specs.Marks.{trace_text}
use Rattle.compare_runner.specs.Telling.{TellsTrace}
use Rattle.compare_runner.specs.Tracing.{traced_of}
use Rattle.compare_runner.specs.TraceLaws.{traced_in, TracesFiles, AreAtPlaces, made_places, homes_of, IsTraceable, IsTracedWhole, MovedIsTraced, UnmovedIsTraced, ResultsStart}
use Rattle.compare_runner.specs.declared.marks.TracedStep.{TracedStep}
use Rattle.compare_runner.specs.declared.tracing.TraceText.{TraceText}
use Rattle.compare_runner.proofs.LawLemmas as law
use Rattle.command_line.specs.Analysed.{IsOpened}
use Rattle.command_line.specs.CheckFile.{AcceptsChoice}
use Rattle.command_line.specs.PaidFile.{MakesOf, CountsFor}
use Rattle.command_line.specs.TraceFile.{traced_line, MovesSome, TracesMade, TracesTo, MakesTrace, StartsIn, TracesIn, TellsLines}
use Rattle.command_line.specs.declared.opened.Opened.{Opened}
use Rattle.command_line.proofs.FirstSteps.{no_fault, TakesFirst, takes_first, first_count}
use Rattle.command_line.proofs.Paying.{makes_of}

-- a file that is made with its units realises the choice
abbrev pub realised : (file : List ℕ) (board : Board) (g : Graph) (c : Code) (t : RegionTable) (taken : Taken) (out : List ℕ) (units : List UnitAt) → MakesWithUnits file board g c t taken out units → Realises file board g c t taken out
realised file board g c t taken out units (hands_on off none same forms) = placed.hands_on off none same
realised file board g c t taken out units (moves some made) = placed.moves some made.moved

-- its units are in order
pub in_order : (file : List ℕ) (board : Board) (g : Graph) (c : Code) (t : RegionTable) (taken : Taken) (out : List ℕ) (units : List UnitAt) → MakesWithUnits file board g c t taken out units → AllPairs StandsBefore units
in_order file board g c t taken out units (hands_on off none same forms) = forms.ordered
in_order file board g c t taken out units (moves some made) = made.forms.ordered

-- what traces ask of an analysis
abbrev pub traceable : (file : List ℕ) (o : Opened) → IsAnalysisOf file o.board o.analysis → IsTraceable file o.board o.analysis.graph o.analysis.code o.analysis.regions
traceable file o is = record { accepted = (prepared file o.board o.analysis is).accepted; code = is.code; regions = is.regions }

-- ---- whole traces

module _ (file : List ℕ) (board : Board) (g : Graph) (c : Code) (t : RegionTable) (units : List UnitAt) (input : List ℕ) where
  -- one that may be lost is this one
  abbrev IsKept : (ℕ → Places) → List TracedStep → Bool → Type 0
  IsKept places steps lost = (lost ≡ false) × AreAtPlaces places steps

  same_trace : (out : List ℕ) (places : ℕ → Places) (n start : ℕ) (steps : List TracedStep) (lost : Bool) → IsTracedWhole file out board g c t units places input n → TracesFiles file out board g c t units input n start steps lost → IsKept places steps lost
  same_trace out places n start steps lost whole trace =
      let one = law.one_trace same_instruction (traced_in file board g c t units) n (source_start file board g input) (file_start out board input) start whole.start steps whole.steps lost false trace whole.trace in
      (one.same_lost, subst (AreAtPlaces places) (sym one.same_steps) whole.at_places)

  module _ (moved : MovedIsTraced) (unmoved : UnmovedIsTraced) (taken : Taken) (out : List ℕ) (is : IsTraceable file board g c t) (bytes : AreBytes input) where
    -- nothing is moved
    nothing_moved : taken.on ≡ false → taken.items ≡ [] → MovesSome taken → ⊥
    nothing_moved off none (inl on) = cc (off, on)
    nothing_moved off none (inr some) = let count = ap length none in omega (arith, some, count)

    pub kept_trace : (made : MakesWithUnits file board g c t taken out units) (n start : ℕ) (steps : List TracedStep) (lost : Bool) (last : SourceState) → Steps (program_in file board g) n (source_start file board g input) last → IsNoFault last.outcome
        → TracesFiles file out board g c t units input n start steps lost → MovesSome taken ⊎ IsPairedRun file board g input n → IsKept (made_places file board g c t taken out units made) steps lost
    kept_trace (moves some made) n start steps lost last run none trace why =
        same_trace out _ n start steps lost (moved file out board g c t taken units made input n last is bytes run none) trace
    kept_trace (hands_on off none same forms) n start steps lost last run fine trace (inl some) = absurd (nothing_moved off none some)
    kept_trace (hands_on off none same forms) n start steps lost last run fine trace (inr paired) =
        let ends : last ≡ paired.0 = one_run same_instruction (program_in file board g) n (source_start file board g input) last paired.0 run (is_run (program_in file board g) n (source_start file board g input) paired.0 _ paired.1) in
        same_trace file (homes_of g) n start steps lost
        (unmoved file board g c t taken units (hands_on off none refl forms) off none input n paired.0 is bytes paired.1 (subst (λ (x : SourceState). IsNoFault x.outcome) ends fine))
        (subst (λ (f : List ℕ). TracesFiles file f board g c t units input n start steps lost) same trace)

-- ---- the call

pub tells_lines : (o : Opened) (u : PlainView) (units : List UnitAt) (input : List ℕ) (count most : ℕ) (text : TraceText) (line : List ℕ) → most ≡ min count o.board.steps
    → (
    let v = plain_view o.analysis.view in
    let w = traced_of v o.board o.analysis.graph o.analysis.code o.analysis.regions units in
    TellsTrace v o.analysis.graph.objects.items w most (start_of v w.program o.analysis.graph input) (flat_start.start_of u.entry u.segments (mapped_ranges o.board) input) text
    )
    → line ≡ traced_line text.lost text.steps → TellsLines o u units input count text.bytes.items line
tells_lines o u units input count most text line most_is tells line_is =
    record {
      start = tells.start;
      steps = tells.steps;
      lost = text.lost;
      trace = subst (λ (n : ℕ). TracesIn (plain_view o.analysis.view) u o units input n tells.start tells.steps text.lost) most_is tells.trace;
      text_is = tells.bytes;
      line_is = line_is ∙ ap (traced_line text.lost) tells.count;
    }

module _ (file : List ℕ) (o : Opened) (p : PlainProgramme) (choice : PlainChoice) (input result : List ℕ) (units : List UnitAt) (is : IsAnalysisOf file o.board o.analysis) (makes : MakesWithUnits file o.board o.analysis.graph o.analysis.code o.analysis.regions (taken_of p choice) result units) (u : PlainView) (read : u ≡ view_in result) where
  abbrev opened_as : plain_view o.analysis.view ≡ view_in file
  opened_as = same_view file o.analysis.view is.is_file

  pub may_start : ResultsStart → AreBytes input → StartsIn (plain_view o.analysis.view) u o units input
  may_start law bytes =
      let a = o.analysis in
      let starts = law file result o.board a.graph a.code a.regions (taken_of p choice) units makes input (traceable file o is) bytes in
      subst (λ (v : PlainView). StartsIn v u o units input) (sym opened_as)
      (subst (λ (w : PlainView). StartsIn (view_in file) w o units input) (sym read) starts)

  pub makes_trace : (count : ℕ) (text line : List ℕ) → first_fault result ≡ None → TellsLines o u units input count text line → MakesTrace file o p choice input count text line
  makes_trace count text line sound tells =
      let most = min count o.board.steps in
      let of_file = subst (λ (v : PlainView). TracesIn v u o units input most tells.start tells.steps tells.lost) opened_as tells.trace in
      record {
        result = result;
        units = units;
        makes = makes;
        sound = sound;
        start = tells.start;
        steps = tells.steps;
        lost = tells.lost;
        trace = subst (λ (w : PlainView). TracesIn (view_in file) w o units input most tells.start tells.steps tells.lost) read of_file;
        text_is = subst (λ (v : PlainView). text ≡ trace_text v o.analysis.graph.objects.items tells.start tells.steps) opened_as tells.text_is;
        line_is = tells.line_is;
      }

-- ---- the command

module _ (moved : MovedIsTraced) (unmoved : UnmovedIsTraced) (board_text file input cert text line : List ℕ) (o : Opened) (m : MeasuredProgramme) (says : Bool) (choice : PlainChoice) (count : ℕ) (bytes : AreBytes input) (is : IsOpened board_text file o) (counts : CountsFor o input m) (accepted : AcceptsChoice (plain_programme m.programme) cert says choice) (made : MakesTrace file o (plain_programme m.programme) choice input count text line) where
  abbrev makes : MakesOf file o.board input cert made.result
  makes =
      makes_of board_text file input cert made.result o m says choice is counts accepted
      (realised file o.board o.analysis.graph o.analysis.code o.analysis.regions (taken_of (plain_programme m.programme) choice) made.result made.units made.makes)

  abbrev program : Program
  program = program_in file o.board o.analysis.graph

  abbrev source : SourceState
  source = source_start file o.board o.analysis.graph input

  abbrev transitions : List Transition
  transitions = makes.states.states.transitions

  abbrev most : ℕ
  most = min count o.board.steps

  -- the steps that may be traced
  first : TakesFirst program most source transitions
  first =
      takes_first program o.board.steps most source makes.states.states.last transitions (min-le_right count o.board.steps) makes.states.states.run
      (no_fault makes.states.states.last.outcome makes.states.states.no_address_fault)

  firsts : length (take most transitions) ≡ min count (length transitions)
  firsts =
      first_count count o.board.steps transitions (transitions_few program o.board.steps source makes.states.states.last transitions makes.states.states.run)

  is_whole : (made.lost ≡ false → length made.steps ≡ length (take most transitions)) × (made.lost ≡ true → length made.steps < length (take most transitions))
  is_whole =
      let start = file_start made.result o.board input in
      let both = law.traces_are_whole same_instruction (traced_in file o.board o.analysis.graph o.analysis.code o.analysis.regions made.units) most source first.last start made.start made.steps (take most transitions) first.run in
      let so = λ (b : Bool). TracesFiles file made.result o.board o.analysis.graph o.analysis.code o.analysis.regions made.units input most made.start made.steps b in
      (λ off. both.0 (subst so off made.trace), λ on. both.1 (subst so on made.trace))

  traced : TracesMade file o.board input cert made.result makes made.units made.makes count made.start made.steps made.lost
  traced =
      record {
        trace = made.trace;
        whole = λ off. is_whole.0 off ∙ firsts;
        cut = λ on. subst (λ (k : ℕ). length made.steps < k) firsts (is_whole.1 on);
        few = law.steps_are_few (traced_in file o.board o.analysis.graph o.analysis.code o.analysis.regions made.units) most source (file_start made.result o.board input) made.start made.steps made.lost made.trace;
        kept = λ why.
            kept_trace file o.board o.analysis.graph o.analysis.code o.analysis.regions made.units input moved unmoved (taken_of (plain_programme m.programme) choice) made.result (traceable file o is.analysed) bytes
            made.makes most made.start made.steps made.lost first.last (transitions_steps program most source first.last (take most transitions) first.run) first.none made.trace why;
      }

  pub traces_to : TracesTo file board_text input cert count text line
  traces_to =
      record {
        board = o.board;
        accepts = is.accepts;
        result = made.result;
        makes = makes;
        sound = made.sound;
        units = made.units;
        made = made.makes;
        start = made.start;
        steps = made.steps;
        lost = made.lost;
        traced = traced;
        text_is = made.text_is;
        line_is = made.line_is;
      }
