-- A profile of the program of a file, and its address fault.
use Rattle.std.proofs.Common.{◌≡◌, inl, inr, ℕ, List, length, Ok, Err, refl, sym, subst, ◌∙◌}
use Rattle.std.proofs.lemmas.List.{length-map}
use Rattle.elf_reader.specs.File.{PlainView, plain_view, view_in}
use Rattle.board_config.specs.declared.board.Board.{Board}
use Rattle.object_graph.specs.Graphs.{IsGraph}
use Rattle.object_graph.specs.declared.parts.Graph.{Graph}
use Rattle.object_machine.specs.declared.events.Outcome.TheVariants.{AddressFault}
use Rattle.code_blocks.specs.Blocks.{start_of}
use Rattle.code_blocks.specs.Numbers.{starts_of}
use Rattle.code_blocks.specs.declared.parts.Code.{Code}
use Rattle.result_laws.specs.HomeLaws.{program_in, source_start}
use Rattle.region_former.specs.declared.table.RegionTable.{RegionTable}
use Rattle.profile_runner.proofs.RunLemmas.{transitions_steps}
use Rattle.profile_runner.specs.declared.counts.Profile.{Profile}
use Rattle.profile_runner.specs.declared.fault.ProfileFault.{ProfileFault}
use Rattle.profile_runner.specs.declared.fault.ProfileFault.TheVariants.{AddressFault as FaultAt, Memory}
use Rattle.relinking.proofs.Analysed.{findings}
use Rattle.relinking.proofs.Counting.{faulted, unfaulted}
use Rattle.command_language.specs.FaultLine.{profile_command_fault}
use Rattle.command_line.specs.Analysed.{IsOpened}
use Rattle.command_line.specs.declared.opened.Opened.{Opened}
use Rattle.command_line.proofs.Analysing.{opened_view}
use Rattle.relinking.specs.Runs.{RunsProgram}
use Rattle.relinking.specs.MeasuredRuns.{EndsSo}
use Rattle.relinking.specs.declared.measuring.MeasuredEnd.{MeasuredEnd}
use Rattle.command_line.specs.Measured.{MeasuresTo}
use Rattle.printed_lines.specs.Endings.{IsAddressFault}
use Rattle.command_line.specs.ProgramRun.{RejectsProfiled, of_run}
use Rattle.printed_lines.specs.ProfileLines.{profile_text}
use Rattle.relinking.specs.Runs.{ReportsCounts}
use Rattle.command_line.specs.ProfileFile.{ProfilesTo}

-- a program whose counts end so was run to this address fault
pub fault_run : (file : List ℕ) (board : Board) (g : Graph) (c : Code) (t : RegionTable) (input : List ℕ) (pc why : ℕ) → IsGraph (view_in file) board g
    → ReportsCounts (view_in file) board g c t input (Err (FaultAt pc why)) → RunsProgram file board input (AddressFault pc why)
fault_run file board g c t input pc why is (last, fault) =
    record {
      graph = g;
      is_graph = is;
      last = last;
      taken = transitions_steps (program_in file board g) board.steps (source_start file board g input) last fault.transitions fault.run;
      outcome_is = sym (faulted last.outcome pc why fault.fault);
    }

-- an address fault rejects the command
pub counts_rejected : (board_text file input : List ℕ) (o : Opened) (fault : ProfileFault) → IsOpened board_text file o
    → ReportsCounts (plain_view o.analysis.view) o.board o.analysis.graph o.analysis.code o.analysis.regions input (Err fault)
    → RejectsProfiled board_text file input (profile_command_fault fault)
counts_rejected board_text file input o (FaultAt pc why) is told =
    let a = o.analysis in
    let counts = subst (λ (u : PlainView). ReportsCounts u o.board a.graph a.code a.regions input (Err (FaultAt pc why))) (opened_view board_text file o is) told in
    inr (of_run o.board pc why is.accepts (fault_run file o.board a.graph a.code a.regions input pc why is.analysed.graph counts) refl)
counts_rejected board_text file input o Memory is told = inl refl

-- what printing a profile asks of it
pub record HasLines (g : Graph) (c : Code) (q : Profile) : Type 0 where
  pub ending : IsAddressFault q.outcome → ⊥
  pub blocks : length q.arrivals.items ≡ length c.blocks.items
  pub reads : length q.reads.items ≡ length g.objects.items
  pub writes : length q.writes.items ≡ length g.objects.items

pub has_lines : (v : PlainView) (board : Board) (g : Graph) (c : Code) (t : RegionTable) (input : List ℕ) (q : Profile) → ReportsCounts v board g c t input (Ok q) → HasLines g c q
has_lines v board g c t input q told =
    let (last, made) = told in
    let is = made.profile in
    record {
      ending = λ fault. unfaulted last.outcome made.no_fault (subst IsAddressFault is.outcome_is fault);
      blocks = is.arrivals.size_is ∙ length-map c.blocks.items start_of;
      reads = sym (length-map q.reads.items (λ row. row.items)) ∙ is.reads.height_is;
      writes = sym (length-map q.writes.items (λ row. row.items)) ∙ is.writes.height_is;
    }

-- the lines of a profile of the program of a view tell what the program of its file does
pub profiles_to : (file board_text input text : List ℕ) (o : Opened) (q : Profile) → IsOpened board_text file o
    → ReportsCounts (plain_view o.analysis.view) o.board o.analysis.graph o.analysis.code o.analysis.regions input (Ok q)
    → text ≡ profile_text (plain_view o.analysis.view) o.analysis.graph.objects.items (starts_of o.analysis.code) q
    → ProfilesTo file board_text input text
profiles_to file board_text input text o q is told text_is =
    let a = o.analysis in
    let same = opened_view board_text file o is in
    let (last, made) = subst (λ (u : PlainView). ReportsCounts u o.board a.graph a.code a.regions input (Ok q)) same told in
    record {
      board = o.board;
      accepts = is.accepts;
      found = findings file o.board a is.analysed;
      transitions = made.transitions;
      last = last;
      run = made.run;
      no_address_fault = unfaulted last.outcome made.no_fault;
      profile = q;
      is_profile = made.profile;
      text_is = subst (λ (u : PlainView). text ≡ profile_text u a.graph.objects.items (starts_of a.code) q) same text_is;
    }

-- a run that is done ran the program
pub profile_runs : (file board_text input text : List ℕ) (made : ProfilesTo file board_text input text) → RunsProgram file made.board input made.last.outcome
profile_runs file board_text input text made =
    record {
      graph = made.found.graph;
      is_graph = made.found.is_graph;
      last = made.last;
      taken = transitions_steps (program_in file made.board made.found.graph) made.board.steps (source_start file made.board made.found.graph input) made.last made.transitions made.run;
      outcome_is = refl;
    }

-- how a run of the program of a file that was opened ended
pub ends_in_file : (file board_text input : List ℕ) (o : Opened) (end : MeasuredEnd) → IsOpened board_text file o
    → EndsSo (view_in file) o.board o.analysis.graph input end → MeasuresTo file board_text input end
ends_in_file file board_text input o end is ends =
    record { board = o.board; accepts = is.accepts; graph = o.analysis.graph; is_graph = is.analysed.graph; ends = ends }

-- the same of the program of its view
pub measures_to : (file board_text input : List ℕ) (o : Opened) (end : MeasuredEnd) → IsOpened board_text file o
    → EndsSo (plain_view o.analysis.view) o.board o.analysis.graph input end → MeasuresTo file board_text input end
measures_to file board_text input o end is ends =
    ends_in_file file board_text input o end is
    (subst (λ (u : PlainView). EndsSo u o.board o.analysis.graph input end) (opened_view board_text file o is) ends)
