-- What `paid` tells, of what its parts do.
use Rattle.std.proofs.Common.{◌≡◌, ◌⊎◌, ◌∙◌, inl, inr, ℕ, pos, ◌<◌, ◌≤◌, ◌==◌, ◌&&◌, not, ◌++◌, Bool, true, false, List, length, get_or, Some, option_map, refl, sym, ap, subst, arith}
use Rattle.std.proofs.lemmas.Grind.{get_or_default_zero}
use Rattle.std.proofs.lemmas.List.{length-map}
use Rattle.elf_reader.specs.File.{PlainView, plain_view, view_in}
use Rattle.elf_reader.specs.Loadable.{AreBytes}
use Rattle.board_config.specs.declared.board.Board.{Board}
use Rattle.flat_machine.specs.State.{State}
use Rattle.flat_machine.specs.declared.events.FlatOutcome.{FlatOutcome}
use Rattle.object_graph.specs.declared.parts.Graph.{Graph}
use Rattle.code_blocks.specs.declared.parts.Code.{Code}
use Rattle.block_splitter.specs.declared.piece.Piece.{Piece}
use Rattle.object_machine.specs.Program.{program_of}
use Rattle.object_machine.specs.Start.{start_of}
use Rattle.object_machine.specs.declared.events.Outcome.{Outcome}
use Rattle.object_machine.specs.declared.events.Outcome.TheVariants.{GoesOn, Exited, Trapped, AddressFault}
use Rattle.profile_runner.specs.Transitions.{Transitions}
use Rattle.region_former.specs.declared.table.RegionTable.{RegionTable}
use Rattle.rv32im.proofs.Meaning.{same_instruction}
use Rattle.placement_programme.specs.Plain.{PlainProgramme, PlainChoice}
use Rattle.placement_programme.specs.Programme.{IsFeasible}
use Rattle.placement_programme.specs.Views.{plain_programme}
use Rattle.energy_model.specs.Energy.{is_nothing, energy}
use Rattle.energy_model.specs.Scenes.{scene_of}
use Rattle.placement_candidates.specs.Whole.{taken_of as names_taken}
use Rattle.result_laws.specs.HomeLaws.{file_start}
use Rattle.relink_core.specs.Placed.{taken_of, Realises}
use Rattle.relinking.specs.ProgrammeOfRun.{StatesProgramme}
use Rattle.relinking.specs.declared.stating.MeasuredProgramme.{MeasuredProgramme}
use Rattle.relinking.proofs.Analysed.{findings}
use Rattle.relinking.proofs.Relinking.{states_choices}
use Rattle.relinking.proofs.StatedLemmas.{some_of_all}
use Rattle.energy_model.proofs.BaseLemmas.{few_transitions}
use Rattle.placement_candidates.specs.Adding.{kept_name}
use Rattle.result_laws.specs.Choices.{IsChoiceFor}
use Rattle.relink_core.specs.Choices.{IsAnalysisOf}
use Rattle.printed_lines.specs.Endings.{IsAddressFault}
use Rattle.paid_energy.specs.FlatRuns.{PaysRun}
use Rattle.paid_energy.specs.Inward.{inward_calls, counted_inward}
use Rattle.relink_core.proofs.KeepsLemmas.{passes}
use Rattle.relink_core.proofs.ResultsRead.{results_are_read}
use Rattle.paid_energy.proofs.InwardLemmas.{inward_counted}
use Rattle.paid_energy.specs.Laws.{enough_steps, IsPassed, ResultsPay}
use Rattle.paid_energy.proofs.PaidRuns.{each_run_pays}
use Rattle.elf_reader.specs.Faults.{first_fault}
use Rattle.elf_reader.specs.declared.fault.ElfFault.{ElfFault}
use Rattle.elf_reader.specs.declared.fault.ElfFault.TheVariants as elf
use Rattle.command_line.proofs.ComparingFiles.{elf_told}
use Rattle.command_language.specs.FaultLine.{elf_parts, elf_command_fault, parts_of}
use Rattle.command_language.specs.declared.faults.CommandFault.{CommandFault}
use Rattle.command_line.specs.Analysed.{IsOpened}
use Rattle.command_line.specs.ProgramRun.{StatesOf}
use Rattle.command_line.specs.CheckFile.{AcceptsChoice, RejectsChecked}
use Rattle.command_line.specs.PaidFile.{paid_text, modelled_text, MakesOf, Pays, WhereExited, PaysTo, of_check, of_result, RejectsPaid, CountsFor, RunsMade, MakesLines, RejectsMade}
use Rattle.command_line.specs.declared.opened.Opened.{Opened}
use Rattle.command_line.proofs.Analysing.{opened_view}
use Rattle.command_line.proofs.Certificates.{accepted_feasible}

-- ---- the run that is measured

-- what a view states, its file states
abbrev restated : (v w : PlainView) (board : Board) (g : Graph) (c : Code) (t : RegionTable) (pieces : List Piece) (input : List ℕ) (p : PlainProgramme) → v ≡ w
    → StatesProgramme v board g c t pieces input p → StatesProgramme w board g c t pieces input p
restated v w board g c t pieces input p same s =
    record {
      transitions = s.transitions;
      last = s.last;
      run = subst (λ (u : PlainView). Transitions (program_of u board g) board.steps (start_of u (program_of u board g) g input) s.transitions s.last) same s.run;
      no_address_fault = s.no_address_fault;
      overlaid = s.overlaid;
      are_overlaid = s.are_overlaid;
      programme_is = s.programme_is;
      energies = s.energies;
    }

abbrev counted_states : (board_text file input : List ℕ) (o : Opened) (m : MeasuredProgramme) → IsOpened board_text file o → CountsFor o input m → StatesOf file o.board input (plain_programme m.programme)
counted_states board_text file input o m is counts =
    let a = o.analysis in
    record {
      found = findings file o.board a is.analysed;
      states = restated (plain_view a.view) (view_in file) o.board a.graph a.code a.regions a.pieces.items input (plain_programme m.programme) (opened_view board_text file o is) counts.states;
    }

-- the file that realises a choice that is accepted
abbrev pub makes_of : (board_text file input cert out : List ℕ) (o : Opened) (m : MeasuredProgramme) (says : Bool) (choice : PlainChoice) → IsOpened board_text file o → CountsFor o input m
    → AcceptsChoice (plain_programme m.programme) cert says choice
    → Realises file o.board o.analysis.graph o.analysis.code o.analysis.regions (taken_of (plain_programme m.programme) choice) out
    → MakesOf file o.board input cert out
makes_of board_text file input cert out o m says choice is counts accepted realises =
    record {
      programme = plain_programme m.programme;
      states = counted_states board_text file input o m is counts;
      choice = choice;
      says_optimal = says;
      accepted = accepted;
      realises = realises;
    }

-- ---- rejections

pub check_rejected_first : (board_text file input cert : List ℕ) (fault : CommandFault) → RejectsChecked board_text file input cert fault → RejectsPaid board_text file input cert fault
check_rejected_first board_text file input cert fault (inl memory) = inl memory
check_rejected_first board_text file input cert fault (inr told) = inr (of_check (parts_of fault) told refl)

pub made_rejected : (board_text file input cert : List ℕ) (o : Opened) (m : MeasuredProgramme) (says : Bool) (choice : PlainChoice) (fault : CommandFault) → IsOpened board_text file o → CountsFor o input m
    → AcceptsChoice (plain_programme m.programme) cert says choice → RejectsMade file o (plain_programme m.programme) choice fault
    → RejectsPaid board_text file input cert fault
made_rejected board_text file input cert o m says choice fault is counts accepted (inl memory) = inl memory
made_rejected board_text file input cert o m says choice fault is counts accepted (inr made) =
    let a = o.analysis in
    let sound = (passes file o.board is.analysed.passes).first in
    let size = results_are_read file made.out o.board a.graph a.code a.regions (taken_of (plain_programme m.programme) choice) sound made.realises in
    inr (of_result o.board made.out is.accepts (makes_of board_text file input cert made.out o m says choice is counts accepted made.realises) size made.told_is)

-- a file that is made and isn't read
pub elf_rejected : (file : List ℕ) (o : Opened) (p : PlainProgramme) (choice : PlainChoice) (out : List ℕ) (fault : ElfFault) → Realises file o.board o.analysis.graph o.analysis.code o.analysis.regions (taken_of p choice) out
    → (fault ≡ elf.Memory) ⊎ (first_fault out ≡ Some fault) → RejectsMade file o p choice (elf_command_fault fault)
elf_rejected file o p choice out fault realises told =
    elim (elf_told fault told) [
      | inl memory ↦ inl memory
      | inr first ↦ inr (record { out = out; realises = realises; told_is = ap Some first.1 ∙ ap (option_map elf_parts) (sym first.0) })
    ]

-- ---- the lines

pub one_number : (m n : ℕ) → pos m ≡ pos n → m ≡ n
one_number m n same = cc (same)

module _ (law : ResultsPay) (board_text file input cert text : List ℕ) (o : Opened) (m : MeasuredProgramme) (says : Bool) (choice : PlainChoice) (bytes : AreBytes input) (is : IsOpened board_text file o) (counts : CountsFor o input m) (accepted : AcceptsChoice (plain_programme m.programme) cert says choice) (made : MakesLines file o m choice input text) where
  abbrev makes : MakesOf file o.board input cert made.out
  makes = makes_of board_text file input cert made.out o m says choice is counts accepted made.realises

  pays : (code : ℕ) (lines : List ℕ) → counts.states.last.outcome ≡ Exited code → RunsMade o m choice (file_start made.out o.board input) lines
      → Pays file o.board input cert made.out makes made.tells.modelled code lines
  pays code lines exits runs =
      let a = o.analysis in
      let p = plain_programme m.programme in
      let taken = names_taken p choice in
      let states = makes.states.states in
      let feasible = accepted_feasible p cert says choice accepted in
      let w = scene_of a.graph a.code a.regions o.board in
      let run = subst (λ n. PaysRun o.board (enough_steps o.board (is_nothing taken) n) (file_start made.out o.board input) runs.outcome runs.steps runs.paid) counts.same.run.profile.steps runs.run in
      let modelled : energy w taken states.transitions ≡ made.tells.modelled = one_number (energy w taken states.transitions) made.tells.modelled (sym (counts.states.energies choice feasible) ∙ sym made.tells.modelled_is) in
      let inward = inward_counted same_instruction a.view o.board a.graph a.code a.regions m.profile states.transitions taken counts.same in
      let passed : IsPassed file o.board a.graph a.code =
      record { bytes = is.analysed.bytes; lawful = is.analysed.lawful; no_fault = is.analysed.passes; graph = is.analysed.graph; code = is.analysed.code } in
      let most = enough_steps o.board (is_nothing taken) (length states.transitions) in
      let start = file_start made.out o.board input in
      let calls = inward_calls w a.code taken states.transitions in
      let told_so = each_run_pays same_instruction o.board most start runs.outcome runs.steps runs.paid code calls (energy w taken states.transitions) run in
      let told = law file made.out o.board a.graph a.code a.regions p choice input o.board.steps states.transitions states.last code passed feasible bytes made.realises states.run exits in
      record {
        outcome = runs.outcome;
        steps = runs.steps;
        paid = runs.paid;
        run = run;
        exits = λ paired. (told_so (told paired)).0;
        equal = λ paired none. (told_so (told paired)).1 none ∙ modelled;
        text_is = runs.text_is ∙ ap (paid_text runs.outcome runs.paid) inward;
      }

  where_exited : (outcome : Outcome) → outcome ≡ counts.states.last.outcome → WhereExited outcome (λ code. RunsMade o m choice (file_start made.out o.board input)) made.tells.behind
      → WhereExited outcome (Pays file o.board input cert made.out makes made.tells.modelled) made.tells.behind
  where_exited GoesOn same lines = lines
  where_exited (Exited code) same lines = pays code made.tells.behind (sym same) lines
  where_exited (Trapped pc) same lines = lines
  where_exited (AddressFault pc why) same lines = lines

  pub pays_to : PaysTo file board_text input cert text
  pays_to =
      record {
        board = o.board;
        accepts = is.accepts;
        out = made.out;
        makes = makes;
        sound = made.sound;
        modelled = made.tells.modelled;
        modelled_is = made.tells.modelled_is;
        behind = made.tells.behind;
        lines = subst (λ (x : Outcome). WhereExited x (Pays file o.board input cert made.out makes made.tells.modelled) made.tells.behind) counts.outcome (where_exited m.profile.outcome counts.outcome made.tells.lines);
        text_is = made.tells.text_is ∙ ap (λ (x : Outcome). modelled_text x made.tells.modelled ++ made.tells.behind) counts.outcome;
      }

-- ---- what the parts ask

-- a feasible choice for the programme of a run can be realised
pub choice_for : (file input : List ℕ) (o : Opened) (m : MeasuredProgramme) (choice : PlainChoice) → IsAnalysisOf file o.board o.analysis → CountsFor o input m → IsFeasible (plain_programme m.programme) choice
    → IsChoiceFor o.board o.analysis.graph o.analysis.code o.analysis.regions o.analysis.pieces.items (plain_programme m.programme) choice
choice_for file input o m choice is counts feasible =
    let a = o.analysis in
    states_choices (plain_view a.view) o.board a.graph a.code a.regions a.pieces.items input (plain_programme m.programme) (some_of_all a.code a.graph a.pieces.items is.pieces) is.regions.is_formed.one_each counts.states choice feasible

-- a run that is measured met no address fault
pub no_fault_counted : (input : List ℕ) (o : Opened) (m : MeasuredProgramme) → CountsFor o input m → IsAddressFault m.profile.outcome → ⊥
no_fault_counted input o m counts fault = counts.states.no_address_fault (subst IsAddressFault counts.outcome fault)

pub few_steps : (input : List ℕ) (o : Opened) (m : MeasuredProgramme) → CountsFor o input m → m.profile.steps ≤ 1000000000
few_steps input o m counts =
    let a = o.analysis in
    let few = few_transitions a.view o.board a.graph a.code a.regions m.profile counts.states.transitions counts.same in
    omega (arith, few, counts.same.run.profile.steps)

-- a choice takes nothing
length_none : (on : Bool) (p : PlainProgramme) (take : List ℕ) → not on && (length take == 0) ≡ is_nothing (names_taken p (record { on = on; take = take }))
length_none true p take = refl
length_none false p take = ap (λ n. n == 0) (sym (length-map take (kept_name p.off.vars)))

pub nothing_taken : (p : PlainProgramme) (choice : PlainChoice) → not choice.on && (length choice.take == 0) ≡ is_nothing (names_taken p choice)
nothing_taken p choice = length_none choice.on p choice.take

-- ---- the run of the file that is made

pub runs_made : (o : Opened) (m : MeasuredProgramme) (choice : PlainChoice) (start here : State) (outcome : FlatOutcome) (steps paid limit calls : ℕ) (nothing : Bool) (text : List ℕ)
    → here ≡ start → limit ≡ enough_steps o.board nothing m.profile.steps → nothing ≡ not choice.on && (length choice.take == 0)
    → calls ≡ counted_inward (scene_of o.analysis.graph o.analysis.code o.analysis.regions o.board) o.analysis.code (names_taken (plain_programme m.programme) choice) m.profile
    → PaysRun o.board limit here outcome steps paid → text ≡ paid_text outcome paid calls → RunsMade o m choice start text
runs_made o m choice start here outcome steps paid limit calls nothing text same limit_is nothing_is calls_are run text_is =
    let most : limit ≡ enough_steps o.board (is_nothing (names_taken (plain_programme m.programme) choice)) m.profile.steps =
    limit_is ∙ ap (λ b. enough_steps o.board b m.profile.steps) (nothing_is ∙ nothing_taken (plain_programme m.programme) choice) in
    record {
      outcome = outcome;
      steps = steps;
      paid = paid;
      run = subst (λ (s : State). PaysRun o.board (enough_steps o.board (is_nothing (names_taken (plain_programme m.programme) choice)) m.profile.steps) s outcome steps paid) same (subst (λ n. PaysRun o.board n here outcome steps paid) most run);
      text_is = text_is ∙ ap (paid_text outcome paid) calls_are;
    }

-- what is read are bytes
pub bytes_read : (xs : List ℕ) → ((i : ℕ) → get_or xs i 0 < 256) → AreBytes xs
bytes_read xs small k d below =
    let same = get_or_default_zero xs k d below in
    let here = small k in
    omega (arith, same, here)
