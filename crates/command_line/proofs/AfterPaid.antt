-- OUT pays what is printed behind `after`, since it realises the choice, whose energy that is.
use Rattle.std.proofs.Common.{◌≡◌, ℕ, ◌+◌, ◌*◌, List, [], ◌∷◌, ◌++◌, length, All, refl, sym, ◌∙◌, ap, subst}
use Rattle.std.specs.Prelude.{◌≢◌, Bool}
use Rattle.std.proofs.lemmas.List.Elements.{All-nil, All-cons, All-head, All-tail}
use Rattle.std.proofs.lemmas.List.Sums.{sum_by-cons}
use Rattle.elf_reader.specs.File.{view_in}
use Rattle.elf_reader.specs.Loadable.{AreBytes}
use Rattle.board_config.specs.declared.board.Board.{Board}
use Rattle.board_config.proofs.Lawful.{board_is_lawful}
use Rattle.object_graph.specs.declared.parts.Graph.{Graph}
use Rattle.code_blocks.specs.declared.parts.Code.{Code}
use Rattle.object_machine.specs.State.{SourceState}
use Rattle.profile_runner.specs.Transition.{Transition}
use Rattle.profile_runner.specs.Transitions.{Transitions}
use Rattle.placement_programme.specs.Plain.{PlainProgramme, PlainChoice}
use Rattle.placement_programme.specs.Programme.{IsFeasible}
use Rattle.energy_model.specs.Energy.{Scene, Taken, is_nothing, energy}
use Rattle.energy_model.specs.Scenes.{scene_of}
use Rattle.placement_candidates.specs.Mixed.{WeightedRun, mixed_energy}
use Rattle.placement_candidates.specs.Whole.{taken_of as names_taken}
use Rattle.result_laws.specs.HomeLaws.{program_in, source_start, file_start}
use Rattle.relink_core.specs.Findings.{Findings}
use Rattle.relink_core.specs.Placed.{taken_of, Realises}
use Rattle.printed_lines.specs.TakenLines.{taken_lines}
use Rattle.relocator.specs.Placing.{chosen_slots}
use Rattle.relinking.specs.TakenItems.{items_told}
use Rattle.relinking.specs.FoundChoice.{IsFound}
use Rattle.relinking.specs.MixOfRuns.{WeightedInput, AreRunsOn}
use Rattle.relinking.specs.Report.{IsRelinkReport}
use Rattle.paid_energy.specs.Inward.{inward_calls}
use Rattle.paid_energy.specs.Laws.{enough_steps, IsPassed, PaysEnergy, ResultsPay}
use Rattle.shelf_io.specs.Shelf.{ShelfView}
use Rattle.shelf_io.specs.Sink.{SinkView}
use Rattle.command_language.specs.Command.{PlainCommand, run_command, relink_command, profile_command, compare_command, check_command, mix_command, check_mix_command, gen_command, hex_command, hex_check_command, show_command, paid_command, trace_command, Named, named, writes}
use Rattle.command_language.specs.Lines.{MixLine, mix_lines}
use Rattle.command_line.specs.Analysed.{Accepts}
use Rattle.command_files.specs.Writing.{SetsAll}
use Rattle.command_line.specs.Listing.{HoldsInputs}
use Rattle.command_line.specs.RelinkFile.{RelinksTo}
use Rattle.command_line.specs.MixFile.{inputs_of, MixesTo}
use Rattle.command_line.specs.Meaning.{Yields, runs, relinks, profiles, compares, checks, pays, traces, mixes, checks_mix, shows, generates, writes_hex, agrees}
use Rattle.command_line.specs.Answers.{ReportsAll, IsDone}
use Rattle.command_line.specs.AfterPaid.{TellsAfter, IsCertificateOf, OutPays, OutPaysEach, weighted_sum, RelinkedPays, MixedPays, TellsFiles, RelinkPrintsPaid, MixPrintsPaid, PrintsPaid}
use Rattle.command_line.proofs.OneCommand.{one_command, one_inputs}
use Rattle.command_line.proofs.Paying.{one_number}
use Rattle.command_line.proofs.Promises.{told_by}

-- ---- what is printed

tells_after : (file : List ℕ) (board : Board) (g : Graph) (c : Code) (p : PlainProgramme) (choice : PlainChoice) (says : Bool) (report : List ℕ) → (told : IsRelinkReport (view_in file) board g c p choice says report) → TellsAfter report told.is_first.after
tells_after file board g c p choice says report told =
    let lines = taken_lines (view_in file) g.objects.items (items_told g c (chosen_slots board p choice)) in
    record {
      optimal = says;
      nodes = board.nodes;
      before = p.base;
      lines = lines;
      report_is = told.report_is ∙ ap (λ (first : List ℕ). first ++ lines) told.is_first.text_is;
    }

is_certificate : (p : PlainProgramme) (nodes : ℕ) (choice : PlainChoice) (text : List ℕ) (says : Bool) → IsFound p nodes choice text says → IsCertificateOf choice text
is_certificate p nodes choice text says found =
    record { certificate = found.certificate; spells = found.spells; choice_is = sym found.same }

-- ---- what is paid

module _ (law : ResultsPay) (file board_text out : List ℕ) (board : Board) (accepts : Accepts board_text file board) (found : Findings file board) (p : PlainProgramme) (choice : PlainChoice) (bytes : AreBytes file) (feasible : IsFeasible p choice) (realises : Realises file board found.graph found.code found.regions (taken_of p choice) out) where
  abbrev scene : Scene
  scene = scene_of found.graph found.code found.regions board

  abbrev taken : Taken
  taken = names_taken p choice

  passed : IsPassed file board found.graph found.code
  passed =
      record {
        bytes = bytes;
        lawful = board_is_lawful accepts.is_board.table board accepts.is_board.keys;
        no_fault = accepts.no_fault.before;
        graph = found.is_graph;
        code = found.is_code;
      }

  out_pays : (input : List ℕ) (ts : List Transition) (last : SourceState) (cost : ℕ) → AreBytes input
      → Transitions (program_in file board found.graph) board.steps (source_start file board found.graph input) ts last → cost ≡ energy scene taken ts
      → OutPays file out board found taken input cost
  out_pays input ts last cost input_bytes run modelled =
      record {
        transitions = ts;
        last = last;
        run = run;
        modelled = modelled;
        pays = λ code exits paired.
            subst (λ (k : ℕ). PaysEnergy board (enough_steps board (is_nothing taken) (length ts)) (file_start out board input) code (inward_calls scene found.code taken ts) k) (sym modelled)
            (law file out board found.graph found.code found.regions p choice input board.steps ts last code passed feasible input_bytes realises run exits paired);
      }

  abbrev costs_of : List WeightedRun → List ℕ
  costs_of [] = []
  costs_of (r ∷ rs) = energy scene taken r.transitions ∷ costs_of rs

  out_pays_each : (inputs : List WeightedInput) (runs : List WeightedRun) → All (λ (i : WeightedInput). AreBytes i.bytes) inputs → AreRunsOn (view_in file) board found.graph inputs runs
      → OutPaysEach file out board found taken inputs (costs_of runs)
  out_pays_each [] [] each are = tt
  out_pays_each [] (r ∷ rs) each are = absurd are
  out_pays_each (i ∷ is) [] each are = absurd are
  out_pays_each (i ∷ is) (r ∷ rs) each are = (
    out_pays i.bytes r.transitions are.1.last (energy scene taken r.transitions) (All-head (λ (x : WeightedInput). AreBytes x.bytes) i is each) are.1.run refl,
    out_pays_each is rs (All-tail (λ (x : WeightedInput). AreBytes x.bytes) i is each) are.2,
  )

  sum_is : (inputs : List WeightedInput) (runs : List WeightedRun) → AreRunsOn (view_in file) board found.graph inputs runs → mixed_energy scene taken runs ≡ weighted_sum inputs (costs_of runs)
  sum_is [] [] are = refl
  sum_is [] (r ∷ rs) are = absurd are
  sum_is (i ∷ is) [] are = absurd are
  sum_is (i ∷ is) (r ∷ rs) are =
      sum_by-cons (λ (x : WeightedRun). x.weight * energy scene taken x.transitions) r rs
      ∙ (ap (λ (n : ℕ). n * energy scene taken r.transitions + mixed_energy scene taken rs) are.0
      ∙ ap (λ (n : ℕ). i.weight * energy scene taken r.transitions + n) (sum_is is rs are.2))

pub relinked_pays : ResultsPay → (file board_text input certificate out report : List ℕ) → AreBytes file → AreBytes input → RelinksTo file board_text input certificate out report → RelinkedPays file board_text input certificate out report
relinked_pays law file board_text input certificate out report bytes input_bytes made =
    let found = made.states.found in
    let states = made.states.states in
    let choice = made.choice in
    let feasible = made.result.found.feasible in
    let first = made.is_report.is_first in
    let cost = energy (scene_of found.graph found.code found.regions made.board) (names_taken made.programme choice) states.transitions in
    record {
      board = made.board;
      is_board = made.accepts.is_board;
      programme = made.programme;
      states = made.states;
      choice = choice;
      chosen = is_certificate made.programme made.board.nodes choice certificate made.says_optimal made.result.found;
      after = first.after;
      told = tells_after file made.board found.graph found.code made.programme choice made.says_optimal report made.is_report;
      pays = out_pays law file board_text out made.board made.accepts found made.programme choice bytes feasible made.result.realises input states.transitions states.last first.after input_bytes states.run
          (one_number first.after cost (first.after_is ∙ states.energies choice feasible));
    }

pub mixed_pays : ResultsPay → (file board_text : List ℕ) (inputs : List WeightedInput) (certificate out report : List ℕ) → AreBytes file → All (λ (i : WeightedInput). AreBytes i.bytes) inputs → MixesTo file board_text inputs certificate out report → MixedPays file board_text inputs certificate out report
mixed_pays law file board_text inputs certificate out report bytes each made =
    let found = made.states.found in
    let states = made.states.states in
    let choice = made.choice in
    let feasible = made.result.found.feasible in
    let first = made.is_report.is_first in
    let w = scene_of found.graph found.code found.regions made.board in
    let cost = mixed_energy w (names_taken made.programme choice) states.runs in
    let same = one_number first.after cost (first.after_is ∙ states.energies choice feasible) in
    let sum = sum_is law file board_text out made.board made.accepts found made.programme choice bytes feasible made.result.realises inputs states.runs states.are_runs in
    record {
      board = made.board;
      is_board = made.accepts.is_board;
      programme = made.programme;
      states = made.states;
      choice = choice;
      chosen = is_certificate made.programme made.board.nodes choice certificate made.says_optimal made.result.found;
      costs = costs_of law file board_text out made.board made.accepts found made.programme choice bytes feasible made.result.realises states.runs;
      told = subst (TellsAfter report) (same ∙ sum)
          (tells_after file made.board found.graph found.code made.programme choice made.says_optimal report made.is_report);
      pays = out_pays_each law file board_text out made.board made.accepts found made.programme choice bytes feasible made.result.realises inputs states.runs each states.are_runs;
    }

-- ---- what the shelf tells

-- what the two commands make of their inputs
abbrev Makes : PlainCommand → List (List ℕ) → List (List ℕ) → List ℕ → Type 0
Makes (relink_command f b i o c) (file ∷ board_text ∷ input ∷ []) (certificate ∷ out ∷ []) text = RelinksTo file board_text input certificate out text
Makes (mix_command f b m o c) (file ∷ board_text ∷ mix ∷ texts) (certificate ∷ out ∷ []) text =
    MixesTo file board_text (inputs_of (mix_lines mix) texts) certificate out text
Makes command inputs outputs text = Unit {0}

module _ (command : PlainCommand) (inputs outputs : List (List ℕ)) (text : List ℕ) where
  of_command : (it : PlainCommand) → command ≡ it → Makes it inputs outputs text → Makes command inputs outputs text
  of_command it is = subst (λ (c : PlainCommand). Makes c inputs outputs text) (sym is)

  makes : Yields command inputs outputs text → Makes command inputs outputs text
  makes (relinks f b i o c file board input certificate out is are outs made) =
      of_command (relink_command f b i o c) is
      (subst (λ (xs : List (List ℕ)). Makes (relink_command f b i o c) xs outputs text) (sym are)
      (subst (λ (ys : List (List ℕ)). Makes (relink_command f b i o c) (file ∷ board ∷ input ∷ []) ys text) (sym outs) made))
  makes (mixes f b m o c file board mix certificate out texts is are outs unbroken made) =
      of_command (mix_command f b m o c) is
      (subst (λ (xs : List (List ℕ)). Makes (mix_command f b m o c) xs outputs text) (sym are)
      (subst (λ (ys : List (List ℕ)). Makes (mix_command f b m o c) (file ∷ board ∷ mix ∷ texts) ys text) (sym outs) made))
  makes (runs f b i o file board input output is are outs it) = of_command (run_command f b i o) is tt
  makes (profiles f b i file board input is are outs it) = of_command (profile_command f b i) is tt
  makes (compares f r b i file relinked board input is are outs it) = of_command (compare_command f r b i) is tt
  makes (checks f b i c file board input cert is are outs it) = of_command (check_command f b i c) is tt
  makes (pays f b i c file board input cert is are outs it) = of_command (paid_command f b i c) is tt
  makes (traces f b i c n o file board input cert output is are outs it) = of_command (trace_command f b i c n o) is tt
  makes (checks_mix f b m c file board mix cert texts is are outs unbroken it) = of_command (check_mix_command f b m c) is tt
  makes (shows f b file board is are outs it) = of_command (show_command f b) is tt
  makes (generates seed kernels o is are outs it) = of_command (gen_command seed kernels o) is tt
  makes (writes_hex f o file is are none outs it) = of_command (hex_command f o) is tt
  makes (agrees f h file hex is are none spells outs it) = of_command (hex_check_command f h) is tt

-- what was set under two names is what the shelf tells
outputs_told : (a b : Named) (outputs : List (List ℕ)) (certificate out : List ℕ) (old new : ShelfView) → a.name ≢ b.name → SetsAll (a ∷ b ∷ []) outputs old new → ReportsAll new (a ∷ b ∷ []) (certificate ∷ out ∷ []) → outputs ≡ certificate ∷ out ∷ []
outputs_told a b [] certificate out old new apart set told = absurd set
outputs_told a b (x ∷ []) certificate out old new apart set told = absurd set.2
outputs_told a b (x ∷ y ∷ z ∷ zs) certificate out old new apart set told = absurd set.2.2
outputs_told a b (x ∷ y ∷ []) certificate out old new apart (mid, first, (last, second, same)) told =
    let is_out = told_by mid.tells y out (last.content b.name) second.set (ap (λ (s : ShelfView). s.content b.name) (sym same) ∙ told.1.0) in
    let is_cert = told_by old.tells x certificate (mid.content a.name) first.set (sym (second.elsewhere a.name apart) ∙ (ap (λ (s : ShelfView). s.content a.name) (sym same) ∙ told.0)) in
    rw (is_out, is_cert) refl

module _ (words : List (List ℕ)) (old new : ShelfView) (sink sink' : SinkView) (done : IsDone words old new sink sink') (command : PlainCommand) (inputs outputs : List (List ℕ)) (told : TellsFiles words command old new inputs outputs) where
  same_command : done.delivers.produces.command ≡ command
  same_command =
      one_command words done.delivers.produces.command command done.delivers.produces.is_command told.is_command

  same_inputs : done.delivers.produces.of_shelf.inputs ≡ inputs
  same_inputs =
      let of_shelf = done.delivers.produces.of_shelf in
      one_inputs old command of_shelf.inputs inputs (subst (λ (c : PlainCommand). HoldsInputs old c of_shelf.inputs) same_command of_shelf.holds) told.inputs_are

  outputs_set : SetsAll (writes command) done.delivers.outputs old new
  outputs_set = subst (λ (c : PlainCommand). SetsAll (writes c) done.delivers.outputs old new) same_command done.delivers.set

  done_makes : done.delivers.outputs ≡ outputs → Makes command inputs outputs done.text
  done_makes same_outputs =
      let of_shelf = done.delivers.produces.of_shelf in
      subst (λ (c : PlainCommand). Makes c inputs outputs done.text) same_command
      (subst (λ (xs : List (List ℕ)). Makes done.delivers.produces.command xs outputs done.text) same_inputs
      (subst (λ (ys : List (List ℕ)). Makes done.delivers.produces.command of_shelf.inputs ys done.text) same_outputs
      (makes done.delivers.produces.command of_shelf.inputs done.delivers.outputs done.text of_shelf.yields)))

-- the inputs are bytes where their texts are
inputs_are_bytes : (lines : List MixLine) (texts : List (List ℕ)) → All AreBytes texts → All (λ (i : WeightedInput). AreBytes i.bytes) (inputs_of lines texts)
inputs_are_bytes [] texts each = All-nil (λ (i : WeightedInput). AreBytes i.bytes)
inputs_are_bytes (l ∷ ls) [] each = All-nil (λ (i : WeightedInput). AreBytes i.bytes)
inputs_are_bytes (l ∷ ls) (text ∷ texts) each =
    All-cons (λ (i : WeightedInput). AreBytes i.bytes) (record { weight = l.weight; bytes = text }) (inputs_of ls texts) (All-head AreBytes text texts each)
    (inputs_are_bytes ls texts (All-tail AreBytes text texts each))

-- ---- the clause

relink_prints_paid : ResultsPay → (words : List (List ℕ)) (old new : ShelfView) (sink sink' : SinkView) → IsDone words old new sink sink' → RelinkPrintsPaid words old new sink sink'
relink_prints_paid law words old new sink sink' done f b i o c file board_text input certificate out told bytes input_bytes =
    let command = relink_command f b i o c in
    let inputs = file ∷ board_text ∷ input ∷ [] in
    let outputs = certificate ∷ out ∷ [] in
    let set = outputs_set words old new sink sink' done command inputs outputs told in
    let apart : c ≢ o = λ same. told.is_command.disjoint.1.0 (sym same) in
    let same = outputs_told (named 5 c) (named 4 o) done.delivers.outputs certificate out old new apart set told.outputs_are in
    (done.text, (done.printed, relinked_pays law file board_text input certificate out done.text bytes input_bytes (done_makes words old new sink sink' done command inputs outputs told same)))

mix_prints_paid : ResultsPay → (words : List (List ℕ)) (old new : ShelfView) (sink sink' : SinkView) → IsDone words old new sink sink' → MixPrintsPaid words old new sink sink'
mix_prints_paid law words old new sink sink' done f b m o c file board_text mix certificate out texts told bytes each =
    let command = mix_command f b m o c in
    let inputs = file ∷ board_text ∷ mix ∷ texts in
    let outputs = certificate ∷ out ∷ [] in
    let set = outputs_set words old new sink sink' done command inputs outputs told in
    let apart : c ≢ o = λ same. told.is_command.disjoint.1.0 (sym same) in
    let same = outputs_told (named 5 c) (named 4 o) done.delivers.outputs certificate out old new apart set told.outputs_are in
    (done.text, (done.printed, mixed_pays law file board_text (inputs_of (mix_lines mix) texts) certificate out done.text bytes (inputs_are_bytes (mix_lines mix) texts each) (done_makes words old new sink sink' done command inputs outputs told same)))

pub prints_paid : ResultsPay → (words : List (List ℕ)) (old new : ShelfView) (sink sink' : SinkView) → IsDone words old new sink sink' → PrintsPaid words old new sink sink'
prints_paid law words old new sink sink' done =
    (relink_prints_paid law words old new sink sink' done, mix_prints_paid law words old new sink sink' done)
