-- Where a command relinks a file, OUT does what FILE does.
use Rattle.std.proofs.Common.{◌≡◌, inl, inr, ℕ, Bool, true, false, if◌then◌else◌, List, [], ◌∷◌, Option, Some, None, refl, sym, ◌∙◌, ap, subst}
use Rattle.std.specs.Prelude.{codes}
use Rattle.elf_reader.specs.File.{view_in}
use Rattle.elf_reader.specs.Loadable.{AreBytes}
use Rattle.board_config.specs.Board.{IsBoard}
use Rattle.board_config.specs.declared.board.Board.{Board}
use Rattle.board_config.proofs.Lawful.{board_is_lawful}
use Rattle.object_machine.specs.declared.events.Outcome.{Outcome}
use Rattle.object_machine.specs.declared.events.Outcome.TheVariants.{GoesOn, Exited, Trapped, AddressFault}
use Rattle.object_machine.specs.Runs.{HasEnded}
use Rattle.result_laws.specs.Absolute.{IsAbsolute}
use Rattle.relink_core.specs.Faults.{analyse_fault}
use Rattle.relink_core.specs.Placed.{Taken, taken_of}
use Rattle.relink_core.specs.Choices.{KeepsMeaning}
use Rattle.compare_runner.specs.HeadlineLaws.{KeptDoesWhatFileDoes}
use Rattle.shelf_io.specs.Shelf.{ShelfView}
use Rattle.shelf_io.specs.Sink.{SinkView}
use Rattle.command_language.specs.Command.{PlainCommand, run_command, relink_command, profile_command, compare_command, check_command, mix_command, check_mix_command, gen_command, hex_command, hex_check_command, show_command, paid_command, trace_command, IsCommand, Named, named, writes}
use Rattle.command_line.specs.Analysed.{Accepts}
use Rattle.command_line.specs.Listing.{HoldsInputs}
use Rattle.command_files.specs.Writing.{SetsAll}
use Rattle.command_line.specs.Meaning.{Yields, runs, relinks, profiles, compares, checks, pays, traces, mixes, checks_mix, shows, generates, writes_hex, agrees}
use Rattle.command_line.specs.Answers.{IsDone}
use Rattle.command_line.specs.CompareFiles.{ComparesTo, same_text}
use Rattle.command_line.specs.Promise.{Relinks, IsRelinked, KeepsPromise, ComparedRunsSafely, IsSafeOn}
use Rattle.command_line.proofs.OneCommand.{one_command, held_is}

-- a file and a board among what was read, and what was written last keeps the file's meaning
record Made (inputs outputs : List (List ℕ)) : Type 0 where
  file : List ℕ
  board_text : List ℕ
  others : List (List ℕ)
  inputs_are : inputs ≡ file ∷ board_text ∷ others
  certificate : List ℕ
  out : List ℕ
  outputs_are : outputs ≡ certificate ∷ out ∷ []
  board : Board
  is_board : IsBoard board_text board
  no_fault : analyse_fault file board ≡ None
  taken : Taken
  keeps : KeepsMeaning taken file out board

made_of : (file board_text certificate out : List ℕ) (others : List (List ℕ)) (board : Board) (taken : Taken) → Accepts board_text file board → KeepsMeaning taken file out board → Made (file ∷ board_text ∷ others) (certificate ∷ out ∷ [])
made_of file board_text certificate out others board taken accepts keeps =
    record {
      file = file;
      board_text = board_text;
      others = others;
      inputs_are = refl;
      certificate = certificate;
      out = out;
      outputs_are = refl;
      board = board;
      is_board = accepts.is_board;
      no_fault = accepts.no_fault.before;
      taken = taken;
      keeps = keeps;
    }

-- the two commands that relink
abbrev IsRelinking : PlainCommand → Type 0
IsRelinking (relink_command file board input out cert) = Unit {0}
IsRelinking (mix_command file board mix out cert) = Unit {0}
IsRelinking other = ⊥

is_relinking : (command : PlainCommand) (file board out : List ℕ) → Relinks command file board out → IsRelinking command
is_relinking command file board out (third, (cert, inl is)) = subst IsRelinking (sym is) tt
is_relinking command file board out (third, (cert, inr is)) = subst IsRelinking (sym is) tt

module _ (command : PlainCommand) (inputs outputs : List (List ℕ)) (text : List ℕ) (relinking : IsRelinking command) where
  -- no other command relinks
  other : (it : PlainCommand) → command ≡ it → IsRelinking it
  other it is = subst IsRelinking is relinking

  result_of : Yields command inputs outputs text → Made inputs outputs
  result_of (relinks f b i o c file board input certificate out is are outs made_it) =
      subst (λ (xs : List (List ℕ)). Made xs outputs) (sym are)
      (subst (λ (ys : List (List ℕ)). Made (file ∷ board ∷ input ∷ []) ys) (sym outs)
      (made_of file board certificate out (input ∷ []) made_it.board (taken_of made_it.programme made_it.choice) made_it.accepts made_it.result.keeps))
  result_of (mixes f b m o c file board mix certificate out texts is are outs unbroken made_it) =
      subst (λ (xs : List (List ℕ)). Made xs outputs) (sym are)
      (subst (λ (ys : List (List ℕ)). Made (file ∷ board ∷ mix ∷ texts) ys) (sym outs)
      (made_of file board certificate out (mix ∷ texts) made_it.board (taken_of made_it.programme made_it.choice) made_it.accepts made_it.result.keeps))
  result_of (runs f b i o file board input output is are outs it) = absurd (other (run_command f b i o) is)
  result_of (profiles f b i file board input is are outs it) = absurd (other (profile_command f b i) is)
  result_of (compares f r b i file relinked board input is are outs it) = absurd (other (compare_command f r b i) is)
  result_of (checks f b i c file board input cert is are outs it) = absurd (other (check_command f b i c) is)
  result_of (pays f b i c file board input cert is are outs it) = absurd (other (paid_command f b i c) is)
  result_of (traces f b i c n o file board input cert output is are outs it) = absurd (other (trace_command f b i c n o) is)
  result_of (checks_mix f b m c file board mix cert texts is are outs unbroken it) = absurd (other (check_mix_command f b m c) is)
  result_of (shows f b file board is are outs it) = absurd (other (show_command f b) is)
  result_of (generates seed kernels o is are outs it) = absurd (other (gen_command seed kernels o) is)
  result_of (writes_hex f o file is are none outs it) = absurd (other (hex_command f o) is)
  result_of (agrees f h file hex is are none spells outs it) = absurd (other (hex_check_command f h) is)

-- ---- what the shelf tells

-- the file and the board are those that the shelf tells
inputs_are_told : (shelf : ShelfView) (command : PlainCommand) (f b o file board_text told told_board : List ℕ) (others : List (List ℕ)) → Relinks command f b o → HoldsInputs shelf command (file ∷ board_text ∷ others) → shelf.content f ≡ Some (Some told) → shelf.content b ≡ Some (Some told_board) → (file ≡ told) × (board_text ≡ told_board)
inputs_are_told shelf command f b o file board_text told told_board others (third, (cert, inl is)) holds at_file at_board =
    let here = subst (λ (c : PlainCommand). HoldsInputs shelf c (file ∷ board_text ∷ others)) is holds in
    (held_is (shelf.content f) told file at_file here.0, held_is (shelf.content b) told_board board_text at_board here.1.0)
inputs_are_told shelf command f b o file board_text told told_board others (third, (cert, inr is)) holds at_file at_board =
    let here = subst (λ (c : PlainCommand). HoldsInputs shelf c (file ∷ board_text ∷ others)) is holds in
    (held_is (shelf.content f) told file at_file here.0, held_is (shelf.content b) told_board board_text at_board here.1.0)

-- what was set under a name is what the shelf tells
pub told_by : (tells : Bool) (set told : List ℕ) (content : Option (Option (List ℕ))) → content ≡ (if tells then Some (Some set) else None) → content ≡ Some (Some told) → set ≡ told
told_by true set told content is at = cc
told_by false set told content is at = absurd (cc)

set_last : (a b : Named) (certificate out told : List ℕ) (old new : ShelfView) → SetsAll (a ∷ b ∷ []) (certificate ∷ out ∷ []) old new → new.content b.name ≡ Some (Some told) → out ≡ told
set_last a b certificate out told old new (mid, first, (last, second, same)) at =
    told_by mid.tells out told (last.content b.name) second.set (ap (λ (x : ShelfView). x.content b.name) (sym same) ∙ at)

out_is_told : (command : PlainCommand) (f b o certificate out told : List ℕ) (old new : ShelfView) → Relinks command f b o → SetsAll (writes command) (certificate ∷ out ∷ []) old new → new.content o ≡ Some (Some told) → out ≡ told
out_is_told command f b o certificate out told old new (third, (cert, inl is)) set at =
    set_last (named 5 cert) (named 4 o) certificate out told old new
    (subst (λ (c : PlainCommand). SetsAll (writes c) (certificate ∷ out ∷ []) old new) is set) at
out_is_told command f b o certificate out told old new (third, (cert, inr is)) set at =
    set_last (named 5 cert) (named 4 o) certificate out told old new
    (subst (λ (c : PlainCommand). SetsAll (writes c) (certificate ∷ out ∷ []) old new) is set) at

-- ---- the promise

relinked_by : KeptDoesWhatFileDoes → (inputs outputs : List (List ℕ)) (file board_text out : List ℕ) (made : Made inputs outputs) → AreBytes file → made.file ≡ file → made.board_text ≡ board_text → made.out ≡ out → IsRelinked file board_text out
relinked_by law inputs outputs file board_text out made bytes is_file is_text is_out =
    let same = law made.taken made.file made.out made.board
    (record {
      bytes = subst AreBytes (sym is_file) bytes;
      lawful = board_is_lawful made.is_board.table made.board made.is_board.keys;
      no_fault = made.no_fault;
      keeps = made.keeps;
    }) in
    subst (λ (x : List ℕ). IsRelinked x board_text out) is_file
    (subst (λ (x : List ℕ). IsRelinked made.file x out) is_text
    (subst (λ (x : List ℕ). IsRelinked made.file made.board_text x) is_out
    (record { board = made.board; is_board = made.is_board; same = same })))

kept : KeptDoesWhatFileDoes → (words : List (List ℕ)) (old new : ShelfView) (sink sink' : SinkView) → IsDone words old new sink sink' → (command : PlainCommand) (f b o file board_text out : List ℕ) → IsCommand words command → Relinks command f b o → old.content f ≡ Some (Some file) → AreBytes file → old.content b ≡ Some (Some board_text) → new.content o ≡ Some (Some out) → IsRelinked file board_text out
kept law words old new sink sink' done command f b o file board_text out is result at_file bytes at_board at_out =
    let produces = done.delivers.produces in
    let same : produces.command ≡ command = one_command words produces.command command produces.is_command is in
    let relinks_it : Relinks produces.command f b o = subst (λ (c : PlainCommand). Relinks c f b o) (sym same) result in
    let outputs = done.delivers.outputs in
    let inputs = produces.of_shelf.inputs in
    let made = result_of produces.command inputs outputs done.text (is_relinking produces.command f b o relinks_it) produces.of_shelf.yields in
    let holds : HoldsInputs old produces.command (made.file ∷ made.board_text ∷ made.others) =
    subst (HoldsInputs old produces.command) made.inputs_are produces.of_shelf.holds in
    let set : SetsAll (writes produces.command) (made.certificate ∷ made.out ∷ []) old new =
    subst (λ (xs : List (List ℕ)). SetsAll (writes produces.command) xs old new) made.outputs_are done.delivers.set in
    let told = inputs_are_told old produces.command f b o made.file made.board_text file board_text made.others relinks_it holds at_file at_board in
    let told_out = out_is_told produces.command f b o made.certificate made.out out old new relinks_it set at_out in
    relinked_by law inputs outputs file board_text out made bytes told.0 told.1 told_out

pub keeps_promise : KeptDoesWhatFileDoes → (words : List (List ℕ)) (old new : ShelfView) (sink sink' : SinkView) → IsDone words old new sink sink' → KeepsPromise words old new
keeps_promise law words old new sink sink' done = record { kept = kept law words old new sink sink' done }

-- ---- what `compare` shows

-- what goes on is told so
ended_by_text : (o : Outcome) (text : List ℕ) → text ≡ same_text o → (text ≡ codes "same\nrunning\n" → ⊥) → HasEnded o
ended_by_text GoesOn text is other = absurd (other (is ∙ refl))
ended_by_text (Exited code) text is other = tt
ended_by_text (Trapped pc) text is other = tt
ended_by_text (AddressFault pc why) text is other = tt

pub safe_on : ComparedRunsSafely → (file relinked board_text input text : List ℕ) → ComparesTo file relinked board_text input text → (text ≡ codes "same\nrunning\n" → ⊥) → IsAbsolute (view_in file) → IsSafeOn file board_text input
safe_on law file relinked board_text input text compared other absolute =
    record {
      board = compared.board;
      is_board = compared.accepts.is_board;
      graph = compared.compared.graph;
      is_graph = compared.compared.is_graph;
      safe = law file relinked board_text input text compared (ended_by_text compared.outcome text compared.text_is other) absolute;
    }
