-- Names that a text lists, which are read behind those of the words.
use Rattle.std.proofs.Common.{◌≡◌, inl, inr, ℕ, suc, List, [], ◌∷◌, ◌++◌, length, map, None, Vec, refl, sym, subst, ap, ◌∙◌, append-nil}
use Rattle.std.specs.Global.{Global}
use Rattle.std.proofs.lemmas.List.{length-map}
use Rattle.shelf_io.specs.Shelf.{ShelfView}
use Rattle.command_language.specs.Command.{PlainCommand, mix_command, check_mix_command, Named, named, reads}
use Rattle.command_language.specs.Lines.{plain_input, broken_at, mix_lines, TellsBroken}
use Rattle.command_language.specs.declared.parts.MixFault.{MixFault}
use Rattle.command_language.specs.declared.parts.MixFault.TheVariants as mix
use Rattle.command_language.specs.FaultLine.{mix_command_fault}
use Rattle.command_files.specs.Reading.{contents, HoldsAll, RejectsReads, one_fails, memory_wanting}
use Rattle.command_line.specs.Listing.{listed_name, names_where, listed_names, written_names, third, further_reads, HoldsInputs, RejectsNames, name_fails, names_want_memory, RejectsLines, bad_line, lines_want_memory}
use Rattle.command_line.specs.ListedTexts.{Lists}
use Rattle.command_line.specs.Meaning.{RejectsInputs}
use Rattle.command_line.specs.Performing.{IsPreparedFor, RejectsListedOf, list_fails, read_fails, list_wants_memory, list_is_broken, ReadsInputs, RejectsPreparing}
use Rattle.command_line.specs.declared.delivery.PreparedResult.{PreparedResult}
use Rattle.command_line.specs.declared.mix_inputs.ListedTexts.{ListedTexts}
use Rattle.command_language.specs.declared.faults.CommandFault.{CommandFault}
use Rattle.command_line.specs.InputTexts.{inputs_in, AreInputs}
use Rattle.command_line.specs.declared.input_texts.InputTexts.{InputTexts}
use Rattle.command_line.proofs.TextContents.{contents_of_none}

-- ---- names and texts in two parts

held_names : (shelf : ShelfView) (names more : List Named) (texts listed : List (List ℕ))
    → HoldsAll shelf names texts → HoldsAll shelf more listed → HoldsAll shelf (names ++ more) (texts ++ listed)
held_names shelf [] more [] listed h m = m
held_names shelf [] more (x ∷ texts) listed h m = absurd h
held_names shelf (n ∷ names) more [] listed h m = absurd h
held_names shelf (n ∷ names) more (x ∷ texts) listed h m = (h.0, held_names shelf names more texts listed h.1 m)

pub held_size : (shelf : ShelfView) (names : List Named) (texts : List (List ℕ)) → HoldsAll shelf names texts → length names ≡ length texts
held_size shelf [] [] h = refl
held_size shelf [] (x ∷ texts) h = absurd h
held_size shelf (n ∷ names) [] h = absurd h
held_size shelf (n ∷ names) (x ∷ texts) h = ap suc (held_size shelf names texts h.1)

third_kept : (shelf : ShelfView) (a b c : Named) (more : List Named) (texts listed : List (List ℕ))
    → HoldsAll shelf (a ∷ b ∷ c ∷ more) texts → third (texts ++ listed) ≡ third texts
third_kept shelf a b c more [] listed h = absurd h
third_kept shelf a b c more (x ∷ []) listed h = absurd h.1
third_kept shelf a b c more (x ∷ y ∷ []) listed h = absurd h.1.1
third_kept shelf a b c more (x ∷ y ∷ z ∷ texts) listed h = refl

-- what is listed is told by the texts of the words alone
further_kept : (shelf : ShelfView) (command : PlainCommand) (texts listed : List (List ℕ)) → HoldsAll shelf (reads command) texts
    → further_reads command (texts ++ listed) ≡ further_reads command texts
further_kept shelf (mix_command f b m o c) texts listed h =
    ap (listed_names (written_names (mix_command f b m o c))) (third_kept shelf (named 1 f) (named 2 b) (named 3 m) [] texts listed h)
further_kept shelf (check_mix_command f b m c) texts listed h =
    ap (listed_names []) (third_kept shelf (named 1 f) (named 2 b) (named 3 m) (named 4 c ∷ []) texts listed h)
further_kept shelf command texts listed h = refl

holds_inputs : (shelf : ShelfView) (command : PlainCommand) (texts listed : List (List ℕ)) → HoldsAll shelf (reads command) texts
    → HoldsAll shelf (further_reads command texts) listed → HoldsInputs shelf command (texts ++ listed)
holds_inputs shelf command texts listed h m =
    held_names shelf (reads command) (further_reads command (texts ++ listed)) texts listed h
    (subst (λ (names : List Named). HoldsAll shelf names listed) (sym (further_kept shelf command texts listed h)) m)

-- ---- a command whose texts list nothing

abbrev nothing_listed : (texts : List (List ℕ)) (listed : List (Vec ℕ Global)) → length listed ≡ 0 → texts ≡ texts ++ contents listed
nothing_listed texts listed none = sym (append-nil texts) ∙ ap (λ more. texts ++ more) (contents_of_none listed none)

pub unlisted : (command : PlainCommand) (texts : List (List ℕ)) (listed : List (Vec ℕ Global)) (prepared : PreparedResult)
    → length listed ≡ 0 → IsPreparedFor command texts prepared → IsPreparedFor command (texts ++ contents listed) prepared
unlisted command texts listed prepared none is =
    subst (λ (ts : List (List ℕ)). IsPreparedFor command ts prepared) (nothing_listed texts listed none) is

pub unlisted_fails : (command : PlainCommand) (texts : List (List ℕ)) (listed : List (Vec ℕ Global)) (fault : CommandFault)
    → length listed ≡ 0 → RejectsInputs command texts fault → RejectsInputs command (texts ++ contents listed) fault
unlisted_fails command texts listed fault none rejects =
    subst (λ (ts : List (List ℕ)). RejectsInputs command ts fault) (nothing_listed texts listed none) rejects

-- ---- from the texts of the words to all that is read

pub inputs_read : (command : PlainCommand) (texts listed : List (List ℕ)) (old mid new : ShelfView) → HoldsAll old (reads command) texts → mid ≡ old
    → HoldsAll mid (further_reads command texts) listed → new ≡ mid → ReadsInputs command texts listed old new
inputs_read command texts listed old mid new h same held kept =
    let m = subst (λ (s : ShelfView). HoldsAll s (further_reads command texts) listed) same held in
    record {
      texts_size = sym (held_size old (reads command) texts h);
      listed_size = sym (held_size old (further_reads command texts) listed m);
      holds = holds_inputs old command texts listed h m;
      same = kept ∙ same;
    }

pub words_rejected : (command : PlainCommand) (old new : ShelfView) (fault : CommandFault) → RejectsReads (reads command) old new fault
    → RejectsNames command old new fault
words_rejected command old new fault (one_fails n is_read e logged) = name_fails n (inl is_read) e logged
words_rejected command old new fault (memory_wanting e same) = names_want_memory e same

listed_rejected : (command : PlainCommand) (texts : List (List ℕ)) (old new : ShelfView) (fault : CommandFault) → HoldsAll old (reads command) texts
    → RejectsReads (further_reads command texts) old new fault → RejectsNames command old new fault
listed_rejected command texts old new fault h (one_fails n is_read e logged) =
    name_fails n (inr (record { texts = texts; holds = h; listed = is_read })) e logged
listed_rejected command texts old new fault h (memory_wanting e same) = names_want_memory e same

rejected_here : (command : PlainCommand) (texts : List (List ℕ)) (old new : ShelfView) (fault : CommandFault) → HoldsAll old (reads command) texts
    → RejectsListedOf command texts old new fault → RejectsPreparing command old new fault
rejected_here command texts old new fault h (list_fails (list_wants_memory e) same) = inl (names_want_memory e same)
rejected_here command texts old new fault h (list_fails (list_is_broken none rejects) same) =
    let nothing = subst (λ (names : List Named). HoldsAll old names []) (sym none) tt in
    inr (record {
      inputs = texts ++ [];
      holds = holds_inputs old command texts [] h nothing;
      same = same;
      rejects = subst (λ (ts : List (List ℕ)). RejectsInputs command ts fault) (sym (append-nil texts)) rejects;
    })
rejected_here command texts old new fault h (read_fails r) = inl (listed_rejected command texts old new fault h r)

pub inputs_rejected : (command : PlainCommand) (texts : List (List ℕ)) (old mid new : ShelfView) (fault : CommandFault)
    → HoldsAll old (reads command) texts → mid ≡ old → RejectsListedOf command texts mid new fault → RejectsPreparing command old new fault
inputs_rejected command texts old mid new fault h same r =
    rejected_here command texts old new fault h (subst (λ (s : ShelfView). RejectsListedOf command texts s new fault) same r)

-- ---- a text that lists names

pub listed_now : (written : List (List ℕ)) (text : List ℕ) → broken_at written text ≡ None → listed_names written text ≡ map listed_name (mix_lines text)
listed_now written text none = ap (λ first. names_where first (mix_lines text)) none

pub lines_rejected : (written : List (List ℕ)) (text : List ℕ) (fault : MixFault) → TellsBroken (broken_at written text) fault
    → RejectsLines written text (mix_command_fault fault)
lines_rejected written text (mix.BadMix at) told = bad_line at told refl
lines_rejected written text mix.Memory told = lines_want_memory refl

pub lists_of : (written : List (List ℕ)) (text : List ℕ) (listed : ListedTexts) → broken_at written text ≡ None
    → map plain_input listed.lines.items ≡ mix_lines text → length listed.texts.now ≡ length (listed_names written text) → Lists written text listed
lists_of written text listed none lines size =
    record {
      unbroken = none;
      lines_are = lines;
      one_each =
          size ∙ ap (λ names. length names) (listed_now written text none) ∙ length-map (mix_lines text) listed_name
          ∙ sym (ap (λ ls. length ls) lines) ∙ length-map listed.lines.items plain_input;
    }

-- ---- what was read, as it stands behind the reads

pub inputs_stand : (command : PlainCommand) (inputs : InputTexts) (texts listed : List (Vec ℕ Global)) (old mid : ShelfView)
    → inputs.texts.now ≡ texts → inputs.listed.now ≡ listed → ReadsInputs command (contents texts) (contents listed) old mid
    → AreInputs command inputs mid
inputs_stand command inputs texts listed old mid same_texts same_listed is =
    let texts_are = sym same_texts in
    let listed_are = sym same_listed in
    record {
      texts_size = ap (λ ts. length ts) same_texts ∙ sym (length-map texts (λ t. t.items)) ∙ is.texts_size;
      listed_size =
          ap (λ ts. length ts) same_listed ∙ sym (length-map listed (λ t. t.items)) ∙ is.listed_size
          ∙ ap (λ ts. length (further_reads command (contents ts))) (sym same_texts);
      holds = subst (λ (s : ShelfView). HoldsInputs s command (inputs_in inputs)) (sym is.same)
          (subst (HoldsInputs old command) (λ i. contents (texts_are i) ++ contents (listed_are i)) is.holds);
    }
