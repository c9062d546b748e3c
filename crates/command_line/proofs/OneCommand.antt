-- Words spell one command, and a shelf tells one text for each name.
use Rattle.std.proofs.Common.{◌≡◌, ℕ, List, [], ◌∷◌, codes, Option, Some, None, IfSome, if◌then◌else◌, bytes_eq, refl, sym, subst, ◌∙◌, ◌++◌}
use Rattle.shelf_io.specs.Shelf.{ShelfView}
use Rattle.command_language.specs.Command.{PlainCommand, run_command, relink_command, profile_command, compare_command, check_command, mix_command, check_mix_command, gen_command, hex_command, hex_check_command, Spells, IsCommand, Named, named, reads, value_of, show_command, paid_command, trace_command}
use Rattle.command_files.specs.Reading.{HoldsAll}
use Rattle.command_line.specs.Listing.{listed_names, written_names, third, further_reads, HoldsInputs}
use Rattle.command_line.specs.Answers.{ReportsAll, ReportsInputs}

abbrev run_words : List (List ℕ) → Option PlainCommand
run_words (file ∷ board ∷ input ∷ out ∷ []) = Some (run_command file board input out)
run_words words = None

abbrev relink_words : List (List ℕ) → Option PlainCommand
relink_words (file ∷ board ∷ input ∷ out ∷ cert ∷ []) = Some (relink_command file board input out cert)
relink_words words = None

abbrev profile_words : List (List ℕ) → Option PlainCommand
profile_words (file ∷ board ∷ input ∷ []) = Some (profile_command file board input)
profile_words words = None

abbrev compare_words : List (List ℕ) → Option PlainCommand
compare_words (file ∷ relinked ∷ board ∷ input ∷ []) = Some (compare_command file relinked board input)
compare_words words = None

abbrev check_words : List (List ℕ) → Option PlainCommand
check_words (file ∷ board ∷ input ∷ cert ∷ []) = Some (check_command file board input cert)
check_words words = None

abbrev paid_words : List (List ℕ) → Option PlainCommand
paid_words (file ∷ board ∷ input ∷ cert ∷ []) = Some (paid_command file board input cert)
paid_words words = None

abbrev trace_words : List (List ℕ) → Option PlainCommand
trace_words (file ∷ board ∷ input ∷ cert ∷ count ∷ out ∷ []) = Some (trace_command file board input cert (value_of count) out)
trace_words words = None

abbrev mix_words : List (List ℕ) → Option PlainCommand
mix_words (file ∷ board ∷ mix ∷ out ∷ cert ∷ []) = Some (mix_command file board mix out cert)
mix_words words = None

abbrev check_mix_words : List (List ℕ) → Option PlainCommand
check_mix_words (file ∷ board ∷ mix ∷ cert ∷ []) = Some (check_mix_command file board mix cert)
check_mix_words words = None

abbrev show_words : List (List ℕ) → Option PlainCommand
show_words (file ∷ board ∷ []) = Some (show_command file board)
show_words words = None

abbrev gen_words : List (List ℕ) → Option PlainCommand
gen_words (seed ∷ kernels ∷ out ∷ []) = Some (gen_command (value_of seed) (value_of kernels) out)
gen_words words = None

abbrev hex_words : List (List ℕ) → Option PlainCommand
hex_words (file ∷ out ∷ []) = Some (hex_command file out)
hex_words words = None

abbrev hex_check_words : List (List ℕ) → Option PlainCommand
hex_check_words (file ∷ hex ∷ []) = Some (hex_check_command file hex)
hex_check_words words = None

-- the command that words spell, if they spell one
abbrev command_in : List (List ℕ) → Option PlainCommand
command_in [] = None
command_in (name ∷ words) =
    if bytes_eq name (codes "run") then run_words words
    else if bytes_eq name (codes "relink") then relink_words words
    else if bytes_eq name (codes "profile") then profile_words words
    else if bytes_eq name (codes "compare") then compare_words words
    else if bytes_eq name (codes "check") then check_words words
    else if bytes_eq name (codes "paid") then paid_words words
    else if bytes_eq name (codes "trace") then trace_words words
    else if bytes_eq name (codes "mix") then mix_words words
    else if bytes_eq name (codes "checkmix") then check_mix_words words
    else if bytes_eq name (codes "show") then show_words words
    else if bytes_eq name (codes "gen") then gen_words words
    else if bytes_eq name (codes "hex") then hex_words words
    else if bytes_eq name (codes "hexcheck") then hex_check_words words
    else None

spelled_is : (words : List (List ℕ)) (command : PlainCommand) → Spells words command → command_in words ≡ Some command
spelled_is words (run_command file board input out) e = rw e refl
spelled_is words (relink_command file board input out cert) e = rw e refl
spelled_is words (profile_command file board input) e = rw e refl
spelled_is words (compare_command file relinked board input) e = rw e refl
spelled_is words (check_command file board input cert) e = rw e refl
spelled_is words (paid_command file board input cert) e = rw e refl
spelled_is words (trace_command file board input cert count out) s = rw (s.spelled, s.is_count.value) refl
spelled_is words (mix_command file board mix out cert) e = rw e refl
spelled_is words (check_mix_command file board mix cert) e = rw e refl
spelled_is words (show_command file board) e = rw e refl
spelled_is words (gen_command seed kernels out) s = rw (s.spelled, s.is_seed.value, s.is_kernels.value) refl
spelled_is words (hex_command file out) e = rw e refl
spelled_is words (hex_check_command file hex) e = rw e refl

pub one_command : (words : List (List ℕ)) (one other : PlainCommand) → IsCommand words one → IsCommand words other → one ≡ other
one_command words one other is is' =
    let same = sym (spelled_is words one is.spelled) ∙ spelled_is words other is'.spelled in cc

-- what a shelf holds under a name is what it tells
pub held_is : (known : Option (Option (List ℕ))) (told given : List ℕ)
    → known ≡ Some (Some told) → IfSome known (λ held. held ≡ Some given) → given ≡ told
held_is None told given e h = absurd (cc)
held_is (Some held) told given e h = cc

-- what was read is what the shelf tells
pub one_reading : (shelf : ShelfView) (names : List Named) (read told : List (List ℕ))
    → HoldsAll shelf names read → ReportsAll shelf names told → read ≡ told
one_reading shelf [] [] [] h t = refl
one_reading shelf [] [] (y ∷ told) h t = absurd t
one_reading shelf [] (x ∷ read) told h t = absurd h
one_reading shelf (n ∷ names) [] told h t = absurd h
one_reading shelf (n ∷ names) (x ∷ read) [] h t = absurd t
one_reading shelf (n ∷ names) (x ∷ read) (y ∷ told) h t =
    let first = held_is (shelf.content n.name) y x t.0 h.0 in
    let others = one_reading shelf names read told h.1 t.1 in
    rw (first, others) refl

third_read : (shelf : ShelfView) (a b c : Named) (more more' : List Named) (read told : List (List ℕ))
    → HoldsAll shelf (a ∷ b ∷ c ∷ more) read → ReportsAll shelf (a ∷ b ∷ c ∷ more') told → third read ≡ third told
third_read shelf a b c more more' [] told h t = absurd h
third_read shelf a b c more more' (x ∷ []) told h t = absurd h.1
third_read shelf a b c more more' (x ∷ y ∷ []) told h t = absurd h.1.1
third_read shelf a b c more more' (x ∷ y ∷ z ∷ read) [] h t = absurd t
third_read shelf a b c more more' (x ∷ y ∷ z ∷ read) (u ∷ []) h t = absurd t.1
third_read shelf a b c more more' (x ∷ y ∷ z ∷ read) (u ∷ v ∷ []) h t = absurd t.1.1
third_read shelf a b c more more' (x ∷ y ∷ z ∷ read) (u ∷ v ∷ w ∷ told) h t = held_is (shelf.content c.name) w z t.1.1.0 h.1.1.0

-- the names that the texts list
listed_reading : (shelf : ShelfView) (a b c : Named) (more : List Named) (written : List (List ℕ)) (read told : List (List ℕ))
    → HoldsAll shelf (a ∷ b ∷ c ∷ more ++ listed_names written (third read)) read
    → ReportsAll shelf (a ∷ b ∷ c ∷ more ++ listed_names written (third told)) told → read ≡ told
listed_reading shelf a b c more written read told h t =
    let same = third_read shelf a b c (more ++ listed_names written (third read)) (more ++ listed_names written (third told)) read told h t in
    one_reading shelf (a ∷ b ∷ c ∷ more ++ listed_names written (third read)) read told h
    (subst (λ (text : List ℕ). ReportsAll shelf (a ∷ b ∷ c ∷ more ++ listed_names written text) told) (sym same) t)

-- all that was read is what the shelf tells
pub one_inputs : (shelf : ShelfView) (command : PlainCommand) (read told : List (List ℕ))
    → HoldsInputs shelf command read → ReportsInputs shelf command told → read ≡ told
one_inputs shelf (mix_command f b m o c) read told h t =
    listed_reading shelf (named 1 f) (named 2 b) (named 3 m) [] (written_names (mix_command f b m o c)) read told h t
one_inputs shelf (check_mix_command f b m c) read told h t =
    listed_reading shelf (named 1 f) (named 2 b) (named 3 m) (named 4 c ∷ []) [] read told h t
one_inputs shelf command read told h t = one_reading shelf (reads command ++ further_reads command read) read told h t
