-- The results of the commands on a mix, put together.
use Rattle.std.proofs.Common.{◌≡◌, inl, inr, ℕ, List, [], ◌∷◌, ◌++◌, ◌≤◌, length, map, get_or, None, Vec, refl, sym, subst, ap, ◌∙◌, append-nil, arith}
use Rattle.std.proofs.lemmas.List.{length-map}
use Rattle.std.specs.Global.{Global}
use Rattle.command_language.specs.Command.{PlainCommand, mix_command, check_mix_command}
use Rattle.command_language.specs.Lines.{plain_input, broken_at, mix_lines}
use Rattle.relinking.specs.MixOfRuns.{WeightedInput, AreSomeInputs}
use Rattle.command_files.specs.Reading.{contents}
use Rattle.command_line.specs.Listing.{names_where, listed_names, third, further_reads, RejectsLines, bad_line, lines_want_memory}
use Rattle.command_line.specs.ListedTexts.{Lists}
use Rattle.command_line.specs.MixFile.{inputs_of, of_list, of_runs, of_checked_list, of_checked_runs, RejectsRuns, RejectsCheckedRuns}
use Rattle.command_line.specs.Meaning.{RejectsInputs, mix_first, check_mix_first}
use Rattle.command_line.specs.Performing.{RejectsList, list_wants_memory, list_is_broken}
use Rattle.command_line.specs.declared.mix_inputs.ListedTexts.{ListedTexts}
use Rattle.command_language.specs.declared.faults.CommandFault.{CommandFault}
use Rattle.command_line.proofs.MixedRuns.{some_inputs}

-- ---- the texts of the words

pub third_text : (texts : List (Vec ℕ Global)) (c : Vec ℕ Global) (z : List ℕ) → 3 ≤ length texts → c ≡ get_or texts 2 c → z ≡ c.items → third (contents texts) ≡ z
third_text [] c z few is same = absurd (omega (arith, few))
third_text (p ∷ []) c z few is same = absurd (omega (arith, few))
third_text (p ∷ q ∷ []) c z few is same = absurd (omega (arith, few))
third_text (p ∷ q ∷ r ∷ texts) c z few is same = cc

-- by the element itself
pub third_of : (texts : List (Vec ℕ Global)) (c : Vec ℕ Global) (z : List ℕ) → 3 ≤ length texts → c ≡ get_or texts 2 c → z ≡ (get_or texts 2 c).items
    → third (contents texts) ≡ z
third_of texts c z few is same = third_text texts c z few is (same ∙ ap (λ (t : Vec ℕ Global). t.items) (sym is))

pub three_with_third : (texts : List (Vec ℕ Global)) (a b : Vec ℕ Global) (x y : List ℕ) → length texts ≡ 3
    → a ≡ get_or texts 0 a → b ≡ get_or texts 1 b → x ≡ a.items → y ≡ b.items → x ∷ y ∷ third (contents texts) ∷ [] ≡ contents texts
three_with_third [] a b x y e is_a is_b same_x same_y = absurd (omega (arith, e))
three_with_third (p ∷ []) a b x y e is_a is_b same_x same_y = absurd (omega (arith, e))
three_with_third (p ∷ q ∷ []) a b x y e is_a is_b same_x same_y = absurd (omega (arith, e))
three_with_third (p ∷ q ∷ r ∷ []) a b x y e is_a is_b same_x same_y = cc
three_with_third (p ∷ q ∷ r ∷ s ∷ texts) a b x y e is_a is_b same_x same_y = absurd (omega (arith, e))

pub four_with_third : (texts : List (Vec ℕ Global)) (a b d : Vec ℕ Global) (x y w : List ℕ) → length texts ≡ 4
    → a ≡ get_or texts 0 a → b ≡ get_or texts 1 b → d ≡ get_or texts 3 d → x ≡ a.items → y ≡ b.items → w ≡ d.items
    → x ∷ y ∷ third (contents texts) ∷ w ∷ [] ≡ contents texts
four_with_third [] a b d x y w e is_a is_b is_d same_x same_y same_w = absurd (omega (arith, e))
four_with_third (p ∷ []) a b d x y w e is_a is_b is_d same_x same_y same_w = absurd (omega (arith, e))
four_with_third (p ∷ q ∷ []) a b d x y w e is_a is_b is_d same_x same_y same_w = absurd (omega (arith, e))
four_with_third (p ∷ q ∷ r ∷ []) a b d x y w e is_a is_b is_d same_x same_y same_w = absurd (omega (arith, e))
four_with_third (p ∷ q ∷ r ∷ s ∷ []) a b d x y w e is_a is_b is_d same_x same_y same_w = cc
four_with_third (p ∷ q ∷ r ∷ s ∷ t ∷ texts) a b d x y w e is_a is_b is_d same_x same_y same_w = absurd (omega (arith, e))

-- ---- the inputs

-- the texts with the weights of their lines are the inputs that a text lists
pub inputs_listed : (written : List (List ℕ)) (mix : List ℕ) (listed : ListedTexts) (inputs : List WeightedInput) → Lists written mix listed
    → inputs ≡ inputs_of (map plain_input listed.lines.items) (contents listed.texts.now)
    → inputs ≡ inputs_of (mix_lines mix) (contents listed.texts.now)
inputs_listed written mix listed inputs is are = are ∙ ap (λ lines. inputs_of lines (contents listed.texts.now)) is.lines_are

texts_size : (written : List (List ℕ)) (mix : List ℕ) (listed : ListedTexts) → Lists written mix listed
    → length (contents listed.texts.now) ≡ length (mix_lines mix)
texts_size written mix listed is =
    length-map listed.texts.now (λ text. text.items) ∙ is.one_each ∙ sym (length-map listed.lines.items plain_input)
    ∙ ap (λ lines. length lines) is.lines_are

pub some_listed : (written : List (List ℕ)) (mix : List ℕ) (listed : ListedTexts) (inputs : List WeightedInput) → Lists written mix listed
    → inputs ≡ inputs_of (map plain_input listed.lines.items) (contents listed.texts.now) → AreSomeInputs inputs
some_listed written mix listed inputs is are =
    subst AreSomeInputs (sym (inputs_listed written mix listed inputs is are))
    (some_inputs written mix (contents listed.texts.now) is.unbroken (texts_size written mix listed is))

-- ---- what rejects a command

-- a line that breaks a rule
pub mix_broken : (f b m o c : List ℕ) (texts more : List (List ℕ)) (fault : CommandFault) → length texts ≡ 3
    → RejectsLines (c ∷ o ∷ []) (third texts) fault → RejectsInputs (mix_command f b m o c) (texts ++ more) fault
mix_broken f b m o c [] more fault size r = absurd (omega (arith, size))
mix_broken f b m o c (x ∷ []) more fault size r = absurd (omega (arith, size))
mix_broken f b m o c (x ∷ y ∷ []) more fault size r = absurd (omega (arith, size))
mix_broken f b m o c (x ∷ y ∷ z ∷ u ∷ texts) more fault size r = absurd (omega (arith, size))
mix_broken f b m o c (file ∷ board ∷ mix ∷ []) more fault size (bad_line at broken e) =
    subst (λ (r : CommandFault). RejectsInputs (mix_command f b m o c) (file ∷ board ∷ mix ∷ more) r) (sym e)
    (inr (mix_first f b m o c file board mix more refl refl (of_list at broken refl)))
mix_broken f b m o c (file ∷ board ∷ mix ∷ []) more fault size (lines_want_memory e) = inl e

pub check_mix_broken : (f b m c : List ℕ) (texts more : List (List ℕ)) (fault : CommandFault) → length texts ≡ 4
    → RejectsLines [] (third texts) fault → RejectsInputs (check_mix_command f b m c) (texts ++ more) fault
check_mix_broken f b m c [] more fault size r = absurd (omega (arith, size))
check_mix_broken f b m c (x ∷ []) more fault size r = absurd (omega (arith, size))
check_mix_broken f b m c (x ∷ y ∷ []) more fault size r = absurd (omega (arith, size))
check_mix_broken f b m c (x ∷ y ∷ z ∷ []) more fault size r = absurd (omega (arith, size))
check_mix_broken f b m c (x ∷ y ∷ z ∷ u ∷ v ∷ texts) more fault size r = absurd (omega (arith, size))
check_mix_broken f b m c (file ∷ board ∷ mix ∷ cert ∷ []) more fault size (bad_line at broken e) =
    subst (λ (r : CommandFault). RejectsInputs (check_mix_command f b m c) (file ∷ board ∷ mix ∷ cert ∷ more) r) (sym e)
    (inr (check_mix_first f b m c file board mix cert more refl refl (of_checked_list at broken refl)))
check_mix_broken f b m c (file ∷ board ∷ mix ∷ cert ∷ []) more fault size (lines_want_memory e) = inl e

-- where a line breaks a rule, no name is listed
list_rejected : (command : PlainCommand) (written texts : List (List ℕ)) (fault : CommandFault)
    → further_reads command texts ≡ listed_names written (third texts) → RejectsLines written (third texts) fault
    → RejectsInputs command (texts ++ []) fault → RejectsList command texts fault
list_rejected command written texts fault are (bad_line at broken e) rejects =
    list_is_broken (are ∙ ap (λ first. names_where first (mix_lines (third texts))) broken)
    (subst (λ (ts : List (List ℕ)). RejectsInputs command ts fault) (append-nil texts) rejects)
list_rejected command written texts fault are (lines_want_memory e) rejects = list_wants_memory e

pub mix_list_rejected : (f b m o c : List ℕ) (texts : List (List ℕ)) (fault : CommandFault) → length texts ≡ 3
    → RejectsLines (c ∷ o ∷ []) (third texts) fault → RejectsList (mix_command f b m o c) texts fault
mix_list_rejected f b m o c texts fault size r =
    list_rejected (mix_command f b m o c) (c ∷ o ∷ []) texts fault refl r (mix_broken f b m o c texts [] fault size r)

pub check_mix_list_rejected : (f b m c : List ℕ) (texts : List (List ℕ)) (fault : CommandFault) → length texts ≡ 4
    → RejectsLines [] (third texts) fault → RejectsList (check_mix_command f b m c) texts fault
check_mix_list_rejected f b m c texts fault size r =
    list_rejected (check_mix_command f b m c) [] texts fault refl r (check_mix_broken f b m c texts [] fault size r)

-- or the runs
pub mix_rejected : (f b m o c file board mix : List ℕ) (texts : List (List ℕ)) (fault : CommandFault) → broken_at (c ∷ o ∷ []) mix ≡ None
    → RejectsRuns board file (inputs_of (mix_lines mix) texts) fault → RejectsInputs (mix_command f b m o c) (file ∷ board ∷ mix ∷ texts) fault
mix_rejected f b m o c file board mix texts fault unbroken (inl memory) = inl memory
mix_rejected f b m o c file board mix texts fault unbroken (inr told) =
    inr (mix_first f b m o c file board mix texts refl refl (of_runs unbroken told))

pub check_mix_rejected : (f b m c file board mix cert : List ℕ) (texts : List (List ℕ)) (fault : CommandFault) → broken_at [] mix ≡ None
    → RejectsCheckedRuns board file (inputs_of (mix_lines mix) texts) cert fault
    → RejectsInputs (check_mix_command f b m c) (file ∷ board ∷ mix ∷ cert ∷ texts) fault
check_mix_rejected f b m c file board mix cert texts fault unbroken (inl memory) = inl memory
check_mix_rejected f b m c file board mix cert texts fault unbroken (inr told) =
    inr (check_mix_first f b m c file board mix cert texts refl refl (of_checked_runs unbroken told))
