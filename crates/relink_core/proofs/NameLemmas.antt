-- The names of what a choice takes.
use Rattle.std.proofs.Common.{◌≡◌, ◌∙◌, ℕ, ◌+◌, ◌<◌, ◌≤◌, List, [], ◌∷◌, ◌++◌, map, take, length, get_or, Option, sym, ap, refl}
use Rattle.std.specs.List.{filter_map, sum_by}
use Rattle.std.proofs.lemmas.List.{take_more}
use Rattle.std.proofs.lemmas.List.Elements.{filter_map-append}
use Rattle.board_config.specs.declared.board.Board.{Board}
use Rattle.placement_programme.specs.declared.variables.VarName.{VarName}
use Rattle.placement_programme.specs.Plain.{PlainVar, PlainProgramme, PlainChoice}
use Rattle.placement_programme.specs.Programme.{side_for}
use Rattle.relocator.specs.Slots.{name_at, items_in, vars_for, items_of, first_slots}
use Rattle.relink_core.specs.Names.{names_taken}
use Rattle.relink_core.specs.Chosen.{names_of}
use Rattle.relink_core.specs.ResultParts.{counts_static}
use Rattle.relink_core.proofs.ChosenMade.{names_of_items}

-- one name more
pub some_more : {X : Type 0} (f : VarName → Option X) (names : List VarName) (old new : List X) (i : ℕ) (d : VarName) → i < length names → old ≡ filter_map f (take i names) → new ≡ old ++ filter_map f (get_or names i d ∷ []) → new ≡ filter_map f (take (i + 1) names)
some_more {X} f names old new i d below so_far grown =
    grown
    ∙ ap (λ (xs : List X). xs ++ filter_map f (get_or names i d ∷ [])) so_far
    ∙ sym (filter_map-append f (take i names) (get_or names i d ∷ []))
    ∙ ap (filter_map f) (sym (take_more names i d below))

item_names : (vars : List PlainVar) (ks : List ℕ) → map (λ i. i.name) (items_in vars ks) ≡ names_taken vars ks
item_names vars [] = refl
item_names vars (k ∷ ks) = let rest = item_names vars ks in λ i. name_at vars k ∷ rest i

pub names_are : (board : Board) (p : PlainProgramme) (choice : PlainChoice) → names_of board p choice ≡ names_taken (vars_for (side_for p choice.on)) choice.take
names_are board p choice =
    names_of_items (first_slots board.spm.base (items_of p choice)) (items_of p choice)
    ∙ item_names (vars_for (side_for p choice.on)) choice.take

-- how many of the first names stand in the scratchpad throughout: at most all
pub record CountsStatic (names : List VarName) (k count : ℕ) : Type 0 where
  pub is : count ≡ sum_by counts_static (take k names)
  pub most : count ≤ k
