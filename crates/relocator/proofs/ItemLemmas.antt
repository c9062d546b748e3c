-- The items of variables.
use Rattle.std.proofs.Common.{◌≡◌, ◌∙◌, ℕ, ◌+◌, ◌<◌, List, ◌∷◌, [], ◌++◌, map, take, length, get_or, sym, ap, subst}
use Rattle.std.proofs.lemmas.List.{get_or-map, map-append, take_more}
use Rattle.placement_programme.specs.declared.variables.VarName.{VarName}
use Rattle.placement_programme.specs.declared.variables.Var.{Var}
use Rattle.placement_programme.specs.Plain.{PlainVar, plain_var}
use Rattle.placement_programme.specs.Programme.{weights_at, weight_in}
use Rattle.placement_programme.proofs.WeightLemmas.{at_place, all_mapped}
use Rattle.relocator.specs.declared.items.Item.{Item}
use Rattle.relocator.specs.Slots.{region_of, no_var, name_at, item_at, items_in}
use Rattle.relocator.specs.Laying.{HaveRegions}

pub item_is : (vars : List Var) (k : ℕ) (var : Var) (item : Item) → k < length vars → var ≡ get_or vars k var → item.name ≡ var.name → item.span ≡ weight_in var.weights.items (region_of var.name) → item ≡ item_at (map plain_var vars) k
item_is vars k var item below is name span =
    let plain : List PlainVar = map plain_var vars in
    let here : get_or plain k no_var ≡ plain_var var = get_or-map plain_var vars k var no_var below ∙ ap plain_var (sym is) in
    let own : var.name ≡ name_at plain k = sym (ap (λ (v : PlainVar). v.name) here) in
    let weights = at_place vars k var below is in
    let name_is : item.name ≡ name_at plain k = name ∙ own in
    let span_is : item.span ≡ (item_at plain k).span =
    span
    ∙ sym (ap (λ (ws : List (ℕ × ℕ)). weight_in ws (region_of var.name)) weights)
    ∙ ap (λ (n : VarName). weight_in (weights_at plain k) (region_of n)) own in
    λ i. record { name = name_is i; span = span_is i }

-- one item more
pub item_more : (vars : List PlainVar) (numbers : List ℕ) (items more : List Item) (item : Item) (i d : ℕ) → i < length numbers → more ≡ items ++ item ∷ [] → items ≡ items_in vars (take i numbers) → item ≡ item_at vars (get_or numbers i d) → more ≡ items_in vars (take (i + 1) numbers)
item_more vars numbers items more item i d below grown so_far is =
    grown
    ∙ ap (λ (xs : List Item). xs ++ item ∷ []) so_far
    ∙ ap (λ (x : Item). items_in vars (take i numbers) ++ x ∷ []) is
    ∙ sym (map-append (item_at vars) (take i numbers) (get_or numbers i d ∷ []))
    ∙ ap (λ (ns : List ℕ). items_in vars ns) (sym (take_more numbers i d below))

-- the region of a variable is a word where those of all are
pub region_small : (vars : List Var) (k : ℕ) (var : Var) → k < length vars → var ≡ get_or vars k var → HaveRegions (map plain_var vars) → region_of var.name < 4294967296
region_small vars k var below is small =
    subst (λ (v : Var). region_of v.name < 4294967296) (sym is) (all_mapped (λ (v : PlainVar). region_of v.name < 4294967296) plain_var vars small k var below)
