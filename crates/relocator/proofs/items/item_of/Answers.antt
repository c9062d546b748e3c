use Rattle.std.proofs.Common.{◌∙◌, ℕ, List, refl, sym, ap}
use Rattle.placement_programme.specs.Programme.{weight_in}
use Rattle.placement_programme.proofs.WeightLemmas.{at_place, var_weights}
use Rattle.relocator.proofs.ItemLemmas.{item_is, region_small}
use Rattle.relocator.proofs.items.item_of.Goals as goal

pub region_of-requires : goal.region_of-requires
region_of-requires c = region_small c.args.vars.now c.args.number c.index-vars-number.result c.requires.below c.index-vars-number.is c.requires.regions

pub weight_of-requires : goal.weight_of-requires
weight_of-requires c =
    let same = at_place c.args.vars.now c.args.number c.index-vars-number.result c.requires.below c.index-vars-number.is in
    let whole = c.deref.ensures.value ∙ sym same in
    (c.requires.weights.0, rw whole (var_weights c.requires.weights.0 c.args.vars.now c.args.number c.requires.weights.1 c.requires.below))

pub returns : goal.returns
returns c =
    let var = c.index-vars-number.result in
    item_is c.args.vars.now c.args.number var (record { name = var.name; span = c.weight_of.result }) c.requires.below c.index-vars-number.is refl
    (c.weight_of.ensures.value
    ∙ ap (λ (ws : List (ℕ × ℕ)). weight_in ws c.region_of.result) c.deref.ensures.value
    ∙ ap (λ (r : ℕ). weight_in var.weights.items r) c.region_of.ensures)
