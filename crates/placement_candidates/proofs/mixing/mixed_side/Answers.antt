use Rattle.std.proofs.Common.{◌≡◌, ◌∙◌, length, map, sym, ap, subst}
use Rattle.std.proofs.lemmas.List.{length-map}
use Rattle.placement_programme.specs.Plain.{PlainFullSide}
use Rattle.placement_candidates.specs.FullVars.{plain_full_var}
use Rattle.placement_programme.specs.Bounds.{IsWithinFullBounds}
use Rattle.placement_candidates.specs.FullViews.{plain_full_side}
use Rattle.placement_candidates.specs.Parts.{plain_part, IsMixedSide}
use Rattle.placement_candidates.specs.Mixing.{sides_of, mixed_vars}
use Rattle.placement_candidates.proofs.MixLemmas.{side_within, side_is}
use Rattle.placement_candidates.proofs.mixing.mixed_side.Goals as goal

pub side_of-requires : goal.side_of-requires
side_of-requires c =
    let parts = map plain_part c.args.parts.now in
    let like = plain_full_side c.args.like.now in
    let rows = c.in_ok-rows.ensures in
    let vars = c.in_ok-vars.ensures ∙ ap (mixed_vars (sides_of c.args.on parts) like.vars) (sym (length-map c.args.like.now.vars.items plain_full_var)) in
    let same : ◌≡◌ {A = PlainFullSide} (record { fixed = c.mixed_fixed.result; rows = c.in_ok-rows.rows.items; vars = map plain_full_var c.in_ok-vars.vars.items }) (record { fixed = c.mixed_fixed.result; rows = like.rows; vars = mixed_vars (sides_of c.args.on parts) like.vars (length like.vars) }) =
    λ i. record { fixed = c.mixed_fixed.result; rows = rows i; vars = vars i } in
    subst IsWithinFullBounds (sym same) (side_within c.args.on parts like c.requires c.mixed_fixed.result c.mixed_fixed.ensures.small c.args.like.now.bounds)

pub returns : goal.returns
returns c =
    let parts = map plain_part c.args.parts.now in
    let like = plain_full_side c.args.like.now in
    let rows = c.in_ok-rows.ensures in
    let vars = c.in_ok-vars.ensures ∙ ap (mixed_vars (sides_of c.args.on parts) like.vars) (sym (length-map c.args.like.now.vars.items plain_full_var)) in
    let same : ◌≡◌ {A = PlainFullSide} (record { fixed = c.mixed_fixed.result; rows = c.in_ok-rows.rows.items; vars = map plain_full_var c.in_ok-vars.vars.items }) (record { fixed = c.mixed_fixed.result; rows = like.rows; vars = mixed_vars (sides_of c.args.on parts) like.vars (length like.vars) }) =
    λ i. record { fixed = c.mixed_fixed.result; rows = rows i; vars = vars i } in
    subst (IsMixedSide (sides_of c.args.on parts)) (sym (c.side_of.ensures ∙ same)) (side_is c.args.on parts like c.requires c.mixed_fixed.result c.mixed_fixed.ensures.sum)
