use Rattle.std.proofs.Common.{◌∙◌, ℕ, List, sym, subst, arith}
use Rattle.placement_programme.specs.Plain.{PlainFullVar}
use Rattle.placement_programme.specs.Bounds.{IsWithinFullBounds}
use Rattle.placement_candidates.specs.OverlayCounted.{on_vars}
use Rattle.placement_candidates.proofs.whole_side.side_with.Goals as goal

pub patch_left-requires : goal.patch_left-requires
patch_left-requires c = c.requires.can.weigh

pub capacities-requires-clause-weigh : goal.capacities-requires-clause-weigh
capacities-requires-clause-weigh c = c.requires.can.weigh

pub on_fixed-requires : goal.on_fixed-requires
on_fixed-requires c = c.requires.can.gain

pub side_of-requires : goal.side_of-requires
side_of-requires c =
    let rows = c.in_ok-rows.rows.items in
    let stated = c.requires.can.side in
    let by_rows = subst (λ (r : List ℕ). IsWithinFullBounds (record { fixed = 0; rows = r; vars = on_vars c.args.m.now c.args.objects.now })) (sym c.in_ok-rows.ensures) stated in
    let within = subst (λ (vs : List PlainFullVar). IsWithinFullBounds (record { fixed = 0; rows = rows; vars = vs })) (sym c.requires.vars) by_rows in
    record {
      fixed = omega (arith, c.on_fixed.ensures.small);
      gains = within.gains;
      few_rows = within.few_rows;
      capacities = within.capacities;
      weights = within.weights;
    }

pub returns-clause-is : goal.returns-clause-is
returns-clause-is c =
    c.side_of.ensures
    ∙ (λ z. record { fixed = c.on_fixed.ensures.sum z; rows = c.in_ok-rows.ensures z; vars = c.requires.vars z })

pub returns-clause-small : goal.returns-clause-small
returns-clause-small c =
    rw c.side_of.ensures (record { fixed = c.on_fixed.ensures.small; gains = rw c.requires.vars c.requires.can.gains_small })
