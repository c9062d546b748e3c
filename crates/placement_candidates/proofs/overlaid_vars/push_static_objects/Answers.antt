use Rattle.std.proofs.Common.{◌+◌, ◌∷◌, [], map, refl, add-one}
use Rattle.placement_candidates.specs.FullVars.{plain_full_var}
use Rattle.placement_programme.specs.Rows.{static_data}
use Rattle.cell_values.specs.Objects.{datum_of}
use Rattle.placement_candidates.specs.OverlayCounted.{on_var}
use Rattle.placement_candidates.specs.Overlaid.{static_objects}
use Rattle.placement_candidates.proofs.OverlayVarLemmas.{vars_more}
use Rattle.placement_candidates.proofs.overlaid_vars.push_static_objects.Goals as goal

pub loop-o-preserved : goal.loop-o-preserved
loop-o-preserved c =
    vars_more (on_var c.args.m.now) (map plain_full_var c.args.vars.now.items) (map plain_full_var c.loop-o.vars.items) (map plain_full_var c.push_static_data.new.vars.items)
    (static_objects c.args.m.now.graph.now c.loop-o.o) (static_data (datum_of c.args.m.now.graph.now c.loop-o.o) ∷ []) (static_objects c.args.m.now.graph.now (c.loop-o.o + 1))
    c.in_ok-push_static_data.ensures c.loop-o.invariant
    (rw (add-one c.loop-o.o) refl)
