use Rattle.std.proofs.Common.{◌+◌, ◌∷◌, [], map, slice_index_or, take}
use Rattle.placement_candidates.specs.FullVars.{plain_full_var}
use Rattle.std.specs.Prelude.{ℕ}
use Rattle.placement_programme.specs.Rows.{overlay_data}
use Rattle.cell_values.specs.Objects.{datum_of}
use Rattle.placement_candidates.specs.OverlayCounted.{scene_in, on_var}
use Rattle.placement_candidates.specs.Overlaid.{objects_in}
use Rattle.placement_candidates.proofs.OverlayVarLemmas.{vars_more, mapped_more}
use Rattle.placement_candidates.proofs.overlaid_vars.push_objects_in.Goals as goal

pub loop-k-preserved : goal.loop-k-preserved
loop-k-preserved c =
    vars_more (on_var c.args.m.now) (map plain_full_var c.args.vars.now.items) (map plain_full_var c.loop-k.vars.items) (map plain_full_var c.push_overlay_data.new.vars.items)
    (objects_in (scene_in c.args.m.now) (take c.loop-k.k c.args.objects.now) c.args.r) (overlay_data c.args.r (datum_of c.args.m.now.graph.now (slice_index_or c.args.objects.now c.loop-k.k 0)) ∷ []) (objects_in (scene_in c.args.m.now) (take (c.loop-k.k + 1) c.args.objects.now) c.args.r)
    c.in_ok-push_overlay_data.ensures c.loop-k.invariant
    (mapped_more ℕ (λ o. overlay_data c.args.r (datum_of c.args.m.now.graph.now o)) c.args.objects.now c.loop-k.k 0 c.loop-k-test.true)
