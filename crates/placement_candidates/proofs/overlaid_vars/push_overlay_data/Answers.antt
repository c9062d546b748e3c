use Rattle.std.proofs.Common.{◌∙◌, ℤ, ◌∷◌, ◌++◌, [], refl, ap, FitsSigned, rules}
use Rattle.std.proofs.lemmas.Int.{to_z-of_z}
use mir.Syntax.{w128}
use Rattle.placement_programme.specs.Rows.{Datum, overlay_data}
use Rattle.placement_candidates.specs.declared.overlay_rows.OverlayRows.{OverlayRows}
use Rattle.placement_candidates.specs.OverlayRows.{IsDatum}
use Rattle.cell_values.specs.Objects.{datum_of}
use Rattle.placement_candidates.proofs.OverlayVarLemmas.{pushed}
use Rattle.placement_candidates.proofs.overlaid_vars.push_overlay_data.Goals as goal

pub returns-in-Ok : goal.returns-in-Ok
returns-in-Ok c =
    let fits : FitsSigned w128 c.overlay_data_gain.result = search rules in
    pushed Datum c.args.m.now c.rows_of-rows.result c.overlay_data-item.result (record { name = c.overlay_data-item.result.name; gain = c.overlay_data_gain.result; weights = c.weights_of-weights.result }) (λ (r : OverlayRows) (d : Datum). IsDatum r c.datum_of-datum.result d) (overlay_data c.args.r) (datum_of c.args.m.now.graph.now c.args.o)
    c.args.vars.now.items c.push.new.self.items c.rows_of-rows.ensures c.overlay_data-item.ensures c.datum_of-datum.ensures.is refl c.overlay_data_gain.ensures c.weights_of-weights.ensures (c.in-Ok.ensures.items ∙ ap (λ (z : ℤ). c.args.vars.now.items ++ (record { name = c.overlay_data-item.result.name; gain = z; weights = c.weights_of-weights.result }) ∷ []) (to_z-of_z w128 c.overlay_data_gain.result fits))
