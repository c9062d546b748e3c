use Rattle.std.proofs.Common.{◌∙◌, ℤ, ◌∷◌, ◌++◌, [], refl, ap, FitsSigned, rules}
use Rattle.std.proofs.lemmas.Int.{to_z-of_z}
use mir.Syntax.{w128}
use Rattle.placement_programme.specs.Rows.{Part, static_code}
use Rattle.placement_candidates.specs.declared.overlay_rows.OverlayRows.{OverlayRows}
use Rattle.placement_candidates.specs.OverlayRows.{IsPart}
use Rattle.placement_candidates.specs.OverlayCounted.{scene_in}
use Rattle.placement_candidates.specs.Stated.{part_of}
use Rattle.placement_candidates.proofs.OverlayVarLemmas.{pushed}
use Rattle.placement_candidates.proofs.overlaid_vars.push_static_code.Goals as goal

pub returns-in-Ok : goal.returns-in-Ok
returns-in-Ok c =
    let fits : FitsSigned w128 c.static_code_gain.result = search rules in
    pushed Part c.args.m.now c.rows_of-rows.result c.static_code-item.result (record { name = c.static_code-item.result.name; gain = c.static_code_gain.result; weights = c.weights_of-weights.result }) (λ (r : OverlayRows) (p : Part). IsPart r c.part_of-part.result p) static_code (part_of (scene_in c.args.m.now) c.args.piece.now)
    c.args.vars.now.items c.push.new.self.items c.rows_of-rows.ensures c.static_code-item.ensures c.part_of-part.ensures.is refl c.static_code_gain.ensures c.weights_of-weights.ensures (c.in-Ok.ensures.items ∙ ap (λ (z : ℤ). c.args.vars.now.items ++ (record { name = c.static_code-item.result.name; gain = z; weights = c.weights_of-weights.result }) ∷ []) (to_z-of_z w128 c.static_code_gain.result fits))
