use Rattle.std.proofs.Common.{◌≡◌, ◌∙◌, ◌+◌, true, false, nat_lt, nat_le, length, List, Some, ap, sym, arith}
use Rattle.std.proofs.lemmas.Bool.Decides.{nat_tests}
use Rattle.placement_candidates.specs.declared.variables.FullVar.{FullVar}
use Rattle.placement_programme.specs.Rows.{fixed_bytes}
use Rattle.placement_programme.specs.Plain.{PlainFullSide}
use Rattle.placement_candidates.specs.Overlaid.{overlay_candidates}
use Rattle.placement_candidates.specs.OverlayCounted.{scene_in, layout_in, counted_on_side}
use Rattle.placement_candidates.proofs.OverlaySideLemmas.{more_vars, side_there, no_side}
use Rattle.placement_candidates.proofs.whole_side.on_side.Goals as goal

pub returns-then-not-has_overlaid-clause-is : goal.returns-then-not-has_overlaid-clause-is
returns-then-not-has_overlaid-clause-is c =
    let m = c.args.m.now in
    let objects = c.args.objects.now in
    let more = more_vars m objects c.in_ok-vars.vars.items c.in_ok-vars.ensures in
    let there = c.has_overlaid.ensures ∙ ap (λ (vs : List FullVar). nat_lt (length m.graph.now.objects.items + length m.pieces.now) (length vs)) c.deref.ensures.value ∙ more in
    let fails : c.has_overlaid.result ≡ false = grind (arith, nat_tests, c.if-not-has_overlaid.true) in
    no_side (nat_lt 0 m.regions.now.count) (nat_lt 0 (length (overlay_candidates (scene_in m) objects m.pieces.now))) (nat_le (fixed_bytes (layout_in m)) m.board.now.patch.size) (counted_on_side m objects) (sym there ∙ fails)

pub returns-clause-is : goal.returns-clause-is
returns-clause-is c =
    let m = c.args.m.now in
    let objects = c.args.objects.now in
    let more = more_vars m objects c.in_ok-vars.vars.items c.in_ok-vars.ensures in
    let there = c.has_overlaid.ensures ∙ ap (λ (vs : List FullVar). nat_lt (length m.graph.now.objects.items + length m.pieces.now) (length vs)) c.deref.ensures.value ∙ more in
    let passes : c.has_overlaid.result ≡ true = grind (arith, nat_tests, c.if-not-has_overlaid.false) in
    let room : c.has_room.result ≡ true = grind (arith, nat_tests, c.if-not-has_room.false) in
    ap (λ (s : PlainFullSide). Some s) c.in_ok-side.ensures.is
    ∙ side_there (nat_lt 0 m.regions.now.count) (nat_lt 0 (length (overlay_candidates (scene_in m) objects m.pieces.now))) (nat_le (fixed_bytes (layout_in m)) m.board.now.patch.size) (counted_on_side m objects) (sym c.has_room.ensures ∙ room) (sym there ∙ passes)
