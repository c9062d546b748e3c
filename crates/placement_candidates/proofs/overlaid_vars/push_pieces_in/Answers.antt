use Rattle.std.proofs.Common.{◌≡◌, ◌∙◌, ◌+◌, ◌==◌, ◌∷◌, [], true, false, map, take, slice_index_or, arith}
use Rattle.std.proofs.lemmas.Bool.Decides.{nat_tests}
use Rattle.placement_candidates.specs.FullVars.{plain_full_var}
use Rattle.placement_programme.specs.Rows.{overlay_code}
use Rattle.block_splitter.specs.declared.piece.Piece.{Piece}
use Rattle.placement_candidates.specs.OverlayCounted.{scene_in, on_var}
use Rattle.placement_candidates.specs.Stated.{part_of}
use Rattle.placement_candidates.specs.Overlaid.{is_of_region, pieces_in}
use Rattle.placement_candidates.proofs.OverlayVarLemmas.{vars_more, no_vars_more, filtered_more, filtered_same, piece_there, piece_tested}
use Rattle.placement_candidates.proofs.overlaid_vars.push_pieces_in.Goals as goal
use Rattle.placement_candidates.proofs.overlaid_vars.push_pieces_in.Goals.{then-table-k+in_ok-push_overlay_code, else-table-k}

pub push_overlay_code-requires-clause-tally : goal.push_overlay_code-requires-clause-tally
push_overlay_code-requires-clause-tally c = c.requires.tallies.each c.loop-k.k c.index-m-k.result _ c.loop-k-test.true

pub loop-k-preserved : goal.loop-k-preserved
loop-k-preserved c =
    let m = c.args.m.now in
    let w = scene_in m in
    let r = c.args.r in
    let k = c.loop-k.k in
    let pieces = m.pieces.now in
    let more = λ (p : Piece). overlay_code r (part_of w p) in
    elim c.if-table-k.branch [
      | then-table-k+in_ok-push_overlay_code x ↦
          let d = x.index-m-k.result in
          let here : (slice_index_or c.args.table.now k 0 == r) ≡ true = grind (arith, nat_tests, x.if-table-k.true) in
          let test = piece_tested m r c.args.table.now k d c.requires.weigh c.requires.pieces c.requires.some c.loop-k-test.true c.requires.table ∙ here in
          rw x.vars-is
          (vars_more (on_var m) (map plain_full_var c.args.vars.now.items) (map plain_full_var c.loop-k.vars.items) (map plain_full_var x.push_overlay_code.new.vars.items)
          (pieces_in w (take k pieces) r) (more (slice_index_or pieces k d) ∷ []) (pieces_in w (take (k + 1) pieces) r)
          x.in_ok-push_overlay_code.ensures c.loop-k.invariant
          (filtered_more Piece more (is_of_region w.regions r) pieces k d c.loop-k-test.true test))
      | else-table-k x ↦
          let d = piece_there pieces k c.loop-k-test.true in
          let other : (slice_index_or c.args.table.now k 0 == r) ≡ false = grind (arith, nat_tests, x.if-table-k.false) in
          let test = piece_tested m r c.args.table.now k d c.requires.weigh c.requires.pieces c.requires.some c.loop-k-test.true c.requires.table ∙ other in
          rw x.vars-is
          (no_vars_more (on_var m) (map plain_full_var c.args.vars.now.items) (map plain_full_var c.loop-k.vars.items)
          (pieces_in w (take k pieces) r) (pieces_in w (take (k + 1) pieces) r) c.loop-k.invariant
          (filtered_same Piece more (is_of_region w.regions r) pieces k d c.loop-k-test.true test))
    ]
