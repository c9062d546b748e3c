use Rattle.std.proofs.Common.{◌≡◌, ◌∙◌, length, ap, sym, arith}
use Rattle.std.specs.Vec.{vec_len}
use Rattle.relink_core.specs.declared.placed_copy.PlacedCopy.{PlacedCopy}
use Rattle.relink_core.specs.Naming.{copied_words}
use Rattle.relink_core.proofs.Lists.{next_room, one_placed}
use Rattle.relink_core.proofs.regions.image_places.Goals as goal

pub loop-k-preserved : goal.loop-k-preserved
loop-k-preserved c =
    let copy = c.index-copies-k.result in
    let counted : c.len.result ≡ length (copied_words copy) =
    c.len.ensures ∙ ap (λ (x : PlacedCopy). vec_len x.code.words) (sym c.index-copies-k.is) ∙ copy.code.words.ok.0 in
    one_placed c.args.first c.args.copies.now c.loop-k.k c.loop-k.places.items c.loop-k.at copy c.push.new.self.items c.len.result
    c.loop-k-test.true c.index-copies-k.is c.loop-k.invariant c.in_ok-push.ensures.items counted

pub overflow_add-at : goal.overflow_add-at
overflow_add-at c =
    let copy = c.index-copies-k.result in
    let room = next_room c.args.first c.args.copies.now c.loop-k.k c.loop-k.places.items c.loop-k.at copy c.loop-k-test.true c.index-copies-k.is c.loop-k.invariant in
    let counted : c.len.result ≡ length (copied_words copy) =
    c.len.ensures ∙ ap (λ (x : PlacedCopy). vec_len x.code.words) (sym c.index-copies-k.is) ∙ copy.code.words.ok.0 in
    omega (arith, room, counted, c.requires)
