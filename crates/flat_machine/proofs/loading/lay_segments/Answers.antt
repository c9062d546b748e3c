use Rattle.std.proofs.Common.{◌≡◌, ◌<◌, ◌-◌, suc, length, arith, ◌∙◌}
use Rattle.flat_machine.proofs.Images.{image_more, loadable_within, loadable_count}
use Rattle.flat_machine.proofs.loading.lay_segments.Goals as goal

pub set_bytes-requires-clause-within : goal.set_bytes-requires-clause-within
set_bytes-requires-clause-within g c =
    let inside : c.loop-k.k - 1 < length c.args.segments.now = omega arith in
    loadable_within c.args.segments.now (c.loop-k.k - 1) _ c.requires.loadable inside

pub set_bytes-requires-clause-count : goal.set_bytes-requires-clause-count
set_bytes-requires-clause-count g c =
    let inside : c.loop-k.k - 1 < length c.args.segments.now = omega arith in
    loadable_count c.args.segments.now (c.loop-k.k - 1) _ c.requires.loadable inside

pub loop-k-preserved : goal.loop-k-preserved
loop-k-preserved g c =
    let inside : c.loop-k.k - 1 < length c.args.segments.now = omega arith in
    let next : c.loop-k.k ≡ suc (c.loop-k.k - 1) = omega arith in
    c.in_ok-set_bytes.ensures.ok
    ∙ image_more c.args.segments.now (c.loop-k.k - 1) c.loop-k.k _ (g.S.ByteStore.byte_at c.loop-k.store) next inside c.loop-k.invariant
