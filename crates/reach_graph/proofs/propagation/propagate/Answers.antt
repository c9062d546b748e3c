use Rattle.std.proofs.Common.{arith, length, subst, sym, ◌∙◌, ◌<◌}
use Rattle.std.proofs.lemmas.List.{length-map}
use Rattle.reach_graph.specs.Reaching.{word_at, row_items, plain_rows}
use Rattle.reach_graph.specs.Propagation.{IsRow, IsPropagated}
use Rattle.reach_graph.proofs.PropagationLemmas.{propagation_starts, propagation_more, propagation_ends, row_is, row_inside}
use Rattle.reach_graph.proofs.propagation.propagate.Goals as goal

pub loop-node-init : goal.loop-node-init
loop-node-init c =
    propagation_starts (plain_rows c.args.rows.now) c.args.marks.now c.in_ok-queue.queue.waiting.items c.in_ok-queue.queue.waits.items c.in_ok-queue.ensures

pub propagate_row-requires-clause-inside : goal.propagate_row-requires-clause-inside
propagate_row-requires-clause-inside c =
    let rows = c.args.rows.now in
    let node = c.in-Some.node in
    let taken = c.in-Some.ensures.0 in
    let below : node < length rows = omega (arith, taken, c.loop-node.invariant.waits_size, c.requires.one_each) in
    let inside : node < length (plain_rows rows) = omega (arith, below, length-map rows row_items) in
    let is = row_is rows node c.index-rows-node.result below c.index-rows-node.is ∙ sym c.deref.ensures.value in
    subst (IsRow c.deref.result.now) (sym c.loop-node.invariant.size) (row_inside (plain_rows rows) (length c.args.marks.now) node c.deref.result.now inside c.requires.inside is)

pub loop-node-preserved : goal.loop-node-preserved
loop-node-preserved c =
    let rows = c.args.rows.now in
    let node = c.in-Some.node in
    let taken = c.in-Some.ensures.0 in
    let below : node < length rows = omega (arith, taken, c.loop-node.invariant.waits_size, c.requires.one_each) in
    let is = row_is rows node c.index-rows-node.result below c.index-rows-node.is ∙ sym c.deref.ensures.value in
    let propagate = subst (λ r. IsPropagated r (length r) (word_at c.loop-node.marks node) c.loop-node.marks c.take.new.self.waiting.items c.take.new.self.waits.items c.propagate_row.new.marks c.propagate_row.new.queue.waiting.items c.propagate_row.new.queue.waits.items)
    (sym is) c.in_ok-propagate_row.ensures in
    propagation_more (plain_rows rows) c.args.marks.now c.loop-node.marks c.loop-node.queue.waiting.items c.loop-node.queue.waits.items node c.take.new.self.waiting.items c.take.new.self.waits.items
    c.propagate_row.new.marks c.propagate_row.new.queue.waiting.items c.propagate_row.new.queue.waits.items c.loop-node.invariant c.in-Some.ensures propagate

pub returns : goal.returns
returns c =
    propagation_ends (plain_rows c.args.rows.now) c.args.marks.now c.loop-node.marks c.loop-node.queue.waiting.items c.loop-node.queue.waits.items c.loop-node.invariant
    c.in_default.ensures.0
