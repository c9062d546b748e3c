use Rattle.std.proofs.Common.{length}
use Rattle.placement_candidates.proofs.FoundLemmas.{none_overlaid, found}
use Rattle.placement_candidates.proofs.finding.overlaid_objects.Goals as goal

pub returns-then-not-has_marked : goal.returns-then-not-has_marked
returns-then-not-has_marked c =
    rw c.new.ensures.items
    (none_overlaid c.args.code.now c.args.graph.now c.args.regions.now.of_block.items c.args.regions.now.border.items c.in_ok-sited.sited.items c.in_ok-sited.ensures
    ((rw c.deref.ensures.value at c.has_marked.ensures) c.if-not-has_marked.true))

pub returns : goal.returns
returns c =
    let code = c.args.code.now in
    let graph = c.args.graph.now in
    let regions = c.args.regions.now.of_block.items in
    let sited = c.in_ok-sited.ensures in
    let borders = c.in_ok-asked.ensures in
    let asked = c.in_ok-asked.asked.items in
    let exposed = rw c.deref-2.ensures.value at c.in_ok-exposed.ensures in
    let free = (rw (c.deref-3.ensures.value, c.deref-4.ensures.value) at c.in_ok-free.ensures) code graph regions asked sited exposed in
    found code graph regions c.args.regions.now.border.items asked borders c.in_ok-free.free.items c.deref-5.result.now (length c.in_ok-sited.sited.items) c.numbers_of.result free sited.size c.deref-5.ensures.value c.numbers_of.ensures
