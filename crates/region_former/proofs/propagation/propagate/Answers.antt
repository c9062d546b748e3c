use Rattle.std.proofs.Common.{slice_index_or}
use Rattle.std.proofs.lemmas.List.{take_more}
use Rattle.code_blocks.proofs.ListLemmas.{has_at}
use Rattle.region_former.proofs.PropagationLemmas.{propagates_more}
use Rattle.region_former.proofs.propagation.propagate.Goals as goal

pub raise-requires : goal.raise-requires
raise-requires c =
    let functions = c.args.functions.now in
    let place = c.loop-function.function-index in
    let within = c.requires (slice_index_or functions place 0) (has_at functions place 0 c.loop-function-test.true) in
    rw c.loop-function.invariant.same_length within

pub loop-function-preserved : goal.loop-function-preserved
loop-function-preserved c =
    let functions = c.args.functions.now in
    let place = c.loop-function.function-index in
    let within = c.requires (slice_index_or functions place 0) (has_at functions place 0 c.loop-function-test.true) in
    rw (take_more functions place 0 c.loop-function-test.true)
    (propagates_more c.args.marks.now c.args.waiting.now.items _ c.args.by c.loop-function.marks c.loop-function.waiting.items (slice_index_or functions place 0) c.raise.new.marks c.raise.new.waiting.items
    (rw c.loop-function.invariant.same_length within) c.loop-function.invariant c.in_ok-raise.ensures)
