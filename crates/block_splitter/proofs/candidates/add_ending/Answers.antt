use Rattle.block_splitter.proofs.CandidateLemmas.{adds_ending, chained}
use Rattle.block_splitter.proofs.candidates.add_ending.Goals as goal

pub returns : goal.returns
returns c =
    adds_ending c.args.code.now c.args.last c.args.ranges.now.items c.add_range-3.new.ranges.items c.single_first.result c.loop_first.result c.function_first.result c.single_first.ensures c.loop_first.ensures c.function_first.ensures
    (chained c.args.last c.number_of-number.result c.args.ranges.now.items c.add_range.new.ranges.items c.add_range-2.new.ranges.items c.add_range-3.new.ranges.items c.single_first.result c.loop_first.result c.function_first.result c.number_of-number.ensures c.in_ok-add_range.ensures c.in_ok-add_range-2.ensures c.in_ok-add_range-3.ensures)
