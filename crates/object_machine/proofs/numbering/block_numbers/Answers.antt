use Rattle.code_blocks.specs.Numbers.{starts_of}
use Rattle.object_machine.proofs.NumberingLemmas.{number_in, numbers_more}
use Rattle.object_machine.proofs.numbering.block_numbers.Goals as goal

pub loop-k-preserved : goal.loop-k-preserved
loop-k-preserved c =
    numbers_more (starts_of c.args.code.now) c.args.units.now c.loop-k.k c.loop-k.numbers.items c.push.new.self.items c.number_at-number.result c.loop-k.invariant
    (number_in c.args.code.now _ c.number_at-number.result c.number_at-number.ensures) c.in_ok-push.ensures.items
