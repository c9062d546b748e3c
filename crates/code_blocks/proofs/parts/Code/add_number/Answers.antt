use Rattle.std.proofs.Common.{refl}
use Rattle.code_blocks.proofs.NumberLemmas.{numbers_more, numbers_same, none_numbered}
use Rattle.code_blocks.proofs.parts.Code.add_number.Goals as goal

pub returns-in-Some-clause-exact : goal.returns-in-Some-clause-exact
returns-in-Some-clause-exact c addresses are =
    numbers_more c.args.self.now addresses c.args.numbers.now.items _ c.args.address c.in-Some.number are c.in-Some.ensures c.push_reserved.ensures.items

pub returns-in_default-clause-exact : goal.returns-in_default-clause-exact
returns-in_default-clause-exact c addresses are =
    numbers_same c.args.self.now addresses c.args.numbers.now.items _ c.args.address are (none_numbered c.args.self.now c.args.address c.block_at.result c.block_at.ensures c.in_default.not-Some) refl
