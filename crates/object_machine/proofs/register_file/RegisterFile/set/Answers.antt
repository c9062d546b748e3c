use Rattle.std.proofs.Common.{arith}
use Rattle.object_machine.proofs.RegisterLemmas.{number_put, value_put}
use Rattle.object_machine.proofs.register_file.RegisterFile.set.Goals as goal

pub returns-in-Int : goal.returns-in-Int
returns-in-Int c =
    let r = c.args.self.now in
    rw c.in-Int.is (number_put r.numeric r.numbers r.values c.from-place.result c.args.rd c.in-Int.n c.from-place.ensures r.zero_numeric r.zero (omega arith) (omega arith))

pub returns-in_default : goal.returns-in_default
returns-in_default c =
    let r = c.args.self.now in
    value_put r.numeric r.numbers r.values c.from-place.result c.args.rd c.args.v c.from-place.ensures r.zero_numeric r.zero (omega arith) (omega arith)
