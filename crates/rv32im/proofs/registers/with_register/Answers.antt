use Rattle.std.proofs.Common.{arith}
use Rattle.rv32im.proofs.Sets.{put_in}
use Rattle.rv32im.proofs.registers.with_register.Goals as goal

pub returns-in-1-to-31 : goal.returns-in-1-to-31
returns-in-1-to-31 c ks exact = put_in c.args.set.bits ks c.args.k (omega arith) (omega arith) exact
