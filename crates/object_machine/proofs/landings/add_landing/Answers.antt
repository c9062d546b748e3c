use Rattle.std.proofs.Common.{arith}
use Rattle.object_machine.proofs.LandingLemmas.{landing_put}
use Rattle.object_machine.proofs.landings.add_landing.Goals as goal

pub returns-then-word-len : goal.returns-then-word-len
returns-then-word-len c units starts begins are =
    landing_put units starts c.args.landings.now.items _ c.args.word c.args.place (omega arith) c.put_landing.ensures begins are
