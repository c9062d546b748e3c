use Rattle.std.proofs.Common.{arith}
use Rattle.object_machine.proofs.LandingLemmas.{landed}
use Rattle.object_machine.proofs.landings.landing.Goals as goal

pub returns-then-is_unit_at-clause-begins : goal.returns-then-is_unit_at-clause-begins
returns-then-is_unit_at-clause-begins c starts are =
    landed c.args.units.now.items starts c.args.landings.now.items _ c.landing_in-place.result c.args.address are c.landing_in-place.ensures (c.is_unit_at.ensures c.if-is_unit_at.true) (omega arith)
