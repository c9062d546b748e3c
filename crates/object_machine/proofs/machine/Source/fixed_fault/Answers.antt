use Rattle.std.proofs.Common.{refl, sym}
use Rattle.object_machine.specs.Places.{fault_from}
use Rattle.object_machine.specs.Machine.{seen}
use Rattle.object_machine.proofs.LandingLemmas.{none_fails}
use Rattle.object_machine.proofs.machine.Source.fixed_fault.Goals as goal

pub returns-then-is_wide : goal.returns-then-is_wide
returns-then-is_wide c =
    let m = c.args.self.now in
    sym (none_fails (fault_from (seen m) c.args.at) c.args.n (λ i below. rw (c.is_wide.ensures c.if-is_wide.true i below) refl))
