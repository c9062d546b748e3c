use Rattle.std.proofs.Common.{refl, sym}
use Rattle.object_machine.specs.Places.{fault_from}
use Rattle.object_machine.specs.Machine.{seen}
use Rattle.object_machine.proofs.LandingLemmas.{none_fails}
use Rattle.object_machine.proofs.machine.Source.searched_fault.Goals as goal

pub returns-then-is_in_one : goal.returns-then-is_in_one
returns-then-is_in_one c =
    let m = c.args.self.now in
    sym (none_fails (fault_from (seen m) c.args.at) c.args.n (λ i below. rw (c.is_in_one.ensures c.if-is_in_one.true i below) refl))
