use Rattle.std.proofs.Common.{subst}
use Rattle.flat_machine.specs.Mapping.{IsPart}
use Rattle.flat_machine.proofs.machine.Flat.go_near.Goals as goal

pub invariant_of-self-clause-near_is_mapped : goal.invariant_of-self-clause-near_is_mapped
invariant_of-self-clause-near_is_mapped g c =
    let part : IsPart c.in-Some.range c.args.self.now.map.items = subst (λ map. IsPart c.in-Some.range map) c.deref.ensures.value c.in-Some.ensures in
    c.reach_of-self.ensures c.args.self.now.map.items part
