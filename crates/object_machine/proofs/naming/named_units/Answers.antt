use Rattle.std.proofs.Common.{◌≡◌, ℕ, length, subst, arith}
use Rattle.object_machine.specs.Ops.{AreNamed}
use Rattle.object_machine.proofs.OpLemmas.{named_more, all_named}
use Rattle.object_machine.proofs.naming.named_units.Goals as goal

pub loop-k-preserved : goal.loop-k-preserved
loop-k-preserved c starts landed =
    named_more c.args.units.now.items starts c.loop-k.k c.loop-k.ops.items c.push.new.self.items c.name_of.result (c.loop-k.invariant starts landed)
    (c.name_of.ensures starts landed) c.in_ok-push.ensures.items

pub returns : goal.returns
returns c starts landed =
    let all : c.loop-k.k ≡ length c.args.units.now.items = omega arith in
    all_named c.args.units.now.items starts c.loop-k.ops.items (subst (λ (n : ℕ). AreNamed c.args.units.now.items starts n c.loop-k.ops.items) all (c.loop-k.invariant starts landed))
