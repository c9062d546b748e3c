use Rattle.energy_model.proofs.StretchLemmas.{one_stretch}
use Rattle.energy_model.proofs.stretches.stretches.Goals as goal

pub loop-k-preserved : goal.loop-k-preserved
loop-k-preserved c = λ g counts listed.
    one_stretch c.args.code.now g c.args.profile.now c.loop-k.k c.loop-k.made.items c.push.new.self.items c.stretch_from.result c.in_ok-push.ensures.items (c.loop-k.invariant g counts listed) (c.stretch_from.ensures g counts listed)
