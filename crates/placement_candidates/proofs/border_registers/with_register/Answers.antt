use Rattle.placement_candidates.proofs.FoundLemmas.{register_added}
use Rattle.placement_candidates.proofs.border_registers.with_register.Goals as goal

pub returns-then-wanted : goal.returns-then-wanted
returns-then-wanted c x = register_added c.args.bits c.args.register x c.args.wanted c.requires c.if-wanted.true
