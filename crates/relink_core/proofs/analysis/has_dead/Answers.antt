use Rattle.std.proofs.Common.{◌≡◌, true, Bool, sym, subst}
use Rattle.std.specs.Prelude.{◌↔◌}
use Rattle.relink_core.specs.Regions.{HasDeadAt}
use Rattle.relink_core.proofs.RegionLemmas.{some_dead}
use Rattle.relink_core.proofs.analysis.has_dead.Goals as goal

pub returns : goal.returns
returns c code table =
    subst (λ (t : Bool). (t ≡ true) ↔ HasDeadAt code c.args.leader) (sym c.is_some.ensures)
    (some_dead code c.args.leader c.dead_at.result (c.dead_at.ensures code table))
