use Rattle.std.proofs.Common.{◌≡◌, ◌∙◌, suc, ap, arith}
use Rattle.list_checks.specs.Sorted.{sum_below}
use Rattle.energy_model.specs.Scenes.{scene_of}
use Rattle.energy_model.specs.Overlay.{changes_from}
use Rattle.energy_model.proofs.switches.changes_price.Goals as goal

pub returns-clause-sum : goal.returns-clause-sum
returns-clause-sum c g code =
    let done : c.loop-from.from ≡ suc c.args.regions.now.count = grind arith in
    c.loop-from.invariant.sum g code
    ∙ ap (sum_below (λ s. changes_from (scene_of g code c.args.regions.now c.args.board.now) c.args.profile.now s (suc c.args.regions.now.count))) done
