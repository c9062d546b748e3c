use Rattle.std.proofs.Common.{◌≡◌, ◌∙◌, suc, ap, arith}
use Rattle.energy_model.specs.Scenes.{scene_of}
use Rattle.energy_model.specs.Overlay.{changes_from}
use Rattle.energy_model.proofs.SwitchLemmas.{changes_more}
use Rattle.energy_model.proofs.switches.changes_from.Goals as goal

pub loop-to-preserved : goal.loop-to-preserved
loop-to-preserved c =
    let before = c.loop-to.invariant.small in
    let here = c.change_price-total.ensures.small in
    record {
      sum = λ g code. changes_more (scene_of g code c.args.regions.now c.args.board.now) c.args.profile.now c.args.from c.loop-to.to c.loop-to.total c.change_price-total.result (c.loop-to.invariant.sum g code) (c.change_price-total.ensures.sum g code);
      small = omega (arith, before, here);
    }

pub returns-clause-sum : goal.returns-clause-sum
returns-clause-sum c g code =
    let done : c.loop-to.to ≡ suc c.args.regions.now.count = grind arith in
    c.loop-to.invariant.sum g code ∙ ap (changes_from (scene_of g code c.args.regions.now c.args.board.now) c.args.profile.now c.args.from) done
