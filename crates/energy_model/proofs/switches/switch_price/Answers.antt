use Rattle.energy_model.specs.Scenes.{scene_of}
use Rattle.energy_model.proofs.SwitchLemmas.{price_is}
use Rattle.energy_model.proofs.switches.switch_price.Goals as goal

pub returns-clause-sum : goal.returns-clause-sum
returns-clause-sum c g code =
    price_is (scene_of g code c.args.regions.now c.args.board.now) c.args.from c.args.to c.switch_words.result c.routine_price.result (c.switch_words.ensures.sum g code) c.routine_price.ensures.sum
