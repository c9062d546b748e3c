use Rattle.std.proofs.Common.{◌∙◌, []}
use Rattle.profile_runner.specs.Counts.{plain_rows, entry}
use Rattle.energy_model.specs.Energy.{switch_price}
use Rattle.energy_model.specs.Scenes.{scene_of}
use Rattle.energy_model.proofs.SwitchLemmas.{switches_there, times_is}
use Rattle.energy_model.proofs.switches.change_price.Goals as goal

pub switches_of-count-requires : goal.switches_of-count-requires
switches_of-count-requires c =
    switches_there c.args.profile.now c.args.regions.now.count c.args.from c.args.to c.requires.table c.requires.from c.requires.to

pub returns-clause-sum : goal.returns-clause-sum
returns-clause-sum c g code =
    times_is c.from.result c.from-2.result (entry (plain_rows c.args.profile.now.switches.items) c.args.from c.args.to) (switch_price (scene_of g code c.args.regions.now c.args.board.now) [] c.args.from c.args.to)
    (c.from.ensures ∙ c.switches_of-count.ensures) (c.from-2.ensures ∙ c.switch_price.ensures.sum g code)
