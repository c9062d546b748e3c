use Rattle.std.proofs.Common.{◌∙◌}
use Rattle.placement_programme.specs.Views.{plain_choice}
use Rattle.relink_core.proofs.RealiseLemmas.{no_items}
use Rattle.relink_core.proofs.RealisedChoice.{nothing_stands}
use Rattle.relink_core.proofs.realising.unmoved_result.Goals as goal

pub returns-in-Ok : goal.returns-in-Ok
returns-in-Ok c = λ file p is taken.
    let choice = plain_choice c.args.c.now in
    record {
      forms = (c.requires.0, no_items p choice c.requires.1, c.in-Ok.ensures.items_if_clones_equal (λ x y same. same) ∙ is.is_file.bytes);
      stands = nothing_stands file c.args.board.now c.args.a.now p choice c.args.taken c.new.result.items is taken c.requires.1 c.new.ensures.items;
    }
