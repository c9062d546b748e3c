-- The jobs of a choice serve in its setup.
use Rattle.elf_reader.specs.File.{view_in}
use Rattle.relocator.specs.Placing.{chosen_slots}
use Rattle.result_laws.proofs.PatchHomes.{images_lie_so}
use Rattle.result_laws.proofs.ArrivalChosen.{choices_serve}
use Rattle.result_laws.specs.HomeLaws.{unnamed_in}
use Rattle.result_laws.specs.OverlaySetup.{image_byte, overlay_setup}
use Rattle.result_laws.specs.SetupLaws.{JobsOfChoiceServe}
use Rattle.result_laws.proofs.SetupParts.{laid}
use Rattle.result_laws.proofs.OfChoice.{is_setup}

pub jobs_of_choice_serve : JobsOfChoiceServe
jobs_of_choice_serve file board g regions q c images mem w s r is plan base left some entered other =
    let laid_out = laid file board g regions q c images mem is in
    let slots = chosen_slots board q c in
    let lie = images_lie_so (view_in file) board g slots images laid_out is.lie in
    choices_serve (view_in file) g regions board q c images (image_byte images mem) w (unnamed_in file board g)
    (overlay_setup (view_in file) board g slots images mem) s r
    (record {
      start = record { laid = laid_out; can = is.can; fitting = lie.0 };
      plan = plan;
      left = left;
      some = some;
      entered = entered;
      other = other;
    })
    lie.2 base (is_setup file board g regions q c images mem is)
