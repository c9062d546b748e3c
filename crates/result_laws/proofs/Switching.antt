-- A switch to a region that is entered can be made in the setup of a choice.
use Rattle.std.proofs.Common.{arith}
use Rattle.elf_reader.specs.File.{view_in}
use Rattle.patch_code.specs.Overlay.{switching}
use Rattle.patch_code.proofs.Counts.{switch_is_bounded_so}
use Rattle.cell_values.specs.Stands.{moved_uppers}
use Rattle.relocator.specs.Placing.{placed, chosen_slots}
use Rattle.result_laws.specs.JobLaws.{room_left}
use Rattle.result_laws.proofs.JobsFit.{jobs_fit_so}
use Rattle.result_laws.proofs.PatchHomes.{images_lie_so}
use Rattle.result_laws.specs.Plans.{ChoiceCanSwitch}
use Rattle.result_laws.proofs.SetupParts.{laid}
use Rattle.result_laws.proofs.Serving.{jobs_of_choice_serve}
use Rattle.result_laws.proofs.Homes.{known_byte, homes_stand}
use Rattle.result_laws.proofs.PlanStanding.{starts}

pub choice_can_switch : ChoiceCanSwitch
choice_can_switch file out board g regions q c images mem input plan words s r is holds homes left some entered other =
    let v = view_in file in
    let slots = chosen_slots board q c in
    let w = switching plan in
    let count = holds.jobs.count in
    let few = holds.can.few in
    let have = (images_lie_so v board g slots images (laid file board g regions q c images mem is) is.lie).1 in
    let can = starts file board g regions q c images mem is in
    let bound =
    switch_is_bounded_so w (room_left board g images slots) s r few
    (λ i below. jobs_fit_so.room v g regions board q c images w i can have holds.jobs (omega (arith, below, count))) in
    record {
      serve = jobs_of_choice_serve file board g regions q c images mem w s r is holds.jobs holds.lies.base left some entered other;
      homes = homes_stand file out board g regions q c images mem is input r homes;
      known = λ o i unwritable below. known_byte file board g input (moved_uppers (placed g slots s)) o i below;
      small = omega (arith, entered, count, few);
      few = omega (arith, bound);
    }
