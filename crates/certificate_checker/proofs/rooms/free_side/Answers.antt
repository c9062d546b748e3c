use Rattle.std.proofs.Common.{◌∙◌, length, ap}
use Rattle.std.proofs.lemmas.List.{length-replicate}
use Rattle.placement_programme.specs.Views.{plain_side}
use Rattle.certificate_checker.specs.declared.fixings.Fixing.{Fixing}
use Rattle.certificate_checker.specs.declared.fixings.Fixing.TheVariants.{Free}
use Rattle.certificate_checker.proofs.rooms.free_side.Goals as goal

pub returns : goal.returns
returns c =
    let made = c.in_ok-assignment.ensures in
    record {
      marks = ap length made.marks ∙ (ap length c.in_ok-marks.ensures ∙ length-replicate {A = Fixing} (length (plain_side c.args.side.now).vars) Free);
      loads = made.tallies.room;
    }
