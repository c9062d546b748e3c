use Rattle.std.proofs.Common.{◌∙◌, ap}
use Rattle.object_machine.specs.declared.units.Prepared.{Prepared}
use Rattle.object_machine.specs.Footprints.{footprint_by}
use Rattle.object_machine.proofs.LinkLemmas.{footprint_here}
use Rattle.object_machine.proofs.machine.Source.footprint.Goals as goal

pub returns : goal.returns
returns c p agrees =
    let told = footprint_here p c.args.self.now agrees in
    let unit = ap (λ (u : Prepared). footprint_by u.instr u.pair) c.present.ensures in
    (told.0, (told.1.0, c.footprint.ensures ∙ (unit ∙ told.1.1)))
