use Rattle.std.proofs.Common.{sym, subst}
use Rattle.cell_values.specs.Objects.{IsGrain}
use Rattle.relocator.specs.Slots.{items_of, first_slots}
use Rattle.relocator.specs.Placing.{chosen_slots}
use Rattle.relocator.proofs.SlotLemmas.{slot_keeps}
use Rattle.relocator.proofs.WeightLemmas.{IsSized}
use Rattle.relocator.proofs.PlaceLemmas.{choice_fits}
use Rattle.relocator.proofs.StandLemmas.{stands}
use Rattle.relocator.proofs.laws.objects_stand.Goals as goal

pub returns : goal.returns
returns c = λ v g regions board p choice region o laid can.
    let grain = subst IsGrain (sym laid.graph.grain) laid.lawful.grain in
    let items = items_of p choice in
    stands g regions (chosen_slots board p choice) region o
    (slot_keeps (λ name span. IsSized g regions name span) (first_slots board.spm.base items) items (choice_fits g regions board p choice grain can).sized)
