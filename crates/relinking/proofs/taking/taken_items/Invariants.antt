use Rattle.std.proofs.Common.{◌≡◌, take}
use Rattle.placement_programme.specs.Views.{plain_programme, plain_choice}
use Rattle.relocator.specs.Placing.{chosen_slots}
use Rattle.result_laws.specs.ChosenJobs.{code_number}
use Rattle.relinking.specs.TakenItems.{items_told}
use Rattle.relinking.proofs.taking.taken_items.Given as goal

abbrev pub invariant-loop-k : goal.invariant-loop-k
invariant-loop-k l =
    (l.items.items ≡ items_told l.analysis.graph l.analysis.code (take l.k (chosen_slots l.board (plain_programme l.relinked.programme) (plain_choice l.relinked.found.choice))))
    × (l.next ≡ code_number (chosen_slots l.board (plain_programme l.relinked.programme) (plain_choice l.relinked.found.choice)) l.k)
