-- Stubs of the copies of a choice have room in the patch range, and displaced units reach their targets from there.
use Rattle.std.proofs.Common.{◌≡◌, ℕ, ◌+◌, Bool, true, List, subst, arith}
use Rattle.dataflow.specs.Overlaid.{is_border}
use Rattle.region_former.specs.declared.table.RegionTable.{RegionTable}
use Rattle.placement_programme.specs.Plain.{PlainProgramme, PlainChoice}
use Rattle.relink_core.specs.declared.placed_copy.PlacedCopy.{PlacedCopy}
use Rattle.relink_core.proofs.Room.{stubs_end}
use Rattle.relink_core.specs.ResultParts.{ArePartsOf, AreCopiesOf, HaveRoom}
use Rattle.relink_core.specs.declared.chosen_results.ResultParts.{ResultParts}
use Rattle.relink_core.proofs.FirstReaches.{first_reaches}
use Rattle.relink_core.proofs.PlanGoals as plan
use Rattle.relink_core.proofs.SourceFacts.{regions_are}

pub have_room : (file : List ℕ) (t : RegionTable) (p : PlainProgramme) (choice : PlainChoice) (parts : ResultParts) (xs : List PlacedCopy) → ArePartsOf file t p choice parts → AreCopiesOf p choice parts xs → HaveRoom parts xs
have_room file t p choice parts xs is are =
    let board = parts.board.now in
    let s = parts.source.now in
    let ends = (is.extendable.accepted.lawful.ranges 2 board.patch (omega arith)).within in
    let begin = plan.stubs_begin file t p choice parts xs is are 0 in
    let whole = stubs_end file board t s.pieces.now (plan.pl file t p choice parts xs is are 0) s parts.regions.now xs (plan.placement_of file t p choice parts xs is are 0) (plan.with_copies file t p choice parts xs is are 0) in
    record {
      limit = board.patch.base + board.patch.size;
      small = omega (arith, ends);
      room = record {
        ends = omega (arith, whole, begin);
        reach = λ b at border free from even fits.
            let of = (regions_are file board parts.view.now s parts.regions.now t p choice parts.taken.now is).entered b
            (subst (λ (bs : List Bool). is_border bs b ≡ true) is.on_side.border border) in
            first_reaches file board s.graph.now s.code.now b at is.extendable.accepted is.code of.inside of.displaced (omega (arith, from)) even fits;
      };
    }
