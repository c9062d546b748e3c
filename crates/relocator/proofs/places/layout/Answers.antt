use Rattle.std.proofs.Common.{◌∙◌, List, sym, ap, subst, arith}
use Rattle.placement_programme.specs.Views.{plain_programme, plain_choice}
use Rattle.relocator.specs.declared.items.Item.{Item}
use Rattle.relocator.specs.declared.slots.Slot.{Slot}
use Rattle.relocator.specs.Slots.{lane_count, slots_of}
use Rattle.relocator.specs.Laying.{AreRoomy, AreInLanes, CanPutAll}
use Rattle.relocator.proofs.PlaceLemmas.{choice_laid, choice_regions}
use Rattle.relocator.proofs.places.layout.Goals as goal

pub items-requires-clause-regions : goal.items-requires-clause-regions
items-requires-clause-regions c =
    choice_regions c.args.graph.now c.args.regions c.args.board.now (plain_programme c.args.p.now) (plain_choice c.args.c.now) c.requires.lawful c.requires.graph.1.grain (omega arith) c.requires.choice

pub slots-requires-clause-room : goal.slots-requires-clause-room
slots-requires-clause-room c =
    let board = c.args.board.now in
    let laid = choice_laid c.args.graph.now c.args.regions board (plain_programme c.args.p.now) (plain_choice c.args.c.now) c.requires.lawful c.requires.graph.1.grain c.requires.choice in
    subst (λ (is : List Item). AreRoomy board.spm.base c.args.regions is) (sym (c.deref.ensures.value ∙ c.in_ok-items.ensures)) laid.roomy

pub slots-requires-clause-lanes : goal.slots-requires-clause-lanes
slots-requires-clause-lanes c =
    let board = c.args.board.now in
    let laid = choice_laid c.args.graph.now c.args.regions board (plain_programme c.args.p.now) (plain_choice c.args.c.now) c.requires.lawful c.requires.graph.1.grain c.requires.choice in
    subst (λ (is : List Item). AreInLanes (lane_count c.args.regions) is) (sym (c.deref.ensures.value ∙ c.in_ok-items.ensures)) laid.in_lanes

pub table-requires-clause-slots : goal.table-requires-clause-slots
table-requires-clause-slots c =
    let board = c.args.board.now in
    let laid = choice_laid c.args.graph.now c.args.regions board (plain_programme c.args.p.now) (plain_choice c.args.c.now) c.requires.lawful c.requires.graph.1.grain c.requires.choice in
    let items = c.deref.ensures.value ∙ c.in_ok-items.ensures in
    let same = c.deref-2.ensures.value ∙ c.in_ok-slots.ensures ∙ ap (λ (is : List Item). slots_of board.spm.base is) items in
    subst (λ (ss : List Slot). CanPutAll c.args.graph.now c.args.regions ss) (sym same) laid.put
