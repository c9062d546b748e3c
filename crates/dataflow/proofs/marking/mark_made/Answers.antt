use Rattle.std.proofs.Common.{◌≡◌, ◌∙◌, ◌+◌, List, sym, subst, arith}
use Rattle.code_blocks.specs.declared.parts.Unit.{Unit}
use Rattle.code_blocks.specs.Leads.{IsBlockOf, units_at}
use Rattle.reach_graph.specs.Reaching.{word_at}
use Rattle.dataflow.proofs.FactLemmas.{units_are}
use Rattle.dataflow.specs.Transfers.{AddsMarks, MakesInto, MakesInBlocks}
use Rattle.dataflow.proofs.MarkingLemmas.{adds_both, blocks_more}
use Rattle.dataflow.proofs.marking.mark_made.Goals as goal

pub loop-b-preserved : goal.loop-b-preserved
loop-b-preserved c =
    let code = c.args.code.now in
    let sites = c.args.graph.now.sites.items in
    let behind = c.args.behind.now in
    let b = c.loop-b.b in
    let old = c.args.marks.now in
    let now = c.loop-b.marks in
    let new = c.mark_units.new.marks in
    let below : IsBlockOf code b = omega arith in
    let e : c.deref.result.now ≡ units_at code b = c.deref.ensures.value ∙ sym (units_are code b c.index.result.now below c.index.ensures) in
    let one = subst (λ (us : List Unit). AddsMarks (MakesInto sites us (word_at behind b)) now new) e c.mark_units.ensures in
    adds_both (MakesInBlocks code sites behind b) (MakesInto sites (units_at code b) (word_at behind b)) (MakesInBlocks code sites behind (b + 1)) old now new
    c.loop-b.invariant one (blocks_more code sites behind b)
