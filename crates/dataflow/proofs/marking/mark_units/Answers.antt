use Rattle.std.proofs.Common.{◌-◌, List, ◌∷◌, drop, slice_index_or, sym, subst, arith}
use Rattle.code_blocks.specs.declared.parts.Unit.{Unit}
use Rattle.code_blocks.specs.Leads.{no_unit}
use Rattle.dataflow.proofs.SiteLemmas.{site_found}
use Rattle.dataflow.specs.Transfers.{AddsMarks, AreBefore, MakesHere, MakesInto}
use Rattle.dataflow.proofs.TransferLemmas.{units_from}
use Rattle.dataflow.proofs.MarkingLemmas.{adds_both, units_more}
use Rattle.dataflow.proofs.marking.mark_units.Goals as goal

pub loop-k-preserved : goal.loop-k-preserved
loop-k-preserved c =
    let g = c.args.graph.now in
    let sites = g.sites.items in
    let behind = c.args.behind in
    let units = c.args.units.now in
    let k = c.loop-k.k in
    let u = slice_index_or units (k - 1) no_unit in
    let rest = drop k units in
    let (are, added) = c.loop-k.invariant in
    let old = c.args.marks.now in
    let new = c.mark_unit.new.marks in
    let found = site_found g u.at c.site_at-site.result c.requires.graph c.site_at-site.ensures in
    subst (λ (us : List Unit). AreBefore sites us behind c.before_unit-word.result × AddsMarks (MakesInto sites us behind) old new) (sym (units_from units k (omega arith) (omega arith))) (
      c.before_unit-word.ensures sites rest behind found c.requires.memory are,
      adds_both (MakesInto sites rest behind) (MakesHere sites u rest behind) (MakesInto sites (u ∷ rest) behind) old c.loop-k.marks new added
          (c.mark_unit.ensures sites rest behind found are) (units_more sites u rest behind),
    )
