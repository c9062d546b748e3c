use Rattle.std.proofs.Common.{◌-◌, List, drop, slice_index_or, sym, subst, arith}
use Rattle.code_blocks.specs.declared.parts.Unit.{Unit}
use Rattle.code_blocks.specs.Leads.{no_unit}
use Rattle.dataflow.proofs.SiteLemmas.{site_found}
use Rattle.dataflow.specs.Transfers.{AreBefore}
use Rattle.dataflow.proofs.TransferLemmas.{units_from}
use Rattle.dataflow.proofs.transfers.registers_before.Goals as goal

pub loop-k-preserved : goal.loop-k-preserved
loop-k-preserved c =
    let units = c.args.units.now in
    let g = c.args.graph.now in
    let sites = g.sites.items in
    let behind = c.args.behind in
    let k = c.loop-k.k in
    let u = slice_index_or units (k - 1) no_unit in
    let found = site_found g u.at c.site_at.result c.requires.graph c.site_at.ensures in
    subst (λ (us : List Unit). AreBefore sites us behind c.before_unit-word.result) (sym (units_from units k (omega arith) (omega arith)))
    (c.before_unit-word.ensures sites (drop k units) behind found c.requires.memory c.loop-k.invariant)
