use Rattle.std.proofs.Common.{◌≡◌, length, arith}
use Rattle.dataflow.proofs.UnitLemmas.{kept_passes}
use Rattle.dataflow.proofs.summaries.summary_of.Goals as goal

pub returns-clause-kept : goal.returns-clause-kept
returns-clause-kept c x low =
    let units = c.args.block.now.units in
    let told = rw c.deref.ensures.value at (c.over_units-all.ensures.kept x low) in
    let size : c.len.result ≡ length units.items = omega (arith, c.len.ensures, units.ok.0) in
    kept_passes units.items c.over_units-all.result.kept c.kept_over.result c.len.result x size c.kept_over.ensures.none c.kept_over.ensures.some told
