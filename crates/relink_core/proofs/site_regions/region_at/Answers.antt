use Rattle.std.proofs.Common.{◌≢◌, ◌∙◌, ◌-◌, ◌≤◌, length, refl, sym, subst, arith}
use Rattle.result_laws.specs.PlacedView.{HasRegion}
use Rattle.relink_core.proofs.UnitWords.{none_before, found_there, none_there}
use Rattle.relink_core.proofs.site_regions.region_at.Goals as goal

pub returns-then-count-eq0 : goal.returns-then-count-eq0
returns-then-count-eq0 c =
    let (v, p, stand) = c.requires.stand in
    let count = c.blocks_up_to-count in
    none_before v p c.args.code.now stand c.requires.ascending c.args.address count.result c.args.regions.now.of_block.now count.ensures.point c.if-count-eq0.true

pub returns-then-has_unit : goal.returns-then-has_unit
returns-then-has_unit c =
    let (v, p, stand) = c.requires.stand in
    let code = c.args.code.now in
    let count = c.blocks_up_to-count in
    let bound : count.result ≤ length code.blocks.items = count.ensures.bound in
    let some : count.result ≢ 0 = c.if-count-eq0.false in
    let regions = c.args.regions.now.of_block.now in
    subst (HasRegion code regions c.args.address) (sym c.region_at.ensures)
    (found_there v p code stand c.requires.ascending c.args.address count.result regions count.ensures.point (count.result - 1) _ c.index-block.result.now
    (omega (arith, some)) (omega (arith, some, bound)) c.index-block.ensures (sym c.has_unit.ensures ∙ c.if-has_unit.true))

pub returns-else-has_unit : goal.returns-else-has_unit
returns-else-has_unit c =
    let (v, p, stand) = c.requires.stand in
    let code = c.args.code.now in
    let count = c.blocks_up_to-count in
    let bound : count.result ≤ length code.blocks.items = count.ensures.bound in
    let some : count.result ≢ 0 = c.if-count-eq0.false in
    none_there v p code stand c.requires.ascending c.args.address count.result c.args.regions.now.of_block.now count.ensures.point (count.result - 1) _ c.index-block.result.now
    (omega (arith, some)) (omega (arith, some, bound)) c.index-block.ensures refl (sym c.has_unit.ensures ∙ c.if-has_unit.false)
