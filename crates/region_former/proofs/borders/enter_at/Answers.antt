use Rattle.std.proofs.Common.{ap}
use Rattle.region_former.specs.Borders.{region_in}
use Rattle.code_blocks.proofs.StartLemmas.{is_number}
use Rattle.region_former.proofs.BlockLemmas.{entered_there, entered_not}
use Rattle.region_former.proofs.borders.enter_at.Goals as goal

pub returns-then-regions-block-clause-entered : goal.returns-then-regions-block-clause-entered
returns-then-regions-block-clause-entered c = λ b below.
    let code = c.args.code.now in
    let regions = c.args.regions.now in
    entered_there c.args.entered.now c.in-Some.block b (region_in regions c.args.a) (region_in regions c.in-Some.block) (region_in regions b) _
    (rw c.requires.len c.in-Some.ensures.0)
    (is_number code c.args.address c.in-Some.block b c.requires.orderly.ascending c.in-Some.ensures below)
    (ap (region_in regions)) c.if-regions-block.true

pub returns-else-regions-block-clause-entered : goal.returns-else-regions-block-clause-entered
returns-else-regions-block-clause-entered c = λ b below.
    let code = c.args.code.now in
    let regions = c.args.regions.now in
    entered_not c.args.entered.now c.in-Some.block b (region_in regions c.args.a) (region_in regions c.in-Some.block) (region_in regions b) _
    (is_number code c.args.address c.in-Some.block b c.requires.orderly.ascending c.in-Some.ensures below)
    (ap (region_in regions)) c.if-regions-block.false
