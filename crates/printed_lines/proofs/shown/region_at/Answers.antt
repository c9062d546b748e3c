use Rattle.std.proofs.Common.{◌<◌, length, arith}
use Rattle.printed_lines.proofs.ShowingLines.{region_found}
use Rattle.printed_lines.proofs.shown.region_at.Goals as goal

pub returns-in-Some : goal.returns-in-Some
returns-in-Some c =
    let found = c.in-Some.ensures in
    let regions = c.args.regions.now.of_block.items in
    let inside : c.in-Some.block < length regions = omega (arith, found.0, c.requires.regions) in
    region_found c.args.code.now regions c.args.address c.in-Some.block c.index.result.now c.requires.ascending found.0 found.1 inside c.index.ensures
