use Rattle.std.proofs.Common.{◌∙◌, ◌<◌, length, arith}
use Rattle.std.proofs.lemmas.List.{get_or_default}
use Rattle.code_blocks.specs.Numbers.{starts_of}
use Rattle.profile_runner.proofs.FindLemmas.{block_found}
use Rattle.compare_runner.proofs.RegionLemmas.{region_there}
use Rattle.compare_runner.proofs.stepping.region_behind.Goals as goal

pub returns-in-Some : goal.returns-in-Some
returns-in-Some c =
    let code = c.args.of.now.code.now in
    let block = c.in-Some.block in
    let found = block_found code c.args.at block c.requires.ascending c.in-Some.ensures.0 c.in-Some.ensures.1 in
    let inside : block < length c.args.of.now.regions.now.of_block.items = omega (arith, c.in-Some.ensures, c.requires.regions) in
    let region = c.index.ensures ∙ get_or_default c.args.of.now.regions.now.of_block.items block c.index.result.now 0 inside in
    region_there (starts_of code) c.args.of.now.regions.now.of_block.items c.args.from c.args.at block c.index.result.now c.entered.result found.0 found.1 region c.entered.ensures
