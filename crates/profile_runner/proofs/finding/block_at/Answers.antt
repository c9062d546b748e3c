use Rattle.profile_runner.proofs.FindLemmas.{block_found}
use Rattle.profile_runner.proofs.finding.block_at.Goals as goal

pub returns-in-Some : goal.returns-in-Some
returns-in-Some c =
    let found = c.in-Some.ensures in
    block_found c.args.code.now c.args.address c.in-Some.block c.requires found.0 found.1
