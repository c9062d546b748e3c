use Rattle.std.proofs.Common.{◌≡◌, ◌∙◌, length, arith}
use Rattle.code_blocks.proofs.CountLemmas.{leaders_counted}
use Rattle.code_blocks.proofs.building.count_blocks.Goals as goal

pub returns : goal.returns
returns c =
    let all = c.args.leaders.now.all in
    let same : c.len.result ≡ length all.items = omega (arith, c.len.ensures, all.ok.0) in
    same ∙ leaders_counted c.args.view.now c.args.leaders.now c.requires.read c.requires.leaders
