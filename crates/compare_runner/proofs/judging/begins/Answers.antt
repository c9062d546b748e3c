use Rattle.std.proofs.Common.{arith}
use Rattle.std.proofs.lemmas.Bool.Decides.{nat_tests}
use Rattle.compare_runner.proofs.DifferenceLemmas.{begins_with, differs_behind}
use Rattle.compare_runner.proofs.judging.begins.Goals as goal

pub returns : goal.returns
returns c =
    let xs = c.args.first.now in
    let ys = c.args.bytes.now in (
      λ yes. begins_with xs ys c.args.at c.requires (grind (arith, nat_tests, yes)),
      λ begins. let all = differs_behind xs ys begins.0 c.args.at c.requires begins.1 in grind (arith, nat_tests, all),
    )
