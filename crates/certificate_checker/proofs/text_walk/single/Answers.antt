use Rattle.std.proofs.Common.{arith}
use Rattle.certificate_checker.proofs.Failures.{number_here, root_fails}
use Rattle.certificate_checker.proofs.text_walk.single.Goals as goal

pub returns-else-holds : goal.returns-else-holds
returns-else-holds c s best marks t one test =
    let node = c.ranges.node.fits in
    let depth = c.ranges.depth.fits in (
      0,
      (
        0,
        (
          root_fails s best marks t (λ kept. let found = test.1 kept in let missed = c.if-holds.false in cc),
          (number_here c.args.node (omega (arith, node)), number_here c.args.depth (omega (arith, depth))),
        ),
      ),
    )
