use Rattle.std.proofs.Common.{length, arith}
use Rattle.placement_programme.specs.Programme.{weight_at}
use Rattle.placement_programme.proofs.TakeLemmas.{more_taken}
use Rattle.placement_programme.proofs.laws.fewer_fit.Goals as goal

pub returns : goal.returns
returns c =
    λ side some more fit few among. record {
      numbers = few;
      rows = λ row inside.
          let less = more_taken (weight_at side.vars row) (length side.vars) some more few fit.numbers among in
          let held = fit.rows row inside in
          omega (arith, less, held);
    }
