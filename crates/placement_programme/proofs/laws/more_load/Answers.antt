use Rattle.std.proofs.Common.{length}
use Rattle.placement_programme.specs.Programme.{weight_at}
use Rattle.placement_programme.proofs.TakeLemmas.{more_taken}
use Rattle.placement_programme.proofs.laws.more_load.Goals as goal

pub returns : goal.returns
returns c =
    λ side some more row few all among. more_taken (weight_at side.vars row) (length side.vars) some more few all among
