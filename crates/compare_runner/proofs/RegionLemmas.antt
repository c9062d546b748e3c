-- The region that is current.
use Rattle.std.proofs.Common.{◌≡◌, ◌∙◌, ℕ, true, List, sym, ap}
use Rattle.code_blocks.specs.Early.{has}
use Rattle.profile_runner.specs.Standing.{number_of, region_of, entered}
use Rattle.compare_runner.specs.Comings.{region_behind}

-- where a block begins
pub region_there : (starts regions : List ℕ) (from at block region result : ℕ) → has starts at ≡ true → number_of starts at ≡ block → region ≡ region_of regions block → result ≡ entered from region → result ≡ region_behind starts regions from at
region_there starts regions from at block region result begins number is made =
    rw begins (made ∙ (ap (entered from) is ∙ ap (λ b. entered from (region_of regions b)) (sym number)))
