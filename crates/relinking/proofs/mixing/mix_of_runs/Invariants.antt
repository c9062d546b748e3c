use Rattle.std.proofs.Common.{map, take, ◌≤◌}
use Rattle.placement_candidates.specs.FullViews.{plain_full}
use Rattle.relinking.specs.MixOfRuns.{plain_input, AreMixed}
use Rattle.relinking.proofs.mixing.mix_of_runs.Given as goal

abbrev pub invariant-loop-k : goal.invariant-loop-k
invariant-loop-k g l =
    (1 ≤ l.k) × AreMixed l.analysis.view l.board l.analysis.graph l.analysis.code l.analysis.regions l.analysis.pieces.items l.objects (map plain_input (take l.k l.inputs)) (plain_full l.total)
