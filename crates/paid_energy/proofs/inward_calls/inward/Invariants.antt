use Rattle.std.proofs.Common.{◌≡◌, take}
use Rattle.std.specs.List.{sum_by}
use Rattle.placement_programme.specs.Views.{plain_programme, plain_choice}
use Rattle.energy_model.specs.Scenes.{scene_of}
use Rattle.placement_candidates.specs.Whole.{taken_of as names_taken}
use Rattle.paid_energy.specs.Inward.{inward_count}
use Rattle.paid_energy.proofs.inward_calls.inward.Given as goal

-- those of the edges before
abbrev pub invariant-loop-j : goal.invariant-loop-j
invariant-loop-j l =
    l.total ≡ sum_by (inward_count (scene_of l.a.graph l.a.code l.a.regions l.board) l.a.code (names_taken (plain_programme l.p) (plain_choice l.c))) (take l.j l.profile.edges.items)
