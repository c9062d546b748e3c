-- What items save together with overlay is what each saves alone.
use Rattle.std.proofs.Common.{◌≡◌, ℕ, ◌+◌, ℤ, pos, ◌+ℤ◌, ◌-ℤ◌, true, List, [], ◌∷◌, arith}
use Rattle.std.proofs.lemmas.Int.{ints}
use Rattle.rv32im.specs.Table.{OneInstruction}
use Rattle.placement_programme.specs.declared.variables.VarName.{VarName}
use Rattle.profile_runner.specs.Transition.{Transition}
use Rattle.energy_model.specs.Energy.{Scene, side_energy}
use Rattle.energy_model.specs.Scenes.{scene_of}
use Rattle.energy_model.specs.Together.{taken}
use Rattle.energy_model.proofs.SceneLemmas.{Follows, follows}
use Rattle.energy_model.proofs.TogetherLemmas.{saves_side}
use Rattle.placement_candidates.specs.Overlaid.{overlay_gain}
use Rattle.placement_candidates.specs.Adding.{gains_by}
use Rattle.placement_candidates.specs.Whole.{AreApartAll, OverlayAddsUp}

pub one_more : (all rest alone none : ℕ) (gains : ℤ) → all + none ≡ rest + alone → pos rest ≡ pos none -ℤ gains → pos all ≡ pos none -ℤ ((pos none -ℤ pos alone) +ℤ gains)
one_more all rest alone none gains saves earlier = omega (arith, ints, saves, earlier)

pub no_more : (none : ℕ) → pos none ≡ pos none -ℤ pos 0
no_more none = omega (arith, ints)

pub overlay_sum : (w : Scene) (ms : List Transition) (names : List VarName) → Follows w ms → AreApartAll names → pos (side_energy w (taken true names) ms) ≡ pos (side_energy w (taken true []) ms) -ℤ gains_by (overlay_gain w ms) names
overlay_sum w ms [] all apart = no_more (side_energy w (taken true []) ms)
overlay_sum w ms (name ∷ names) all apart =
    one_more (side_energy w (taken true (name ∷ names)) ms) (side_energy w (taken true names) ms) (side_energy w (taken true (name ∷ [])) ms) (side_energy w (taken true []) ms)
    (gains_by (overlay_gain w ms) names) (saves_side w true name names ms all apart.0) (overlay_sum w ms names all apart.1)

pub overlay_adds_up : OneInstruction → OverlayAddsUp
overlay_adds_up one view board g c t q ms names given apart =
    overlay_sum (scene_of g c t board) ms names (follows one view board g c t q ms given) apart
