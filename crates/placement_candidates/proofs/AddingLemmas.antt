-- What static items save together is what each saves alone.
use Rattle.std.proofs.Common.{◌≡◌, ◌∙◌, ℕ, ◌+◌, ℤ, pos, ◌+ℤ◌, ◌-ℤ◌, List, [], ◌∷◌, arith}
use Rattle.std.proofs.lemmas.Int.{ints}
use Rattle.std.proofs.lemmas.List.Sums.{sum_by-cons}
use Rattle.rv32im.specs.Table.{OneInstruction}
use Rattle.placement_programme.specs.declared.variables.VarName.{VarName}
use Rattle.profile_runner.specs.Transition.{Transition}
use Rattle.energy_model.specs.Energy.{Scene, steps_energy, start_job, stub_energy, side_energy, nothing_taken}
use Rattle.energy_model.specs.Scenes.{scene_of}
use Rattle.energy_model.specs.Priced.{AreApart}
use Rattle.placement_candidates.specs.Stated.{taken_alone, gain_alone}
use Rattle.placement_candidates.specs.Adding.{items_taken, gains_by, EnergyAddsUp}
use Rattle.energy_model.proofs.SceneLemmas.{Follows, follows}
use Rattle.energy_model.proofs.TakenLemmas.{slow_sum, fast_sum, itself_static, one_more}

-- the parts of an item more
pub record OneMore (all rest alone none all_stub rest_stub alone_stub none_stub slow fast job : ℕ) : Type 0 where
  pub steps : all + slow ≡ rest + fast
  pub steps_alone : alone + slow ≡ none + fast
  pub stub : all_stub ≡ job + rest_stub
  pub stub_alone : alone_stub ≡ job + none_stub

sum_more : (all rest alone none all_stub rest_stub alone_stub none_stub slow fast job : ℕ) → OneMore all rest alone none all_stub rest_stub alone_stub none_stub slow fast job → pos (all_stub + all) ≡ pos (rest_stub + rest) -ℤ (pos (none_stub + none) -ℤ pos (alone_stub + alone))
sum_more all rest alone none all_stub rest_stub alone_stub none_stub slow fast job parts =
    let steps = parts.steps in
    let steps_alone = parts.steps_alone in
    let stub = parts.stub in
    let stub_alone = parts.stub_alone in
    omega (arith, ints, steps, steps_alone, stub, stub_alone)

less_again : (x base gain gains : ℤ) → x ≡ base -ℤ gains → x -ℤ gain ≡ base -ℤ (gain +ℤ gains)
less_again x base gain gains is = omega (arith, ints, is)

none_taken : (base stub : ℕ) → pos (stub + base) ≡ pos (base + stub) -ℤ pos 0
none_taken base stub = omega (arith, ints)

pub items_sum : (w : Scene) (ms : List Transition) (names : List VarName) → Follows w ms → AreApart names → pos (side_energy w (items_taken names) ms) ≡ pos (steps_energy w nothing_taken ms + stub_energy w nothing_taken) -ℤ gains_by (gain_alone w ms) names
items_sum w ms [] all apart = none_taken (steps_energy w nothing_taken ms) (stub_energy w nothing_taken)
items_sum w ms (name ∷ names) all apart =
    let earlier = items_sum w ms names all apart.1 in
    let job = start_job w name in
    let parts = sum_more (steps_energy w (items_taken (name ∷ names)) ms) (steps_energy w (items_taken names) ms) (steps_energy w (taken_alone name) ms) (steps_energy w nothing_taken ms)
    (stub_energy w (items_taken (name ∷ names))) (stub_energy w (items_taken names)) (stub_energy w (taken_alone name)) (stub_energy w nothing_taken)
    (slow_sum w ms name) (fast_sum w ms name) job
    (record {
      steps = one_more w name names ms all apart;
      steps_alone = one_more w name [] ms all (itself_static name names apart.0, tt);
      stub = let sum = sum_by-cons (start_job w) name names in omega (arith, sum);
      stub_alone = let sum = sum_by-cons (start_job w) name [] in omega (arith, sum);
    }) in
    parts ∙ less_again (pos (side_energy w (items_taken names) ms)) (pos (steps_energy w nothing_taken ms + stub_energy w nothing_taken)) (gain_alone w ms name) (gains_by (gain_alone w ms) names) earlier

pub adds_up : OneInstruction → EnergyAddsUp
adds_up one view board g c t q ms names given apart =
    items_sum (scene_of g c t board) ms names (follows one view board g c t q ms given) apart
