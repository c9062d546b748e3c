-- The mix of what the runs state is what they state together.
use Rattle.std.proofs.Common.{◌≡◌, ◌∙◌, ℕ, zero, suc, ◌+◌, ◌-◌, ◌*◌, ◌<◌, ◌≤◌, Bool, true, false, if◌then◌else◌, ℤ, pos, ◌+ℤ◌, ◌-ℤ◌, ◌*ℤ◌, List, [], ◌∷◌, ◌++◌, length, map, slice_index_or, Option, Some, None, refl, sym, ap, subst, arith}
use Rattle.std.specs.List.{All, sum_by}
use Rattle.std.proofs.Math.IntN.{zero-*ℤ, suc_ℤ-*ℤ}
use Rattle.std.proofs.lemmas.Int.{ints}
use Rattle.std.proofs.lemmas.List.{get_or-map, length-map}
use Rattle.std.proofs.lemmas.List.Elements.{All-nil, All-cons, All-head, All-tail, All-map}
use Rattle.std.proofs.lemmas.List.Sums.{sum_by-cons}
use Rattle.rv32im.specs.Table.{OneInstruction}
use Rattle.placement_programme.specs.declared.variables.VarName.{VarName}
use Rattle.placement_programme.specs.Plain.{PlainFullVar, PlainFullSide, PlainFull}
use Rattle.placement_programme.specs.Rows.{Layout, Candidate, name_of, capacities, weights}
use Rattle.profile_runner.specs.Transition.{Transition}
use Rattle.block_splitter.specs.declared.piece.Piece.{Piece}
use Rattle.energy_model.specs.Energy.{Scene, nothing_taken, steps_energy, side_energy}
use Rattle.energy_model.specs.Scenes.{scene_of}
use Rattle.energy_model.specs.Together.{taken}
use Rattle.energy_model.proofs.SceneLemmas.{Follows, follows}
use Rattle.energy_model.proofs.OverlayLemmas.{overlay_costs}
use Rattle.placement_candidates.specs.Selected.{no_var, var_in, selected}
use Rattle.placement_candidates.specs.Overlaid.{static_candidates, overlay_candidates, overlay_layout, has_on_side, overlay_var, on_side, whole_full}
use Rattle.placement_candidates.proofs.CandidateLemmas.{off_var, off_are}
use Rattle.placement_candidates.specs.Parts.{PlainPart, SidePart, off_sides, on_part, on_sides, gain_of, mixed_fixed, mixed_gain, AreAlike, IsMixedSide, IsMixedOn, IsMix, IsSmallPart, AreAlikeOn, AreOfOneProgram, CanMix}
use Rattle.placement_candidates.specs.Mixed.{WeightedRun, mixed_side_energy, mixed_steps, saved_alone, mixed_var, mixed_side, mixed_full}
use Rattle.placement_candidates.specs.MixLaws.{IsOneOf, part_of_run, MixIsOfTheRuns, one_run, OneRunIsAlone}

-- ---- sums by weight

times_sum : (w v f s e : ℕ) → w ≡ v → f + s ≡ e → w * f + v * s ≡ v * e
times_sum w v f s e same is =
    let both : v * f + v * s ≡ v * (f + s) = grind arith in
    ap (λ n. n * f + v * s) same ∙ (both ∙ ap (λ n. v * n) is)

times_difference : (v a b : ℕ) → pos v *ℤ (pos a -ℤ pos b) ≡ pos (v * a) -ℤ pos (v * b)
times_difference zero a b =
    let left : 0 * a ≡ 0 = omega arith in
    let right : 0 * b ≡ 0 = omega arith in
    none (pos 0 *ℤ (pos a -ℤ pos b)) (0 * a) (0 * b) (zero-*ℤ (pos a -ℤ pos b)) left right
  where
    none : (z : ℤ) (m n : ℕ) → z ≡ pos 0 → m ≡ 0 → n ≡ 0 → z ≡ pos m -ℤ pos n
    none z m n is left right = omega (arith, ints, is, left, right)
times_difference (suc v) a b =
    let earlier = times_difference v a b in
    let more = suc_ℤ-*ℤ (pos v) (pos a -ℤ pos b) in
    let left : suc v * a ≡ v * a + a = grind arith in
    let right : suc v * b ≡ v * b + b = grind arith in
    step (pos (suc v) *ℤ (pos a -ℤ pos b)) (pos v *ℤ (pos a -ℤ pos b)) (v * a) (v * b) (suc v * a) (suc v * b) a b more earlier left right
  where
    step : (all rest : ℤ) (x y more_x more_y a b : ℕ) → all ≡ rest +ℤ (pos a -ℤ pos b) → rest ≡ pos x -ℤ pos y → more_x ≡ x + a → more_y ≡ y + b → all ≡ pos more_x -ℤ pos more_y
    step all rest x y more_x more_y a b first second third fourth = omega (arith, ints, first, second, third, fourth)

weighed : (w v a b rest_a rest_b : ℕ) (gain rest : ℤ) → w ≡ v → gain ≡ pos a -ℤ pos b → rest ≡ pos rest_a -ℤ pos rest_b → pos w *ℤ gain +ℤ rest ≡ pos (v * a + rest_a) -ℤ pos (v * b + rest_b)
weighed w v a b rest_a rest_b gain rest same is others =
    let here = ap (λ n. pos n *ℤ gain) same ∙ (ap (λ (z : ℤ). pos v *ℤ z) is ∙ times_difference v a b) in
    shape (pos w *ℤ gain) rest (v * a) (v * b) rest_a rest_b here others
  where
    shape : (x y : ℤ) (a b c d : ℕ) → x ≡ pos a -ℤ pos b → y ≡ pos c -ℤ pos d → x +ℤ y ≡ pos (a + c) -ℤ pos (b + d)
    shape x y a b c d first second = omega (arith, ints, first, second)

-- ---- lists of variables

-- two candidates' fields are the same where they are so of each
pub same_fields : {B : Type 0} (f g : Candidate → PlainFullVar) (field : PlainFullVar → B) (cs : List Candidate) → ((c : Candidate) → field (f c) ≡ field (g c)) → map field (map f cs) ≡ map field (map g cs)
same_fields {B} f g field [] same = refl
same_fields {B} f g field (c ∷ cs) same =
    let here = same c in
    let rest = same_fields f g field cs same in
    λ i. here i ∷ rest i

head_same : {B : Type 0} (x y : B) (xs ys : List B) → x ∷ xs ≡ y ∷ ys → x ≡ y
head_same {B} x y xs ys same = ap (λ (zs : List B). slice_index_or zs 0 x) same

tail_same : {B : Type 0} (x y : B) (xs ys : List B) → x ∷ xs ≡ y ∷ ys → xs ≡ ys
tail_same {B} x y xs ys same = ap (λ (zs : List B). rest_of zs) same
  where
    rest_of : List B → List B
    rest_of [] = []
    rest_of (z ∷ zs) = zs

same_vars : (us vs : List PlainFullVar) → map (λ v. v.name) us ≡ map (λ v. v.name) vs → map (λ v. v.weights) us ≡ map (λ v. v.weights) vs → ((k : ℕ) → k < length us → (var_in us k).gain ≡ (var_in vs k).gain) → us ≡ vs
same_vars [] [] names weighs gains = refl
same_vars [] (v ∷ vs) names weighs gains = cc
same_vars (u ∷ us) [] names weighs gains = cc
same_vars (u ∷ us) (v ∷ vs) names weighs gains =
    let name = head_same u.name v.name (map (λ x. x.name) us) (map (λ x. x.name) vs) names in
    let weigh = head_same u.weights v.weights (map (λ x. x.weights) us) (map (λ x. x.weights) vs) weighs in
    let gain = gains 0 (omega arith) in
    let rest = same_vars us vs (tail_same u.name v.name (map (λ x. x.name) us) (map (λ x. x.name) vs) names)
    (tail_same u.weights v.weights (map (λ x. x.weights) us) (map (λ x. x.weights) vs) weighs) (λ k below. gains (suc k) (omega (arith, below))) in
    λ i. record { name = name i; gain = gain i; weights = weigh i } ∷ rest i

-- ---- a side of each run

-- what a run states of a candidate
abbrev pub run_var : Bool → Scene → Layout → List Transition → Candidate → PlainFullVar
run_var on w l ms c =
    record {
      name = name_of c;
      gain = pos (side_energy w (taken on []) ms) -ℤ pos (side_energy w (taken on (name_of c ∷ [])) ms);
      weights = weights on l c;
    }

module _ (on : Bool) (w : Scene) (l : Layout) (cs : List Candidate) where
  pub record IsSideOfRun (ms : List Transition) (side : PlainFullSide) : Type 0 where
    pub fixed : side.fixed + steps_energy w nothing_taken ms ≡ side_energy w (taken on []) ms
    pub rows : side.rows ≡ capacities on l
    pub vars : side.vars ≡ map (run_var on w l ms) cs

  abbrev pub AreOfRuns : List WeightedRun → List SidePart → Type 0
  AreOfRuns [] [] = Unit {0}
  AreOfRuns [] (s ∷ ss) = ⊥
  AreOfRuns (r ∷ rs) [] = ⊥
  AreOfRuns (r ∷ rs) (s ∷ ss) = (s.weight ≡ r.weight) × IsSideOfRun r.transitions s.side × AreOfRuns rs ss

  fixed_is : (runs : List WeightedRun) (sides : List SidePart) → AreOfRuns runs sides → mixed_fixed sides + mixed_steps w nothing_taken runs ≡ mixed_side_energy w (taken on []) runs
  fixed_is [] [] are = refl
  fixed_is [] (s ∷ ss) are = absurd are
  fixed_is (r ∷ rs) [] are = absurd are
  fixed_is (r ∷ rs) (s ∷ ss) are =
      let rest = fixed_is rs ss are.2 in
      let here = times_sum s.weight r.weight s.side.fixed (steps_energy w nothing_taken r.transitions) (side_energy w (taken on []) r.transitions) are.0 are.1.fixed in
      let fixed = sum_by-cons (λ (x : SidePart). x.weight * x.side.fixed) s ss in
      let steps = sum_by-cons (λ (x : WeightedRun). x.weight * steps_energy w nothing_taken x.transitions) r rs in
      let energy = sum_by-cons (λ (x : WeightedRun). x.weight * side_energy w (taken on []) x.transitions) r rs in
      omega (arith, rest, here, fixed, steps, energy)

  gain_is : (runs : List WeightedRun) (sides : List SidePart) (k : ℕ) (d : Candidate) → AreOfRuns runs sides → k < length cs → mixed_gain sides k ≡ saved_alone on w runs (name_of (slice_index_or cs k d))
  gain_is [] [] k d are below = nothing_saved
    where
      nothing_saved : pos 0 ≡ pos 0 -ℤ pos 0
      nothing_saved = omega (arith, ints)
  gain_is [] (s ∷ ss) k d are below = absurd are
  gain_is (r ∷ rs) [] k d are below = absurd are
  gain_is (r ∷ rs) (s ∷ ss) k d are below =
      let name = name_of (slice_index_or cs k d) in
      let none = side_energy w (taken on []) r.transitions in
      let alone = side_energy w (taken on (name ∷ [])) r.transitions in
      let is : gain_of s.side k ≡ pos none -ℤ pos alone =
      ap (λ (vs : List PlainFullVar). (var_in vs k).gain) are.1.vars ∙ ap (λ (v : PlainFullVar). v.gain) (get_or-map (run_var on w l r.transitions) cs k d no_var below) in
      let rest = gain_is rs ss k d are.2 below in
      let first = sum_by-cons (λ (x : WeightedRun). x.weight * side_energy w (taken on []) x.transitions) r rs in
      let second = sum_by-cons (λ (x : WeightedRun). x.weight * side_energy w (taken on (name ∷ [])) x.transitions) r rs in
      weighed s.weight r.weight none alone (mixed_side_energy w (taken on []) rs) (mixed_side_energy w (taken on (name ∷ [])) rs) (gain_of s.side k) (mixed_gain ss k) are.0 is rest
      ∙ (λ i. pos (sym first i) -ℤ pos (sym second i))

  some_candidate : (ds : List Candidate) (k : ℕ) → k < length ds → Candidate
  some_candidate [] k below = absurd (omega (arith, below))
  some_candidate (d ∷ ds) k below = d

  fixed_shape : (n s e : ℕ) → n + s ≡ e → n ≡ e - s
  fixed_shape n s e is = omega (arith, is)

  pub side_of_runs : (runs : List WeightedRun) (sides : List SidePart) (mixed : PlainFullSide) → 1 ≤ length runs → AreOfRuns runs sides → IsMixedSide sides mixed → mixed ≡ mixed_side on w l cs runs
  side_of_runs [] sides mixed some are is = absurd (omega (arith, some))
  side_of_runs (r ∷ rs) [] mixed some are is = absurd are
  side_of_runs (r ∷ rs) (s ∷ ss) mixed some are is =
      let runs : List WeightedRun = r ∷ rs in
      let alike = All-head (λ (x : SidePart). AreAlike x.side mixed) s ss is.alike in
      let fixed = is.fixed ∙ fixed_shape (mixed_fixed (s ∷ ss)) (mixed_steps w nothing_taken runs) (mixed_side_energy w (taken on []) runs) (fixed_is runs (s ∷ ss) are) in
      let rows = sym alike.rows ∙ are.1.rows in
      let names = sym alike.names ∙ (ap (λ (vs : List PlainFullVar). map (λ v. v.name) vs) are.1.vars ∙ same_fields (run_var on w l r.transitions) (mixed_var on w l runs) (λ v. v.name) cs (λ c. refl)) in
      let weighs = sym alike.weights ∙ (ap (λ (vs : List PlainFullVar). map (λ v. v.weights) vs) are.1.vars ∙ same_fields (run_var on w l r.transitions) (mixed_var on w l runs) (λ v. v.weights) cs (λ c. refl)) in
      let count = counted mixed.vars (map (mixed_var on w l runs) cs) names in
      let mapped = length-map cs (mixed_var on w l runs) in
      let vars = same_vars mixed.vars (map (mixed_var on w l runs) cs) names weighs (λ k below.
      let inside : k < length cs = omega (arith, count, mapped, below) in
      let d = some_candidate cs k inside in
      is.gains k below ∙ (gain_is runs (s ∷ ss) k d are inside ∙ sym (ap (λ (v : PlainFullVar). v.gain) (get_or-map (mixed_var on w l runs) cs k d no_var inside)))) in
      λ i. record { fixed = fixed i; rows = rows i; vars = vars i }
    where
      counted : (us vs : List PlainFullVar) → map (λ v. v.name) us ≡ map (λ v. v.name) vs → length us ≡ length vs
      counted us vs same =
          let left = length-map us (λ v. v.name) in
          let right = length-map vs (λ v. v.name) in
          let lengths = ap (λ (ns : List VarName). length ns) same in
          omega (arith, left, right, lengths)

-- ---- what the runs state

module _ (w : Scene) (l : Layout) (objects : List ℕ) (pieces : List Piece) where
  abbrev part : WeightedRun → PlainPart
  part r = part_of_run w l objects pieces r

  abbrev statics : List Candidate
  statics = static_candidates w pieces

  abbrev all : List Candidate
  all = static_candidates w pieces ++ overlay_candidates w objects pieces

  abbrev there : Bool
  there = has_on_side w l objects pieces

  abbrev AllFollow : List WeightedRun → Type 0
  AllFollow runs = All (λ r. Follows w r.transitions) runs

  base_is : (runs : List WeightedRun) → sum_by (λ p. p.weight * p.full.base) (map part runs) ≡ mixed_steps w nothing_taken runs
  base_is [] = refl
  base_is (r ∷ rs) =
      let rest = base_is rs in
      let left = sum_by-cons (λ (p : PlainPart). p.weight * p.full.base) (part r) (map part rs) in
      let right = sum_by-cons (λ (x : WeightedRun). x.weight * steps_energy w nothing_taken x.transitions) r rs in
      omega (arith, rest, left, right)

  off_of_runs : (runs : List WeightedRun) → AreOfRuns false w l statics runs (off_sides (map part runs))
  off_of_runs [] = tt
  off_of_runs (r ∷ rs) = (refl, record { fixed = refl; rows = refl; vars = off_are w l r.transitions pieces }, off_of_runs rs)

  -- the sides with overlay, where there are such sides or not
  abbrev on_sides_by : Bool → List WeightedRun → List SidePart
  on_sides_by b [] = []
  on_sides_by b (r ∷ rs) = on_part r.weight (if b then Some (on_side w l objects pieces r.transitions) else None) ++ on_sides_by b rs

  on_by : (runs : List WeightedRun) → on_sides (map part runs) ≡ on_sides_by there runs
  on_by [] = refl
  on_by (r ∷ rs) = ap (λ (ss : List SidePart). on_part r.weight (whole_full w l objects pieces r.transitions).on ++ ss) (on_by rs)

  none_on : (runs : List WeightedRun) → on_sides_by false runs ≡ []
  none_on [] = refl
  none_on (r ∷ rs) = none_on rs

  back_again : (side steps : ℕ) → steps ≤ side → side - steps + steps ≡ side
  back_again side steps le = omega (arith, le)

  on_of_runs : (runs : List WeightedRun) → AllFollow runs → AreOfRuns true w l all runs (on_sides_by true runs)
  on_of_runs [] follow = tt
  on_of_runs (r ∷ rs) follow =
      let Follow = λ (x : WeightedRun). Follows w x.transitions in
      let more = overlay_costs w r.transitions (All-head Follow r rs follow) in (
        refl,
        record { fixed = back_again (side_energy w (taken true []) r.transitions) (steps_energy w nothing_taken r.transitions) more; rows = refl; vars = refl },
        on_of_runs rs (All-tail Follow r rs follow),
      )

  some_is_none : (side : PlainFullSide) → Some side ≡ None → ⊥
  some_is_none side same = cc

  on_is : (runs : List WeightedRun) (b : Bool) (on : Option PlainFullSide) → there ≡ b → 1 ≤ length runs → AllFollow runs → IsMixedOn (map part runs) on → on ≡ (if b then Some (mixed_side true w l all runs) else None)
  on_is [] b on is some follow mixed = absurd (omega (arith, some))
  on_is (r ∷ rs) true None is some follow mixed =
      let first = All-head (λ (p : PlainPart). p.full.on ≡ None) (part r) (map part rs) mixed in
      absurd (some_is_none (on_side w l objects pieces r.transitions) (subst (λ (x : Bool). (if x then Some (on_side w l objects pieces r.transitions) else None) ≡ None) is first))
  on_is (r ∷ rs) true (Some side) is some follow mixed =
      let sides = on_by (r ∷ rs) ∙ ap (λ (x : Bool). on_sides_by x (r ∷ rs)) is in
      ap (λ (s : PlainFullSide). Some s)
      (side_of_runs true w l all (r ∷ rs) (on_sides_by true (r ∷ rs)) side some (on_of_runs (r ∷ rs) follow) (subst (λ (ss : List SidePart). IsMixedSide ss side) sides mixed.1))
  on_is (r ∷ rs) false None is some follow mixed = refl
  on_is (r ∷ rs) false (Some side) is some follow mixed =
      let sides = on_by (r ∷ rs) ∙ (ap (λ (x : Bool). on_sides_by x (r ∷ rs)) is ∙ none_on (r ∷ rs)) in
      let count = ap (λ (ss : List SidePart). length ss) sides in
      let all_count = mixed.0 in
      absurd (omega (arith, count, all_count))

  pub full_of_runs : (runs : List WeightedRun) (mixed : PlainFull) → 1 ≤ length runs → AllFollow runs → IsMix (map part runs) mixed → mixed ≡ mixed_full w l objects pieces runs
  full_of_runs runs mixed some follow is =
      let base = is.base ∙ base_is runs in
      let off = side_of_runs false w l statics runs (off_sides (map part runs)) mixed.off some (off_of_runs runs) is.off in
      let on = on_is runs there mixed.on refl some follow is.on in
      λ i. record { base = base i; off = off i; on = on i }

-- ---- what the runs state can be mixed

module _ (w : Scene) (l : Layout) (objects : List ℕ) (pieces : List Piece) where
  alike_off : (one other : List Transition) → AreAlike (whole_full w l objects pieces one).off (whole_full w l objects pieces other).off
  alike_off one other =
      let cs = static_candidates w pieces in
      record {
        rows = refl;
        names = ap (λ (vs : List PlainFullVar). map (λ v. v.name) vs) (off_are w l one pieces)
            ∙ (same_fields (off_var w l one) (off_var w l other) (λ v. v.name) cs (λ d. refl) ∙ sym (ap (λ (vs : List PlainFullVar). map (λ v. v.name) vs) (off_are w l other pieces)));
        weights = ap (λ (vs : List PlainFullVar). map (λ v. v.weights) vs) (off_are w l one pieces)
            ∙ (same_fields (off_var w l one) (off_var w l other) (λ v. v.weights) cs (λ d. refl) ∙ sym (ap (λ (vs : List PlainFullVar). map (λ v. v.weights) vs) (off_are w l other pieces)));
      }

  alike_on : (b : Bool) (one other : List Transition) → AreAlikeOn (if b then Some (on_side w l objects pieces one) else None) (if b then Some (on_side w l objects pieces other) else None)
  alike_on false one other = tt
  alike_on true one other =
      let cs = static_candidates w pieces ++ overlay_candidates w objects pieces in
      record {
        rows = refl;
        names = same_fields (overlay_var w l one) (overlay_var w l other) (λ v. v.name) cs (λ d. refl);
        weights = same_fields (overlay_var w l one) (overlay_var w l other) (λ v. v.weights) cs (λ d. refl);
      }

  pub runs_can_mix : (runs : List WeightedRun) → 1 ≤ length runs → length runs ≤ 16 → All IsSmallPart (map (part_of_run w l objects pieces) runs) → CanMix (map (part_of_run w l objects pieces) runs)
  runs_can_mix runs some few small =
      let parts = map (part_of_run w l objects pieces) runs in
      let count = length-map runs (part_of_run w l objects pieces) in
      record {
        some = omega (arith, some, count);
        few = omega (arith, few, count);
        small = small;
        alike = All-map (λ (p : PlainPart). All (AreOfOneProgram p) parts) (part_of_run w l objects pieces) runs (λ k d below.
            All-map (AreOfOneProgram (part_of_run w l objects pieces (slice_index_or runs k d))) (part_of_run w l objects pieces) runs (λ j e inside.
            record {
              off = alike_off (slice_index_or runs k d).transitions (slice_index_or runs j e).transitions;
              on = alike_on (has_on_side w l objects pieces) (slice_index_or runs k d).transitions (slice_index_or runs j e).transitions;
            }));
      }

-- ---- laws

pub mixed_of_the_runs : OneInstruction → MixIsOfTheRuns
mixed_of_the_runs one view board g c t objects pieces runs mixed given some is =
    full_of_runs (scene_of g c t board) (overlay_layout g c t board) objects pieces runs mixed some
    (λ k d below. let (q, same) = given k d below in follows one view board g c t q (slice_index_or runs k d).transitions same) is

-- ---- one run

itself : (s : PlainFullSide) → AreAlike s s
itself s = record { rows = refl; names = refl; weights = refl }

one_gain : (z : ℤ) → z ≡ pos 1 *ℤ z +ℤ pos 0
one_gain z = omega (arith, ints)

one_side : (s : PlainFullSide) → IsMixedSide (record { weight = 1; side = s } ∷ []) s
one_side s =
    let sum = sum_by-cons (λ (x : SidePart). x.weight * x.side.fixed) (record { weight = 1; side = s }) [] in
    record {
      alike = All-cons (λ (x : SidePart). AreAlike x.side s) (record { weight = 1; side = s }) [] (itself s) (All-nil (λ (x : SidePart). AreAlike x.side s));
      fixed = omega (arith, sum);
      gains = λ k below. one_gain (gain_of s k);
    }

one_on : (base : ℕ) (off : PlainFullSide) (on : Option PlainFullSide) → IsMixedOn (record { weight = 1; full = record { base = base; off = off; on = on } } ∷ []) on
one_on base off None =
    All-cons (λ (p : PlainPart). p.full.on ≡ None) (record { weight = 1; full = record { base = base; off = off; on = None } }) [] refl (All-nil (λ (p : PlainPart). p.full.on ≡ None))
one_on base off (Some side) = (refl, one_side side)

one_mix : (f : PlainFull) → IsMix (record { weight = 1; full = f } ∷ []) f
one_mix f =
    let sum = sum_by-cons (λ (p : PlainPart). p.weight * p.full.base) (record { weight = 1; full = f }) [] in
    record { base = omega (arith, sum); off = one_side f.off; on = one_on f.base f.off f.on }

pub run_is_alone : OneInstruction → OneRunIsAlone
run_is_alone one view board g c t objects pieces transitions given =
    let w = scene_of g c t board in
    let l = overlay_layout g c t board in
    let whole = whole_full w l objects pieces transitions in
    let runs = one_run transitions in
    let each = All-cons (IsOneOf view board g c t) (record { weight = 1; transitions = transitions }) [] given (All-nil (IsOneOf view board g c t)) in
    ap selected (sym (mixed_of_the_runs one view board g c t objects pieces runs whole each (omega arith) (one_mix whole)))
