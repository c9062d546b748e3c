-- A side of a mix is within the bounds of a side, and is the mixed side of the parts.
use Rattle.std.proofs.Common.{◌≡◌, ◌∙◌, ℕ, zero, suc, ◌+◌, ◌*◌, ◌^◌, ◌<◌, ◌≤◌, Bool, true, false, ℤ, pos, ◌+ℤ◌, ◌*ℤ◌, unsigned_abs, List, [], ◌∷◌, ◌++◌, length, map, take, slice_index_or, Option, Some, None, refl, sym, ap, subst, arith, length-append, take-suc, take_all}
use Rattle.std.specs.List.{All, sum_by}
use Rattle.std.proofs.lemmas.Int.{ints, unsigned_abs-mul}
use Rattle.std.proofs.lemmas.List.{length-map, map-append}
use Rattle.std.proofs.lemmas.List.Elements.{All-nil, All-cons, All-append, All-head, All-tail}
use Rattle.std.proofs.lemmas.List.Sums.{sum_by_push}
use Rattle.std.proofs.lemmas.Nat.{mul-le}
use Rattle.list_checks.specs.Sorted.{sum_below}
use Rattle.list_checks.proofs.SumLemmas.{sum_zero}
use Rattle.list_checks.proofs.StepLemmas.{length_built, built_at}
use Rattle.placement_programme.specs.declared.variables.VarName.{VarName}
use Rattle.placement_programme.specs.Plain.{PlainFullVar, PlainFullSide}
use Rattle.placement_programme.specs.Bounds.{AreWeights, IsWithinFullBounds}
use Rattle.energy_model.proofs.SumLemmas.{sum_two}
use Rattle.energy_model.proofs.CountsLemmas.{sum_times}
use Rattle.energy_model.proofs.DisplacedLemmas.{sum_less}
use Rattle.placement_candidates.specs.Stated.{IsSmallSide}
use Rattle.placement_candidates.specs.Selected.{no_var, var_in}
use Rattle.placement_candidates.specs.Overlaid.{IsSmallOn}
use Rattle.placement_candidates.specs.Parts.{PlainPart, SidePart, on_part, on_sides, gain_of, mixed_fixed, mixed_gain, AreAlike, IsMixedSide, IsMixedOn, IsSmallPart, AreAlikeOn, AreOfOneProgram, CanMix}
use Rattle.placement_candidates.specs.Mixing.{part_sides, sides_of, mixed_at, mixed_vars, CanMixSides}
use Rattle.placement_candidates.proofs.SumLemmas.{on_are}

-- ---- the variables of a side

module _ (sides : List SidePart) (like : List PlainFullVar) where
  pub vars_count : (n : ℕ) → length (mixed_vars sides like n) ≡ n
  vars_count n = length_built (mixed_vars sides like) (mixed_at sides like) refl (λ m. refl) n

  pub var_at : (n k : ℕ) → k < n → var_in (mixed_vars sides like n) k ≡ mixed_at sides like k
  var_at n k below = built_at (mixed_vars sides like) (mixed_at sides like) no_var refl (λ m. refl) n k below

  -- but for its gain each is as before
  fields_below : {B : Type 0} (field : PlainFullVar → B) (same : (k : ℕ) → field (mixed_at sides like k) ≡ field (var_in like k)) (n : ℕ) → n ≤ length like → map field (mixed_vars sides like n) ≡ map field (take n like)
  fields_below {B} field same zero few = refl
  fields_below {B} field same (suc n) few =
      map-append field (mixed_vars sides like n) (mixed_at sides like n ∷ [])
      ∙ (ap (λ (xs : List B). xs ++ field (mixed_at sides like n) ∷ []) (fields_below field same n (omega (arith, few)))
      ∙ (ap (λ (x : B). map field (take n like) ++ x ∷ []) (same n)
      ∙ (sym (map-append field (take n like) (var_in like n ∷ []))
      ∙ ap (λ (vs : List PlainFullVar). map field vs) (sym (take-suc like n no_var few)))))

  fields_are : {B : Type 0} (field : PlainFullVar → B) → ((k : ℕ) → field (mixed_at sides like k) ≡ field (var_in like k)) → map field (mixed_vars sides like (length like)) ≡ map field like
  fields_are {B} field same =
      fields_below field same (length like) (omega arith) ∙ ap (λ (vs : List PlainFullVar). map field vs) (take_all (length like) like (omega arith))

  pub names_are : map (λ v. v.name) (mixed_vars sides like (length like)) ≡ map (λ v. v.name) like
  names_are = fields_are (λ v. v.name) (λ k. refl)

  pub weights_are : map (λ v. v.weights) (mixed_vars sides like (length like)) ≡ map (λ v. v.weights) like
  weights_are = fields_are (λ v. v.weights) (λ k. refl)

  gains_below : (n : ℕ) → sum_by (λ v. unsigned_abs v.gain) (mixed_vars sides like n) ≡ sum_below (λ k. unsigned_abs (mixed_gain sides k)) n
  gains_below zero = refl
  gains_below (suc n) =
      let earlier = gains_below n in
      let sum = sum_by_push (λ (v : PlainFullVar). unsigned_abs v.gain) (mixed_vars sides like n) (mixed_at sides like n) in
      omega (arith, earlier, sum)

taken_gains : (vs : List PlainFullVar) (n : ℕ) → n ≤ length vs → sum_by (λ v. unsigned_abs v.gain) (take n vs) ≡ sum_below (λ k. unsigned_abs (var_in vs k).gain) n
taken_gains vs zero few = refl
taken_gains vs (suc n) few =
    let earlier = taken_gains vs n (omega (arith, few)) in
    let more = ap (λ (us : List PlainFullVar). sum_by (λ v. unsigned_abs v.gain) us) (take-suc vs n no_var few) in
    let sum = sum_by_push (λ (v : PlainFullVar). unsigned_abs v.gain) (take n vs) (var_in vs n) in
    omega (arith, earlier, more, sum)

all_gains : (vs : List PlainFullVar) → sum_below (λ k. unsigned_abs (var_in vs k).gain) (length vs) ≡ sum_by (λ v. unsigned_abs v.gain) vs
all_gains vs =
    sym (taken_gains vs (length vs) (omega arith)) ∙ ap (λ (us : List PlainFullVar). sum_by (λ v. unsigned_abs v.gain) us) (take_all (length vs) vs (omega arith))

-- ---- bounds: the sums over the variables of all parts

pub record IsFewSide (n : ℕ) (s : SidePart) : Type 0 where
  pub weight : s.weight ≤ 1000
  pub count : length s.side.vars ≡ n
  pub small : IsSmallSide s.side

term_within : (weight : ℕ) (gain rest : ℤ) → unsigned_abs (pos weight *ℤ gain +ℤ rest) ≤ unsigned_abs gain * weight + unsigned_abs rest
term_within weight gain rest =
    let product = unsigned_abs-mul (pos weight) gain in
    let times : weight * unsigned_abs gain ≡ unsigned_abs gain * weight = grind arith in
    let both = sum_within (pos weight *ℤ gain) rest in
    omega (arith, product, times, both)
  where
    sum_within : (a b : ℤ) → unsigned_abs (a +ℤ b) ≤ unsigned_abs a + unsigned_abs b
    sum_within a b = omega (arith, ints)

gains_small : (n : ℕ) (sides : List SidePart) → All (IsFewSide n) sides → sum_below (λ k. unsigned_abs (mixed_gain sides k)) n ≤ length sides * (1000 * 2 ^ 90)
gains_small n [] each =
    let none = sum_zero (λ k. unsigned_abs (mixed_gain [] k)) n (λ k below. refl) in omega (arith, none)
gains_small n (s ∷ sides) each =
    let rest = gains_small n sides (All-tail (IsFewSide n) s sides each) in
    let here = All-head (IsFewSide n) s sides each in
    let own = λ (k : ℕ). unsigned_abs (gain_of s.side k) in
    let others = λ (k : ℕ). unsigned_abs (mixed_gain sides k) in
    let terms = sum_less (λ k. unsigned_abs (mixed_gain (s ∷ sides) k)) (λ k. own k * s.weight + others k) n (λ k below. term_within s.weight (gain_of s.side k) (mixed_gain sides k)) in
    let two = sum_two (λ k. own k * s.weight) others n in
    let times = sum_times own s.weight n in
    let total : sum_below own n ≡ sum_by (λ v. unsigned_abs v.gain) s.side.vars =
    ap (λ m. sum_below own m) (sym here.count) ∙ all_gains s.side.vars in
    let small = here.small.gains in
    let product = mul-le (sum_below own n) s.weight (2 ^ 90) 1000 (omega (arith, total, small)) here.weight in
    omega (arith, rest, terms, two, times, product)

few_of_part : (on : Bool) (p : PlainPart) → length (part_sides on p) ≤ 1
few_of_part false p = omega arith
few_of_part true p = few_of_option p.weight p.full.on
  where
    few_of_option : (weight : ℕ) (side : Option PlainFullSide) → length (on_part weight side) ≤ 1
    few_of_option weight None = omega arith
    few_of_option weight (Some side) = omega arith

pub few_sides : (on : Bool) (ps : List PlainPart) → length (sides_of on ps) ≤ length ps
few_sides on [] = omega arith
few_sides on (p ∷ ps) =
    let rest = few_sides on ps in
    let here = few_of_part on p in
    let sum = length-append (part_sides on p) (sides_of on ps) in
    omega (arith, rest, here, sum)

-- what holds of the sides of each part holds of all sides
pub all_sides : (P : SidePart → Type 0) (on : Bool) (ps : List PlainPart) → All (λ p. All P (part_sides on p)) ps → All P (sides_of on ps)
all_sides P on [] each = All-nil P
all_sides P on (p ∷ ps) each =
    All-append P (part_sides on p) (sides_of on ps) (All-head (λ (q : PlainPart). All P (part_sides on q)) p ps each)
    (all_sides P on ps (All-tail (λ (q : PlainPart). All P (part_sides on q)) p ps each))

pub alike_count : (one other : PlainFullSide) → AreAlike one other → length one.vars ≡ length other.vars
alike_count one other alike =
    let left = length-map one.vars (λ v. v.name) in
    let right = length-map other.vars (λ v. v.name) in
    let same = ap (λ (ns : List VarName). length ns) alike.names in
    omega (arith, left, right, same)

few_sides_of : (on : Bool) (p : PlainPart) (like : PlainFullSide) → IsSmallPart p → All (λ s. AreAlike s.side like) (part_sides on p) → All (IsFewSide (length like.vars)) (part_sides on p)
few_sides_of false p like small alike =
    let same = All-head (λ (s : SidePart). AreAlike s.side like) (record { weight = p.weight; side = p.full.off }) [] alike in
    All-cons (IsFewSide (length like.vars)) (record { weight = p.weight; side = p.full.off }) []
    (record { weight = small.most; count = alike_count p.full.off like same; small = small.off }) (All-nil (IsFewSide (length like.vars)))
few_sides_of true p like small alike = of_option p.full.on refl alike
  where
    of_option : (side : Option PlainFullSide) → p.full.on ≡ side → All (λ s. AreAlike s.side like) (on_part p.weight side) → All (IsFewSide (length like.vars)) (on_part p.weight side)
    of_option None is each = All-nil (IsFewSide (length like.vars))
    of_option (Some side) is each =
        let same = All-head (λ (s : SidePart). AreAlike s.side like) (record { weight = p.weight; side = side }) [] each in
        All-cons (IsFewSide (length like.vars)) (record { weight = p.weight; side = side }) []
        (record { weight = small.most; count = alike_count side like same; small = subst (λ (o : Option PlainFullSide). IsSmallOn o) is small.on })
        (All-nil (IsFewSide (length like.vars)))

module _ (on : Bool) (parts : List PlainPart) (like : PlainFullSide) (can : CanMixSides on parts like) where
  abbrev sides : List SidePart
  sides = sides_of on parts

  abbrev vars : List PlainFullVar
  vars = mixed_vars sides like.vars (length like.vars)

  pub few_all : All (IsFewSide (length like.vars)) sides
  few_all =
      all_sides (IsFewSide (length like.vars)) on parts (λ k d below. few_sides_of on (slice_index_or parts k d) like (can.small k d below) (can.alike k d below))

  gains_fit : sum_by (λ v. unsigned_abs v.gain) vars < 2 ^ 104
  gains_fit =
      let places = gains_below sides like.vars (length like.vars) in
      let small = gains_small (length like.vars) sides few_all in
      let count = few_sides on parts in
      let few = can.few in
      let most = mul-le (length sides) (1000 * 2 ^ 90) 16 (1000 * 2 ^ 90) (omega (arith, count, few)) (omega arith) in
      omega (arith, places, small, most)

  weights_fit : IsWithinFullBounds like → All (λ v. AreWeights (length like.rows) v.weights) vars
  weights_fit bounds k d below =
      let count = vars_count sides like.vars (length like.vars) in
      let inside : k < length like.vars = omega (arith, count, below) in
      let is = get_or_same vars k d below ∙ var_at sides like.vars (length like.vars) k inside in
      subst (λ (v : PlainFullVar). AreWeights (length like.rows) v.weights) (sym is) (bounds.weights k no_var inside)
    where
      get_or_same : (vs : List PlainFullVar) (k : ℕ) (d : PlainFullVar) → k < length vs → slice_index_or vs k d ≡ var_in vs k
      get_or_same [] k d below = absurd (omega (arith, below))
      get_or_same (v ∷ vs) zero d below = refl
      get_or_same (v ∷ vs) (suc k) d below = get_or_same vs k d (omega (arith, below))

  pub side_within : (fixed : ℕ) → fixed < 2 ^ 104 → IsWithinFullBounds like → IsWithinFullBounds (record { fixed = fixed; rows = like.rows; vars = vars })
  side_within fixed small bounds =
      record { fixed = small; gains = gains_fit; few_rows = bounds.few_rows; capacities = bounds.capacities; weights = weights_fit bounds }

  pub side_is : (fixed : ℕ) → fixed ≡ mixed_fixed sides → IsMixedSide sides (record { fixed = fixed; rows = like.rows; vars = vars })
  side_is fixed is =
      record {
        alike = all_sides (λ s. AreAlike s.side (record { fixed = fixed; rows = like.rows; vars = vars })) on parts (λ k d below j e inside.
            let same = can.alike k d below j e inside in
            record {
              rows = same.rows;
              names = same.names ∙ sym (names_are sides like.vars);
              weights = same.weights ∙ sym (weights_are sides like.vars);
            });
        fixed = is;
        gains = λ k below.
            let count = vars_count sides like.vars (length like.vars) in
            ap (λ (v : PlainFullVar). v.gain) (var_at sides like.vars (length like.vars) k (omega (arith, count, below)));
      }

-- ---- the sides of a mix, by those of the first part

module _ (parts : List PlainPart) (first : PlainPart) (can : CanMix parts) (is_first : slice_index_or parts 0 first ≡ first) where
  pub one_program : (k : ℕ) (d : PlainPart) → k < length parts → AreOfOneProgram (slice_index_or parts k d) first
  one_program k d below =
      let some = can.some in
      subst (AreOfOneProgram (slice_index_or parts k d)) is_first (can.alike k d below 0 first (omega (arith, some)))

  pub off_can_mix : CanMixSides false parts first.full.off
  off_can_mix =
      record {
        few = can.few;
        small = can.small;
        alike = λ k d below.
            let p = slice_index_or parts k d in
            All-cons (λ (s : SidePart). AreAlike s.side first.full.off) (record { weight = p.weight; side = p.full.off }) [] (one_program k d below).off
            (All-nil (λ (s : SidePart). AreAlike s.side first.full.off));
      }

  like_option : (weight : ℕ) (one : Option PlainFullSide) (like : PlainFullSide) → AreAlikeOn one (Some like) → All (λ s. AreAlike s.side like) (on_part weight one)
  like_option weight None like alike = absurd alike
  like_option weight (Some side) like alike =
      All-cons (λ (s : SidePart). AreAlike s.side like) (record { weight = weight; side = side }) [] alike (All-nil (λ (s : SidePart). AreAlike s.side like))

  pub on_can_mix : (like : PlainFullSide) → first.full.on ≡ Some like → CanMixSides true parts like
  on_can_mix like is =
      record {
        few = can.few;
        small = can.small;
        alike = λ k d below.
            let p = slice_index_or parts k d in
            like_option p.weight p.full.on like (subst (AreAlikeOn p.full.on) is (one_program k d below).on);
      }

  one_option : (weight : ℕ) (one : Option PlainFullSide) (like : PlainFullSide) → AreAlikeOn one (Some like) → length (on_part weight one) ≡ 1
  one_option weight None like alike = absurd alike
  one_option weight (Some side) like alike = refl

  count_on : (ps : List PlainPart) → All (λ p. length (on_part p.weight p.full.on) ≡ 1) ps → length (on_sides ps) ≡ length ps
  count_on [] each = refl
  count_on (p ∷ ps) each =
      let HasOne = λ (q : PlainPart). length (on_part q.weight q.full.on) ≡ 1 in
      let here = All-head HasOne p ps each in
      let rest = count_on ps (All-tail HasOne p ps each) in
      let sum = length-append (on_part p.weight p.full.on) (on_sides ps) in
      omega (arith, here, rest, sum)

  pub on_is : (like mixed : PlainFullSide) → first.full.on ≡ Some like → IsMixedSide (sides_of true parts) mixed → IsMixedOn parts (Some mixed)
  on_is like mixed is made = (
    count_on parts (λ k d below.
        let p = slice_index_or parts k d in
        one_option p.weight p.full.on like (subst (AreAlikeOn p.full.on) is (one_program k d below).on)),
    subst (λ (ss : List SidePart). IsMixedSide ss mixed) (on_are parts) made,
  )

  none_option : (one : Option PlainFullSide) → AreAlikeOn one None → one ≡ None
  none_option None alike = refl
  none_option (Some side) alike = absurd alike

  pub on_none : first.full.on ≡ None → IsMixedOn parts None
  on_none is k d below =
      let p = slice_index_or parts k d in
      none_option p.full.on (subst (AreAlikeOn p.full.on) is (one_program k d below).on)
