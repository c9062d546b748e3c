-- A mix with one part more is the mix of all of them, and is within the bounds.
use Rattle.std.proofs.Common.{◌≡◌, ◌∙◌, ℕ, zero, suc, ◌+◌, ◌*◌, ◌^◌, ◌<◌, ◌≤◌, Bool, true, false, ℤ, pos, ◌+ℤ◌, ◌*ℤ◌, unsigned_abs, List, [], ◌∷◌, ◌++◌, length, map, slice_index_or, Option, Some, None, option_map, refl, sym, ap, subst, arith, length-append}
use Rattle.std.specs.List.{All, sum_by}
use Rattle.std.proofs.Math.Seq.{get_or-append_seam}
use Rattle.std.proofs.lemmas.Int.{ints}
use Rattle.std.proofs.lemmas.List.{append_assoc, append-nil, length-map}
use Rattle.std.proofs.lemmas.List.Elements.{All-head, All-tail}
use Rattle.std.proofs.lemmas.List.Sums.{sum_by-cons, sum_by_push}
use Rattle.std.proofs.lemmas.Nat.{mul-le}
use Rattle.placement_programme.specs.Plain.{PlainFullVar, PlainFullSide, PlainFull}
use Rattle.placement_programme.specs.Bounds.{IsWithinFullBounds}
use Rattle.placement_candidates.specs.declared.variables.FullVar.{FullVar}
use Rattle.placement_candidates.specs.declared.full_sides.FullSide.{FullSide}
use Rattle.placement_candidates.specs.declared.full_sides.Full.{Full}
use Rattle.placement_candidates.specs.FullVars.{plain_full_var}
use Rattle.placement_candidates.specs.FullViews.{plain_full_side, plain_full}
use Rattle.placement_candidates.specs.Selected.{var_in}
use Rattle.placement_candidates.specs.Parts.{PlainPart, SidePart, off_part, on_part, off_sides, on_sides, gain_of, mixed_fixed, mixed_gain, AreAlike, AreAlikeOn, AreOfOneProgram, IsMixedSide, IsMixedOn, IsMix, IsSmallPart, CanMix}
use Rattle.placement_candidates.specs.Mixing.{part_sides, sides_of, mixed_at, mixed_vars, CanMixSides}
use Rattle.placement_candidates.specs.OneMore.{more_at, more_vars, more_side, more_on, more_full, CanAddSide, CanAddOn}
use Rattle.placement_candidates.proofs.SumLemmas.{off_are, on_are, fixed_append, gain_append, one_fixed, gain_within, read_gain}
use Rattle.placement_candidates.proofs.MixLemmas.{IsFewSide, few_all, few_sides, side_within, side_is, off_can_mix, on_can_mix, on_is, on_none, one_program}

pub last_of : {A : Type 0} (P : A → Type 0) (xs : List A) (x : A) → All P (xs ++ x ∷ []) → P x
last_of {A} P xs x all =
    let sum = length-append xs (x ∷ []) in
    subst P (get_or-append_seam xs x [] x) (all (length xs) x (omega (arith, sum)))

-- what a variable saves is small
pub total_small : (side : FullSide) (k : ℕ) (v : FullVar) → k < length side.vars.items → v ≡ slice_index_or side.vars.items k v → unsigned_abs v.gain < 2 ^ 104
total_small side k v below is =
    let count = length-map side.vars.items plain_full_var in
    let inside : k < length (map plain_full_var side.vars.items) = omega (arith, count, below) in
    let within = gain_within (map plain_full_var side.vars.items) k inside in
    let same = ap (λ (z : ℤ). unsigned_abs z) (read_gain side.vars.items k v inside is) in
    let small = side.bounds.gains in
    omega (arith, within, same, small)

-- ---- one side

sides_more : (on : Bool) (ps : List PlainPart) (p : PlainPart) → sides_of on (ps ++ p ∷ []) ≡ sides_of on ps ++ part_sides on p
sides_more on [] p = append-nil (part_sides on p)
sides_more on (q ∷ ps) p =
    ap (λ (ss : List SidePart). part_sides on q ++ ss) (sides_more on ps p) ∙ sym (append_assoc (part_sides on q) (sides_of on ps) (part_sides on p))

sum_last : (a b d x : ℤ) → a ≡ b → d ≡ b +ℤ (x +ℤ pos 0) → a +ℤ x ≡ d
sum_last a b d x same is = omega (arith, ints, same, is)

module _ (sides : List SidePart) (s : SidePart) (vs : List PlainFullVar) (gains : (k : ℕ) → k < length vs → (var_in vs k).gain ≡ mixed_gain sides k) where
  at_is : (k : ℕ) → k < length vs → more_at s.weight s.side vs k ≡ mixed_at (sides ++ s ∷ []) vs k
  at_is k below =
      let gain = sum_last (var_in vs k).gain (mixed_gain sides k) (mixed_gain (sides ++ s ∷ []) k) (pos s.weight *ℤ gain_of s.side k) (gains k below) (gain_append k sides (s ∷ [])) in
      λ i. record { name = (var_in vs k).name; gain = gain i; weights = (var_in vs k).weights }

  vars_are : (n : ℕ) → n ≤ length vs → more_vars s.weight s.side vs n ≡ mixed_vars (sides ++ s ∷ []) vs n
  vars_are zero few = refl
  vars_are (suc n) few =
      let before = vars_are n (omega (arith, few)) in
      let here = at_is n (omega (arith, few)) in
      λ i. before i ++ here i ∷ []

fixed_more : (sides : List SidePart) (s : SidePart) → mixed_fixed (sides ++ s ∷ []) ≡ mixed_fixed sides + s.weight * s.side.fixed
fixed_more sides s =
    let both = fixed_append sides (s ∷ []) in
    let one = one_fixed s.weight s.side in
    omega (arith, both, one)

fixed_small : (n : ℕ) (sides : List SidePart) → All (IsFewSide n) sides → mixed_fixed sides ≤ length sides * (1000 * 2 ^ 90)
fixed_small n [] each = omega arith
fixed_small n (s ∷ sides) each =
    let rest = fixed_small n sides (All-tail (IsFewSide n) s sides each) in
    let here = All-head (IsFewSide n) s sides each in
    let small = here.small.fixed in
    let sum = sum_by-cons (λ (x : SidePart). x.weight * x.side.fixed) s sides in
    let product = mul-le s.weight s.side.fixed 1000 (2 ^ 90) here.weight (omega (arith, small)) in
    omega (arith, rest, sum, product)

module _ (on : Bool) (ps : List PlainPart) (p : PlainPart) (s : SidePart) (total : PlainFullSide) (own : part_sides on p ≡ s ∷ []) (is : IsMixedSide (sides_of on ps) total) (can : CanMixSides on (ps ++ p ∷ []) total) where
  abbrev all : List SidePart
  all = sides_of on (ps ++ p ∷ [])

  all_are : all ≡ sides_of on ps ++ s ∷ []
  all_are = sides_more on ps p ∙ ap (λ (ss : List SidePart). sides_of on ps ++ ss) own

  all_few : All (IsFewSide (length total.vars)) all
  all_few = few_all on (ps ++ p ∷ []) total can

  fixed_is : total.fixed + s.weight * s.side.fixed ≡ mixed_fixed all
  fixed_is =
      let sum = fixed_more (sides_of on ps) s in
      let before = is.fixed in
      let same = ap (λ (ss : List SidePart). mixed_fixed ss) all_are in
      omega (arith, sum, before, same)

  made : ◌≡◌ {A = PlainFullSide} (more_side s.weight s.side total) (record { fixed = mixed_fixed all; rows = total.rows; vars = mixed_vars all total.vars (length total.vars) })
  made =
      let vars = vars_are (sides_of on ps) s total.vars is.gains (length total.vars) (omega arith) ∙ ap (λ (ss : List SidePart). mixed_vars ss total.vars (length total.vars)) (sym all_are) in
      let fixed = fixed_is in
      λ i. record { fixed = fixed i; rows = total.rows; vars = vars i }

  fixed_fits : mixed_fixed all < 2 ^ 104
  fixed_fits =
      let small = fixed_small (length total.vars) all all_few in
      let count = few_sides on (ps ++ p ∷ []) in
      let few = can.few in
      let most = mul-le (length all) (1000 * 2 ^ 90) 16 (1000 * 2 ^ 90) (omega (arith, count, few)) (omega arith) in
      omega (arith, small, most)

  pub can_add : IsWithinFullBounds total → CanAddSide s.weight s.side total
  can_add bounds =
      let last = last_of (IsFewSide (length total.vars)) (sides_of on ps) s (subst (λ (ss : List SidePart). All (IsFewSide (length total.vars)) ss) all_are all_few) in
      let count = last.count in
      record {
        count = omega (arith, count);
        within = subst IsWithinFullBounds (sym made) (side_within on (ps ++ p ∷ []) total can (mixed_fixed all) fixed_fits bounds);
      }

  pub side_more_is : IsMixedSide all (more_side s.weight s.side total)
  side_more_is = subst (IsMixedSide all) (sym made) (side_is on (ps ++ p ∷ []) total can (mixed_fixed all) refl)

-- ---- the mixed side is like those of the parts

alike_both : (one two three : PlainFullSide) → AreAlike one two → AreAlike two three → AreAlike one three
alike_both one two three first second =
    record { rows = first.rows ∙ second.rows; names = first.names ∙ second.names; weights = first.weights ∙ second.weights }

like_total : (on : Bool) (parts : List PlainPart) (one total : PlainFullSide) → AreAlike one total → CanMixSides on parts one → CanMixSides on parts total
like_total on parts one total same can =
    record {
      few = can.few;
      small = can.small;
      alike = λ k d below j e inside.
          alike_both (slice_index_or (part_sides on (slice_index_or parts k d)) j e).side one total (can.alike k d below j e inside) same;
    }

module _ (q : PlainPart) (qs : List PlainPart) (p : PlainPart) (can : CanMix (q ∷ (qs ++ p ∷ []))) where
  abbrev parts : List PlainPart
  parts = q ∷ (qs ++ p ∷ [])

  last_program : AreOfOneProgram p q
  last_program =
      last_of (λ (x : PlainPart). AreOfOneProgram x q) (q ∷ qs) p (λ k d below. one_program parts q can refl k d below)

  module _ (total : PlainFullSide) (is : IsMixedSide (off_sides (q ∷ qs)) total) where
    off_can : CanMixSides false parts total
    off_can =
        like_total false parts q.full.off total (All-head (λ (s : SidePart). AreAlike s.side total) (off_part q) (off_sides qs) is.alike)
        (off_can_mix parts q can refl)

    off_mixed : IsMixedSide (sides_of false (q ∷ qs)) total
    off_mixed = subst (λ (ss : List SidePart). IsMixedSide ss total) (sym (off_are (q ∷ qs))) is

    pub off_can_add : IsWithinFullBounds total → CanAddSide p.weight p.full.off total
    off_can_add = can_add false (q ∷ qs) p (off_part p) total refl off_mixed off_can

    pub off_more_is : IsMixedSide (off_sides parts) (more_side p.weight p.full.off total)
    off_more_is =
        subst (λ (ss : List SidePart). IsMixedSide ss (more_side p.weight p.full.off total)) (off_are parts)
        (side_more_is false (q ∷ qs) p (off_part p) total refl off_mixed off_can)

  module _ (total : PlainFullSide) (is : IsMixedOn (q ∷ qs) (Some total)) where
    -- the sides with overlay of the first part and of the last
    first_on : (s : PlainFullSide) × ((q.full.on ≡ Some s) × AreAlike s total)
    first_on = of_option q.full.on refl
      where
        of_option : (o : Option PlainFullSide) → q.full.on ≡ o → (s : PlainFullSide) × ((q.full.on ≡ Some s) × AreAlike s total)
        of_option None none =
            let few = few_sides true qs in
            let same = ap (λ (ss : List SidePart). length ss) (on_are qs) in
            let all = ap (λ (o : Option PlainFullSide). length (on_part q.weight o ++ on_sides qs)) none in
            let count = is.0 in
            absurd (omega (arith, few, same, all, count))
        of_option (Some s) there =
            let alike = All-head (λ (x : SidePart). AreAlike x.side total) (record { weight = q.weight; side = s }) (on_sides qs)
            (subst (λ (o : Option PlainFullSide). All (λ x. AreAlike x.side total) (on_part q.weight o ++ on_sides qs)) there is.1.alike) in
            (s, (there, alike))

    last_on : (s : PlainFullSide) × (p.full.on ≡ Some s)
    last_on = of_option p.full.on refl
      where
        of_option : (o : Option PlainFullSide) → p.full.on ≡ o → (s : PlainFullSide) × (p.full.on ≡ Some s)
        of_option None none =
            absurd (subst (λ (o : Option PlainFullSide). AreAlikeOn o (Some first_on.0)) none (subst (AreAlikeOn p.full.on) first_on.1.0 last_program.on))
        of_option (Some s) there = (s, there)

    on_can : CanMixSides true parts total
    on_can = like_total true parts first_on.0 total first_on.1.1 (on_can_mix parts q can refl first_on.0 first_on.1.0)

    on_mixed : IsMixedSide (sides_of true (q ∷ qs)) total
    on_mixed = subst (λ (ss : List SidePart). IsMixedSide ss total) (sym (on_are (q ∷ qs))) is.1

    abbrev last : SidePart
    last = record { weight = p.weight; side = last_on.0 }

    own : part_sides true p ≡ last ∷ []
    own = ap (λ (o : Option PlainFullSide). on_part p.weight o) last_on.1

    pub on_can_add : IsWithinFullBounds total → CanAddOn p.weight p.full.on (Some total)
    on_can_add bounds =
        subst (λ (o : Option PlainFullSide). CanAddOn p.weight o (Some total)) (sym last_on.1) (can_add true (q ∷ qs) p last total own on_mixed on_can bounds)

    pub on_more_is : IsMixedOn parts (more_on p.weight p.full.on (Some total))
    on_more_is =
        subst (λ (o : Option PlainFullSide). IsMixedOn parts (more_on p.weight o (Some total))) (sym last_on.1)
        (on_is parts q can refl first_on.0 (more_side p.weight last_on.0 total) first_on.1.0 (side_more_is true (q ∷ qs) p last total own on_mixed on_can))

  pub none_more_is : IsMixedOn (q ∷ qs) None → IsMixedOn parts (more_on p.weight p.full.on None)
  none_more_is none =
      subst (λ (o : Option PlainFullSide). IsMixedOn parts o) (sym (no_side p.full.on))
      (on_none parts q can refl (All-head (λ (x : PlainPart). x.full.on ≡ None) q qs none))
    where
      no_side : (o : Option PlainFullSide) → more_on p.weight o None ≡ None
      no_side None = refl
      no_side (Some side) = refl

-- ---- the whole mix

bases_small : (ps : List PlainPart) → All IsSmallPart ps → sum_by (λ p. p.weight * p.full.base) ps ≤ length ps * (1000 * 2 ^ 90)
bases_small [] each = omega arith
bases_small (p ∷ ps) each =
    let rest = bases_small ps (All-tail IsSmallPart p ps each) in
    let here = All-head IsSmallPart p ps each in
    let small = here.base in
    let sum = sum_by-cons (λ (x : PlainPart). x.weight * x.full.base) p ps in
    let product = mul-le p.weight p.full.base 1000 (2 ^ 90) here.most (omega (arith, small)) in
    omega (arith, rest, sum, product)

pub base_fits : (ps : List PlainPart) (p : PlainPart) (total : PlainFull) → IsMix ps total → CanMix (ps ++ p ∷ []) → total.base + p.weight * p.full.base < 2 ^ 104
base_fits ps p total is can =
    let small = bases_small (ps ++ p ∷ []) can.small in
    let few = can.few in
    let most = mul-le (length (ps ++ p ∷ [])) (1000 * 2 ^ 90) 16 (1000 * 2 ^ 90) few (omega arith) in
    let sum = sum_by_push (λ (x : PlainPart). x.weight * x.full.base) ps p in
    let before = is.base in
    omega (arith, small, most, sum, before)

pub off_fits : (ps : List PlainPart) (p : PlainPart) (total : Full) → 1 ≤ length ps → IsMix ps (plain_full total) → CanMix (ps ++ p ∷ []) → CanAddSide p.weight p.full.off (plain_full_side total.off)
off_fits [] p total some is can = absurd (omega (arith, some))
off_fits (q ∷ qs) p total some is can = off_can_add q qs p can (plain_full_side total.off) is.off total.off.bounds

on_fits_option : (q : PlainPart) (qs : List PlainPart) (p : PlainPart) (on : Option FullSide) → CanMix (q ∷ (qs ++ p ∷ [])) → IsMixedOn (q ∷ qs) (option_map plain_full_side on) → CanAddOn p.weight p.full.on (option_map plain_full_side on)
on_fits_option q qs p None can is = any_side p.full.on
  where
    any_side : (o : Option PlainFullSide) → CanAddOn p.weight o None
    any_side None = tt
    any_side (Some side) = tt
on_fits_option q qs p (Some total) can is = on_can_add q qs p can (plain_full_side total) is total.bounds

pub on_fits : (ps : List PlainPart) (p : PlainPart) (total : Full) → 1 ≤ length ps → IsMix ps (plain_full total) → CanMix (ps ++ p ∷ []) → CanAddOn p.weight p.full.on (option_map plain_full_side total.on)
on_fits [] p total some is can = absurd (omega (arith, some))
on_fits (q ∷ qs) p total some is can = on_fits_option q qs p total.on can is.on

on_more : (q : PlainPart) (qs : List PlainPart) (p : PlainPart) (on : Option PlainFullSide) → CanMix (q ∷ (qs ++ p ∷ [])) → IsMixedOn (q ∷ qs) on → IsMixedOn (q ∷ (qs ++ p ∷ [])) (more_on p.weight p.full.on on)
on_more q qs p None can is = none_more_is q qs p can is
on_more q qs p (Some total) can is = on_more_is q qs p can total is

pub mix_more_is : (ps : List PlainPart) (p : PlainPart) (total : PlainFull) → 1 ≤ length ps → IsMix ps total → CanMix (ps ++ p ∷ []) → IsMix (ps ++ p ∷ []) (more_full p total)
mix_more_is [] p total some is can = absurd (omega (arith, some))
mix_more_is (q ∷ qs) p total some is can =
    let sum = sum_by_push (λ (x : PlainPart). x.weight * x.full.base) (q ∷ qs) p in
    let before = is.base in
    record {
      base = omega (arith, sum, before);
      off = off_more_is q qs p can total.off is.off;
      on = on_more q qs p total.on can is.on;
    }
