-- Sums over the parts of a mix, one part after the other, and their bounds.
use Rattle.std.proofs.Common.{◌≡◌, ◌∙◌, ℕ, zero, suc, ◌+◌, ◌*◌, ◌^◌, ◌<◌, ◌≤◌, Bool, true, false, ℤ, pos, ◌+ℤ◌, List, [], ◌∷◌, ◌++◌, length, map, drop, slice_index_or, Option, Some, refl, sym, ap, subst, arith, drop_of_length-le, FitsSigned}
use mir.Syntax.{w128}
use Rattle.std.specs.Prelude.{◌*ℤ◌, unsigned_abs}
use Rattle.std.specs.List.{All, sum_by}
use Rattle.std.proofs.lemmas.List.{at_drop_more, get_or-map, length-map}
use Rattle.std.proofs.lemmas.List.Elements.{All-head}
use Rattle.std.proofs.lemmas.List.Sums.{sum_by-cons}
use Rattle.std.proofs.lemmas.Int.{ints, unsigned_abs-mul, fits_signed_from_abs}
use Rattle.std.proofs.lemmas.Nat.{mul-le}
use Rattle.placement_candidates.specs.declared.variables.FullVar.{FullVar}
use Rattle.placement_programme.specs.Plain.{PlainFullVar, PlainFullSide}
use Rattle.placement_candidates.specs.FullVars.{plain_full_var}
use Rattle.placement_candidates.specs.Stated.{IsSmallSide}
use Rattle.placement_candidates.specs.Selected.{no_var, var_in}
use Rattle.placement_candidates.specs.Overlaid.{IsSmallOn}
use Rattle.placement_candidates.specs.declared.part.Part.{Part}
use Rattle.placement_candidates.specs.Parts.{PlainPart, SidePart, plain_part, off_part, on_part, off_sides, on_sides, gain_of, mixed_fixed, mixed_gain, IsSmallPart}
use Rattle.placement_candidates.specs.Mixing.{part_sides, sides_of, HasVar}

-- ---- sums of what each part gives

-- what was summed so far, and what the parts behind place `i` give, are the whole; and no part gives more than `most`
pub record IsSumTo (f : PlainPart → ℕ) (parts : List Part) (most i total : ℕ) : Type 0 where
  pub sum : total + sum_by f (map plain_part (drop i parts)) ≡ sum_by f (map plain_part parts)
  pub small : total ≤ i * most

pub sum_more : (f : PlainPart → ℕ) (parts : List Part) (most i total more : ℕ) (d : Part) → i < length parts → IsSumTo f parts most i total → more ≡ f (plain_part (slice_index_or parts i d)) → more ≤ most → IsSumTo f parts most (i + 1) (total + more)
sum_more f parts most i total more d below is here few =
    let before = is.sum in
    let small = is.small in
    let next = at_drop_more (λ (ps : List Part). sum_by f (map plain_part ps)) parts i d below in
    let first = sum_by-cons f (plain_part (slice_index_or parts i d)) (map plain_part (drop (i + 1) parts)) in
    let times : (i + 1) * most ≡ i * most + most = grind arith in
    record { sum = omega (arith, before, next, first, here); small = omega (arith, small, few, times) }

pub sum_done : (f : PlainPart → ℕ) (parts : List Part) (most i total : ℕ) → length parts ≤ i → IsSumTo f parts most i total → total ≡ sum_by f (map plain_part parts)
sum_done f parts most i total all is =
    let sum = is.sum in
    let none = ap (λ (ps : List Part). sum_by f (map plain_part ps)) (drop_of_length-le parts all) in
    let zero_left : sum_by f (map plain_part []) ≡ 0 = refl in
    omega (arith, sum, none, zero_left)

-- the same of integers
abbrev pub int_sum : (PlainPart → ℤ) → List PlainPart → ℤ
int_sum f [] = pos 0
int_sum f (p ∷ ps) = f p +ℤ int_sum f ps

pub record IsIntSumTo (f : PlainPart → ℤ) (parts : List Part) (most i : ℕ) (total : ℤ) : Type 0 where
  pub sum : total +ℤ int_sum f (map plain_part (drop i parts)) ≡ int_sum f (map plain_part parts)
  pub small : unsigned_abs total ≤ i * most

int_done : (total after whole : ℤ) → total +ℤ after ≡ whole → after ≡ pos 0 → total ≡ whole
int_done total after whole sum none = omega (arith, ints, sum, none)

pub int_sum_done : (f : PlainPart → ℤ) (parts : List Part) (most i : ℕ) (total : ℤ) → length parts ≤ i → IsIntSumTo f parts most i total → total ≡ int_sum f (map plain_part parts)
int_sum_done f parts most i total all is =
    int_done total (int_sum f (map plain_part (drop i parts))) (int_sum f (map plain_part parts)) is.sum
    (ap (λ (ps : List Part). int_sum f (map plain_part ps)) (drop_of_length-le parts all))

-- ---- the sides of the parts

pub off_are : (ps : List PlainPart) → sides_of false ps ≡ off_sides ps
off_are [] = refl
off_are (p ∷ ps) = ap (λ (ss : List SidePart). off_part p ∷ ss) (off_are ps)

pub on_are : (ps : List PlainPart) → sides_of true ps ≡ on_sides ps
on_are [] = refl
on_are (p ∷ ps) = ap (λ (ss : List SidePart). on_part p.weight p.full.on ++ ss) (on_are ps)

pub fixed_append : (ss ts : List SidePart) → mixed_fixed (ss ++ ts) ≡ mixed_fixed ss + mixed_fixed ts
fixed_append [] ts = omega arith
fixed_append (s ∷ ss) ts =
    let rest = fixed_append ss ts in
    let left = sum_by-cons (λ (x : SidePart). x.weight * x.side.fixed) s (ss ++ ts) in
    let right = sum_by-cons (λ (x : SidePart). x.weight * x.side.fixed) s ss in
    omega (arith, rest, left, right)

abbrev pub fixed_of_part : Bool → PlainPart → ℕ
fixed_of_part on p = mixed_fixed (part_sides on p)

pub fixed_by_parts : (on : Bool) (ps : List PlainPart) → mixed_fixed (sides_of on ps) ≡ sum_by (fixed_of_part on) ps
fixed_by_parts on [] = refl
fixed_by_parts on (p ∷ ps) =
    let rest = fixed_by_parts on ps in
    let both = fixed_append (part_sides on p) (sides_of on ps) in
    let first = sum_by-cons (fixed_of_part on) p ps in
    omega (arith, rest, both, first)

none_first : (z : ℤ) → z ≡ pos 0 +ℤ z
none_first z = omega (arith, ints)

one_first : (a b c d : ℤ) → b ≡ c +ℤ d → a +ℤ b ≡ (a +ℤ c) +ℤ d
one_first a b c d is = omega (arith, ints, is)

pub gain_append : (k : ℕ) (ss ts : List SidePart) → mixed_gain (ss ++ ts) k ≡ mixed_gain ss k +ℤ mixed_gain ts k
gain_append k [] ts = none_first (mixed_gain ts k)
gain_append k (s ∷ ss) ts =
    one_first (pos s.weight *ℤ (var_in s.side.vars k).gain) (mixed_gain (ss ++ ts) k) (mixed_gain ss k) (mixed_gain ts k) (gain_append k ss ts)

abbrev pub gain_of_part : Bool → ℕ → PlainPart → ℤ
gain_of_part on k p = mixed_gain (part_sides on p) k

pub gain_by_parts : (on : Bool) (k : ℕ) (ps : List PlainPart) → mixed_gain (sides_of on ps) k ≡ int_sum (gain_of_part on k) ps
gain_by_parts on k [] = refl
gain_by_parts on k (p ∷ ps) =
    gain_append k (part_sides on p) (sides_of on ps) ∙ ap (λ (z : ℤ). gain_of_part on k p +ℤ z) (gain_by_parts on k ps)

-- ---- one part: its side without overlay, its side with it, or none

pub one_fixed : (weight : ℕ) (side : PlainFullSide) → mixed_fixed (record { weight = weight; side = side } ∷ []) ≡ weight * side.fixed
one_fixed weight side =
    let sum = sum_by-cons (λ (x : SidePart). x.weight * x.side.fixed) (record { weight = weight; side = side }) [] in omega (arith, sum)

pub off_fixed : (on : Bool) (p : PlainPart) → on ≡ false → fixed_of_part on p ≡ p.weight * p.full.off.fixed
off_fixed true p is = cc
off_fixed false p is = one_fixed p.weight p.full.off

pub some_fixed : (on : Bool) (p : PlainPart) (side : PlainFullSide) → on ≡ true → p.full.on ≡ Some side → fixed_of_part on p ≡ p.weight * side.fixed
some_fixed false p side is there = cc
some_fixed true p side is there =
    ap (λ (o : Option PlainFullSide). mixed_fixed (on_part p.weight o)) there ∙ one_fixed p.weight side

last_gain : (z : ℤ) → z +ℤ pos 0 ≡ z
last_gain z = omega (arith, ints)

pub off_gain : (on : Bool) (k : ℕ) (p : PlainPart) → on ≡ false → gain_of_part on k p ≡ pos p.weight *ℤ gain_of p.full.off k
off_gain true k p is = cc
off_gain false k p is = last_gain (pos p.weight *ℤ gain_of p.full.off k)

-- and that it has a variable `k`
pub off_var_there : (on : Bool) (k : ℕ) (p : PlainPart) → on ≡ false → HasVar on k p → k < length p.full.off.vars
off_var_there true k p is has = cc
off_var_there false k p is has = All-head (λ (s : SidePart). k < length s.side.vars) (off_part p) [] has

pub on_var_there : (on : Bool) (k : ℕ) (p : PlainPart) (side : PlainFullSide) → on ≡ true → p.full.on ≡ Some side → HasVar on k p → k < length side.vars
on_var_there false k p side is there has = cc
on_var_there true k p side is there has =
    All-head (λ (s : SidePart). k < length s.side.vars) (record { weight = p.weight; side = side }) []
    (subst (λ (o : Option PlainFullSide). All (λ s. k < length s.side.vars) (on_part p.weight o)) there has)

pub on_small : (p : PlainPart) (side : PlainFullSide) → IsSmallPart p → p.full.on ≡ Some side → IsSmallSide side
on_small p side small there = subst (λ (o : Option PlainFullSide). IsSmallOn o) there small.on

-- ---- bounds

pub gain_within : (vs : List PlainFullVar) (k : ℕ) → k < length vs → unsigned_abs (var_in vs k).gain ≤ sum_by (λ v. unsigned_abs v.gain) vs
gain_within [] k below = absurd (omega (arith, below))
gain_within (v ∷ vs) zero below = let sum = sum_by-cons (λ (x : PlainFullVar). unsigned_abs x.gain) v vs in omega (arith, sum)
gain_within (v ∷ vs) (suc k) below =
    let sum = sum_by-cons (λ (x : PlainFullVar). unsigned_abs x.gain) v vs in
    let rest = gain_within vs k (omega (arith, below)) in
    omega (arith, sum, rest)

pub product_small : (a b : ℤ) → unsigned_abs a ≤ 1000 → unsigned_abs b < 2 ^ 90 → unsigned_abs (a *ℤ b) ≤ 1000 * 2 ^ 90
product_small a b few small =
    let product = mul-le (unsigned_abs a) (unsigned_abs b) 1000 (2 ^ 90) few (omega (arith, small)) in
    let is = unsigned_abs-mul a b in
    omega (arith, product, is)

-- ---- as the code reads them

pub of_weight : (z : ℤ) (weight : ℕ) → z ≡ pos weight → weight ≤ 1000 → unsigned_abs z ≤ 1000
of_weight z weight is few = omega (arith, ints, is, few)

pub fits_within : (z : ℤ) → unsigned_abs z ≤ 1000 * 2 ^ 90 → FitsSigned w128 z
fits_within z small = fits_signed_from_abs w128 z (omega (arith, small))

pub read_gain : (vs : List FullVar) (k : ℕ) (v : FullVar) → k < length (map plain_full_var vs) → v ≡ slice_index_or vs k v → (var_in (map plain_full_var vs) k).gain ≡ v.gain
read_gain vs k v below is =
    let count = length-map vs plain_full_var in
    ap (λ (x : PlainFullVar). x.gain) (get_or-map plain_full_var vs k v no_var (omega (arith, count, below))) ∙ ap (λ (x : FullVar). x.gain) (sym is)

pub read_small : (vs : List FullVar) (k : ℕ) (v : FullVar) → k < length (map plain_full_var vs) → v ≡ slice_index_or vs k v → sum_by (λ x. unsigned_abs x.gain) (map plain_full_var vs) < 2 ^ 90 → unsigned_abs v.gain < 2 ^ 90
read_small vs k v below is small =
    let within = gain_within (map plain_full_var vs) k below in
    let same = ap (λ (z : ℤ). unsigned_abs z) (read_gain vs k v below is) in
    omega (arith, within, same, small)

pub at_part : (P : PlainPart → Type 0) (parts : List Part) (i : ℕ) (p : Part) → All P (map plain_part parts) → i < length parts → p ≡ slice_index_or parts i p → P (plain_part p)
at_part P parts i p all below is =
    let count = length-map parts plain_part in
    subst P (get_or-map plain_part parts i p (plain_part p) below ∙ ap plain_part (sym is)) (all i (plain_part p) (omega (arith, count, below)))

pub first_is : (parts : List Part) (d : Part) → 1 ≤ length (map plain_part parts) → slice_index_or (map plain_part parts) 0 (plain_part (slice_index_or parts 0 d)) ≡ plain_part (slice_index_or parts 0 d)
first_is parts d some =
    let count = length-map parts plain_part in
    get_or-map plain_part parts 0 d (plain_part (slice_index_or parts 0 d)) (omega (arith, count, some))
