-- Sums over taken variables, against the sums over all.
use Rattle.std.proofs.Common.{◌≡◌, ◌∙◌, inl, inr, ℕ, zero, suc, ◌+◌, ◌<◌, ◌≤◌, List, [], ◌∷◌, map, take, length, get_or, sym, ap, refl, arith}
use Rattle.std.specs.List.{sum_by}
use Rattle.std.proofs.lemmas.Bool.{cases_lt}
use Rattle.std.proofs.lemmas.List.{get_or-map, length-map}
use Rattle.std.proofs.lemmas.List.Sums.{sum_by-cons, sum_by_more, sum_by_more_le}
use Rattle.placement_programme.specs.declared.variables.Var.{Var}
use Rattle.placement_programme.specs.Plain.{PlainVar, plain_var}
use Rattle.placement_programme.specs.Bounds.{AscendWithin}
use Rattle.placement_programme.specs.Programme.{gain_at}
use Rattle.placement_programme.specs.Sums.{sum_below}

pub below_grows : (f : ℕ → ℕ) (low n : ℕ) → low ≤ n → sum_below low f ≤ sum_below n f
below_grows f low zero order = let none : low ≡ 0 = omega arith in rw none (omega arith)
below_grows f low (suc n) order =
    elim (cases_lt low (suc n)) [
      | inl less ↦ let rest = below_grows f low n (omega arith) in omega (arith, rest)
      | inr more ↦ let same : low ≡ suc n = omega (arith, order, more) in rw same (omega arith)
    ]

-- taken numbers from `low` on sum up to no more than all of them
pub taken_below : (f : ℕ → ℕ) (low high : ℕ) (ks : List ℕ) → low ≤ high → AscendWithin low high ks → sum_below low f + sum_by f ks ≤ sum_below high f
taken_below f low high [] order all = let rest = below_grows f low high order in omega (arith, rest)
taken_below f low high (k ∷ ks) order all =
    let rest = taken_below f (suc k) high ks (omega (arith, all.1)) all.2 in
    let first = sum_by-cons f k ks in
    let before = below_grows f low k all.0 in
    omega (arith, rest, first, before)

pub below_front : (f : ℕ → ℕ) (n : ℕ) → sum_below (suc n) f ≡ f 0 + sum_below n (λ j. f (suc j))
below_front f zero = omega arith
below_front f (suc n) = let rest = below_front f n in omega (arith, rest)

pub gains_below : (vs : List PlainVar) → sum_below (length vs) (gain_at vs) ≡ sum_by (λ v. v.gain) vs
gains_below [] = refl
gains_below (v ∷ vs) =
    let rest = gains_below vs in
    let front = below_front (gain_at (v ∷ vs)) (length vs) in
    let first = sum_by-cons (λ (w : PlainVar). w.gain) v vs in
    front ∙ (ap (λ n. v.gain + n) rest ∙ sym first)

pub taken_gains_below : (vs : List PlainVar) (ks : List ℕ) → AscendWithin 0 (length vs) ks → sum_by (gain_at vs) ks ≤ sum_by (λ v. v.gain) vs
taken_gains_below vs ks all =
    let taken = taken_below (gain_at vs) 0 (length vs) ks (omega arith) all in
    let total = gains_below vs in
    omega (arith, taken, total)

pub code_gains_below : (vs : List Var) (ks : List ℕ) → AscendWithin 0 (length vs) ks → sum_by (gain_at (map plain_var vs)) ks ≤ sum_by (λ v. v.gain) (map plain_var vs)
code_gains_below vs ks all = taken_gains_below (map plain_var vs) ks (rw (length-map vs plain_var) all)

-- one more gain of the sum over all
pub gain_more : (vs : List Var) (i : ℕ) (d : Var) → i < length vs → sum_by (λ v. v.gain) (take (i + 1) (map plain_var vs)) ≡ sum_by (λ v. v.gain) (take i (map plain_var vs)) + (get_or vs i d).gain
gain_more vs i d inside =
    let more = sum_by_more (λ (v : PlainVar). v.gain) (map plain_var vs) i (plain_var d) (rw (length-map vs plain_var) inside) in
    rw (get_or-map plain_var vs i d (plain_var d) inside) at more

pub gain_more_le : (vs : List Var) (i : ℕ) (d : Var) → i < length vs → sum_by (λ v. v.gain) (take i (map plain_var vs)) + (get_or vs i d).gain ≤ sum_by (λ v. v.gain) (map plain_var vs)
gain_more_le vs i d inside =
    let more = sum_by_more_le (λ (v : PlainVar). v.gain) (map plain_var vs) i (plain_var d) (rw (length-map vs plain_var) inside) in
    rw (get_or-map plain_var vs i d (plain_var d) inside) at more
