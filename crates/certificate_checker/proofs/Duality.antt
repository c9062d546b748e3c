-- Each rule bounds what a selection gains that fits and agrees with the marks.
use Rattle.std.proofs.Common.{◌≡◌, ℕ, suc, ◌+◌, ◌*◌, ◌<◌, ◌≤◌, Bool, true, false, List, [], ◌∷◌, length, slice_index, refl, arith}
use Rattle.std.specs.List.{sum_by}
use Rattle.std.proofs.Math.Nat.{mul-le-mul_left, le_of_mul-le-mul_left}
use Rattle.std.proofs.lemmas.List.Sums.{sum_by-cons}
use Rattle.placement_programme.specs.Plain.{PlainSide}
use Rattle.placement_programme.specs.Bounds.{RowsWithin, row_of, value_of}
use Rattle.placement_programme.specs.Programme.{gain_at, weight_at}
use Rattle.placement_programme.specs.Sums.{sum_below, picked}
use Rattle.placement_programme.proofs.TakeLemmas.{below_same, below_at_most}
use Rattle.certificate_checker.specs.Rules.{price, bound, kept, moved, kept_at, moved_at, if_one, DualHolds, OverHolds, LeafHolds}
use Rattle.certificate_checker.specs.Fixings.{fixing_of}
use Rattle.certificate_checker.specs.declared.fixings.Fixing.{Fixing}
use Rattle.certificate_checker.specs.declared.fixings.Fixing.TheVariants.{Zero, One, Free}
use Rattle.certificate_checker.proofs.Selections.{picked_scaled, below_add, below_scaled, exchanged}

-- a variable is picked as its mark says
abbrev pub AgreesAt : Fixing → Bool → Type 0
AgreesAt Zero b = b ≡ false
AgreesAt One b = b ≡ true
AgreesAt Free b = Unit {0}

abbrev pub Agrees : PlainSide → List Fixing → (ℕ → Bool) → Type 0
Agrees s marks x = (j : ℕ) → j < length s.vars → AgreesAt (fixing_of marks j) (x j)

-- the sum of the picked
abbrev pub chosen : PlainSide → (ℕ → Bool) → (ℕ → ℕ) → ℕ
chosen s x f = sum_below (length s.vars) (λ j. picked (x j) (f j))

-- the picked exceed no row
abbrev pub FitsRows : PlainSide → (ℕ → Bool) → Type 0
FitsRows s x = (row : ℕ) → row < length s.rows → chosen s x (weight_at s.vars row) ≤ slice_index s.rows row

pub each_part : (m : Fixing) (b : Bool) (gain price : ℕ) → AgreesAt m b → picked b gain + moved m price ≤ kept m gain price + picked b price
each_part Zero true gain price agrees = absurd (let e : true ≡ false = agrees in cc)
each_part Zero false gain price agrees = omega arith
each_part One true gain price agrees = omega arith
each_part One false gain price agrees = absurd (let e : false ≡ true = agrees in cc)
each_part Free true gain price agrees = omega arith
each_part Free false gain price agrees = omega arith

pub one_picked : (m : Fixing) (b : Bool) (n : ℕ) → AgreesAt m b → if_one m n ≤ picked b n
one_picked Zero b n agrees = omega arith
one_picked One true n agrees = omega arith
one_picked One false n agrees = absurd (let e : false ≡ true = agrees in cc)
one_picked Free b n agrees = omega arith

pub picked_one : (m : Fixing) (b : Bool) (n : ℕ) → AgreesAt m b → (m ≡ Free → ⊥) → picked b n ≤ if_one m n
picked_one Zero true n agrees full = absurd (let e : true ≡ false = agrees in cc)
picked_one Zero false n agrees full = omega arith
picked_one One true n agrees full = omega arith
picked_one One false n agrees full = omega arith
picked_one Free b n agrees full = absurd (full refl)

-- multiplied loads are at most multiplied capacities
pub within_bound : (s : PlainSide) (x : ℕ → Bool) (low : ℕ) (ms : List (ℕ × ℕ)) → FitsRows s x → RowsWithin low (length s.rows) ms → sum_by (λ m. value_of m * chosen s x (weight_at s.vars (row_of m))) ms ≤ bound s ms
within_bound s x low [] fits rows = omega arith
within_bound s x low (m ∷ ms) fits rows =
    let rest = within_bound s x (suc (row_of m)) ms fits rows.2 in
    let first = sum_by-cons (λ (k : ℕ × ℕ). value_of k * chosen s x (weight_at s.vars (row_of k))) m ms in
    let second = sum_by-cons (λ (k : ℕ × ℕ). value_of k * slice_index s.rows (row_of k)) m ms in
    let here = mul-le-mul_left (value_of m) (fits (row_of m) rows.1) in
    omega (arith, rest, first, second, here)

pub dual_bounds : (s : PlainSide) (best : ℕ) (marks : List Fixing) (scale : ℕ) (ms : List (ℕ × ℕ)) (x : ℕ → Bool) → DualHolds s best marks scale ms → FitsRows s x → Agrees s marks x → chosen s x (gain_at s.vars) ≤ best + s.fixed
dual_bounds s best marks scale ms x holds fits agrees =
    let parts = below_at_most (λ j. picked (x j) (scale * gain_at s.vars j) + moved_at s marks ms j) (λ j. kept_at s marks scale ms j + picked (x j) (price s ms j)) (length s.vars) (λ j inside. each_part (fixing_of marks j) (x j) (scale * gain_at s.vars j) (price s ms j) (agrees j inside)) in
    let left = below_add (λ j. picked (x j) (scale * gain_at s.vars j)) (moved_at s marks ms) (length s.vars) in
    let right = below_add (kept_at s marks scale ms) (λ j. picked (x j) (price s ms j)) (length s.vars) in
    let scaled = below_same (λ j. picked (x j) (scale * gain_at s.vars j)) (λ j. scale * picked (x j) (gain_at s.vars j)) (length s.vars) (λ j inside. picked_scaled (x j) scale (gain_at s.vars j)) in
    let out = below_scaled scale (λ j. picked (x j) (gain_at s.vars j)) (length s.vars) in
    let loads = exchanged (length s.vars) x (weight_at s.vars) ms in
    let capped = within_bound s x 0 ms fits holds.rows in
    let sums = holds.sums in
    let most : scale * chosen s x (gain_at s.vars) ≤ scale * (best + s.fixed) = omega (arith, parts, left, right, scaled, out, loads, capped, sums) in
    le_of_mul-le-mul_left most holds.least

pub over_none : (s : PlainSide) (marks : List Fixing) (row : ℕ) (x : ℕ → Bool) → OverHolds s marks row → FitsRows s x → Agrees s marks x → ⊥
over_none s marks row x holds fits agrees =
    let less = below_at_most (λ j. if_one (fixing_of marks j) (weight_at s.vars row j)) (λ j. picked (x j) (weight_at s.vars row j)) (length s.vars) (λ j inside. one_picked (fixing_of marks j) (x j) (weight_at s.vars row j) (agrees j inside)) in
    let capped = fits row holds.inside in
    let exceeded = holds.exceeded in
    omega (arith, less, capped, exceeded)

pub leaf_bounds : (s : PlainSide) (best : ℕ) (marks : List Fixing) (x : ℕ → Bool) → LeafHolds s best marks → Agrees s marks x → chosen s x (gain_at s.vars) ≤ best + s.fixed
leaf_bounds s best marks x holds agrees =
    let less = below_at_most (λ j. picked (x j) (gain_at s.vars j)) (λ j. if_one (fixing_of marks j) (gain_at s.vars j)) (length s.vars) (λ j inside. picked_one (fixing_of marks j) (x j) (gain_at s.vars j) (agrees j inside) (holds.full j inside)) in
    let gains = holds.gains in
    omega (arith, less, gains)
