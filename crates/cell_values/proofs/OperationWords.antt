-- Operations on values and on their words.
use Rattle.std.proofs.Common.{◌≡◌, ℕ, ◌+◌, ◌-◌, ◌%◌, ◌<◌, ◌≤◌, nat_lt, Bool, true, false, ◌&&◌, bit_and, Option, Some, None, refl, subst, ap, arith}
use Rattle.std.proofs.Math.Nat.{mod-le}
use Rattle.std.proofs.lemmas.Bool.{cond_both, eqb-true, ltb-true, leb-true}
use Rattle.std.proofs.lemmas.Nat.{and_comm, or_comm, xor_comm, or_lt, xor_lt}
use Rattle.rv32im.specs.Words.{plus, minus}
use Rattle.rv32im.specs.Acts.{flag, reg_value}
use Rattle.rv32im.specs.declared.instructions.BranchKind.TheVariants.{Bltu}
use Rattle.rv32im.specs.declared.instructions.RegKind.{RegKind}
use Rattle.rv32im.specs.declared.instructions.RegKind.TheVariants.{Add, Sub, Sltu, Xor, Or, And}
use Rattle.cell_values.specs.Objects.{Objects, home_address, low_of}
use Rattle.cell_values.specs.Operations.{by_lows, added, subtracted, kept_bits, masked_low, cleared_bits, masked_address, masked, changed_address, changed, flagged, numbered, op_reg}
use Rattle.cell_values.specs.Comparisons.{compare}
use Rattle.cell_values.specs.declared.values.Val.{Val}
use Rattle.cell_values.specs.declared.values.Val.TheVariants.{Int, Addr}
use Rattle.rv32im.specs.Operations.{takes_low_bits}
use Rattle.cell_values.specs.Origins.{Origin, is_by_auipc, is_known, takes_low}
use Rattle.cell_values.specs.Stands.{Places, Fit, Uppers, MakesByLui, Stands, address_word}
use Rattle.cell_values.specs.WordLaws.{OperationsStand}
use Rattle.cell_values.proofs.Bits.{and_small, and_high, ChangesSmall, or_small, xor_small}
use Rattle.cell_values.proofs.Sums.{sum_low}
use Rattle.cell_values.proofs.Lows.{low_stands, lows_stand, takes_swapped}
use Rattle.cell_values.proofs.Branches.{compare_stands, less_comparable}

-- OR and XOR: the order of operands does not matter, words give a word, and a number below the grain changes
-- bits below it alone
record Changes (kind : RegKind) (g : ℕ) : Type 0 where
  pub takes : takes_low_bits kind ≡ true
  pub either_order : (a b : ℕ) → reg_value kind a b ≡ reg_value kind b a
  pub word : (a b : ℕ) → a < 4294967296 → b < 4294967296 → reg_value kind a b < 4294967296
  pub small : ChangesSmall (reg_value kind) g

-- an address of which low bits are cleared, and one of which low bits are changed
cleared : (p d w masked_word c : ℕ) → w ≡ plus p d → masked_word + c ≡ w → masked_word ≡ plus p (minus d c)
cleared p d w masked_word c is parts = omega arith

altered : (p d w x low changed_low : ℕ) → w ≡ plus p d → low ≤ w → x < 4294967296 → x + low ≡ w + changed_low → x ≡ plus p (minus (plus d changed_low) low)
altered p d w x low changed_low is below word parts = omega arith

module _ (os : Objects) (place : Places) (up : Uppers) (fit : Fit os place) (makes : MakesByLui place up) where
  -- the low bits of an address are those that it has at home
  address_low : (o d : ℕ) → address_word place o d % os.grain ≡ home_address os o d % os.grain
  address_low o d = sum_low os.grain fit.grain (place o) d (os.home o) d (fit.congruent o) refl

  added_stands : (m n k : Origin) (x y : Val) (w z : ℕ) → takes_low os Add m x n y ≡ false → Stands os place up m x w → Stands os place up n y z → Stands os place up k (added os x y) (plus w z)
  added_stands m n k (Int a) (Int b) w z disjoint first second = cc
  added_stands m n k (Addr o d) (Int b) w z disjoint first second = omega arith
  added_stands m n k (Int a) (Addr o d) w z disjoint first second = omega arith
  added_stands m n k x y w z disjoint first second =
      lows_stand os place up fit makes Add m n k x y w z refl disjoint first second

  difference_stands : (m n k : Origin) (o d p e w z : ℕ) → takes_low os Sub m (Addr o d) n (Addr p e) ≡ false → w ≡ address_word place o d → z ≡ address_word place p e → Stands os place up k (subtracted os (Addr o d) (Addr p e)) (minus w z)
  difference_stands m n k o d p e w z disjoint first second =
      cond_both _ _ _ (λ v. Stands os place up k v (minus w z))
      (λ same. let one = eqb-true o p same in let here = rw one at first in omega arith)
      (λ other. lows_stand os place up fit makes Sub m n k (Addr o d) (Addr p e) w z refl disjoint first second)

  subtracted_stands : (m n k : Origin) (x y : Val) (w z : ℕ) → takes_low os Sub m x n y ≡ false → Stands os place up m x w → Stands os place up n y z → Stands os place up k (subtracted os x y) (minus w z)
  subtracted_stands m n k (Int a) (Int b) w z disjoint first second = cc
  subtracted_stands m n k (Addr o d) (Int b) w z disjoint first second = omega arith
  subtracted_stands m n k (Addr o d) (Addr p e) w z disjoint first second =
      difference_stands m n k o d p e w z disjoint first second
  subtracted_stands m n k x y w z disjoint first second =
      lows_stand os place up fit makes Sub m n k x y w z refl disjoint first second

  -- ---- AND

  kept_stands : (m k : Origin) (x : Val) (w mask : ℕ) → is_by_auipc m x && is_known (Some (mask % os.grain)) ≡ false → Stands os place up m x w → mask < os.grain → (low : Option ℕ) → low_of os x ≡ low → Stands os place up k (kept_bits mask low) (bit_and w mask)
  kept_stands m k x w mask disjoint stands small (Some n) known =
      let made : is_by_auipc m x ≡ false = grind (arith, disjoint) in
      let low = low_stands os place up fit makes m x w n known made stands in
      let one = and_small os.grain fit.grain w mask small in
      let other = and_small os.grain fit.grain n mask small in
      cc
  kept_stands m k x w mask disjoint stands small None known = tt

  masked_low_stands : (m n k : Origin) (x : Val) (w mask : ℕ) → takes_low os And m x n (Int mask) ≡ false → Stands os place up m x w → Stands os place up k (masked_low os mask x) (bit_and w mask)
  masked_low_stands m n k x w mask disjoint stands =
      cond_both _ _ _ (λ v. Stands os place up k v (bit_and w mask))
      (λ small.
      kept_stands m k x w mask (grind (arith, disjoint)) stands (ltb-true mask os.grain small) (low_of os x) refl)
      (λ big.
      subst (λ r. Stands os place up k (by_lows os And (Int mask) x) r) (and_comm mask w)
      (lows_stand os place up fit makes And n m k (Int mask) x mask w refl
      (takes_swapped os And m n x (Int mask) disjoint) refl stands))

  masked_address_stands : (m n k : Origin) (o d w mask : ℕ) → w < 4294967296 → mask < 4294967296 → takes_low os And m (Addr o d) n (Int mask) ≡ false → w ≡ address_word place o d → Stands os place up k (masked_address os o d mask) (bit_and w mask)
  masked_address_stands m n k o d w mask word mask_word disjoint stands =
      cond_both _ _ _ (λ v. Stands os place up k v (bit_and w mask))
      (λ high.
      let parts = and_high os.grain fit.grain w mask word mask_word (leb-true (4294967296 - os.grain) mask high) in
      let low = address_low o d in
      let home : bit_and w mask + cleared_bits os o d mask ≡ w = cc in
      cleared (place o) d w (bit_and w mask) (cleared_bits os o d mask) stands home)
      (λ low. masked_low_stands m n k (Addr o d) w mask disjoint stands)

  masked_stands : (m n k : Origin) (x y : Val) (w z : ℕ) → w < 4294967296 → z < 4294967296 → takes_low os And m x n y ≡ false → Stands os place up m x w → Stands os place up n y z → Stands os place up k (masked os x y) (bit_and w z)
  masked_stands m n k (Int a) (Int b) w z first_word second_word disjoint first second = cc
  masked_stands m n k (Addr o d) (Int b) w z first_word second_word disjoint first second =
      rw second
      (masked_address_stands m n k o d w b first_word (omega (arith, second, second_word)) disjoint first)
  masked_stands m n k (Int a) (Addr o d) w z first_word second_word disjoint first second =
      rw (first, and_comm a z)
      (masked_address_stands n m k o d z a second_word (omega (arith, first, first_word))
      (takes_swapped os And m n (Int a) (Addr o d) disjoint) second)
  masked_stands m n k x (Int b) w z first_word second_word disjoint first second =
      rw second (masked_low_stands m n k x w b disjoint first)
  masked_stands m n k (Int a) y w z first_word second_word disjoint first second =
      rw (first, and_comm a z) (masked_low_stands n m k y z a (takes_swapped os And m n (Int a) y disjoint) second)
  masked_stands m n k x y w z first_word second_word disjoint first second =
      lows_stand os place up fit makes And m n k x y w z refl disjoint first second

  -- ---- OR and XOR

  changed_address_stands : (kind : RegKind) (m n k : Origin) (o d w mask : ℕ) → Changes kind os.grain → w < 4294967296 → mask < 4294967296 → takes_low os kind m (Addr o d) n (Int mask) ≡ false → w ≡ address_word place o d → Stands os place up k (changed_address os kind o d mask) (reg_value kind w mask)
  changed_address_stands kind m n k o d w mask changes word mask_word disjoint stands =
      cond_both _ _ _ (λ v. Stands os place up k v (reg_value kind w mask))
      (λ below.
      let parts = changes.small w mask (ltb-true mask os.grain below) in
      let low : w % os.grain ≡ home_address os o d % os.grain = rw stands (address_low o d) in
      let here = rw low at parts in
      let within : home_address os o d % os.grain ≤ w = rw (← low) (mod-le w os.grain) in
      altered (place o) d w (reg_value kind w mask) (home_address os o d % os.grain)
      (reg_value kind (home_address os o d % os.grain) mask) stands within (changes.word w mask word mask_word) here)
      (λ above.
      lows_stand os place up fit makes kind m n k (Addr o d) (Int mask) w mask changes.takes disjoint stands refl)

  changed_stands : (kind : RegKind) (m n k : Origin) (x y : Val) (w z : ℕ) → Changes kind os.grain → w < 4294967296 → z < 4294967296 → takes_low os kind m x n y ≡ false → Stands os place up m x w → Stands os place up n y z → Stands os place up k (changed os kind x y) (reg_value kind w z)
  changed_stands kind m n k (Int a) (Int b) w z changes first_word second_word disjoint first second = cc
  changed_stands kind m n k (Addr o d) (Int b) w z changes first_word second_word disjoint first second =
      rw second
      (changed_address_stands kind m n k o d w b changes first_word (omega (arith, second, second_word)) disjoint first)
  changed_stands kind m n k (Int a) (Addr o d) w z changes first_word second_word disjoint first second =
      rw (first, changes.either_order a z)
      (changed_address_stands kind n m k o d z a changes second_word (omega (arith, first, first_word))
      (takes_swapped os kind m n (Int a) (Addr o d) disjoint) second)
  changed_stands kind m n k x y w z changes first_word second_word disjoint first second =
      lows_stand os place up fit makes kind m n k x y w z changes.takes disjoint first second

  changes_or : Changes Or os.grain
  changes_or = record { takes = refl; either_order = or_comm; word = or_lt 32; small = or_small os.grain fit.grain }

  changes_xor : Changes Xor os.grain
  changes_xor = record { takes = refl; either_order = xor_comm; word = xor_lt 32; small = xor_small os.grain fit.grain }

  -- ---- others

  flag_stands : (m n k : Origin) (x y : Val) (w z : ℕ) → Stands os place up m x w → Stands os place up n y z → (known : Option Bool) → compare os Bltu x y ≡ known → Stands os place up k (flagged known) (flag (nat_lt w z))
  flag_stands m n k x y w z first second (Some less) known =
      ap flag (compare_stands os place up fit Bltu m n x y w z less (less_comparable x y) known first second)
  flag_stands m n k x y w z first second None known = tt

  numbers_stand : (kind : RegKind) (m n k : Origin) (x y : Val) (w z : ℕ) → Stands os place up m x w → Stands os place up n y z → Stands os place up k (numbered kind x y) (reg_value kind w z)
  numbers_stand kind m n k (Int a) (Int b) w z first second = cc
  numbers_stand kind m n k x y w z first second = tt

  registers_stand : (kind : RegKind) (m n k : Origin) (x y : Val) (w z : ℕ) → w < 4294967296 → z < 4294967296 → takes_low os kind m x n y ≡ false → Stands os place up m x w → Stands os place up n y z → Stands os place up k (op_reg os kind x y) (reg_value kind w z)
  registers_stand Add m n k x y w z first_word second_word disjoint first second =
      added_stands m n k x y w z disjoint first second
  registers_stand Sub m n k x y w z first_word second_word disjoint first second =
      subtracted_stands m n k x y w z disjoint first second
  registers_stand And m n k x y w z first_word second_word disjoint first second =
      masked_stands m n k x y w z first_word second_word disjoint first second
  registers_stand Or m n k x y w z first_word second_word disjoint first second =
      changed_stands Or m n k x y w z changes_or first_word second_word disjoint first second
  registers_stand Xor m n k x y w z first_word second_word disjoint first second =
      changed_stands Xor m n k x y w z changes_xor first_word second_word disjoint first second
  registers_stand Sltu m n k x y w z first_word second_word disjoint first second =
      flag_stands m n k x y w z first second (compare os Bltu x y) refl
  registers_stand kind m n k x y w z first_word second_word disjoint first second =
      numbers_stand kind m n k x y w z first second

pub operations_stand : OperationsStand
operations_stand os place up fit makes = registers_stand os place up fit makes
