-- What is known of values modulo the grain, and of operations on them.
use Rattle.std.proofs.Common.{◌≡◌, ℕ, ◌%◌, Bool, true, false, ◌&&◌, ◌||◌, Option, Some, None, refl}
use Rattle.std.proofs.Math.Nat.{mod-mod}
use Rattle.rv32im.specs.Acts.{reg_value}
use Rattle.rv32im.specs.declared.instructions.RegKind.{RegKind}
use Rattle.rv32im.specs.declared.instructions.RegKind.TheVariants.{Add, Sub, Xor, Or, And}
use Rattle.cell_values.specs.Objects.{Objects, IsGrain, low_of}
use Rattle.cell_values.specs.Operations.{of_lows, by_lows}
use Rattle.cell_values.specs.declared.values.Val.{Val}
use Rattle.cell_values.specs.declared.values.Val.TheVariants.{Int, Addr, Hi, Low, Piece, Unknown}
use Rattle.rv32im.specs.Operations.{takes_low_bits}
use Rattle.cell_values.specs.Origins.{Origin, ByLui, ByAuipc, Mixed, is_by_auipc, is_known, takes_low}
use Rattle.cell_values.specs.Stands.{Places, Fit, Uppers, MakesByLui, Is, Stands, address_word}
use Rattle.cell_values.proofs.Bits.{LowReports, and_low, or_low, xor_low}
use Rattle.cell_values.proofs.Sums.{sum_low, difference_low, upper_low}

low_value : (kind : RegKind) (g : ℕ) → IsGrain g → takes_low_bits kind ≡ true → LowReports (reg_value kind) g
low_value Add g grain takes = sum_low g grain
low_value Sub g grain takes = difference_low g grain
low_value And g grain takes = and_low g grain
low_value Or g grain takes = or_low g grain
low_value Xor g grain takes = xor_low g grain
low_value kind g grain takes = cc

-- where both operands are known, neither is an upper part that no LUI made
by_lui : (takes first second known_first known_second : Bool) → takes ≡ true → known_first ≡ true → known_second ≡ true → takes && (first && known_second || second && known_first) ≡ false → (first ≡ false) × (second ≡ false)
by_lui takes false false a b has_a has_b is none = (refl, refl)
by_lui takes true second a b has_a has_b is none = cc
by_lui takes false true a b has_a has_b is none = cc

-- the order of operands does not matter there
swapped : (takes first second : Bool) → takes && (first || second) ≡ false → takes && (second || first) ≡ false
swapped false first second none = refl
swapped true false second none = cc
swapped true true second none = cc

pub takes_swapped : (os : Objects) (kind : RegKind) (m n : Origin) (x y : Val) → takes_low os kind m x n y ≡ false → takes_low os kind n y m x ≡ false
takes_swapped os kind m n x y disjoint =
    swapped (takes_low_bits kind) (is_by_auipc m x && is_known (low_of os y)) (is_by_auipc n y && is_known (low_of os x)) disjoint

module _ (os : Objects) (place : Places) (up : Uppers) (fit : Fit os place) (makes : MakesByLui place up) where
  upper_stands : (m : Origin) (o d w : ℕ) → is_by_auipc m (Hi o d) ≡ false → Is (up m o d) w → w % os.grain ≡ 0 % os.grain
  upper_stands ByLui o d w made stands =
      let is = rw (makes o d) at stands in
      rw is (upper_low os.grain fit.grain (address_word place o d))
  upper_stands (ByAuipc at) o d w made stands = cc
  upper_stands Mixed o d w made stands = cc

  -- what is known of a value modulo the grain its word is
  pub low_stands : (m : Origin) (x : Val) (w n : ℕ) → low_of os x ≡ Some n → is_by_auipc m x ≡ false → Stands os place up m x w → w % os.grain ≡ n % os.grain
  low_stands m (Int k) w n low made stands = let again = mod-mod k os.grain in cc
  low_stands m (Addr o d) w n low made stands =
      let same = sum_low os.grain fit.grain (place o) d (os.home o) d (fit.congruent o) refl in
      let again = mod-mod (address_word os.home o d) os.grain in
      cc
  low_stands m (Hi o d) w n low made stands = let upper = upper_stands m o d w made stands in cc
  low_stands m (Low k) w n low made stands = let again = mod-mod k os.grain in cc
  low_stands m (Piece hi o d k) w n low made stands = cc
  low_stands m Unknown w n low made stands = cc

  lows_known : (kind : RegKind) (m n k : Origin) (x y : Val) (w z : ℕ) → takes_low_bits kind ≡ true → takes_low os kind m x n y ≡ false → Stands os place up m x w → Stands os place up n y z → (a b : Option ℕ) → low_of os x ≡ a → low_of os y ≡ b → Stands os place up k (of_lows kind os.grain a b) (reg_value kind w z)
  lows_known kind m n k x y w z takes disjoint first second (Some a) (Some b) low_x low_y =
      let known_x : is_known (low_of os x) ≡ true = rw low_x refl in
      let known_y : is_known (low_of os y) ≡ true = rw low_y refl in
      let made = by_lui (takes_low_bits kind) (is_by_auipc m x) (is_by_auipc n y) (is_known (low_of os x)) (is_known (low_of os y)) takes known_x known_y disjoint in
      let one = low_stands m x w a low_x made.0 first in
      let other = low_stands n y z b low_y made.1 second in
      rw mod-mod (low_value kind os.grain fit.grain takes w z a b one other)
  lows_known kind m n k x y w z takes disjoint first second (Some a) None low_x low_y = tt
  lows_known kind m n k x y w z takes disjoint first second None b low_x low_y = tt

  -- the last row of each table
  pub lows_stand : (kind : RegKind) (m n k : Origin) (x y : Val) (w z : ℕ) → takes_low_bits kind ≡ true → takes_low os kind m x n y ≡ false → Stands os place up m x w → Stands os place up n y z → Stands os place up k (by_lows os kind x y) (reg_value kind w z)
  lows_stand kind m n k x y w z takes disjoint first second =
      lows_known kind m n k x y w z takes disjoint first second (low_of os x) (low_of os y) refl refl
