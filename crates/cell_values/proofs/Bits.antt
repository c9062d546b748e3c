-- Masks and small numbers among the bits of words, at a power of two and at a grain.
use Rattle.std.proofs.Common.{◌≡◌, inl, inr, ℕ, ◌+◌, ◌-◌, ◌*◌, ◌/◌, ◌%◌, ◌^◌, ◌<◌, ◌≤◌, bit_and, bit_or, bit_xor, subst, sym, arith, mod-eq_of_lt, mod-lt}
use Rattle.std.specs.Int.Bits.{or_zero_r, xor_zero_r}
use Rattle.std.proofs.Math.Nat.{mod-add-div'}
use Rattle.std.proofs.lemmas.Nat.{pow_pos, and_mod, or_mod, xor_mod, and_le_r, and_comm, or_block, xor_block, and-not}
use Rattle.cell_values.specs.Objects.{IsGrain}

-- what holds at 16, 32 and 64 holds at a grain
pub at_grain : (P : ℕ → Type 0) → P 16 → P 32 → P 64 → (g : ℕ) → IsGrain g → P g
at_grain P at_16 at_32 at_64 g (inl is) = subst P (sym is) at_16
at_grain P at_16 at_32 at_64 g (inr (inl is)) = subst P (sym is) at_32
at_grain P at_16 at_32 at_64 g (inr (inr is)) = subst P (sym is) at_64

-- ---- AND

-- AND with a number below a power of two looks at the bits below it alone
abbrev pub KeepsSmall : ℕ → Type 0
KeepsSmall g = (w m : ℕ) → m < g → bit_and w m ≡ bit_and (w % g) m

and_small_at : (e : ℕ) → KeepsSmall (2 ^ e)
and_small_at e w m small =
    let within = and_mod w m e in
    let same : m % 2 ^ e ≡ m = mod-eq_of_lt small in
    let below : bit_and w m < 2 ^ e = omega (arith, and_le_r w m, small) in
    let kept : bit_and w m % 2 ^ e ≡ bit_and w m = mod-eq_of_lt below in
    cc

pub and_small : (g : ℕ) → IsGrain g → KeepsSmall g
and_small = at_grain KeepsSmall (and_small_at 4) (and_small_at 5) (and_small_at 6)

-- AND with a word of which all bits are set from a power of two on clears bits below it alone
abbrev pub ClearsSmall : ℕ → Type 0
ClearsSmall g =
    (w m : ℕ) → w < 4294967296 → m < 4294967296 → 4294967296 - g ≤ m
    → bit_and w m + bit_and (w % g) (4294967295 - m) ≡ w

and_high_at : (e : ℕ) → e < 32 → ClearsSmall (2 ^ e)
and_high_at e exponent w m word mask high =
    let low = and_small_at e w (4294967295 - m) (omega arith) in
    let parts = and-not 32 m w mask word in
    let first = and_comm w m in
    let second = and_comm w (4294967295 - m) in
    omega arith

pub and_high : (g : ℕ) → IsGrain g → ClearsSmall g
and_high =
    at_grain ClearsSmall (and_high_at 4 (omega arith)) (and_high_at 5 (omega arith)) (and_high_at 6 (omega arith))

-- ---- OR and XOR

-- an operation with a number below a power of two changes bits below it alone
abbrev pub ChangesSmall : (ℕ → ℕ → ℕ) → ℕ → Type 0
ChangesSmall op g = (w m : ℕ) → m < g → op w m + w % g ≡ w + op (w % g) m

-- an operation on bits takes numbers apart at a power of two
abbrev pub TakesDisjoint : (ℕ → ℕ → ℕ) → Type 0
TakesDisjoint op = (e a b r s : ℕ) → r < 2 ^ e → s < 2 ^ e → op (a * 2 ^ e + r) (b * 2 ^ e + s) ≡ op a b * 2 ^ e + op r s

small_at : (op : ℕ → ℕ → ℕ) → TakesDisjoint op → ((a : ℕ) → op a 0 ≡ a) → (e : ℕ) → ChangesSmall op (2 ^ e)
small_at op block zero_right e w m small =
    let whole = mod-add-div' w (2 ^ e) in
    let left : w / 2 ^ e * 2 ^ e + w % 2 ^ e ≡ w = omega arith in
    let right : 0 * 2 ^ e + m ≡ m = omega arith in
    let above = zero_right (w / 2 ^ e) in
    let parts = block e (w / 2 ^ e) 0 (w % 2 ^ e) m (mod-lt w (pow_pos e)) small in
    let joined = rw (left, right, above) at parts in
    omega arith

or_small_at : (e : ℕ) → ChangesSmall bit_or (2 ^ e)
or_small_at = small_at bit_or or_block or_zero_r

xor_small_at : (e : ℕ) → ChangesSmall bit_xor (2 ^ e)
xor_small_at = small_at bit_xor xor_block xor_zero_r

pub or_small : (g : ℕ) → IsGrain g → ChangesSmall bit_or g
or_small = at_grain (ChangesSmall bit_or) (or_small_at 4) (or_small_at 5) (or_small_at 6)

pub xor_small : (g : ℕ) → IsGrain g → ChangesSmall bit_xor g
xor_small = at_grain (ChangesSmall bit_xor) (xor_small_at 4) (xor_small_at 5) (xor_small_at 6)

-- ---- all

-- the low bits of an operation are told by the low bits of its operands
abbrev pub LowReports : (ℕ → ℕ → ℕ) → ℕ → Type 0
LowReports op g = (w z a b : ℕ) → w % g ≡ a % g → z % g ≡ b % g → op w z % g ≡ op a b % g

and_low_at : (e : ℕ) → LowReports bit_and (2 ^ e)
and_low_at e w z a b first second = let one = and_mod w z e in let other = and_mod a b e in cc

or_low_at : (e : ℕ) → LowReports bit_or (2 ^ e)
or_low_at e w z a b first second = let one = or_mod w z e in let other = or_mod a b e in cc

xor_low_at : (e : ℕ) → LowReports bit_xor (2 ^ e)
xor_low_at e w z a b first second = let one = xor_mod w z e in let other = xor_mod a b e in cc

pub and_low : (g : ℕ) → IsGrain g → LowReports bit_and g
and_low = at_grain (LowReports bit_and) (and_low_at 4) (and_low_at 5) (and_low_at 6)

pub or_low : (g : ℕ) → IsGrain g → LowReports bit_or g
or_low = at_grain (LowReports bit_or) (or_low_at 4) (or_low_at 5) (or_low_at 6)

pub xor_low : (g : ℕ) → IsGrain g → LowReports bit_xor g
xor_low = at_grain (LowReports bit_xor) (xor_low_at 4) (xor_low_at 5) (xor_low_at 6)
