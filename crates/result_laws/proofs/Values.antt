-- What operations leave of values, loads take of cells, and stores put of values: addresses of the same objects alone.
use Rattle.std.proofs.Common.{◌≡◌, ℕ, ◌-◌, ◌<◌, ◌==◌, nat_lt, nat_le, Bool, true, false, ◌&&◌, slice_index_or, Option, Some, None, ℤ, refl}
use Rattle.std.specs.Int.{cast_unsigned, w32}
use Rattle.std.proofs.lemmas.Bool.{cond_both}
use Rattle.rv32im.specs.declared.instructions.BranchKind.TheVariants.{Bltu}
use Rattle.rv32im.specs.declared.instructions.ImmKind.{ImmKind}
use Rattle.rv32im.specs.declared.instructions.RegKind.{RegKind}
use Rattle.rv32im.specs.declared.instructions.RegKind.TheVariants.{Add, Sub, Sltu, Xor, Or, And}
use Rattle.rv32im.specs.Operations.{operation_of, takes_low_bits}
use Rattle.cell_values.specs.Objects.{Objects, home_address, low_of}
use Rattle.cell_values.specs.Comparisons.{compare}
use Rattle.cell_values.specs.Operations.{of_lows, by_lows, added, subtracted, kept_bits, masked_low, masked_address, masked, changed_address, changed, flagged, numbered, op_reg, op_imm, same_chunk, low_site}
use Rattle.cell_values.specs.Cells.{split, is_part, whole_word, join, byte_value, half_value}
use Rattle.cell_values.specs.declared.values.Val.{Val}
use Rattle.cell_values.specs.declared.values.Val.TheVariants.{Int, Addr, Hi, Low, Piece, Unknown}
use Rattle.cell_values.specs.declared.values.Cell.{Cell}
use Rattle.cell_values.specs.declared.values.Cell.TheVariants.{Byte, Part, Mist}
use Rattle.cell_values.proofs.Stores.{first_cells}
use Rattle.result_laws.specs.Holds.{ValueIsHeld, CellIsHeld}

-- where more objects may be
pub value_more : (may more escapes : ℕ → Type 0) → ((o : ℕ) → may o → more o) → (x : Val) → ValueIsHeld may escapes x → ValueIsHeld more escapes x
value_more may more escapes also (Addr o d) held = also o held
value_more may more escapes also (Hi o d) held = also o held
value_more may more escapes also (Piece hi o d k) held = held
value_more may more escapes also x held = tt

-- ---- operations

module _ (os : Objects) (may escapes : ℕ → Type 0) where
  abbrev IsIn : Val → Type 0
  IsIn x = ValueIsHeld may escapes x

  of_lows_in : (kind : RegKind) (a b : Option ℕ) → IsIn (of_lows kind os.grain a b)
  of_lows_in kind (Some a) (Some b) = tt
  of_lows_in kind (Some a) None = tt
  of_lows_in kind None b = tt

  lows_in : (kind : RegKind) (a b : Val) → IsIn (by_lows os kind a b)
  lows_in kind a b = of_lows_in kind (low_of os a) (low_of os b)

  added_in : (a b : Val) → IsIn a → IsIn b → IsIn (added os a b)
  added_in (Int a) (Int b) first second = tt
  added_in (Addr o d) (Int n) first second = first
  added_in (Int n) (Addr o d) first second = second
  added_in a b first second = lows_in Add a b

  subtracted_in : (a b : Val) → IsIn a → IsIn (subtracted os a b)
  subtracted_in (Int a) (Int b) first = tt
  subtracted_in (Addr o d) (Int n) first = first
  subtracted_in (Addr o d) (Addr q e) first =
      cond_both (o == q) _ _ (ValueIsHeld may escapes) (λ same. tt) (λ other. lows_in Sub (Addr o d) (Addr q e))
  subtracted_in a b first = lows_in Sub a b

  kept_in : (m : ℕ) (low : Option ℕ) → IsIn (kept_bits m low)
  kept_in m (Some low) = tt
  kept_in m None = tt

  masked_low_in : (m : ℕ) (a : Val) → IsIn (masked_low os m a)
  masked_low_in m a =
      cond_both (nat_lt m os.grain) _ _ (ValueIsHeld may escapes) (λ small. kept_in m (low_of os a)) (λ other. lows_in And (Int m) a)

  masked_address_in : (o d m : ℕ) → may o → IsIn (masked_address os o d m)
  masked_address_in o d m there =
      cond_both (nat_le (4294967296 - os.grain) m) _ _ (ValueIsHeld may escapes) (λ high. there) (λ other. masked_low_in m (Addr o d))

  masked_in : (a b : Val) → IsIn a → IsIn b → IsIn (masked os a b)
  masked_in (Int a) (Int b) first second = tt
  masked_in (Addr o d) (Int m) first second = masked_address_in o d m first
  masked_in (Int m) (Addr o d) first second = masked_address_in o d m second
  masked_in a (Int m) first second = masked_low_in m a
  masked_in (Int m) b first second = masked_low_in m b
  masked_in a b first second = lows_in And a b

  changed_address_in : (kind : RegKind) (o d m : ℕ) → may o → IsIn (changed_address os kind o d m)
  changed_address_in kind o d m there =
      cond_both (nat_lt m os.grain) _ _ (ValueIsHeld may escapes) (λ small. there) (λ other. lows_in kind (Addr o d) (Int m))

  changed_in : (kind : RegKind) (a b : Val) → IsIn a → IsIn b → IsIn (changed os kind a b)
  changed_in kind (Int a) (Int b) first second = tt
  changed_in kind (Addr o d) (Int m) first second = changed_address_in kind o d m first
  changed_in kind (Int m) (Addr o d) first second = changed_address_in kind o d m second
  changed_in kind a b first second = lows_in kind a b

  flagged_in : (known : Option Bool) → IsIn (flagged known)
  flagged_in (Some less) = tt
  flagged_in None = tt

  numbered_in : (kind : RegKind) (a b : Val) → IsIn (numbered kind a b)
  numbered_in kind (Int a) (Int b) = tt
  numbered_in kind a b = tt

  -- only what takes low bits makes an address of one
  pub reg_in : (kind : RegKind) (a b : Val) → (takes_low_bits kind ≡ true → IsIn a) → (takes_low_bits kind ≡ true → IsIn b) → IsIn (op_reg os kind a b)
  reg_in Add a b first second = added_in a b (first refl) (second refl)
  reg_in Sub a b first second = subtracted_in a b (first refl)
  reg_in And a b first second = masked_in a b (first refl) (second refl)
  reg_in Or a b first second = changed_in Or a b (first refl) (second refl)
  reg_in Xor a b first second = changed_in Xor a b (first refl) (second refl)
  reg_in Sltu a b first second = flagged_in (compare os Bltu a b)
  reg_in kind a b first second = numbered_in kind a b

  pub imm_in : (kind : ImmKind) (a : Val) (imm : ℤ) → (takes_low_bits (operation_of kind) ≡ true → IsIn a) → IsIn (op_imm os kind a imm)
  imm_in kind (Int n) imm first = tt
  imm_in kind a imm first = reg_in (operation_of kind) a (Int (cast_unsigned w32 imm)) first (λ on. tt)

  -- a low site makes an address of its own object
  pub low_in : (a : Val) (o e : ℕ) → may o → IsIn (low_site os a o e)
  low_in (Hi q d) o e there =
      cond_both ((q == o) && same_chunk os.grain (home_address os o d) (home_address os o e)) (Addr o e) Unknown
      (ValueIsHeld may escapes) (λ same. there) (λ other. tt)
  low_in a o e there = tt

-- ---- loads

module _ (may escapes : ℕ → Type 0) where
  pub byte_in : (extend : ℕ → ℕ) (c : Cell) → CellIsHeld escapes c → ValueIsHeld may escapes (byte_value extend c)
  byte_in extend (Byte b) held = tt
  byte_in extend (Part hi o d k) held = held
  byte_in extend Mist held = tt

  pub half_in : (extend : ℕ → ℕ) (c d : Cell) → ValueIsHeld may escapes (half_value extend c d)
  half_in extend (Byte a) (Byte b) = tt
  half_in extend c d = tt

  whole_in : (hi : Bool) (o d : ℕ) → may o → ValueIsHeld may escapes (whole_word hi o d)
  whole_in true o d there = there
  whole_in false o d there = there

  -- a word of memory has an address of an object that escapes
  pub join_in : (first second third fourth : Cell) → ((o : ℕ) → escapes o → may o) → CellIsHeld escapes first → ValueIsHeld may escapes (join first second third fourth)
  join_in (Byte i) (Byte j) (Byte k) (Byte n) also held = tt
  join_in (Part hi o d k) second third fourth also held =
      cond_both ((k == 0) && is_part hi o d 1 second && is_part hi o d 2 third && is_part hi o d 3 fourth) (whole_word hi o d) Unknown
      (ValueIsHeld may escapes) (λ parts. whole_in hi o d (also o held)) (λ other. tt)
  join_in first second third fourth also held = tt

  -- ---- stores

  pub split_in : (x : Val) → ((o : ℕ) → may o → escapes o) → ValueIsHeld may escapes x → (k : ℕ) → k < 4 → CellIsHeld escapes (slice_index_or (split x) k Mist)
  split_in (Int n) also held = first_cells (λ k. CellIsHeld escapes (slice_index_or (split (Int n)) k Mist)) tt tt tt tt
  split_in (Addr o d) also held =
      let there = also o held in
      first_cells (λ k. CellIsHeld escapes (slice_index_or (split (Addr o d)) k Mist)) there there there there
  split_in (Hi o d) also held =
      let there = also o held in
      first_cells (λ k. CellIsHeld escapes (slice_index_or (split (Hi o d)) k Mist)) there there there there
  split_in (Low n) also held = first_cells (λ k. CellIsHeld escapes (slice_index_or (split (Low n)) k Mist)) tt tt tt tt
  split_in (Piece hi o d j) also held =
      first_cells (λ k. CellIsHeld escapes (slice_index_or (split (Piece hi o d j)) k Mist)) held tt tt tt
  split_in Unknown also held = first_cells (λ k. CellIsHeld escapes (slice_index_or (split Unknown) k Mist)) tt tt tt tt
