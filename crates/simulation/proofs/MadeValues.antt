-- The AUIPC beside an upper part made it: values that operations leave and loads take, and cells that stores put.
use Rattle.std.proofs.Common.{◌≡◌, inl, inr, ℕ, ◌+◌, ◌-◌, ◌<◌, ◌≤◌, ◌==◌, nat_lt, nat_le, Bool, true, false, ◌&&◌, slice_index_or, Option, Some, None, ℤ, refl, sym, subst, arith, if◌then◌else◌}
use Rattle.std.specs.Int.{cast_unsigned, w32}
use Rattle.std.proofs.lemmas.Bool.{cases_lt, cond_both, eqb-true}
use Rattle.list_checks.proofs.TestLemmas.{both}
use Rattle.rv32im.specs.declared.instructions.BranchKind.TheVariants.{Bltu}
use Rattle.rv32im.specs.declared.instructions.ImmKind.{ImmKind}
use Rattle.rv32im.specs.declared.instructions.RegKind.{RegKind}
use Rattle.rv32im.specs.declared.instructions.RegKind.TheVariants.{Add, Sub, Sltu, Xor, Or, And}
use Rattle.cell_values.specs.Objects.{Objects, home_address, low_of}
use Rattle.cell_values.specs.Comparisons.{compare}
use Rattle.rv32im.specs.Operations.{operation_of}
use Rattle.cell_values.specs.Operations.{of_lows, by_lows, added, subtracted, kept_bits, masked_low, masked_address, masked, changed_address, changed, flagged, numbered, op_reg, op_imm, same_chunk, low_site}
use Rattle.cell_values.specs.Cells.{split, is_part, whole_word, join, byte_value, half_value}
use Rattle.cell_values.specs.declared.values.Val.{Val}
use Rattle.cell_values.specs.declared.values.Val.TheVariants.{Int, Addr, Hi, Low, Piece, Unknown}
use Rattle.cell_values.specs.declared.values.Cell.{Cell}
use Rattle.cell_values.specs.declared.values.Cell.TheVariants.{Byte, Part, Mist}
use Rattle.cell_values.specs.Origins.{Origin, ByLui, ByAuipc, Mixed, same_origin, joined_origin}
use Rattle.cell_values.proofs.Stores.{first_cells}
use Rattle.object_machine.specs.Program.{Program}
use Rattle.object_machine.specs.State.{Cells}
use Rattle.simulation.specs.Made.{MakesPart, IsMade, CellIsMade}
use Rattle.simulation.proofs.Puts.{ChangedIn}

-- ---- operations leave no part of an address

abbrev pub IsNoPart : Val → Type 0
IsNoPart (Hi o d) = ⊥
IsNoPart (Piece hi o d k) = ⊥
IsNoPart x = Unit {0}

pub no_part_made : (p : Program) (origin : Origin) (x : Val) → IsNoPart x → IsMade p origin x
no_part_made p origin (Hi o d) none = absurd none
no_part_made p origin (Piece hi o d k) none = absurd none
no_part_made p origin x none = tt

pub chosen : (test : Bool) (x y : Val) → IsNoPart x → IsNoPart y → IsNoPart (if test then x else y)
chosen true x y first second = first
chosen false x y first second = second

module _ (os : Objects) where
  of_lows_plain : (kind : RegKind) (a b : Option ℕ) → IsNoPart (of_lows kind os.grain a b)
  of_lows_plain kind (Some a) (Some b) = tt
  of_lows_plain kind (Some a) None = tt
  of_lows_plain kind None b = tt

  lows_plain : (kind : RegKind) (a b : Val) → IsNoPart (by_lows os kind a b)
  lows_plain kind a b = of_lows_plain kind (low_of os a) (low_of os b)

  added_plain : (a b : Val) → IsNoPart (added os a b)
  added_plain (Int a) (Int b) = tt
  added_plain (Addr o d) (Int n) = tt
  added_plain (Int n) (Addr o d) = tt
  added_plain a b = lows_plain Add a b

  subtracted_plain : (a b : Val) → IsNoPart (subtracted os a b)
  subtracted_plain (Int a) (Int b) = tt
  subtracted_plain (Addr o d) (Int n) = tt
  subtracted_plain (Addr o d) (Addr q e) =
      cond_both (o == q) _ _ IsNoPart (λ same. tt) (λ other. lows_plain Sub (Addr o d) (Addr q e))
  subtracted_plain a b = lows_plain Sub a b

  kept_plain : (m : ℕ) (low : Option ℕ) → IsNoPart (kept_bits m low)
  kept_plain m (Some low) = tt
  kept_plain m None = tt

  masked_low_plain : (m : ℕ) (a : Val) → IsNoPart (masked_low os m a)
  masked_low_plain m a =
      cond_both (nat_lt m os.grain) _ _ IsNoPart (λ small. kept_plain m (low_of os a)) (λ other. lows_plain And (Int m) a)

  masked_address_plain : (o d m : ℕ) → IsNoPart (masked_address os o d m)
  masked_address_plain o d m =
      cond_both (nat_le (4294967296 - os.grain) m) _ _ IsNoPart (λ high. tt) (λ other. masked_low_plain m (Addr o d))

  masked_plain : (a b : Val) → IsNoPart (masked os a b)
  masked_plain (Int a) (Int b) = tt
  masked_plain (Addr o d) (Int m) = masked_address_plain o d m
  masked_plain (Int m) (Addr o d) = masked_address_plain o d m
  masked_plain a (Int m) = masked_low_plain m a
  masked_plain (Int m) b = masked_low_plain m b
  masked_plain a b = lows_plain And a b

  changed_address_plain : (kind : RegKind) (o d m : ℕ) → IsNoPart (changed_address os kind o d m)
  changed_address_plain kind o d m =
      cond_both (nat_lt m os.grain) _ _ IsNoPart (λ small. tt) (λ other. lows_plain kind (Addr o d) (Int m))

  changed_plain : (kind : RegKind) (a b : Val) → IsNoPart (changed os kind a b)
  changed_plain kind (Int a) (Int b) = tt
  changed_plain kind (Addr o d) (Int m) = changed_address_plain kind o d m
  changed_plain kind (Int m) (Addr o d) = changed_address_plain kind o d m
  changed_plain kind a b = lows_plain kind a b

  flagged_plain : (known : Option Bool) → IsNoPart (flagged known)
  flagged_plain (Some less) = tt
  flagged_plain None = tt

  numbered_plain : (kind : RegKind) (a b : Val) → IsNoPart (numbered kind a b)
  numbered_plain kind (Int a) (Int b) = tt
  numbered_plain kind a b = tt

  pub reg_plain : (kind : RegKind) (a b : Val) → IsNoPart (op_reg os kind a b)
  reg_plain Add a b = added_plain a b
  reg_plain Sub a b = subtracted_plain a b
  reg_plain And a b = masked_plain a b
  reg_plain Or a b = changed_plain Or a b
  reg_plain Xor a b = changed_plain Xor a b
  reg_plain Sltu a b = flagged_plain (compare os Bltu a b)
  reg_plain kind a b = numbered_plain kind a b

  pub imm_plain : (kind : ImmKind) (a : Val) (imm : ℤ) → IsNoPart (op_imm os kind a imm)
  imm_plain kind (Int n) imm = tt
  imm_plain kind a imm = reg_plain (operation_of kind) a (Int (cast_unsigned w32 imm))

  pub site_plain : (a : Val) (o e : ℕ) → IsNoPart (low_site os a o e)
  site_plain (Hi q d) o e =
      chosen ((q == o) && same_chunk os.grain (home_address os o d) (home_address os o e)) (Addr o e) Unknown tt tt
  site_plain a o e = tt

-- ---- loads

module _ (p : Program) where
  pub byte_made : (extend : ℕ → ℕ) (origin : Origin) (c : Cell) → CellIsMade p origin c → IsMade p origin (byte_value extend c)
  byte_made extend origin (Byte b) made = tt
  byte_made extend origin (Part true o d k) made = made
  byte_made extend origin (Part false o d k) made = tt
  byte_made extend origin Mist made = tt

  pub half_made : (extend : ℕ → ℕ) (origin : Origin) (c d : Cell) → IsMade p origin (half_value extend c d)
  half_made extend origin (Byte a) (Byte b) = tt
  half_made extend origin c d = tt

  -- of parts of one word that have two origins, an AUIPC made one
  two_origins : (a b : Origin) (o d : ℕ) → same_origin a b ≡ false → MakesPart p a o d → MakesPart p b o d → MakesPart p Mixed o d
  two_origins ByLui ByLui o d other first second = absurd (cc)
  two_origins (ByAuipc a) b o d other first second = (a, first)
  two_origins Mixed b o d other first second = first
  two_origins ByLui (ByAuipc b) o d other first second = (b, second)
  two_origins ByLui Mixed o d other first second = second

  joined_made : (a b c e : Origin) (o d : ℕ) → MakesPart p a o d → MakesPart p b o d → MakesPart p c o d → MakesPart p e o d → IsMade p (joined_origin a b c e) (Hi o d)
  joined_made a b c e o d first second third fourth =
      by_tests (same_origin a b) (same_origin a c) (same_origin a e) refl refl refl
    where
      by_tests : (x y z : Bool) → same_origin a b ≡ x → same_origin a c ≡ y → same_origin a e ≡ z → MakesPart p (if x && y && z then a else Mixed) o d
      by_tests true true true ab ac ae = first
      by_tests true true false ab ac ae = two_origins a e o d ae first fourth
      by_tests true false z ab ac ae = two_origins a c o d ac first third
      by_tests false y z ab ac ae = two_origins a b o d ab first second

  part_made : (origin : Origin) (o d j : ℕ) (c : Cell) → is_part true o d j c ≡ true → CellIsMade p origin c → MakesPart p origin o d
  part_made origin o d j (Part true q e k) is made =
      let two = both ((o == q) && (d == e)) (j == k) is in
      let one = both (o == q) (d == e) two.0 in
      let object : q ≡ o = sym (eqb-true o q one.0) in
      let offset : e ≡ d = sym (eqb-true d e one.1) in
      subst (λ (x : ℕ). MakesPart p origin o x) offset (subst (λ (x : ℕ). MakesPart p origin x e) object made)
  part_made origin o d j (Part false q e k) is made = absurd (cc)
  part_made origin o d j (Byte b) is made = absurd (cc)
  part_made origin o d j Mist is made = absurd (cc)

  pub join_made : (a b c e : Origin) (first second third fourth : Cell) → CellIsMade p a first → CellIsMade p b second → CellIsMade p c third → CellIsMade p e fourth → IsMade p (joined_origin a b c e) (join first second third fourth)
  join_made a b c e (Byte i) (Byte j) (Byte k) (Byte n) made made2 made3 made4 = tt
  join_made a b c e (Part true o d k) second third fourth made made2 made3 made4 =
      cond_both ((k == 0) && is_part true o d 1 second && is_part true o d 2 third && is_part true o d 3 fourth)
      (whole_word true o d) Unknown (IsMade p (joined_origin a b c e))
      (λ parts.
      let three = both ((k == 0) && is_part true o d 1 second && is_part true o d 2 third) (is_part true o d 3 fourth) parts in
      let two = both ((k == 0) && is_part true o d 1 second) (is_part true o d 2 third) three.0 in
      let one = both (k == 0) (is_part true o d 1 second) two.0 in
      joined_made a b c e o d made (part_made b o d 1 second one.1 made2) (part_made c o d 2 third two.1 made3)
      (part_made e o d 3 fourth three.1 made4))
      (λ other. tt)
  join_made a b c e (Part false o d k) second third fourth made made2 made3 made4 =
      cond_both ((k == 0) && is_part false o d 1 second && is_part false o d 2 third && is_part false o d 3 fourth)
      (whole_word false o d) Unknown (IsMade p (joined_origin a b c e)) (λ parts. tt) (λ other. tt)
  join_made a b c e first second third fourth made made2 made3 made4 = tt

  -- ---- stores

  pub split_made : (origin : Origin) (x : Val) → IsMade p origin x → (k : ℕ) → k < 4 → CellIsMade p origin (slice_index_or (split x) k Mist)
  split_made origin (Int n) made =
      first_cells (λ k. CellIsMade p origin (slice_index_or (split (Int n)) k Mist)) tt tt tt tt
  split_made origin (Addr o d) made =
      first_cells (λ k. CellIsMade p origin (slice_index_or (split (Addr o d)) k Mist)) tt tt tt tt
  split_made origin (Hi o d) made =
      first_cells (λ k. CellIsMade p origin (slice_index_or (split (Hi o d)) k Mist)) made made made made
  split_made origin (Low n) made =
      first_cells (λ k. CellIsMade p origin (slice_index_or (split (Low n)) k Mist)) tt tt tt tt
  split_made origin (Piece true o d j) made =
      first_cells (λ k. CellIsMade p origin (slice_index_or (split (Piece true o d j)) k Mist)) made tt tt tt
  split_made origin (Piece false o d j) made =
      first_cells (λ k. CellIsMade p origin (slice_index_or (split (Piece false o d j)) k Mist)) tt tt tt tt
  split_made origin Unknown made =
      first_cells (λ k. CellIsMade p origin (slice_index_or (split Unknown) k Mist)) tt tt tt tt

  -- cells and origins that change at the same places
  pub changed_made : (old new : Cells) (old_origins new_origins : ℕ → Origin) (k n : ℕ) (xs : ℕ → Cell) (origin : Origin) → ChangedIn old new k n xs → ChangedIn old_origins new_origins k n (λ i. origin) → ((a : ℕ) → CellIsMade p (old_origins a) (old a)) → ((i : ℕ) → i < n → CellIsMade p origin (xs i)) → (a : ℕ) → CellIsMade p (new_origins a) (new a)
  changed_made old new old_origins new_origins k n xs origin cells origins before put a =
      elim (cases_lt a k) [
        | inl low ↦ elsewhere (λ i below same. omega arith)
        | inr high ↦ elim (cases_lt (a - k) n) [ inl below ↦ here below high | inr beyond ↦ elsewhere (λ i below same. omega arith) ]
      ]
    where
      elsewhere : ((i : ℕ) → i < n → a ≡ k + i → ⊥) → CellIsMade p (new_origins a) (new a)
      elsewhere other =
          let cell = cells.outside a other in
          let made = origins.outside a other in
          rw (cell, made) (before a)

      here : a - k < n → k ≤ a → CellIsMade p (new_origins a) (new a)
      here below high =
          let same : k + (a - k) ≡ a = omega arith in
          let cell : new a ≡ xs (a - k) = subst (λ b. new b ≡ xs (a - k)) same (cells.inside (a - k) below) in
          let made : new_origins a ≡ origin = subst (λ b. new_origins b ≡ origin) same (origins.inside (a - k) below) in
          rw (cell, made) (put (a - k) below)
