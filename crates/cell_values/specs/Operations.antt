-- What the operations leave of values: for each operation the rows of its table, the first that fits. An
-- address and a number give an address again where the sum, the difference or the masked bits tell which;
-- of other values it is known at most what they are modulo the grain.
use Rattle.std.specs.Prelude.{ℕ, ◌-◌, ◌/◌, ◌%◌, ◌==◌, nat_lt, nat_le, Bool, ◌&&◌, bit_and, Option, Some, None, ℤ, if◌then◌else◌}
use Rattle.std.specs.Int.{cast_unsigned, w32}
use Rattle.rv32im.specs.Words.{plus, minus}
use Rattle.rv32im.specs.Operations.{operation_of}
use Rattle.rv32im.specs.Acts.{flag, imm_value, reg_value}
use Rattle.rv32im.specs.declared.instructions.BranchKind.TheVariants.{Bltu}
use Rattle.rv32im.specs.declared.instructions.ImmKind.{ImmKind}
use Rattle.rv32im.specs.declared.instructions.RegKind.{RegKind}
use Rattle.rv32im.specs.declared.instructions.RegKind.TheVariants.{Add, Sub, Sltu, Xor, Or, And}
use Rattle.cell_values.specs.Objects.{Objects, home_address, low_of}
use Rattle.cell_values.specs.Comparisons.{compare}
use Rattle.cell_values.specs.declared.values.Val.{Val}
use Rattle.cell_values.specs.declared.values.Val.TheVariants.{Int, Addr, Hi, Low, Unknown}

-- where both are known modulo the grain, so is what the operation leaves
abbrev pub of_lows : RegKind → ℕ → Option ℕ → Option ℕ → Val
of_lows kind g (Some a) (Some b) = Low (reg_value kind a b % g)
of_lows kind g (Some a) None = Unknown
of_lows kind g None b = Unknown

abbrev pub by_lows : Objects → RegKind → Val → Val → Val
by_lows os kind a b = of_lows kind os.grain (low_of os a) (low_of os b)

-- ADD: an address and a number, in either order
abbrev pub added : Objects → Val → Val → Val
added os (Int a) (Int b) = Int (reg_value Add a b)
added os (Addr o d) (Int n) = Addr o (plus d n)
added os (Int n) (Addr o d) = Addr o (plus d n)
added os a b = by_lows os Add a b

-- SUB: a number from an address, and two addresses of one object
abbrev pub subtracted : Objects → Val → Val → Val
subtracted os (Int a) (Int b) = Int (reg_value Sub a b)
subtracted os (Addr o d) (Int n) = Addr o (minus d n)
subtracted os (Addr o d) (Addr p e) =
    if o == p then Int (minus d e) else by_lows os Sub (Addr o d) (Addr p e)
subtracted os a b = by_lows os Sub a b

-- AND with a number below the grain, which keeps known bits alone
abbrev pub kept_bits : ℕ → Option ℕ → Val
kept_bits m (Some low) = Int (bit_and low m)
kept_bits m None = Unknown

abbrev pub masked_low : Objects → ℕ → Val → Val
masked_low os m a = if nat_lt m os.grain then kept_bits m (low_of os a) else by_lows os And (Int m) a

-- AND of an address with a number of which all bits above the grain are set clears known bits alone
abbrev pub cleared_bits : Objects → ℕ → ℕ → ℕ → ℕ
cleared_bits os o d m = bit_and (home_address os o d % os.grain) (4294967295 - m)

abbrev pub masked_address : Objects → ℕ → ℕ → ℕ → Val
masked_address os o d m =
    if nat_le (4294967296 - os.grain) m then Addr o (minus d (cleared_bits os o d m)) else masked_low os m (Addr o d)

abbrev pub masked : Objects → Val → Val → Val
masked os (Int a) (Int b) = Int (reg_value And a b)
masked os (Addr o d) (Int m) = masked_address os o d m
masked os (Int m) (Addr o d) = masked_address os o d m
masked os a (Int m) = masked_low os m a
masked os (Int m) b = masked_low os m b
masked os a b = by_lows os And a b

-- OR and XOR of an address with a number below the grain change known bits alone
abbrev pub changed_address : Objects → RegKind → ℕ → ℕ → ℕ → Val
changed_address os kind o d m =
    if nat_lt m os.grain
    then Addr o (minus (plus d (reg_value kind (home_address os o d % os.grain) m)) (home_address os o d % os.grain))
    else by_lows os kind (Addr o d) (Int m)

abbrev pub changed : Objects → RegKind → Val → Val → Val
changed os kind (Int a) (Int b) = Int (reg_value kind a b)
changed os kind (Addr o d) (Int m) = changed_address os kind o d m
changed os kind (Int m) (Addr o d) = changed_address os kind o d m
changed os kind a b = by_lows os kind a b

-- SLTU: 1 or 0 where the comparison is known
abbrev pub flagged : Option Bool → Val
flagged (Some less) = Int (flag less)
flagged None = Unknown

-- all other operations know numbers alone
abbrev pub numbered : RegKind → Val → Val → Val
numbered kind (Int a) (Int b) = Int (reg_value kind a b)
numbered kind a b = Unknown

-- an operation on two registers
abbrev pub op_reg : Objects → RegKind → Val → Val → Val
op_reg os Add a b = added os a b
op_reg os Sub a b = subtracted os a b
op_reg os And a b = masked os a b
op_reg os Or a b = changed os Or a b
op_reg os Xor a b = changed os Xor a b
op_reg os Sltu a b = flagged (compare os Bltu a b)
op_reg os kind a b = numbered kind a b

-- an operation with an immediate, which is a number
abbrev pub op_imm : Objects → ImmKind → Val → ℤ → Val
op_imm os kind (Int n) imm = Int (imm_value kind n imm)
op_imm os kind a imm = op_reg os (operation_of kind) a (Int (cast_unsigned w32 imm))

-- ---- sites

-- two addresses lie in one chunk
abbrev pub same_chunk : ℕ → ℕ → ℕ → Bool
same_chunk g a b = a / g == b / g

-- the address that a low site makes of the upper part in its register: the object's whose relocation says
-- so, if the upper part is that of an address in the same chunk
abbrev pub low_site : Objects → Val → ℕ → ℕ → Val
low_site os (Hi p d) o e =
    if (p == o) && same_chunk os.grain (home_address os o d) (home_address os o e) then Addr o e else Unknown
low_site os a o e = Unknown
