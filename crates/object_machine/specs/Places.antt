-- Where an access goes, or why it can't.
use Rattle.std.specs.Prelude.{ℕ, ◌+◌, ◌%◌, ◌==◌, nat_le, nat_lt, Bool, if◌then◌else◌, Option, Some, None, ℤ}
use Rattle.list_checks.specs.First.{first_below}
use Rattle.rv32im.specs.declared.instructions.ImmKind.TheVariants.{Addi}
use Rattle.cell_values.specs.Objects.{Objects, home_address}
use Rattle.cell_values.specs.Operations.{op_imm, low_site}
use Rattle.cell_values.specs.declared.values.Val.{Val}
use Rattle.cell_values.specs.declared.values.Val.TheVariants.{Int, Addr, Hi, Low, Piece, Unknown}
use Rattle.object_machine.specs.Program.{Program, Target}

-- fixed memory from an address on, an object from an offset on, or nowhere for a reason
pub data Where : Type 0 where
  InFixed : ℕ → Where
  InObject : ℕ → ℕ → Where
  Nowhere : ℕ → Where

-- a byte by its number as an address: reason 4 where it is an object's, and 3 where it is none of both
abbrev pub byte_fault : Program → ℕ → Option ℕ
byte_fault p a = if p.is_fixed a then None else Some (if p.is_held a then 4 else 3)

abbrev pub fault_from : Program → ℕ → ℕ → Option ℕ
fault_from p a i = byte_fault p (a + i)

abbrev pub in_fixed : ℕ → Option ℕ → Where
in_fixed a None = InFixed a
in_fixed a (Some why) = Nowhere why

-- an access of `width` bytes: by a number to fixed memory, by an address into its object (reason 1 outside).
-- It must be aligned (2), and the value one of both (5). Places and homes are the same modulo every width
abbrev pub located : Program → ℕ → Val → Where
located p width (Int a) =
    if a % width == 0 then in_fixed a (first_below (fault_from p a) width) else Nowhere 2
located p width (Addr o d) =
    if home_address p.objects o d % width == 0
    then (if nat_le (d + width) (p.objects.size o) then InObject o d else Nowhere 1)
    else Nowhere 2
located p width x = Nowhere 5

-- one byte that a call moves, `i` bytes behind a value. Calls need no alignment
abbrev pub byte_place : Program → Val → ℕ → Where
byte_place p (Int a) i = in_fixed (a + i) (byte_fault p (a + i))
byte_place p (Addr o d) i = if nat_lt (d + i) (p.objects.size o) then InObject o (d + i) else Nowhere 1
byte_place p x i = Nowhere 5

-- why a byte can't be read, or can't be written: 9 in an object that isn't writable
abbrev pub read_fault : Where → Option ℕ
read_fault (InFixed a) = None
read_fault (InObject o d) = None
read_fault (Nowhere why) = Some why

abbrev pub write_fault : Program → Where → Option ℕ
write_fault p (InFixed a) = None
write_fault p (InObject o d) = if p.objects.writable o then None else Some 9
write_fault p (Nowhere why) = Some why

-- the address of a load or a store: at a site the object's whose relocation says so
abbrev pub address_of : Program → Option Target → Val → ℤ → Val
address_of p None x imm = op_imm p.objects Addi x imm
address_of p (Some t) x imm = low_site p.objects x t.object t.offset
