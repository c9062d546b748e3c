-- What branches know of values.
use Rattle.std.specs.Prelude.{ℕ, ◌==◌, nat_lt, nat_le, Bool, true, false, not, ◌&&◌, if◌then◌else◌, Option, Some, None}
use Rattle.rv32im.specs.Acts.{is_taken}
use Rattle.rv32im.specs.declared.instructions.BranchKind.{BranchKind}
use Rattle.rv32im.specs.declared.instructions.BranchKind.TheVariants.{Beq, Bne, Blt, Bge, Bltu, Bgeu}
use Rattle.cell_values.specs.Objects.{Objects}
use Rattle.cell_values.specs.declared.values.Val.{Val}
use Rattle.cell_values.specs.declared.values.Val.TheVariants.{Int, Addr}

-- an answer that is known on a condition alone
abbrev pub known_if : Bool → Bool → Option Bool
known_if true answer = Some answer
known_if false answer = None

-- two addresses of one object of `size` bytes: they are the same where their offsets are, and in the order
-- of these up to the object's end
abbrev pub within : ℕ → ℕ → ℕ → Bool
within size d e = nat_le d size && nat_le e size

abbrev pub same_object : ℕ → BranchKind → ℕ → ℕ → Option Bool
same_object size Beq d e = Some (d == e)
same_object size Bne d e = Some (not (d == e))
same_object size Bltu d e = known_if (within size d e) (nat_lt d e)
same_object size Bgeu d e = known_if (within size d e) (not (nat_lt d e))
same_object size Blt d e = None
same_object size Bge d e = None

-- two addresses of unequal objects, both inside: they are not the same
abbrev pub other_object : Bool → BranchKind → Option Bool
other_object inside Beq = known_if inside false
other_object inside Bne = known_if inside true
other_object inside kind = None

-- an address up to the end of its object, and 0, which is the first of the two or the second: they are not the same, and
-- 0 is below
abbrev pub beside_zero : Bool → Bool → BranchKind → Option Bool
beside_zero zero_first near Beq = known_if near false
beside_zero zero_first near Bne = known_if near true
beside_zero zero_first near Bltu = known_if near zero_first
beside_zero zero_first near Bgeu = known_if near (not zero_first)
beside_zero zero_first near kind = None

abbrev pub above_zero : Bool → BranchKind → Option Bool
above_zero near kind = beside_zero false near kind

abbrev pub zero_below : Bool → BranchKind → Option Bool
zero_below near kind = beside_zero true near kind

-- whether a branch is taken, where it is known
abbrev pub compare : Objects → BranchKind → Val → Val → Option Bool
compare os kind (Int a) (Int b) = Some (is_taken kind a b)
compare os kind (Addr o d) (Addr p e) =
    if o == p then same_object (os.size o) kind d e
    else other_object (nat_lt d (os.size o) && nat_lt e (os.size p)) kind
compare os kind (Addr o d) (Int n) = above_zero ((n == 0) && nat_le d (os.size o)) kind
compare os kind (Int n) (Addr o d) = zero_below ((n == 0) && nat_le d (os.size o)) kind
compare os kind a b = None
