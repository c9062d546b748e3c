-- Operations on numbers.
use Rattle.std.proofs.Common.{◌≡◌, ℕ, refl}
use Rattle.rv32im.specs.Acts.{reg_value}
use Rattle.rv32im.specs.declared.instructions.RegKind.{RegKind}
use Rattle.rv32im.specs.declared.instructions.RegKind.TheVariants.{Add, Sub, Sll, Slt, Sltu, Xor, Srl, Sra, Or, And, Mul, Mulh, Mulhsu, Mulhu, Div, Divu, Rem, Remu}
use Rattle.cell_values.specs.Objects.{Objects}
use Rattle.cell_values.specs.Operations.{op_reg}
use Rattle.cell_values.specs.declared.values.Val.{Val}
use Rattle.cell_values.specs.declared.values.Val.TheVariants.{Int}

-- on numbers all do what they do on words
numbers : (os : Objects) (kind : RegKind) (a b : ℕ) → Int (reg_value kind a b) ≡ op_reg os kind (Int a) (Int b)
numbers os Add a b = refl
numbers os Sub a b = refl
numbers os Sll a b = refl
numbers os Slt a b = refl
numbers os Sltu a b = refl
numbers os Xor a b = refl
numbers os Srl a b = refl
numbers os Sra a b = refl
numbers os Or a b = refl
numbers os And a b = refl
numbers os Mul a b = refl
numbers os Mulh a b = refl
numbers os Mulhsu a b = refl
numbers os Mulhu a b = refl
numbers os Div a b = refl
numbers os Divu a b = refl
numbers os Rem a b = refl
numbers os Remu a b = refl

pub numbers_operated : (os : Objects) (kind : RegKind) (a b : ℕ) (x y : Val) → x ≡ Int a → y ≡ Int b → Int (reg_value kind a b) ≡ op_reg os kind x y
numbers_operated os kind a b x y first second = rw (first, second) (numbers os kind a b)
