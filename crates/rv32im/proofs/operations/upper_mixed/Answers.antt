-- Neither the factors nor their product lose anything as numbers of 64 bits.
use Rattle.std.proofs.Common.{◌≡◌, ◌-◌, ◌^◌, pos, ◌*ℤ◌, w64, FitsSigned, arith, rules}
use Rattle.std.proofs.lemmas.Int.{fits_signed_mul, to_z-of_z}
use Rattle.rv32im.proofs.operations.upper_mixed.Goals as goal

pub returns : goal.returns
returns c =
    let a : c.from.result ≡ c.args.a = search rules in
    let b : c.from-2.result ≡ pos c.args.b = search rules in
    let left : FitsSigned w64 c.args.a = search rules in
    let right : FitsSigned w64 (pos c.args.b) = search rules in
    let product : FitsSigned w64 (c.args.a *ℤ pos c.args.b) =
    fits_signed_mul w64 c.args.a (pos c.args.b) (2 ^ 31) (2 ^ 32 - 1) (search rules) (omega arith) (omega arith) in
    let upper = rw (a, b) at c.upper_half.ensures in
    simp to_z-of_z at upper
