-- Neither the factors nor their product lose anything as numbers of 64 bits.
use Rattle.std.proofs.Common.{◌≡◌, ◌*ℤ◌, w64, FitsSigned, rules}
use Rattle.std.proofs.lemmas.Int.{to_z-of_z}
use Rattle.rv32im.proofs.operations.upper_signed.Goals as goal

pub returns : goal.returns
returns c =
    let a : c.from.result ≡ c.args.a = search rules in
    let b : c.from-2.result ≡ c.args.b = search rules in
    let left : FitsSigned w64 c.args.a = search rules in
    let right : FitsSigned w64 c.args.b = search rules in
    let product : FitsSigned w64 (c.args.a *ℤ c.args.b) = search rules in
    let upper = rw (a, b) at c.upper_half.ensures in
    simp to_z-of_z at upper
