-- Remainders of signed words.
use Rattle.std.proofs.Common.{◌≡◌, ◌≢◌, ℕ, w32, arith, refl}
use Rattle.std.specs.Prelude.{int_rem}
use Rattle.std.specs.Int.{cast_unsigned, cast_signed}
use Rattle.std.proofs.lemmas.Bool.Decides.{nat_tests}
use Rattle.rv32im.specs.Acts.{remainder}

-- that of the only quotient that overflows is 0 too
pub remainder_of : (a b : ℕ) → b ≢ 0 → cast_unsigned w32 (int_rem (cast_signed w32 a) (cast_signed w32 b)) ≡ remainder a b
remainder_of a b nonzero =
    let least : cast_unsigned w32 (int_rem (cast_signed w32 2147483648) (cast_signed w32 4294967295)) ≡ 0 = refl in
    grind (arith, nat_tests)
