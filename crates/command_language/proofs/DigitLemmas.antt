-- The number that digits spell, digit by digit.
use Rattle.std.proofs.Common.{◌≡◌, ℕ, ◌+◌, ◌-◌, ◌*◌, List, [], ◌∷◌, ◌++◌, refl}
use Rattle.command_language.specs.Command.{value_from}

-- one more digit
pub value_more : (before : ℕ) (digits : List ℕ) (digit : ℕ)
    → value_from before (digits ++ digit ∷ []) ≡ 10 * value_from before digits + (digit - 48)
value_more before [] digit = refl
value_more before (d ∷ digits) digit = value_more (10 * before + (d - 48)) digits digit
