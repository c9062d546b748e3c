-- What a loop leaves of the items of a vector that it changes through a slice.
use Rattle.std.proofs.Common.{◌≡◌, ℕ, List, ◌++◌, take, length, sym, ◌∙◌, ap, arith}
use Rattle.std.proofs.Math.Seq.{take-length}
use Rattle.std.proofs.lemmas.List.{take-append-le}

pub taken_whole : {X : Type 0} (n : ℕ) (xs rest : List X) → length xs ≡ n → take n (xs ++ rest) ≡ xs
taken_whole n xs rest same =
    take-append-le n xs rest (omega (arith, same)) ∙ ap (λ (k : ℕ). take k xs) (sym same) ∙ take-length xs
