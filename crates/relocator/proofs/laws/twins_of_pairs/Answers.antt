use Rattle.std.proofs.Common.{◌*◌, inl, inr, arith}
use Rattle.std.proofs.lemmas.Bool.{cases_eq}
use Rattle.relocator.proofs.laws.twins_of_pairs.Goals as goal

pub returns : goal.returns
returns c = λ region pair some. (
  λ is. elim (cases_eq region (2 * pair)) [
    | inl second ↦ inr second
    | inr other ↦ inl (omega (arith, is, some, other))
  ],
  λ twin. elim twin [
    | inl first ↦ omega (arith, first, some)
    | inr second ↦ omega (arith, second, some)
  ],
)
