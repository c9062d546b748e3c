use Rattle.std.proofs.Common.{sym, subst, ℕ, Some}
use Rattle.block_splitter.specs.Facts.{IsOnly, StartsFunction}
use Rattle.block_splitter.proofs.CandidateLemmas.{functions}
use Rattle.block_splitter.proofs.candidates.function_first.Goals as goal

pub returns-then-ends_function : goal.returns-then-ends_function
returns-then-ends_function c =
    let (f, owner, ends) = c.ends_function.ensures.0 c.if-ends_function.true in
    subst (λ (x : ℕ). IsOnly (StartsFunction c.args.code.now c.args.last) (Some x)) (sym c.number_of.ensures)
    (functions c.requires.code.0 c.args.code.now c.args.last c.args.first f c.requires.code.1 c.requires.below c.requires.first owner ends)
