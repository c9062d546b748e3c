use Rattle.std.proofs.Common.{inl, inr, arith}
use Rattle.std.proofs.lemmas.Bool.{both_ways}
use Rattle.block_splitter.proofs.CandidateLemmas.{run_carried, run_new}
use Rattle.block_splitter.proofs.candidates.run_first.Goals.{else-b-gt0-via-then-b-gt0+else-is_same_function, else-b-gt0-via-else-b-gt0}
use Rattle.block_splitter.proofs.candidates.run_first.Goals as goal

pub returns-then-is_same_function : goal.returns-then-is_same_function
returns-then-is_same_function c =
    run_carried c.args.code.now c.args.b c.args.before c.if-b-gt0.true (c.is_same_function.ensures.0 c.if-is_same_function.true) c.requires.before

pub returns-else-b-gt0 : goal.returns-else-b-gt0
returns-else-b-gt0 c =
    run_new c.requires.code.0 c.args.code.now c.args.b c.requires.code.1 c.requires.below
    (elim c.else-b-gt0.branch [
      | else-b-gt0-via-then-b-gt0+else-is_same_function w ↦ inr (w.if-b-gt0.true, λ same. both_ways _ w.if-is_same_function.false (w.is_same_function.ensures.1 same))
      | else-b-gt0-via-else-b-gt0 w ↦ let none = w.if-b-gt0.false in inl (omega (arith, none))
    ])
