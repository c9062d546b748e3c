use Rattle.std.proofs.Common.{◌∙◌, sym, ap}
use Rattle.std.proofs.lemmas.Bool.{both_ways}
use Rattle.block_splitter.specs.Facts.{target_of}
use Rattle.block_splitter.proofs.FormLemmas.{end_is}
use Rattle.block_splitter.proofs.CandidateLemmas.{loops, no_loop}
use Rattle.block_splitter.proofs.candidates.loop_first.Goals as goal

pub returns-then-is_loop : goal.returns-then-is_loop
returns-then-is_loop c =
    let (le, f, mine, last) = c.is_loop.ensures.0 c.if-is_loop.true in
    loops c.requires.code.0 c.args.code.now c.args.b c.in-Some.target c.in-Some-block_at.first f c.requires.code.1 c.requires.below
    (ap target_of (end_is c.args.code.now c.args.b c.index.result.now c.requires.below c.index.ensures) ∙ sym c.jump_target.ensures ∙ c.in-Some.is)
    c.in-Some-block_at.ensures.0 c.in-Some-block_at.ensures.1 le mine last

pub returns-else-is_loop : goal.returns-else-is_loop
returns-else-is_loop c =
    no_loop c.args.code.now c.args.b c.in-Some.target c.in-Some-block_at.first c.requires.code.1.ascending
    (ap target_of (end_is c.args.code.now c.args.b c.index.result.now c.requires.below c.index.ensures) ∙ sym c.jump_target.ensures ∙ c.in-Some.is)
    c.in-Some-block_at.ensures.0 c.in-Some-block_at.ensures.1
    (λ f le mine last. both_ways _ c.if-is_loop.false (c.is_loop.ensures.1 (le, f, mine, last)))
