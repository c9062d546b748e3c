use Rattle.std.proofs.Common.{refl, sym, arith}
use Rattle.block_splitter.proofs.SumLemmas.{none_before}
use Rattle.block_splitter.proofs.FitLemmas.{stand_more, words_more, never_fits, fits}
use Rattle.block_splitter.proofs.measuring.measure.Goals as goal

pub loop-b-init : goal.loop-b-init
loop-b-init c = record {
  words = λ g table. sym (none_before c.args.code.now g c.args.range.now);
  few = omega arith;
  stand = λ k from below. absurd (omega (arith, from, below));
}

pub loop-b-preserved : goal.loop-b-preserved
loop-b-preserved c =
    let range = c.args.range.now in
    let test = c.loop-b-test.true in
    record {
      words = λ g table. words_more c.args.code.now g range c.loop-b.b _ c.loop-b.words c.in-Some.more refl c.loop-b.auto.b (omega (arith, test)) (c.loop-b.invariant.words g table) (c.in-Some.ensures c.args.code.now g c.requires.ascending c.requires.range c.extent_of-extent.ensures table).1;
      few = (c.in-Some.ensures c.args.code.now c.requires.table.0 c.requires.ascending c.requires.range c.extent_of-extent.ensures c.requires.table.1).2;
      stand = stand_more c.args.code.now range c.loop-b.b _ refl c.loop-b.invariant.stand (c.in-Some.ensures c.args.code.now c.requires.table.0 c.requires.ascending c.requires.range c.extent_of-extent.ensures c.requires.table.1).0;
    }

pub returns-in-None-clause-words : goal.returns-in-None-clause-words
returns-in-None-clause-words c = λ g table.
    let test = c.loop-b-test.true in
    never_fits c.args.code.now g c.args.range.now c.loop-b.b c.loop-b.words c.requires.range c.loop-b.auto.b (omega (arith, test)) (c.loop-b.invariant.words g table) (c.in-None.ensures c.args.code.now g c.requires.ascending c.requires.range c.extent_of-extent.ensures table)

pub returns-clause-words : goal.returns-clause-words
returns-clause-words c = λ g table.
    let ordered = c.requires.range.ordered in
    let over = c.loop-b-test.false in
    let upto = c.loop-b.auto.b-end (omega (arith, ordered)) in
    fits c.args.code.now g c.args.range.now c.loop-b.b c.loop-b.words c.requires.range (omega (arith, over, upto)) (c.loop-b.invariant.words g table) c.loop-b.invariant.few c.loop-b.invariant.stand
