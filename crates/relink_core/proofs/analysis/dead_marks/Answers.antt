use Rattle.std.proofs.Common.{◌+◌, ◌<◌, length, refl, ap, arith}
use Rattle.std.proofs.lemmas.List.{length_push}
use Rattle.code_blocks.proofs.NumberLemmas.{number_at}
use Rattle.relink_core.proofs.RegionLemmas.{dead_there, told_more}
use Rattle.relink_core.proofs.analysis.dead_marks.Goals as goal

pub loop-b-preserved : goal.loop-b-preserved
loop-b-preserved c =
    let code = c.args.code.now in
    let b = c.loop-b.b in
    let block = c.index.result.now in
    let within : b < length code.blocks.items = omega (arith, c.loop-b-test.true, c.len-b-end.ensures) in
    let begins = (number_at code block.start b block within c.index.ensures refl).1 in
    let here = dead_there code b block.start c.has_dead.result c.requires.ascending within begins (c.has_dead.ensures code c.requires.live) in
    let items = c.in_ok-push.ensures.items in
    record {
      one_each = omega (arith, ap length items, length_push c.loop-b.marks.items c.has_dead.result, c.loop-b.invariant.one_each);
      each = told_more code b (b + 1) c.has_dead.result c.loop-b.marks.items c.push.new.self.items items c.loop-b.invariant.one_each refl c.loop-b.invariant.each here;
    }
