use Rattle.std.proofs.Common.{◌≡◌, inr, ◌<◌, ℕ, length, bit_and, subst, arith}
use Rattle.reach_graph.specs.Reaching.{edge_at}
use Rattle.reach_graph.proofs.MarkLemmas.{and_both, and_first, and_second}
use Rattle.reach_graph.proofs.PropagationLemmas.{goes_further}
use Rattle.dataflow.specs.Spreading.{PassedUpto}
use Rattle.dataflow.proofs.SpreadLemmas.{more_step, passed_more, sound_step}
use Rattle.dataflow.proofs.spreading.Exposure.pass_row.Goals as goal

pub loop-i-preserved : goal.loop-i-preserved
loop-i-preserved c =
    let i = c.loop-i.i in
    let code = c.args.code.now in
    let g = c.args.graph.now in
    let row = c.args.row.now in
    let e = edge_at row i in
    let by = c.args.by in
    let old = c.loop-i.self in
    let new = c.pass.new.self in
    let before = c.loop-i.invariant in
    let done = c.in_ok-pass.ensures in
    let inside : i < length row = omega (arith, c.loop-i-test.true) in
    let more = more_step code g.sites.items e.to (bit_and by e.mask) old.behind.items old.before.items new.behind.items new.before.items done.step in
    record {
      words = done.words;
      goes_on =
          goes_further c.args.self.now.before.items c.args.queue.now.waiting.items c.args.queue.now.waits.items old.before.items c.loop-i.queue.waiting.items c.loop-i.queue.waits.items
          new.before.items c.pass.new.queue.waiting.items c.pass.new.queue.waits.items before.goes_on done.goes_on;
      more = λ m k has. more m k (before.more m k has);
      passed = passed_more row i by old.behind.items new.behind.items before.passed more (λ k has lets. (done.step.here k).1 (inr (and_both by e.mask k has lets)));
      sound = λ asked means sound.
          sound_step code g asked e.to (bit_and by e.mask) old.behind.items old.before.items new.behind.items new.before.items (before.sound asked means sound)
          (c.requires.inside i inside) (λ x has. means i x inside (and_first by e.mask x has) (and_second by e.mask x has)) done.step done.goes_on.more;
    }

pub returns-clause-passed : goal.returns-clause-passed
returns-clause-passed c =
    let all : c.loop-i.i ≡ length c.args.row.now = omega (arith, c.loop-i-test.false, c.loop-i.auto.i-end) in
    subst (λ (n : ℕ). PassedUpto c.args.row.now n c.args.by c.loop-i.self.behind.items) all c.loop-i.invariant.passed
