use Rattle.std.proofs.Common.{◌≡◌, ◌∙◌, ◌<◌, ℕ, false, List, length, ap, sym, subst, arith}
use Rattle.std.proofs.lemmas.Grind.{get_or_default_zero}
use Rattle.std.proofs.lemmas.List.{length-map, length-set}
use Rattle.reach_graph.specs.Reaching.{HasMark, row_items, plain_rows, word_at}
use Rattle.reach_graph.specs.Propagation.{IsRow}
use Rattle.reach_graph.specs.declared.edges.Edge.{Edge}
use Rattle.reach_graph.proofs.PropagationLemmas.{row_is, row_inside}
use Rattle.dataflow.specs.Spreading.{MeansAlong, PassedUpto}
use Rattle.dataflow.proofs.SpreadLemmas.{means_along, passed_next, passed_last}
use Rattle.dataflow.proofs.spreading.Exposure.spread.Goals as goal

pub pass_row-requires-clause-inside : goal.pass_row-requires-clause-inside
pass_row-requires-clause-inside c =
    let rows = c.args.rows.now in
    let node = c.in-Some.node in
    let words = c.loop-node.invariant.words in
    let edges = c.requires.edges in
    let taken = c.in-Some.ensures.0 in
    let below : node < length (plain_rows rows) = omega (arith, taken, c.loop-node.invariant.sizes, words.before_size, edges.size) in
    let inside : node < length rows = omega (arith, below, length-map rows row_items) in
    let is = row_is rows node c.index-rows-node.result inside c.index-rows-node.is ∙ sym c.deref-in-Some.ensures.value in
    subst (IsRow c.deref-in-Some.result.now) edges.size (row_inside (plain_rows rows) (length (plain_rows rows)) node c.deref-in-Some.result.now below edges.inside is)

pub loop-node-preserved : goal.loop-node-preserved
loop-node-preserved c =
    let code = c.args.code.now in
    let g = c.args.graph.now in
    let rows = c.args.rows.now in
    let node = c.in-Some.node in
    let row = c.deref-in-Some.result.now in
    let by = c.index-by.result.now in
    let old = c.loop-node.self in
    let new = c.pass_row.new.self in
    let inv = c.loop-node.invariant in
    let words = inv.words in
    let edges = c.requires.edges in
    let taken = c.in-Some.ensures in
    let done = c.in_ok-pass_row.ensures in
    let goes = done.goes_on in
    let first = taken.0 in
    let low : node < length old.before.items = omega (arith, first, inv.sizes) in
    let below : node < length (plain_rows rows) = omega (arith, low, words.before_size, edges.size) in
    let inside : node < length rows = omega (arith, below, length-map rows row_items) in
    let is = row_is rows node c.index-rows-node.result inside c.index-rows-node.is ∙ sym c.deref-in-Some.ensures.value in
    let word : by ≡ word_at old.before.items node = c.index-by.ensures ∙ get_or_default_zero old.before.items node by low in
    let passed = subst (λ (w : ℕ). PassedUpto row (length row) w new.behind.items) word done.passed in
    let left = ap length taken.1.1.0 ∙ length-set c.loop-node.queue.waits.items node false in
    record {
      words = done.words;
      sizes = omega (arith, goes.waits_size, left, inv.sizes, goes.size);
      queue = goes.queue taken.1.1.1;
      passed =
          passed_next (plain_rows rows) old.behind.items old.before.items c.loop-node.queue.waiting.items c.loop-node.queue.waits.items node c.take.new.self.waiting.items
          c.take.new.self.waits.items new.behind.items new.before.items c.pass_row.new.queue.waiting.items c.pass_row.new.queue.waits.items inv.passed taken goes done.more
          (subst (λ (r : List Edge). PassedUpto r (length r) (word_at old.before.items node) new.behind.items) (sym is) passed);
      sound = λ asked begins.
          let sound = inv.sound asked begins in
          let means = means_along code g asked (plain_rows rows) node by edges (λ x has. sound.told node x (subst (λ (w : ℕ). HasMark w x) word has)) in
          done.sound asked (subst (λ (r : List Edge). MeansAlong code g asked r by) is means) sound;
    }

pub returns : goal.returns
returns c asked begins =
    let inv = c.loop-node.invariant in
    record {
      words = inv.words;
      sound = inv.sound asked begins;
      passed =
          passed_last (plain_rows c.args.rows.now) c.loop-node.self.behind.items c.loop-node.self.before.items c.loop-node.queue.waiting.items c.loop-node.queue.waits.items inv.passed
          c.in_default.ensures.0 inv.queue;
    }
