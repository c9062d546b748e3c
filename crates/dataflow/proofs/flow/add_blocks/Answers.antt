use Rattle.std.proofs.Common.{◌≡◌, ◌∙◌, ◌+◌, ◌<◌, ℕ, List, length, ap, sym, subst, arith}
use Rattle.std.specs.Prelude.{◌↔◌}
use Rattle.std.proofs.lemmas.List.{length-replicate}
use Rattle.code_blocks.specs.declared.parts.Unit.{Unit}
use Rattle.reach_graph.specs.Reaching.{HasMark, plain_rows}
use Rattle.dataflow.specs.Summaries.{UsedFirst, PassesOver}
use Rattle.dataflow.specs.BackEdges.{BlockEdges, MaskEdges}
use Rattle.dataflow.proofs.GraphEdgeLemmas.{adds_none, adds_both}
use Rattle.dataflow.proofs.EdgeLemmas.{no_blocks, blocks_more}
use Rattle.dataflow.proofs.TableLemmas.{no_marks, marks_more, block_units}
use Rattle.dataflow.proofs.flow.add_blocks.Goals as goal

pub loop-block-init : goal.loop-block-init
loop-block-init c =
    record {
      edges = adds_none (BlockEdges c.args.code.now c.args.hub 0) (plain_rows c.args.rows.now) (no_blocks c.args.code.now c.args.hub);
      marks = no_marks c.args.code.now (c.args.hub + 1) c.args.words.now c.requires.words;
    }

pub loop-block-preserved : goal.loop-block-preserved
loop-block-preserved c =
    let code = c.args.code.now in
    let hub = c.args.hub in
    let b = c.loop-block.block in
    let done = c.summary_of-done in
    let inside : b < length code.blocks.items = omega (arith, c.loop-block-test.true, c.requires.hub) in
    let units = block_units code b c.index.result.now inside c.index.ensures in
    let size : length c.args.words.now ≡ hub + 1 = ap length c.requires.words ∙ length-replicate {A = ℕ} (hub + 1) 0 in
    let fits : b < length c.loop-block.words = omega (arith, size, c.loop-block.auto.words, c.loop-block-test.true) in
    record {
      edges =
          adds_both (BlockEdges code hub b) (MaskEdges code hub b done.result.kept) (BlockEdges code hub (b + 1)) (plain_rows c.args.rows.now) (plain_rows c.loop-block.rows)
          (plain_rows c.add_block.new.rows) c.loop-block.invariant.edges c.in_ok-add_block.ensures
          (blocks_more code hub b done.result.kept
          (subst (λ (us : List Unit). (x : ℕ) → x < 32 → HasMark done.result.kept x ↔ PassesOver us x) (sym units) done.ensures.kept));
      marks =
          marks_more code b done.result.used c.loop-block.words fits c.loop-block.invariant.marks
          (subst (λ (us : List Unit). (x : ℕ) → x < 32 → HasMark done.result.used x ↔ UsedFirst us (length us) x) (sym units) done.ensures.used);
    }
