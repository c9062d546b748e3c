use Rattle.std.proofs.Common.{◌≡◌, ◌∙◌, ℕ, ◌+◌, ◌<◌, length, slice_index_or, ap, sym, arith, add-one}
use Rattle.code_blocks.specs.Numbers.{end_at}
use Rattle.code_blocks.specs.declared.parts.Block.{Block}
use Rattle.block_splitter.specs.declared.copy_plan.CopyPlan.{CopyPlan}
use Rattle.block_splitter.specs.Forms.{Body, is_site, body_at, units_size, fall_out_size, block_size}
use Rattle.block_splitter.specs.Copies.{is_inside}
use Rattle.block_splitter.specs.Copying.{copy_in}
use Rattle.block_splitter.proofs.FieldLemmas.{body_is, same_end}
use Rattle.block_splitter.proofs.CopySizeLemmas.{below_code, unit_ends, block_ends}
use Rattle.block_splitter.proofs.copy_starts.block_words.Goals as goal

pub overflow_add-words : goal.overflow_add-words
overflow_add-words c =
    let p = c.args.plan.now in
    let code = p.code.now in
    let block = c.index.result.now in
    let below = below_code p c.args.b c.requires.plan c.requires.block in
    let many : length block.units.items ≡ length (body_at code.blocks.items c.args.b).units =
    ap (λ (d : Body). length d.units) (body_is code.blocks.items c.args.b block below c.index.ensures) in
    let within : c.loop-k.k < length (body_at code.blocks.items c.args.b).units =
    omega (arith, many, c.loop-k-test.true, c.len-k-end.ensures, block.units.ok.0) in
    let ends = unit_ends p c.args.b c.loop-k.k c.requires.plan c.requires.block within in
    let so_far = c.loop-k.invariant in
    let here = c.unit_words-words.ensures in
    omega (arith, ends, so_far, here)

pub loop-k-preserved : goal.loop-k-preserved
loop-k-preserved c = rw (add-one c.loop-k.k) (λ i. c.loop-k.invariant i + c.unit_words-words.ensures i)

-- the words of the units and those behind them are the block's
total_words : (p : CopyPlan) (b k words falls : ℕ) (block : Block) → b < length p.code.now.blocks.items → block ≡ slice_index_or p.code.now.blocks.items b block → k ≡ length block.units.items
    → words ≡ units_size (is_site p.graph.now) (is_inside (copy_in p)) (body_at p.code.now.blocks.items b) k → falls ≡ fall_out_size (is_inside (copy_in p)) (end_at p.code.now b)
    → words + falls ≡ block_size (is_site p.graph.now) (is_inside (copy_in p)) (body_at p.code.now.blocks.items b)
total_words p b k words falls block below is all units falls_are =
    let body = body_at p.code.now.blocks.items b in
    let many : length block.units.items ≡ length body.units = ap (λ (d : Body). length d.units) (body_is p.code.now.blocks.items b block below is) in
    let whole = units ∙ ap (units_size (is_site p.graph.now) (is_inside (copy_in p)) body) (all ∙ many) in
    let ends = falls_are ∙ sym (ap (fall_out_size (is_inside (copy_in p))) (same_end p.code.now b below)) in
    λ i. whole i + ends i

pub overflow_add-result : goal.overflow_add-result
overflow_add-result c =
    let p = c.args.plan.now in
    let all : c.loop-k.k ≡ length c.index.result.now.units.items = omega (arith, c.loop-k-test.false, c.loop-k.auto.k-end, c.len-k-end.ensures, c.index.result.now.units.ok.0) in
    let total = total_words p c.args.b c.loop-k.k c.loop-k.words c.fall_out_words.result c.index.result.now (below_code p c.args.b c.requires.plan c.requires.block) c.index.ensures all c.loop-k.invariant c.fall_out_words.ensures in
    let ends = block_ends p c.args.b c.requires.plan c.requires.block in
    omega (arith, ends, total)

pub returns : goal.returns
returns c =
    let p = c.args.plan.now in
    let all : c.loop-k.k ≡ length c.index.result.now.units.items = omega (arith, c.loop-k-test.false, c.loop-k.auto.k-end, c.len-k-end.ensures, c.index.result.now.units.ok.0) in
    total_words p c.args.b c.loop-k.k c.loop-k.words c.fall_out_words.result c.index.result.now (below_code p c.args.b c.requires.plan c.requires.block) c.index.ensures all c.loop-k.invariant c.fall_out_words.ensures
