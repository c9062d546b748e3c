use Rattle.std.proofs.Common.{◌≡◌, ℕ, length, ap, subst, sym, arith}
use Rattle.code_blocks.specs.declared.ends.End.{End}
use Rattle.block_splitter.specs.Forms.{Body, body_at}
use Rattle.block_splitter.specs.Copies.{IsFallOut}
use Rattle.block_splitter.specs.Copying.{copy_in, CanFall, Appends, AddsUnits}
use Rattle.block_splitter.proofs.FieldLemmas.{body_is, end_is}
use Rattle.block_splitter.proofs.CopySizeLemmas.{below_code}
use Rattle.block_splitter.proofs.LookupLemmas.{can_fall}
use Rattle.block_splitter.proofs.CopyLemmas.{units_none, units_more, block_done}
use Rattle.block_splitter.proofs.copying.push_block.Goals as goal

pub loop-k-init : goal.loop-k-init
loop-k-init c = units_none (copy_in c.args.plan.now) c.args.b c.args.words.now.items c.requires.place

pub loop-k-preserved : goal.loop-k-preserved
loop-k-preserved c =
    units_more (copy_in c.args.plan.now) c.args.b c.loop-k.k c.args.words.now.items c.loop-k.words.items c.push_unit.new.words.items c.loop-k.invariant c.in_ok-push_unit.ensures

pub push_fall_out-requires-clause-exit : goal.push_fall_out-requires-clause-exit
push_fall_out-requires-clause-exit c =
    let p = c.args.plan.now in
    let below = below_code p c.args.b c.requires.plan c.requires.block in
    subst (λ (e : End). CanFall (copy_in p) e) (end_is p.code.now c.args.b c.index-2.result.now below c.index-2.ensures) (can_fall p c.args.b c.requires.plan c.requires.block)

pub returns : goal.returns
returns c =
    let p = c.args.plan.now in
    let code = p.code.now in
    let block = c.index.result.now in
    let words = c.loop-k.words.items in
    let below = below_code p c.args.b c.requires.plan c.requires.block in
    let many : length block.units.items ≡ length (body_at code.blocks.items c.args.b).units =
    ap (λ (d : Body). length d.units) (body_is code.blocks.items c.args.b block below c.index.ensures) in
    let all : c.loop-k.k ≡ length (body_at code.blocks.items c.args.b).units =
    omega (arith, many, c.loop-k-test.false, c.loop-k.auto.k-end, c.len-k-end.ensures, block.units.ok.0) in
    let ends = end_is code c.args.b c.index-2.result.now below c.index-2.ensures in
    block_done p c.args.b c.args.words.now.items words c.push_fall_out.new.words.items c.requires.plan c.requires.block
    (subst (λ (k : ℕ). AddsUnits (copy_in p) c.args.b k c.args.words.now.items words) all c.loop-k.invariant)
    (subst (λ (e : End). Appends words c.push_fall_out.new.words.items (IsFallOut (copy_in p) e)) (sym ends) c.in_ok-push_fall_out.ensures)
