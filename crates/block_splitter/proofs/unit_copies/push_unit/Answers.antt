use Rattle.std.proofs.Common.{◌≡◌, ◌∙◌, ℕ, ◌<◌, true, length, slice_index_or, ap, subst, sym}
use Rattle.code_blocks.specs.declared.parts.Block.{Block}
use Rattle.block_splitter.specs.declared.copy_plan.CopyPlan.{CopyPlan}
use Rattle.block_splitter.specs.declared.unit_kind.UnitKind.{UnitKind}
use Rattle.block_splitter.specs.Forms.{Body, is_site, kind_of, body_of, holds_block}
use Rattle.block_splitter.specs.Copies.{kind_in}
use Rattle.block_splitter.specs.Copying.{IsPlan, copy_in, HasFields, HasExits}
use Rattle.block_splitter.proofs.FieldLemmas.{body_is, unit_is, has_fields}
use Rattle.block_splitter.proofs.CopySizeLemmas.{below_code, has_room}
use Rattle.block_splitter.proofs.LookupLemmas.{has_exits}
use Rattle.block_splitter.proofs.ReachLemmas.{ok_more}
use Rattle.block_splitter.proofs.CopyLemmas.{copied_at}
use Rattle.block_splitter.proofs.unit_copies.push_unit.Goals as goal

kind_there : (p : CopyPlan) (b k : ℕ) (block : Block) (kind : UnitKind) → IsPlan p → holds_block b p.range ≡ true → block ≡ slice_index_or p.code.now.blocks.items b block → kind ≡ kind_of (is_site p.graph.now) (body_of block) k → kind ≡ kind_in (copy_in p) b k
kind_there p b k block kind plan inside at is =
    is ∙ ap (λ (body : Body). kind_of (is_site p.graph.now) body k) (body_is p.code.now.blocks.items b block (below_code p b plan inside) at)

pub push_kind-requires-clause-fields : goal.push_kind-requires-clause-fields
push_kind-requires-clause-fields c =
    let p = c.args.plan.now in
    let same = kind_there p c.args.b c.args.k c.index-block.result.now c.kind_of-kind.result c.requires.plan c.requires.block c.index-block.ensures c.kind_of-kind.ensures in
    subst (λ (kind : UnitKind). HasFields kind) (sym same)
    (has_fields c.requires.plan.view p.code.now (is_site p.graph.now) c.args.b c.args.k c.requires.plan.code (below_code p c.args.b c.requires.plan c.requires.block) c.requires.unit)

pub push_kind-requires-clause-exits : goal.push_kind-requires-clause-exits
push_kind-requires-clause-exits c =
    let p = c.args.plan.now in
    let same = kind_there p c.args.b c.args.k c.index-block.result.now c.kind_of-kind.result c.requires.plan c.requires.block c.index-block.ensures c.kind_of-kind.ensures in
    subst (λ (kind : UnitKind). HasExits (copy_in p) kind) (sym same) (has_exits p c.args.b c.args.k c.requires.plan c.requires.block)

pub push_kind-requires-clause-room : goal.push_kind-requires-clause-room
push_kind-requires-clause-room c =
    rw c.requires.place (has_room c.args.plan.now c.args.b c.args.k c.requires.plan c.requires.block c.requires.unit)

pub returns : goal.returns
returns c =
    let p = c.args.plan.now in
    let code = p.code.now in
    let block = c.index-block.result.now in
    let below = below_code p c.args.b c.requires.plan c.requires.block in
    let body = body_is code.blocks.items c.args.b block below c.index-block.ensures in
    let inside : c.args.k < length block.units.items = subst (λ (d : Body). c.args.k < length d.units) (sym body) c.requires.unit in
    let same = kind_there p c.args.b c.args.k block c.kind_of-kind.result c.requires.plan c.requires.block c.index-block.ensures c.kind_of-kind.ensures in
    ok_more c.push_kind.result _ _ c.push_kind.ensures
    (λ step. copied_at (copy_in p) c.args.b c.args.k (length c.args.words.now.items) c.index.result.now c.kind_of-kind.result c.args.words.now.items c.push_kind.new.words.items c.requires.place
    (unit_is code.blocks.items c.args.b c.args.k block c.index.result.now below c.index-block.ensures inside c.index.ensures) same step)
