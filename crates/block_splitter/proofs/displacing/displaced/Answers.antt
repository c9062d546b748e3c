use Rattle.std.proofs.Common.{◌≡◌, ◌∙◌, ap, subst, sym, arith}
use Rattle.std.specs.Prelude.{IfOk}
use Rattle.code_blocks.specs.declared.parts.Unit.{Unit}
use Rattle.block_splitter.specs.declared.unit_kind.UnitKind.{UnitKind}
use Rattle.block_splitter.specs.Forms.{Body, is_site, body_at, unit_in, kind_of}
use Rattle.block_splitter.specs.Copies.{IsDisplaced}
use Rattle.block_splitter.specs.Copying.{HasFields}
use Rattle.block_splitter.proofs.FieldLemmas.{body_is, unit_is, first_unit, has_unit, has_fields}
use Rattle.block_splitter.proofs.displacing.displaced.Goals as goal

pub kind_of-kind-requires-clause-place : goal.kind_of-kind-requires-clause-place
kind_of-kind-requires-clause-place c =
    first_unit c.requires.code.0 c.args.code.now c.args.block c.index-block.result.now c.requires.code.1 c.requires.block c.index-block.ensures

pub index-requires : goal.index-requires
index-requires c =
    let block = c.index-block.result.now in
    let some = first_unit c.requires.code.0 c.args.code.now c.args.block block c.requires.code.1 c.requires.block c.index-block.ensures in
    omega (arith, some, block.units.ok.0)

pub displaced_unit-requires-clause-fields : goal.displaced_unit-requires-clause-fields
displaced_unit-requires-clause-fields c =
    let code = c.args.code.now in
    let site = is_site c.args.graph.now in
    let some = has_unit c.requires.code.0 code c.args.block c.requires.code.1 c.requires.block in
    let same : c.kind_of-kind.result ≡ kind_of site (body_at code.blocks.items c.args.block) 0 =
    c.kind_of-kind.ensures ∙ ap (λ (body : Body). kind_of site body 0) (body_is code.blocks.items c.args.block c.index-block.result.now c.requires.block c.index-block.ensures) in
    subst (λ (kind : UnitKind). HasFields kind) (sym same) (has_fields c.requires.code.0 code site c.args.block 0 c.requires.code.1 c.requires.block some)

pub returns : goal.returns
returns c =
    let code = c.args.code.now in
    let site = is_site c.args.graph.now in
    let block = c.index-block.result.now in
    let some = first_unit c.requires.code.0 code c.args.block block c.requires.code.1 c.requires.block c.index-block.ensures in
    let same : c.kind_of-kind.result ≡ kind_of site (body_at code.blocks.items c.args.block) 0 =
    c.kind_of-kind.ensures ∙ ap (λ (body : Body). kind_of site body 0) (body_is code.blocks.items c.args.block block c.requires.block c.index-block.ensures) in
    let unit : c.index.result.now ≡ unit_in (body_at code.blocks.items c.args.block) 0 =
    unit_is code.blocks.items c.args.block 0 block c.index.result.now c.requires.block c.index-block.ensures some c.index.ensures in
    subst (λ (kind : UnitKind). IfOk c.displaced_unit.result (λ words. IsDisplaced c.args.sites.now c.args.at (unit_in (body_at code.blocks.items c.args.block) 0) kind words.items)) same
    (subst (λ (u : Unit). IfOk c.displaced_unit.result (λ words. IsDisplaced c.args.sites.now c.args.at u c.kind_of-kind.result words.items)) unit c.displaced_unit.ensures)
