use Rattle.std.proofs.Common.{◌≡◌, ◌∙◌, ◌+◌, true, ap, subst, sym, arith}
use Rattle.std.specs.Prelude.{◌↔◌}
use Rattle.code_blocks.specs.declared.parts.Unit.{Unit}
use Rattle.block_splitter.specs.declared.unit_kind.UnitKind.{UnitKind}
use Rattle.block_splitter.specs.Forms.{Body, is_site, body_at, unit_in, kind_of}
use Rattle.block_splitter.specs.Copies.{ReachesTargets}
use Rattle.block_splitter.proofs.FieldLemmas.{body_is, unit_is, first_unit}
use Rattle.block_splitter.proofs.ReachLemmas.{next_wraps}
use Rattle.block_splitter.proofs.reaching.can_displace.Goals as goal

pub kind_of-kind-requires-clause-place : goal.kind_of-kind-requires-clause-place
kind_of-kind-requires-clause-place c =
    first_unit c.requires.code.0 c.args.code.now c.args.block c.index-block.result.now c.requires.code.1 c.requires.block c.index-block.ensures

pub index-requires : goal.index-requires
index-requires c =
    let block = c.index-block.result.now in
    let some = first_unit c.requires.code.0 c.args.code.now c.args.block block c.requires.code.1 c.requires.block c.index-block.ensures in
    omega (arith, some, block.units.ok.0)

pub returns : goal.returns
returns c =
    let code = c.args.code.now in
    let site = is_site c.args.graph.now in
    let block = c.index-block.result.now in
    let at = c.args.at in
    let answer = c.reaches_targets.result in
    let some = first_unit c.requires.code.0 code c.args.block block c.requires.code.1 c.requires.block c.index-block.ensures in
    let same : c.kind_of-kind.result ≡ kind_of site (body_at code.blocks.items c.args.block) 0 =
    c.kind_of-kind.ensures ∙ ap (λ (body : Body). kind_of site body 0) (body_is code.blocks.items c.args.block block c.requires.block c.index-block.ensures) in
    let unit : c.index.result.now ≡ unit_in (body_at code.blocks.items c.args.block) 0 =
    unit_is code.blocks.items c.args.block 0 block c.index.result.now c.requires.block c.index-block.ensures some c.index.ensures in
    let wraps = next_wraps at (c.index.result.now.at + 4) c.kind_of-kind.result in
    let here : (answer ≡ true) ↔ ReachesTargets at (c.index.result.now.at + 4) c.kind_of-kind.result =
    (λ is. wraps.0 (c.reaches_targets.ensures.0 is), λ r. c.reaches_targets.ensures.1 (wraps.1 r)) in
    subst (λ (kind : UnitKind). (answer ≡ true) ↔ ReachesTargets at ((unit_in (body_at code.blocks.items c.args.block) 0).at + 4) kind) same
    (subst (λ (u : Unit). (answer ≡ true) ↔ ReachesTargets at (u.at + 4) c.kind_of-kind.result) unit here)
