use Rattle.std.proofs.Common.{◌+◌, ◌∙◌, ℕ, refl, sym, subst}
use Rattle.block_splitter.specs.Pieces.{IsTemporary, HasTemporary}
use Rattle.patch_code.specs.StubPlans.{serving_stub}
use Rattle.relink_core.proofs.StubsMade.{entry_stands}
use Rattle.relink_core.proofs.ServingMade.{served_free, test_is, region_same}
use Rattle.relink_core.proofs.serving.stub_of.Goals as goal

pub temporary-requires : goal.temporary-requires
temporary-requires c =
    let w = c.args.plan.now in
    let s = w.source.now in
    let home = entry_stands s c.args.block c.index.result.now c.requires.block.below c.index.ensures in (
      s.code.now,
      c.requires.plan.source.live,
      subst (λ (a : ℕ). HasTemporary s.code.now a 0) home (served_free w c.args.block c.requires.plan c.requires.block),
    )

pub returns-in-Ok-clause-size : goal.returns-in-Ok-clause-size
returns-in-Ok-clause-size c =
    let test = test_is c.args.plan.now c.args.block c.region_tested.result c.requires.plan c.requires.block c.region_tested.ensures in
    let body = c.in-Ok.ensures.size in
    λ i. test i + body i

pub returns-in-Ok-clause-serves : goal.returns-in-Ok-clause-serves
returns-in-Ok-clause-serves c = λ pl place placed near.
    let w = c.args.plan.now in
    let s = w.source.now in
    let home = entry_stands s c.args.block c.index.result.now c.requires.block.below c.index.ensures in
    record {
      home = sym home;
      free = subst (λ (a : ℕ). IsTemporary s.code.now a 0 c.temporary.result) (sym home) (c.temporary.ensures s.code.now c.requires.plan.source.live);
      region = c.region_tested.ensures ∙ region_same s w.regions.now w.copies.now pl c.args.block placed;
      body = c.in-Ok.ensures.is pl place
          (serving_stub (record { home = c.index.result.now.start; temp = c.temporary.result; region = c.region_tested.result; body = c.in-Ok.body })) placed near refl;
    }
