use Rattle.std.proofs.Common.{refl}
use Rattle.std.proofs.lemmas.Bool.{both_ways}
use Rattle.block_splitter.proofs.FormLemmas.{links_register, copyable, copyable_units, copyable_leads, copyable_goes}
use Rattle.block_splitter.proofs.forms.is_copyable.Goals as goal

pub goes_on-requires : goal.goes_on-requires
goes_on-requires c =
    let block = c.index-block.result.now in
    links_register c.requires.code.0 c.args.code.now c.args.b block c.requires.code.1 c.requires.below c.index-block.ensures

pub returns-then-not-may_copy_all : goal.returns-then-not-may_copy_all
returns-then-not-may_copy_all c = (
  (λ yes. absurd (both_ways _ refl yes)),
  (λ copied. absurd (both_ways _ c.if-not-may_copy_all.true (c.may_copy_all.ensures.1 (copyable_units c.args.code.now c.args.b c.index-block.result.now c.deref.result.now c.requires.below c.index-block.ensures c.deref.ensures.value copied)))),
)

pub returns-then-not-leads_to_blocks : goal.returns-then-not-leads_to_blocks
returns-then-not-leads_to_blocks c = (
  (λ yes. absurd (both_ways _ refl yes)),
  (λ copied. absurd (both_ways _ c.if-not-leads_to_blocks.true (c.leads_to_blocks.ensures.1 (copyable_leads c.args.code.now c.args.b c.index-block.result.now c.requires.below c.index-block.ensures copied)))),
)

pub returns : goal.returns
returns c =
    let goes = c.goes_on.ensures c.args.code.now c.requires.live in (
      (λ yes.
          copyable c.args.code.now c.args.b c.index-block.result.now c.deref.result.now c.requires.below c.index-block.ensures c.deref.ensures.value
          (c.may_copy_all.ensures.0 c.if-not-may_copy_all.false) (c.leads_to_blocks.ensures.0 c.if-not-leads_to_blocks.false) (goes.0 yes)),
      (λ copied. goes.1 (copyable_goes c.args.code.now c.args.b c.index-block.result.now c.requires.below c.index-block.ensures copied)),
    )
