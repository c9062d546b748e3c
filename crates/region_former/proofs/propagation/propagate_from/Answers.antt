use Rattle.std.proofs.Common.{◌≡◌, ◌∙◌, ℕ, List, true, sym, subst}
use Rattle.std.proofs.lemmas.Result.{on_ok_weaker}
use Rattle.code_blocks.specs.Early.{has}
use Rattle.region_former.specs.Propagation.{mark_at, Propagates}
use Rattle.region_former.proofs.BlockLemmas.{row_at, item_same}
use Rattle.region_former.proofs.propagation.propagate_from.Goals as goal

pub propagate-requires : goal.propagate-requires
propagate-requires c =
    let same = c.deref.ensures.value ∙ item_same _ _ c.index-rows-f.is ∙ sym (row_at c.args.rows.now c.args.f c.index-rows-f.result c.requires.row) in
    λ g found. c.requires.below c.args.f g (subst (λ (xs : List ℕ). has xs g ≡ true) same found)

pub returns : goal.returns
returns c =
    let same = c.deref.ensures.value ∙ item_same _ _ c.index-rows-f.is ∙ sym (row_at c.args.rows.now c.args.f c.index-rows-f.result c.requires.row) in
    on_ok_weaker c.propagate.result
    (subst (λ (xs : List ℕ). Propagates c.args.marks.now c.args.waiting.now.items xs (mark_at c.args.marks.now c.args.f) c.propagate.new.marks c.propagate.new.waiting.items) same)
    c.propagate.ensures
