use Rattle.std.proofs.Common.{◌≡◌, ◌∙◌, ℕ, ◌+◌, Bool, false, ◌||◌, List, ◌++◌, take, drop, length, slice_index_or, ap, sym, arith}
use Rattle.std.proofs.Math.Seq.{take-append_seam}
use Rattle.std.specs.List.{list_any}
use Rattle.std.proofs.lemmas.List.Folds.{list_any_more}
use Rattle.relink_core.specs.declared.placed_copy.PlacedCopy.{PlacedCopy}
use Rattle.relink_core.specs.StubBlocks.{enters_copy}
use Rattle.relink_core.proofs.served.entered_blocks.Goals as goal

pub enter_copy-requires-clause-source : goal.enter_copy-requires-clause-source
enter_copy-requires-clause-source c = c.requires.source

pub loop-k-preserved : goal.loop-k-preserved
loop-k-preserved c =
    let code = c.args.source.now.code.now in
    let copies = c.args.copies.now in
    let copy = c.index-copies-k.result in
    let new = c.enter_copy.new.entered in
    let rest = drop (length new) c.loop-k.entered.items in
    let len : c.loop-k.entered.len ≡ length new = omega (arith, c.enter_copy.ensures.len, c.deref_mut.ensures.len) in
    let same : take c.loop-k.entered.len (new ++ rest) ≡ new = ap (λ (n : ℕ). take n (new ++ rest)) len ∙ take-append_seam new rest in
    record {
      len = ap (λ (xs : List Bool). length xs) same ∙ c.enter_copy.ensures.len
          ∙ ap (λ (xs : List Bool). length xs) c.deref_mut.ensures.value ∙ c.loop-k.invariant.len;
      marked = λ b.
          let before = list_any (enters_copy code b) (take c.loop-k.k copies) in
          let was : slice_index_or c.deref_mut.result.now b false ≡ before =
          ap (λ (xs : List Bool). slice_index_or xs b false) c.deref_mut.ensures.value ∙ c.loop-k.invariant.marked b in
          ap (λ (xs : List Bool). slice_index_or xs b false) same
          ∙ c.enter_copy.ensures.marked b
          ∙ ap (λ (x : Bool). x || enters_copy code b copy) was
          ∙ ap (λ (p : PlacedCopy). before || enters_copy code b p) c.index-copies-k.is
          ∙ sym (list_any_more (enters_copy code b) copies c.loop-k.k copy c.loop-k-test.true);
    }
