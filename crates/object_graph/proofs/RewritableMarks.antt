-- The list of marks of relocations: there is one for each, and it tells whether that is of a rewritable kind.
use Rattle.std.proofs.Common.{◌≡◌, ◌∙◌, ℕ, ◌+◌, ◌<◌, Bool, false, List, [], ◌∷◌, ◌++◌, length, slice_index_or, refl, ap, arith, add-one}
use Rattle.elf_reader.specs.File.{PlainView}
use Rattle.object_graph.specs.Rewritable.{is_rewritable_kind}
use Rattle.object_graph.specs.Marks.{rewritable_below, all_rewritable}
use Rattle.list_checks.proofs.StepLemmas.{length_built, built_at}

-- the mark of relocation `i`
pub rewritable_at : (v : PlainView) (i : ℕ) → i < length v.relocs → slice_index_or (all_rewritable v) i false ≡ is_rewritable_kind v i
rewritable_at v i below =
    built_at (rewritable_below v) (is_rewritable_kind v) false refl (λ n. refl) (length v.relocs) i below

pub length_rewritable : (v : PlainView) → length (all_rewritable v) ≡ length v.relocs
length_rewritable v = length_built (rewritable_below v) (is_rewritable_kind v) refl (λ n. refl) (length v.relocs)

-- one more mark
pub marks_more : (v : PlainView) (i : ℕ) (old new : List Bool) (mark : Bool) → old ≡ rewritable_below v i → new ≡ old ++ mark ∷ [] → mark ≡ is_rewritable_kind v i → new ≡ rewritable_below v (i + 1)
marks_more v i old new mark earlier more is =
    rw (add-one i) (more ∙ ap (λ xs. xs ++ mark ∷ []) earlier ∙ ap (λ b. rewritable_below v i ++ b ∷ []) is)

-- marks that are these
pub marks_length : (v : PlainView) (marks : List Bool) (i : ℕ) → marks ≡ all_rewritable v → i < length v.relocs → i < length marks
marks_length v marks i is below =
    let count = length_rewritable v in
    rw is (omega (arith, count, below))

pub mark_is : (v : PlainView) (marks : List Bool) (i : ℕ) → marks ≡ all_rewritable v → i < length v.relocs → slice_index_or marks i false ≡ is_rewritable_kind v i
mark_is v marks i is below =
    ap (λ (ms : List Bool). slice_index_or ms i false) is ∙ rewritable_at v i below
