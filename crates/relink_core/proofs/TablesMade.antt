-- The tables from which stubs are made: which copies have a block, and to which blocks control may come.
use Rattle.std.proofs.Common.{◌≡◌, ◌∙◌, ℕ, ◌<◌, ◌≤◌, ◌==◌, Bool, true, false, ◌&&◌, List, length, get_or, refl, sym, ap, subst, arith}
use Rattle.std.specs.List.{list_any}
use Rattle.std.proofs.lemmas.Bool.{eqb-true, eq-eqb}
use Rattle.std.proofs.lemmas.List.{get_or_default}
use Rattle.std.proofs.lemmas.List.Folds.{list_any_none}
use Rattle.list_checks.specs.Tests.{any_below}
use Rattle.list_checks.proofs.SortedLemmas.{any_collected}
use Rattle.list_checks.proofs.TestLemmas.{any_at, any_found, both, same_tests}
use Rattle.block_splitter.specs.Forms.{holds_block}
use Rattle.block_splitter.specs.Pieces.{is_entry}
use Rattle.relink_core.specs.declared.copy_source.CopySource.{CopySource}
use Rattle.relink_core.specs.declared.placed_copy.PlacedCopy.{PlacedCopy}
use Rattle.relink_core.specs.declared.serving_plan.ServingPlan.{ServingPlan}
use Rattle.relink_core.specs.Copies.{copied_in, IsPlacedCopy}
use Rattle.relink_core.specs.Entries.{entry_blocks}
use Rattle.relink_core.specs.StubBlocks.{copy_has, enters_copy, is_copied, IsCopyNumber, Copied, Uncopied, IsServingPlan}
use Rattle.relink_core.proofs.StubsMade.{block_below, entry_is}

-- ---- entries

any_one : (test : ℕ → Bool) (n b : ℕ) → (test b ≡ true → b < n) → any_below (λ i. test i && (i == b)) n ≡ test b
any_one test n b below =
    same_tests (any_below (λ i. test i && (i == b)) n) (test b)
    (λ found.
    let at = any_found (λ i. test i && (i == b)) n found in
    let parts = both (test at.0) (at.0 == b) at.2 in
    subst (λ (j : ℕ). test j ≡ true) (eqb-true at.0 b parts.1) parts.0)
    (λ passes. any_at (λ i. test i && (i == b)) n b (below passes) (ap (λ (t : Bool). t && (b == b)) passes ∙ eq-eqb b b refl))

pub entry_within : (s : CopySource) (x : PlacedCopy) (blocks : List ℕ) (k d : ℕ) → IsPlacedCopy s x → blocks ≡ entry_blocks (copied_in s x) → k < length blocks → get_or blocks k d < length s.code.now.blocks.items
entry_within s x blocks k d placed are below =
    let copy = copied_in s x in
    let b = get_or (entry_blocks copy) k d in
    let passes = entry_is copy k d (subst (λ (bs : List ℕ). k < length bs) are below) in
    subst (λ (bs : List ℕ). get_or bs k d < length s.code.now.blocks.items) (sym are)
    (block_below s x b placed (both (holds_block b x.range) (is_entry s.code.now x.range b) passes).0)

-- the entries of a copy, as a list
pub entries_marked : (s : CopySource) (x : PlacedCopy) (blocks : List ℕ) (b : ℕ) → IsPlacedCopy s x → blocks ≡ entry_blocks (copied_in s x) → list_any (λ e. e == b) blocks ≡ enters_copy s.code.now b x
entries_marked s x blocks b placed are =
    let test : ℕ → Bool = λ k. holds_block k x.range && is_entry s.code.now x.range k in
    let n = length s.code.now.blocks.items in
    ap (λ (bs : List ℕ). list_any (λ e. e == b) bs) are
    ∙ any_collected test (λ k. k) (λ e. e == b) n
    ∙ any_one test n b (λ passes. block_below s x b placed (both (holds_block b x.range) (is_entry s.code.now x.range b) passes).0)

-- ---- copies by number

pub numbered : (w : ServingPlan) (b n d : ℕ) → IsServingPlan w → b < length w.source.now.code.now.blocks.items → n ≡ get_or w.numbers.items b d → IsCopyNumber w.copies.now (length w.copies.now) (length w.copies.now) b n
numbered w b n d plan below is =
    let each = plan.numbers.each_block in
    subst (IsCopyNumber w.copies.now (length w.copies.now) (length w.copies.now) b) (sym (is ∙ get_or_default w.numbers.items b d 0 (omega (arith, each, below))))
    (plan.numbers.is_number b below)

pub no_copy : (copies : List PlacedCopy) (b n : ℕ) → IsCopyNumber copies (length copies) (length copies) b n → length copies ≤ n → is_copied copies b ≡ false
no_copy copies b n (Copied below has) over = absurd (omega (arith, below, over))
no_copy copies b n (Uncopied none without) over = list_any_none (copy_has b) copies (λ k d below. without k d below)
