-- Blocks of copies, where they begin, and entries.
use Rattle.std.proofs.Common.{◌≡◌, ◌∙◌, ℕ, ◌+◌, ◌*◌, ◌-◌, ◌<◌, ◌==◌, Bool, true, ◌&&◌, List, length, get_or, refl, sym, ap, subst, arith}
use Rattle.std.specs.List.{list_any}
use Rattle.std.proofs.lemmas.Bool.{eqb-true, eq-eqb}
use Rattle.std.proofs.lemmas.List.Folds.{list_any_at}
use Rattle.list_checks.specs.Sorted.{collected}
use Rattle.list_checks.proofs.SortedLemmas.{any_collected}
use Rattle.list_checks.proofs.SumLemmas.{sum_rises}
use Rattle.list_checks.proofs.TestLemmas.{any_found, both}
use Rattle.code_blocks.specs.Numbers.{start_at}
use Rattle.code_blocks.specs.declared.parts.Block.{Block}
use Rattle.code_blocks.proofs.NumberLemmas.{number_at}
use Rattle.block_splitter.specs.declared.block_range.BlockRange.{BlockRange}
use Rattle.block_splitter.specs.declared.piece.Piece.{Piece}
use Rattle.block_splitter.specs.Forms.{holds_block}
use Rattle.block_splitter.specs.Pieces.{range_of, is_entry, IsPiece}
use Rattle.block_splitter.specs.Copies.{Copy, words_before}
use Rattle.block_splitter.proofs.CopySizeLemmas.{StandsAt, held, held_words, range_is, collected_at, collected_length}
use Rattle.relink_core.specs.declared.copy_source.CopySource.{CopySource}
use Rattle.relink_core.specs.declared.placed_copy.PlacedCopy.{PlacedCopy}
use Rattle.relink_core.specs.Copies.{IsSource, copied_in, IsPlacedCopy}
use Rattle.relink_core.specs.Entries.{entry_blocks}

-- ---- blocks of a copy

pub block_below : (s : CopySource) (x : PlacedCopy) (b : ℕ) → IsPlacedCopy s x → holds_block b x.range ≡ true → b < length s.code.now.blocks.items
block_below s x b placed inside =
    let range = range_is s.code.now x.range placed.can.copied.shape in
    let bounds = held b x.range inside in
    let below = range.below in
    let to = bounds.1 in
    omega (arith, below, to)

-- where the copy of a block begins
pub start_there : (s : CopySource) (x : PlacedCopy) (b : ℕ) → IsPlacedCopy s x → holds_block b x.range ≡ true → StandsAt x.code.starts.items (b - x.range.first) (4 * words_before (copied_in s x) b)
start_there s x b placed inside =
    let test : ℕ → Bool = λ k. holds_block k x.range in
    let value : ℕ → ℕ = λ k. 4 * words_before (copied_in s x) k in
    let bounds = held b x.range inside in
    let to = bounds.1 in
    let place = collected_length x.range value b bounds.0 (omega (arith, to)) in
    let at = collected_at test value (length s.code.now.blocks.items) b inside (block_below s x b placed inside) in
    subst (λ (xs : List ℕ). StandsAt xs (b - x.range.first) (4 * words_before (copied_in s x) b)) (sym placed.copy.begins)
    (subst (λ (k : ℕ). StandsAt (collected test value (length s.code.now.blocks.items)) k (4 * words_before (copied_in s x) b)) place at)

pub start_fits : (s : CopySource) (x : PlacedCopy) (b : ℕ) → IsPlacedCopy s x → holds_block b x.range ≡ true → x.at + 4 * words_before (copied_in s x) b < 4294967296
start_fits s x b placed inside =
    let below = block_below s x b placed inside in
    let grows = sum_rises (held_words (copied_in s x)) b (length s.code.now.blocks.items) (omega (arith, below)) in
    let ends = placed.can.ends in
    omega (arith, grows, ends)

-- ---- entries

pub entry_is : (x : Copy) (k d : ℕ) → k < length (entry_blocks x) → holds_block (get_or (entry_blocks x) k d) x.range && is_entry x.code x.range (get_or (entry_blocks x) k d) ≡ true
entry_is x k d below =
    let test : ℕ → Bool = λ b. holds_block b x.range && is_entry x.code x.range b in
    let wanted = get_or (entry_blocks x) k d in
    let n = length x.code.blocks.items in
    let listed : list_any (λ b. b == wanted) (entry_blocks x) ≡ true = list_any_at (λ b. b == wanted) (entry_blocks x) k d below (eq-eqb wanted wanted refl) in
    let found = any_found (λ b. test b && (b == wanted)) n (sym (any_collected test (λ b. b) (λ b. b == wanted) n) ∙ listed) in
    let parts = both (test found.0) (found.0 == wanted) found.2 in
    subst (λ (b : ℕ). test b ≡ true) (eqb-true found.0 wanted parts.1) parts.0

pub entry_stands : (s : CopySource) (b : ℕ) (block : Block) → b < length s.code.now.blocks.items → block ≡ get_or s.code.now.blocks.items b block → start_at s.code.now b ≡ block.start
entry_stands s b block below is = (number_at s.code.now block.start b block below is refl).1

-- a piece has the entries of its copy
pub piece_entries : (s : CopySource) (x : PlacedCopy) (p : Piece) → IsSource s → range_of p ≡ x.range → IsPiece s.code.now s.graph.now p → p.entries.items ≡ entry_blocks (copied_in s x)
piece_entries s x p is same piece =
    piece.entries ∙ ap (λ (r : BlockRange). collected (λ b. holds_block b r && is_entry s.code.now r b) (λ b. b) (length s.code.now.blocks.items)) same
