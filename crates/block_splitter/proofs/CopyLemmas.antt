-- A copy that grows by a unit, and by a block.
use Rattle.std.proofs.Common.{◌≡◌, ◌∙◌, ◌⊎◌, inl, inr, ℕ, suc, ◌+◌, ◌*◌, ◌<◌, true, List, [], ◌∷◌, ◌++◌, length, take, drop, sym, ap, subst, arith, append_assoc, append-nil, length-append, add-one}
use Rattle.std.proofs.Math.Seq.{drop-append_seam, take-append_seam}
use Rattle.list_checks.specs.Sorted.{collected}
use Rattle.code_blocks.specs.Numbers.{end_at}
use Rattle.code_blocks.specs.declared.parts.Unit.{Unit}
use Rattle.block_splitter.specs.declared.unit_kind.UnitKind.{UnitKind}
use Rattle.block_splitter.specs.declared.copy_plan.CopyPlan.{CopyPlan}
use Rattle.block_splitter.specs.Forms.{body_at, holds_block, copy_size, fall_out_size}
use Rattle.block_splitter.specs.Copies.{Copy, is_inside, unit_of, kind_in, words_before, place_of, address_of, words_at, IsUnitCopy, IsFallOut, IsBlockCopy}
use Rattle.block_splitter.specs.Copying.{copy_in, IsPlan, AreStarts, IsCopyAt, Appends, AddsUnits, AddsBlock, AreBelow, AreWords}
use Rattle.block_splitter.proofs.AppendLemmas.{kept}
use Rattle.block_splitter.proofs.FieldLemmas.{same_end}
use Rattle.block_splitter.proofs.CopySizeLemmas.{held, before_range, behind_range, range_is, below_code, unit_size, fall_size, words_more, before_first, words_whole, block_words, collected_none, collected_same, collected_push}

-- words that were added stand behind the old ones
at_seam : (old added more : List ℕ) (place n : ℕ) → length old ≡ place → length added ≡ n → words_at ((old ++ added) ++ more) place n ≡ added
at_seam old added more place n from size =
    ap (λ (ws : List ℕ). words_at ws place n) (append_assoc old added more)
    ∙ ap (λ (k : ℕ). take n (drop k (old ++ (added ++ more)))) (sym from)
    ∙ ap (take n) (drop-append_seam old (added ++ more))
    ∙ ap (λ (k : ℕ). take k (added ++ more)) (sym size)
    ∙ take-append_seam added more

there : (P : List ℕ → Type 0) (old new added more : List ℕ) (place n : ℕ) → new ≡ old ++ added → length old ≡ place → length added ≡ n → P added → P (words_at (new ++ more) place n)
there P old new added more place n grown from size are =
    subst (λ (ws : List ℕ). P (words_at (ws ++ more) place n)) (sym grown)
    (subst P (sym (at_seam old added more place n from size)) are)

-- ---- units

pub copied_at : (x : Copy) (b k n : ℕ) (u : Unit) (kind : UnitKind) (old new : List ℕ) → n ≡ place_of x b k → u ≡ unit_of x b k → kind ≡ kind_in x b k → Appends old new (IsUnitCopy x (address_of x n) u kind) → Appends old new (IsCopyAt x b k)
copied_at x b k n u kind old new at is same step =
    subst (λ (d : UnitKind). Appends old new (IsUnitCopy x (address_of x (place_of x b k)) (unit_of x b k) d)) same
    (subst (λ (v : Unit). Appends old new (IsUnitCopy x (address_of x (place_of x b k)) v kind)) is
    (subst (λ (m : ℕ). Appends old new (IsUnitCopy x (address_of x m) u kind)) at step))

pub units_none : (x : Copy) (b : ℕ) (old : List ℕ) → length old ≡ words_before x b → AddsUnits x b 0 old old
units_none x b old count =
    record { added = []; grown = sym (append-nil old); count = omega (arith, count); units = λ j more below. absurd (omega (arith, below)) }

pub units_more : (x : Copy) (b k : ℕ) (old words new : List ℕ) → AddsUnits x b k old words → Appends words new (IsCopyAt x b k) → AddsUnits x b (k + 1) old new
units_more x b k old words new so_far step =
    let size = unit_size x (address_of x (place_of x b k)) (unit_of x b k) (kind_in x b k) step.added step.are in
    let longer = ap (λ (ws : List ℕ). length ws) step.grown ∙ length-append words step.added in
    let before = so_far.count in
    rw (add-one k)
    record {
      added = so_far.added ++ step.added;
      grown = step.grown ∙ ap (λ (ws : List ℕ). ws ++ step.added) so_far.grown ∙ append_assoc old so_far.added step.added;
      count = omega (arith, size, longer, before);
      units = λ j more below.
          let place : (j ≡ k) ⊎ (j < k) = grind (arith, below) in
          elim place [
            | inl here ↦
                subst (λ (i : ℕ). IsCopyAt x b i (words_at (new ++ more) (place_of x b i) (copy_size (is_inside x) (kind_in x b i)))) (sym here)
                (there (IsCopyAt x b k) words new step.added more (place_of x b k) (copy_size (is_inside x) (kind_in x b k)) step.grown before size step.are)
            | inr earlier ↦
                kept (λ (ws : List ℕ). IsCopyAt x b j (words_at ws (place_of x b j) (copy_size (is_inside x) (kind_in x b j)))) words step.added new more step.grown (so_far.units j (step.added ++ more) earlier)
          ];
    }

-- ---- blocks

pub block_done : (p : CopyPlan) (b : ℕ) (old words new : List ℕ) → IsPlan p → holds_block b p.range ≡ true → AddsUnits (copy_in p) b (length (body_at p.code.now.blocks.items b).units) old words → Appends words new (IsFallOut (copy_in p) (end_at p.code.now b)) → AddsBlock (copy_in p) b old new
block_done p b old words new plan inside units step =
    let x = copy_in p in
    let n = length (body_at p.code.now.blocks.items b).units in
    let e = end_at p.code.now b in
    let size = fall_size x e step.added step.are in
    let longer = ap (λ (ws : List ℕ). length ws) step.grown ∙ length-append words step.added in
    let before = units.count in
    let same = ap (fall_out_size (is_inside x)) (same_end p.code.now b (below_code p b plan inside)) in
    let more_words = words_more x b inside in
    record {
      added = units.added ++ step.added;
      grown = step.grown ∙ ap (λ (ws : List ℕ). ws ++ step.added) units.grown ∙ append_assoc old units.added step.added;
      count = omega (arith, size, longer, before, same, more_words);
      block = λ more. record {
        units = λ k below.
            kept (λ (ws : List ℕ). IsCopyAt x b k (words_at ws (place_of x b k) (copy_size (is_inside x) (kind_in x b k)))) words step.added new more step.grown (units.units k (step.added ++ more) below);
        falls = there (IsFallOut x e) words new step.added more (place_of x b n) (fall_out_size (is_inside x) e) step.grown before size step.are;
      };
    }

pub blocks_none : (p : CopyPlan) → AreBelow (copy_in p) [] p.range.first
blocks_none p =
    record {
      count = sym (before_first (copy_in p));
      blocks = λ b more inside below. let bounds = held b p.range inside in let from = bounds.0 in absurd (omega (arith, from, below));
    }

pub blocks_more : (x : Copy) (b : ℕ) (words new : List ℕ) → AreBelow x words b → AddsBlock x b words new → AreBelow x new (b + 1)
blocks_more x b words new so_far step =
    rw (add-one b)
    record {
      count = step.count;
      blocks = λ j more inside below.
          let place : (j ≡ b) ⊎ (j < b) = grind (arith, below) in
          elim place [
            | inl here ↦ subst (λ (i : ℕ). IsBlockCopy x (new ++ more) i) (sym here) (step.block more)
            | inr earlier ↦
                kept (λ (ws : List ℕ). IsBlockCopy x ws j) words step.added new more step.grown (so_far.blocks j (step.added ++ more) inside earlier)
          ];
    }

pub blocks_whole : (p : CopyPlan) (words : List ℕ) → IsPlan p → AreBelow (copy_in p) words (p.range.last + 1) → AreWords (copy_in p) words
blocks_whole p words plan all =
    let x = copy_in p in
    let range = range_is p.code.now p.range plan.copied.shape in
    let whole = words_whole x range.below in
    let count = all.count in
    record {
      count = count ∙ ap (words_before x) (add-one p.range.last) ∙ sym whole;
      blocks = λ b inside.
          let bounds = held b p.range inside in
          let to = bounds.1 in
          subst (λ (ws : List ℕ). IsBlockCopy x ws b) (append-nil words) (all.blocks b [] inside (omega (arith, to)));
    }

-- ---- starts

-- the starts of the blocks before `b`, and how many words they have
pub record AreSoFar (x : Copy) (b words : ℕ) (starts : List ℕ) : Type 0 where
  pub listed : starts ≡ collected (λ k. holds_block k x.range) (λ k. 4 * words_before x k) b
  pub counted : words ≡ words_before x b

pub starts_none : (x : Copy) → AreSoFar x x.range.first 0 []
starts_none x =
    record {
      listed = sym (collected_none (λ k. holds_block k x.range) (λ k. 4 * words_before x k) x.range.first (λ k below. before_range k x.range below));
      counted = sym (before_first x);
    }

pub starts_more : (x : Copy) (b words size : ℕ) (starts new : List ℕ) → holds_block b x.range ≡ true → AreSoFar x b words starts → size ≡ block_words x b → new ≡ starts ++ 4 * words ∷ [] → AreSoFar x (b + 1) (words + size) new
starts_more x b words size starts new inside so_far is pushed =
    let more = words_more x b inside in
    let before = so_far.counted in
    rw (add-one b)
    record {
      listed =
          pushed
          ∙ ap (λ (xs : List ℕ). xs ++ 4 * words ∷ []) so_far.listed
          ∙ ap (λ (n : ℕ). collected (λ k. holds_block k x.range) (λ k. 4 * words_before x k) b ++ 4 * n ∷ []) before
          ∙ sym (collected_push (λ k. holds_block k x.range) (λ k. 4 * words_before x k) b inside);
      counted = omega (arith, before, is, more);
    }

pub starts_whole : (p : CopyPlan) (words : ℕ) (starts : List ℕ) → IsPlan p → AreSoFar (copy_in p) (p.range.last + 1) words starts → AreStarts (copy_in p) starts
starts_whole p words starts plan all =
    let x = copy_in p in
    let range = range_is p.code.now p.range plan.copied.shape in
    let below = range.below in
    all.listed
    ∙ ap (collected (λ k. holds_block k x.range) (λ k. 4 * words_before x k)) (add-one p.range.last)
    ∙ sym (collected_same (λ k. holds_block k x.range) (λ k. 4 * words_before x k) (length p.code.now.blocks.items) (suc p.range.last) (omega (arith, below))
    (λ k from to. behind_range k x.range (omega (arith, from))))
