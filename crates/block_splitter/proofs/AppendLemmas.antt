-- Words that are added to a list, a word or a piece at a time.
use Rattle.std.proofs.Common.{◌≡◌, ◌∙◌, ℕ, ◌+◌, ◌<◌, List, [], ◌∷◌, ◌++◌, length, take, get_or, sym, ap, subst, append_assoc, append-nil, add-one}
use Rattle.rv32im.specs.declared.instructions.Instr.{Instr}
use Rattle.rv32im.specs.Table.{Means}
use Rattle.rv32im.specs.Sequences.{jump_absolute, MeanAll}
use Rattle.rv32im.proofs.SequenceLemmas.{mean_more}
use Rattle.code_blocks.specs.declared.parts.Code.{Code}
use Rattle.block_splitter.specs.Pieces.{IsTemporary}
use Rattle.block_splitter.specs.Copies.{JumpsOut}
use Rattle.block_splitter.specs.Copying.{Appends}

pub appends_none : (old : List ℕ) (P : List ℕ → Type 0) → P [] → Appends old old P
appends_none old P are = record { added = []; grown = sym (append-nil old); are = are }

-- one word more of a list of instructions
pub code_more : (is : List Instr) (d : Instr) (old words new : List ℕ) (k w : ℕ) → k < length is → Appends old words (λ ws. MeanAll ws (take k is)) → new ≡ words ++ w ∷ [] → Means w (get_or is k d) → Appends old new (λ ws. MeanAll ws (take (k + 1) is))
code_more is d old words new k w below so_far pushed means =
    record {
      added = so_far.added ++ w ∷ [];
      grown = pushed ∙ ap (λ (ws : List ℕ). ws ++ w ∷ []) so_far.grown ∙ append_assoc old so_far.added (w ∷ []);
      are = rw (add-one k) (mean_more so_far.added is k d w below so_far.are means);
    }

pub mean_append : (ws vs : List ℕ) (is js : List Instr) → MeanAll ws is → MeanAll vs js → MeanAll (ws ++ vs) (is ++ js)
mean_append [] vs [] js all more = more
mean_append [] vs (i ∷ is) js all more = absurd all
mean_append (w ∷ ws) vs [] js all more = absurd all
mean_append (w ∷ ws) vs (i ∷ is) js all more = (all.0, mean_append ws vs is js all.1 more)

-- some instructions, and then a jump
pub jumps_out : (c : Code) (before jump : List Instr) (target link t : ℕ) (old words new : List ℕ) → IsTemporary c target link t → jump ≡ jump_absolute t target → Appends old words (λ ws. MeanAll ws before) → Appends words new (λ ws. MeanAll ws jump) → Appends old new (JumpsOut c before target link)
jumps_out c before jump target link t old words new free is first second =
    record {
      added = first.added ++ second.added;
      grown = second.grown ∙ ap (λ (ws : List ℕ). ws ++ second.added) first.grown ∙ append_assoc old first.added second.added;
      are = record {
        temporary = t;
        free = free;
        words = mean_append first.added second.added before (jump_absolute t target) first.are (subst (MeanAll second.added) is second.are);
      };
    }

-- what was said of some words whatever follows them holds of more
pub kept : (P : List ℕ → Type 0) (words added new more : List ℕ) → new ≡ words ++ added → P (words ++ (added ++ more)) → P (new ++ more)
kept P words added new more grown are =
    subst P (sym (ap (λ (ws : List ℕ). ws ++ more) grown ∙ append_assoc words added more)) are
