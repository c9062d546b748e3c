-- How pads are made, and put among words.
use Rattle.std.proofs.Common.{◌≡◌, ◌∙◌, inl, inr, ℕ, ◌+◌, ◌<◌, List, [], ◌∷◌, ◌++◌, take, length, get_or, sym, ap, subst, arith}
use Rattle.std.proofs.Math.ListN.{get_or-append}
use Rattle.std.proofs.Math.Seq.{get_or-append_seam}
use Rattle.std.proofs.lemmas.Bool.{cases_lt}
use Rattle.std.proofs.lemmas.List.{length-append, take_more}
use Rattle.std.specs.List.{filter}
use Rattle.std.proofs.lemmas.List.Elements.{filter-append}
use Rattle.block_splitter.specs.Copies.{Patch}
use Rattle.relink_core.specs.Padding.{IsPad, is_unpadded}

-- those at the first homes
pub record ArePadsTo (homes stub_at : List ℕ) (n : ℕ) (pads : List Patch) : Type 0 where
  pub many : length pads ≡ n
  pub each : (k : ℕ) → k < n → IsPad (get_or homes k 0) (get_or stub_at k 0) (get_or pads k (0, 0))

pub pads_more : (homes stub_at : List ℕ) (old new : List Patch) (p : Patch) (i : ℕ) → new ≡ old ++ p ∷ [] → ArePadsTo homes stub_at i old → IsPad (get_or homes i 0) (get_or stub_at i 0) p → ArePadsTo homes stub_at (i + 1) new
pads_more homes stub_at old new p i grown so_far is =
    let many = so_far.many in
    let count = ap (λ (ps : List Patch). length ps) grown ∙ length-append old (p ∷ []) in
    record {
      many = omega (arith, many, count);
      each = λ k below.
          subst (λ (ps : List Patch). IsPad (get_or homes k 0) (get_or stub_at k 0) (get_or ps k (0, 0))) (sym grown)
          (elim (cases_lt k i) [
            | inl earlier ↦
                subst (IsPad (get_or homes k 0) (get_or stub_at k 0)) (sym (get_or-append old (p ∷ []) (0, 0) k (omega (arith, many, earlier)))) (so_far.each k earlier)
            | inr behind ↦
                let last : k ≡ length old = omega (arith, many, behind, below) in
                let here : k ≡ i = omega (arith, behind, below) in
                subst (λ (j : ℕ). IsPad (get_or homes j 0) (get_or stub_at j 0) (get_or (old ++ p ∷ []) k (0, 0))) (sym here)
                (subst (λ (j : ℕ). IsPad (get_or homes i 0) (get_or stub_at i 0) (get_or (old ++ p ∷ []) j (0, 0))) (sym last)
                (subst (IsPad (get_or homes i 0) (get_or stub_at i 0)) (sym (get_or-append_seam old p [] (0, 0))) is))
          ]);
    }

pub kept_more : (homes : List ℕ) (words old new : List Patch) (w : Patch) (i : ℕ) (d : Patch) → i < length words → w ≡ get_or words i d → old ≡ filter (is_unpadded homes) (take i words) → new ≡ old ++ filter (is_unpadded homes) (w ∷ []) → new ≡ filter (is_unpadded homes) (take (i + 1) words)
kept_more homes words old new w i d below is so_far grown =
    grown
    ∙ ap (λ (ps : List Patch). ps ++ filter (is_unpadded homes) (w ∷ [])) so_far
    ∙ ap (λ (p : Patch). filter (is_unpadded homes) (take i words) ++ filter (is_unpadded homes) (p ∷ [])) is
    ∙ sym (filter-append (is_unpadded homes) (take i words) (get_or words i d ∷ []))
    ∙ ap (λ (ps : List Patch). filter (is_unpadded homes) ps) (sym (take_more words i d below))
