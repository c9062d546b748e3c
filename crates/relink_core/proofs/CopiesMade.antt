-- How copies are made, one after the other.
use Rattle.std.proofs.Common.{◌≡◌, ◌∙◌, ℕ, ◌+◌, ◌<◌, ◌≤◌, List, [], ◌∷◌, ◌++◌, map, take, length, get_or, sym, ap, subst}
use Rattle.std.specs.List.{All}
use Rattle.std.proofs.lemmas.List.{map-append, take_more, take_all}
use Rattle.std.proofs.lemmas.List.Elements.{All-push}
use Rattle.block_splitter.specs.declared.block_range.BlockRange.{BlockRange}
use Rattle.block_splitter.specs.Copies.{IsCopy}
use Rattle.relink_core.specs.declared.copy_source.CopySource.{CopySource}
use Rattle.relink_core.specs.declared.placed_copy.PlacedCopy.{PlacedCopy}
use Rattle.relink_core.specs.Copies.{CanPlace, IsPlacedCopy, range_in, place_in, IsPlacedAt, ArePlacedCopies}

-- one element more of a list whose images are the first elements of another
taken_more : {A B : Type 0} (f : A → B) (xs : List B) (out more : List A) (y : A) (i : ℕ) (d : B) → i < length xs → more ≡ out ++ y ∷ [] → map f out ≡ take i xs → f y ≡ get_or xs i d → map f more ≡ take (i + 1) xs
taken_more {A} {B} f xs out more y i d below grown so_far is =
    ap (λ (ys : List A). map f ys) grown
    ∙ map-append f out (y ∷ [])
    ∙ ap (λ (ys : List B). ys ++ f y ∷ []) so_far
    ∙ ap (λ (z : B). take i xs ++ z ∷ []) is
    ∙ sym (take_more xs i d below)

pub copies_more : (s : CopySource) (ranges : List BlockRange) (places : List ℕ) (old new : List PlacedCopy) (x : PlacedCopy) (i : ℕ) (r : BlockRange) (d : ℕ) → i < length ranges → i < length places → new ≡ old ++ x ∷ [] → ArePlacedCopies s (take i ranges) (take i places) old → IsPlacedAt s (get_or ranges i r) (get_or places i d) x → ArePlacedCopies s (take (i + 1) ranges) (take (i + 1) places) new
copies_more s ranges places old new x i r d below inside grown so_far is =
    record {
      blocks = taken_more range_in ranges old new x i r below grown so_far.blocks is.blocks;
      stand = taken_more place_in places old new x i d inside grown so_far.stand is.stands;
      each = subst (All (IsPlacedCopy s)) (sym grown) (All-push (IsPlacedCopy s) old x so_far.each is.is);
    }

pub placed_at : (s : CopySource) (range other : BlockRange) (at : ℕ) (x : PlacedCopy) → x.range ≡ range → x.at ≡ at → other ≡ range → CanPlace s.code.now s.graph.now range at → IsCopy (record { code = s.code.now; graph = s.graph.now; range = other; at = at; sites = s.sites.now }) x.code.words.items x.code.starts.items → IsPlacedAt s range at x
placed_at s range other at x blocks stands same can copy =
    record {
      blocks = blocks;
      stands = stands;
      is = record {
        can = subst (λ (r : BlockRange). CanPlace s.code.now s.graph.now r x.at) (sym blocks)
            (subst (λ (a : ℕ). CanPlace s.code.now s.graph.now range a) (sym stands) can);
        copy =
            subst (λ (r : BlockRange). IsCopy (record { code = s.code.now; graph = s.graph.now; range = r; at = x.at; sites = s.sites.now }) x.code.words.items x.code.starts.items) (same ∙ sym blocks)
            (subst (λ (a : ℕ). IsCopy (record { code = s.code.now; graph = s.graph.now; range = other; at = a; sites = s.sites.now }) x.code.words.items x.code.starts.items) (sym stands) copy);
      };
    }

pub copies_all : (s : CopySource) (ranges : List BlockRange) (places : List ℕ) (xs : List PlacedCopy) (k : ℕ) → length ranges ≤ k → length places ≤ k → ArePlacedCopies s (take k ranges) (take k places) xs → ArePlacedCopies s ranges places xs
copies_all s ranges places xs k over over_places are =
    subst (λ (rs : List BlockRange). ArePlacedCopies s rs places xs) (take_all k ranges over)
    (subst (λ (ps : List ℕ). ArePlacedCopies s (take k ranges) ps xs) (take_all k places over_places) are)
