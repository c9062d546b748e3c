-- Words that mean the same are the same.
use Rattle.std.proofs.Common.{◌≡◌, ◌∙◌, ℕ, zero, suc, ◌+◌, ◌<◌, List, [], ◌∷◌, ◌++◌, take, drop, length, refl, sym, ap, subst, arith}
use Rattle.std.specs.List.{All}
use Rattle.std.proofs.Math.ListN.{get_or-append}
use Rattle.std.proofs.lemmas.List.{length-append, get_or-append-add, take_all}
use Rattle.std.proofs.lemmas.List.Elements.{All-head, All-tail}
use Rattle.rv32im.specs.declared.instructions.Instr.{Instr}
use Rattle.rv32im.specs.Sequences.{MeanAll}
use Rattle.rv32im.proofs.Meaning.{same_word}

-- ---- words of 32 bits

abbrev pub IsSmall : ℕ → Type 0
IsSmall w = w < 4294967296

abbrev pub AreSmall : List ℕ → Type 0
AreSmall ws = All IsSmall ws

pub small_left : (xs ys : List ℕ) → AreSmall (xs ++ ys) → AreSmall xs
small_left xs ys all k d below =
    let count = length-append xs ys in
    subst IsSmall (get_or-append xs ys d k below) (all k d (omega (arith, count, below)))

pub small_right : (xs ys : List ℕ) → AreSmall (xs ++ ys) → AreSmall ys
small_right xs ys all k d below =
    let count = length-append xs ys in
    subst IsSmall (get_or-append-add xs ys k d) (all (length xs + k) d (omega (arith, count, below)))

-- ---- lists of words

pub same_words : (is : List Instr) (ws vs : List ℕ) → AreSmall ws → AreSmall vs → MeanAll ws is → MeanAll vs is → ws ≡ vs
same_words [] [] [] small other all more = refl
same_words [] [] (v ∷ vs) small other all more = absurd more
same_words [] (w ∷ ws) vs small other all more = absurd all
same_words (i ∷ is) [] vs small other all more = absurd all
same_words (i ∷ is) (w ∷ ws) [] small other all more = absurd more
same_words (i ∷ is) (w ∷ ws) (v ∷ vs) small other all more =
    let first : w ≡ v = same_word w v i (All-head IsSmall w ws small) (All-head IsSmall v vs other) all.0 more.0 in
    let rest = same_words is ws vs (All-tail IsSmall w ws small) (All-tail IsSmall v vs other) all.1 more.1 in
    λ k. first k ∷ rest k

-- ---- parts of lists, one behind the other

pub take_split : {X : Type 0} (p s : ℕ) (xs : List X) → take (p + s) xs ≡ take p xs ++ take s (drop p xs)
take_split zero s xs = let none : 0 + s ≡ s = omega arith in ap (λ (n : ℕ). take n xs) none
take_split (suc p) s [] = take_all (suc p + s) [] (omega arith) ∙ sym (take_all s [] (omega arith))
take_split (suc p) s (x ∷ xs) =
    let more : suc p + s ≡ suc (p + s) = omega arith in
    ap (λ (n : ℕ). take n (x ∷ xs)) more ∙ ap (λ ys. x ∷ ys) (take_split p s xs)

pub take_more : {X : Type 0} (p s : ℕ) (xs ys : List X) → take p xs ≡ take p ys → take s (drop p xs) ≡ take s (drop p ys) → take (p + s) xs ≡ take (p + s) ys
take_more p s xs ys first behind =
    take_split p s xs ∙ ((λ k. first k ++ behind k) ∙ sym (take_split p s ys))
