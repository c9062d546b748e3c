-- Sums and maps over lists that are mapped.
use Rattle.std.proofs.Common.{◌≡◌, ◌∙◌, ℕ, ◌+◌, List, [], ◌∷◌, map, refl, sym, ap}
use Rattle.std.specs.List.{sum_by}
use Rattle.std.proofs.lemmas.List.Sums.{sum_by-cons}

pub sum_map : {X Y : Type 0} (h : Y → ℕ) (f : X → Y) (xs : List X) → sum_by h (map f xs) ≡ sum_by (λ x. h (f x)) xs
sum_map {X} {Y} h f [] = refl
sum_map {X} {Y} h f (x ∷ xs) =
    let rest = sum_map h f xs in
    sum_by-cons h (f x) (map f xs) ∙ ap (λ (n : ℕ). h (f x) + n) rest ∙ sym (sum_by-cons (λ y. h (f y)) x xs)

pub map_twice : {X Y Z : Type 0} (h : Y → Z) (f : X → Y) (xs : List X) → map h (map f xs) ≡ map (λ x. h (f x)) xs
map_twice {X} {Y} {Z} h f [] = refl
map_twice {X} {Y} {Z} h f (x ∷ xs) = let rest = map_twice h f xs in λ i. h (f x) ∷ rest i
