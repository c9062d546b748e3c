-- Words and halfwords of places, and the cells that stores put there.
use Rattle.std.proofs.Common.{◌≡◌, ℕ, zero, suc, ◌+◌, ◌<◌, ◌≤◌, ◌==◌, nat_lt, Bool, true, false, ◌&&◌, if◌then◌else◌, Some, None, List, [], ◌∷◌, take, length, refl, ◌∙◌, ap, arith}
use Rattle.std.specs.List.{All}
use Rattle.std.proofs.lemmas.Bool.Decides.{nat_tests}
use Rattle.rv32im.specs.Words.{half_of}
use Rattle.object_graph.specs.declared.parts.Graph.{Graph}
use Rattle.cell_values.specs.declared.values.Val.{Val}
use Rattle.cell_values.specs.declared.values.Val.TheVariants.{Int, Addr, Hi, Low, Piece, Unknown}
use Rattle.cell_values.specs.declared.values.Cell.{Cell}
use Rattle.cell_values.specs.declared.values.Cell.TheVariants.{Byte, Part, Mist}
use Rattle.cell_values.specs.Objects.{IsOfGraph}
use Rattle.cell_values.specs.Cells.{IsCellOfGraph, split, join, is_part, whole_word, half_value}
use Rattle.cell_values.specs.Marks.{half_of_cells}
use Rattle.object_machine.specs.declared.spots.Spot.TheVariants.{Fixed, Object}
use Rattle.object_machine.specs.declared.tables.Tables.{Tables}
use Rattle.object_machine.specs.Layout.{is_in_some}
use Rattle.object_machine.specs.Spots.{Spans}
use Rattle.object_machine.specs.Start.{where_memory}
use Rattle.object_machine.proofs.StoreLemmas.{home, size, cells_with, fixed_with, four_of_graph}

-- ---- halfwords

pub some_half : (extend : ℕ → ℕ) (a b : Cell) (h : ℕ) → Some h ≡ half_of_cells a b → Int (extend h) ≡ half_value extend a b
some_half extend (Byte x) (Byte y) h is = let same : h ≡ half_of x y = cc in ap (λ (n : ℕ). Int (extend n)) same
some_half extend (Byte x) (Part hi o d k) h is = cc
some_half extend (Byte x) Mist h is = cc
some_half extend (Part hi o d k) b h is = cc
some_half extend Mist b h is = cc

pub none_half : (extend : ℕ → ℕ) (a b : Cell) → None ≡ half_of_cells a b → Unknown ≡ half_value extend a b
none_half extend (Byte x) (Byte y) is = cc
none_half extend (Byte x) (Part hi o d k) is = refl
none_half extend (Byte x) Mist is = refl
none_half extend (Part hi o d k) b is = refl
none_half extend Mist b is = refl

-- ---- bytes that a place spans lie below 2 ^ 32

pub fixed_fits : (t : Tables) (a n : ℕ) → Spans t (suc n) (Fixed a) → a + suc n ≤ 4294967296
fixed_fits t a n spans = let last = (spans n (omega arith)).0 in omega (arith, last)

pub object_below : (t : Tables) (o d n : ℕ) → Spans t (suc n) (Object o d) → o < length t.graph.objects.items
object_below t o d n spans = (spans n (omega arith)).0

pub object_fits : (t : Tables) (o d h n : ℕ) → h ≡ home t o → Spans t (suc n) (Object o d) → h + d + suc n ≤ 4294967296
object_fits t o d h n is spans =
    let last = spans n (omega arith) in
    let inside : d + n < size t o = last.1 in
    let end : home t o + size t o < 4294967296 = t.below o in
    omega (arith, is, inside, end)

-- ---- what stands at a place

there : (is : Bool) (c : Cell) → is ≡ true → c ≡ where_memory is c
there is c memory = rw memory refl

pub fixed_cell : (t : Tables) (cells : ℕ → Cell) (a n i : ℕ) → Spans t n (Fixed a) → i < n → cells (a + i) ≡ fixed_with t cells (a + i)
fixed_cell t cells a n i spans below = there (is_in_some t.fixed.items (a + i)) (cells (a + i)) (spans i below).1

fixed_first : (t : Tables) (cells : ℕ → Cell) (a n : ℕ) → 0 < n → Spans t n (Fixed a) → cells a ≡ fixed_with t cells (a + 0)
fixed_first t cells a n some spans = let first : a ≡ a + 0 = omega arith in ap cells first ∙ fixed_cell t cells a n 0 spans some

pub object_cell : (t : Tables) (cells : ℕ → Cell) (o d n i : ℕ) → Spans t n (Object o d) → i < n → cells (home t o + d + i) ≡ cells_with t cells o (d + i)
object_cell t cells o d n i spans below =
    let place : home t o + d + i ≡ home t o + (d + i) = omega arith in
    let inside = (spans i below).1 in
    let memory : nat_lt (d + i) (size t o) ≡ true = grind (arith, nat_tests, inside) in
    ap cells place ∙ there (nat_lt (d + i) (size t o)) (cells (home t o + (d + i))) memory

object_first : (t : Tables) (cells : ℕ → Cell) (o d n : ℕ) → 0 < n → Spans t n (Object o d) → cells (home t o + d) ≡ cells_with t cells o (d + 0)
object_first t cells o d n some spans =
    let first : home t o + d ≡ home t o + d + 0 = omega arith in ap cells first ∙ object_cell t cells o d n 0 spans some

pub fixed_word : (t : Tables) (cells : ℕ → Cell) (a : ℕ) → Spans t 4 (Fixed a) → join (cells a) (cells (a + 1)) (cells (a + 2)) (cells (a + 3)) ≡ join (fixed_with t cells (a + 0)) (fixed_with t cells (a + 1)) (fixed_with t cells (a + 2)) (fixed_with t cells (a + 3))
fixed_word t cells a spans =
    let first = fixed_first t cells a 4 (omega arith) spans in
    let second = fixed_cell t cells a 4 1 spans (omega arith) in
    let third = fixed_cell t cells a 4 2 spans (omega arith) in
    let fourth = fixed_cell t cells a 4 3 spans (omega arith) in
    λ z. join (first z) (second z) (third z) (fourth z)

pub object_word : (t : Tables) (cells : ℕ → Cell) (o d h : ℕ) → h ≡ home t o → Spans t 4 (Object o d) → join (cells (h + d)) (cells (h + d + 1)) (cells (h + d + 2)) (cells (h + d + 3)) ≡ join (cells_with t cells o (d + 0)) (cells_with t cells o (d + 1)) (cells_with t cells o (d + 2)) (cells_with t cells o (d + 3))
object_word t cells o d h is spans =
    let first = object_first t cells o d 4 (omega arith) spans in
    let second = object_cell t cells o d 4 1 spans (omega arith) in
    let third = object_cell t cells o d 4 2 spans (omega arith) in
    let fourth = object_cell t cells o d 4 3 spans (omega arith) in
    ap (λ (k : ℕ). join (cells (k + d)) (cells (k + d + 1)) (cells (k + d + 2)) (cells (k + d + 3))) is ∙ (λ z. join (first z) (second z) (third z) (fourth z))

pub fixed_half : (t : Tables) (cells : ℕ → Cell) (a : ℕ) → Spans t 2 (Fixed a) → half_of_cells (cells a) (cells (a + 1)) ≡ half_of_cells (fixed_with t cells (a + 0)) (fixed_with t cells (a + 1))
fixed_half t cells a spans =
    let first = fixed_first t cells a 2 (omega arith) spans in
    let second = fixed_cell t cells a 2 1 spans (omega arith) in
    λ z. half_of_cells (first z) (second z)

pub object_half : (t : Tables) (cells : ℕ → Cell) (o d h : ℕ) → h ≡ home t o → Spans t 2 (Object o d) → half_of_cells (cells (h + d)) (cells (h + d + 1)) ≡ half_of_cells (cells_with t cells o (d + 0)) (cells_with t cells o (d + 1))
object_half t cells o d h is spans =
    let first = object_first t cells o d 2 (omega arith) spans in
    let second = object_cell t cells o d 2 1 spans (omega arith) in
    ap (λ (k : ℕ). half_of_cells (cells (k + d)) (cells (k + d + 1))) is ∙ (λ z. half_of_cells (first z) (second z))

-- ---- the objects that words name

whole_of : (g : Graph) (hi : Bool) (o d : ℕ) → o < length g.objects.items → IsOfGraph g (whole_word hi o d)
whole_of g true o d below = below
whole_of g false o d below = below

word_or : (is : Bool) (g : Graph) (v : Val) → IsOfGraph g v → IsOfGraph g (if is then v else Unknown)
word_or true g v of = of
word_or false g v of = tt

pub join_of : (g : Graph) (a b c e : Cell) → IsCellOfGraph g a → IsOfGraph g (join a b c e)
join_of g (Byte w) (Byte x) (Byte y) (Byte z) of = tt
join_of g (Part hi o d k) q r s of =
    word_or ((k == 0) && is_part hi o d 1 q && is_part hi o d 2 r && is_part hi o d 3 s) g (whole_word hi o d) (whole_of g hi o d of)
join_of g a b c e of = tt

pub split_of : (g : Graph) (v : Val) → IsOfGraph g v → All (IsCellOfGraph g) (split v)
split_of g (Int n) of = four_of_graph g _ _ _ _ tt tt tt tt
split_of g (Addr o d) of = four_of_graph g _ _ _ _ of of of of
split_of g (Hi o d) of = four_of_graph g _ _ _ _ of of of of
split_of g (Low n) of = four_of_graph g _ _ _ _ tt tt tt tt
split_of g (Piece hi o d k) of = four_of_graph g _ _ _ _ of tt tt tt
split_of g Unknown of = four_of_graph g _ _ _ _ tt tt tt tt

-- no more cells are taken than asked for
pub taken_few : (n : ℕ) (cs : List Cell) → length (take n cs) ≤ n
taken_few zero cs = omega arith
taken_few (suc n) [] = omega arith
taken_few (suc n) (c ∷ cs) = let rest = taken_few n cs in omega (arith, rest)
