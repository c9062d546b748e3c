-- Cells of the store, as cells of fixed memory and of objects.
use Rattle.std.proofs.Common.{◌≡◌, ◌⊎◌, inl, inr, ℕ, zero, suc, ◌+◌, ◌-◌, ◌<◌, ◌≤◌, ◌==◌, nat_lt, Bool, true, false, List, [], ◌∷◌, length, Result, Ok, Err, OnOk, OnErr, refl, sym, ◌∙◌, ap, subst, arith}
use Rattle.std.specs.List.{All}
use Rattle.std.proofs.lemmas.Bool.{both_ways, cases_eq, cases_lt}
use Rattle.std.proofs.lemmas.Bool.Decides.{nat_tests}
use Rattle.std.proofs.lemmas.List.Elements.{All-nil, All-cons, All-head, All-tail}
use Rattle.object_graph.specs.declared.parts.Graph.{Graph}
use Rattle.cell_values.specs.Cells.{IsCellOfGraph, put_at, put_cells}
use Rattle.cell_values.specs.Objects.{object_of}
use Rattle.cell_values.specs.declared.values.Cell.{Cell}
use Rattle.cell_values.specs.declared.values.Cell.TheVariants.{Mist}
use Rattle.object_machine.specs.declared.spots.Spot.TheVariants.{Object}
use Rattle.object_machine.specs.declared.tables.Tables.{Tables}
use Rattle.object_machine.specs.Layout.{is_in_some}
use Rattle.object_machine.specs.Spots.{Spans}
use Rattle.object_machine.specs.Start.{where_memory}

-- ---- cells put one behind the other

pub same_number : (n : ℕ) → (n == n) ≡ true
same_number n = grind (arith, nat_tests)

-- one cell put among any others
pub put_here : (t : ℕ → Cell) (k : ℕ) (c : Cell) (a : ℕ) → a ≡ k → put_at t k c a ≡ c
unfolding put_at
put_here t k c a same = grind (arith, nat_tests, same)

pub put_other : (t : ℕ → Cell) (k : ℕ) (c : Cell) (a : ℕ) → (a < k) ⊎ (k < a) → put_at t k c a ≡ t a
unfolding put_at
put_other t k c a (inl less) = grind (arith, nat_tests, less)
put_other t k c a (inr more) = grind (arith, nat_tests, more)

pub before_cells : (t : ℕ → Cell) (k : ℕ) (cs : List Cell) (a : ℕ) → a < k → put_cells t k cs a ≡ t a
before_cells t k [] a less = refl
before_cells t k (c ∷ cs) a less =
    before_cells (put_at t k c) (k + 1) cs a (omega (arith, less)) ∙ put_other t k c a (inl less)

pub behind_cells : (t : ℕ → Cell) (k : ℕ) (cs : List Cell) (a : ℕ) → k + length cs ≤ a → put_cells t k cs a ≡ t a
behind_cells t k [] a more = refl
behind_cells t k (c ∷ cs) a more =
    behind_cells (put_at t k c) (k + 1) cs a (omega (arith, more)) ∙ put_other t k c a (inr (omega (arith, more)))

-- two tables with the same cells at two places, each the same distance from where cells are put
pub cells_alike : (t u : ℕ → Cell) (k j : ℕ) (cs : List Cell) (i : ℕ) → t (k + i) ≡ u (j + i) → put_cells t k cs (k + i) ≡ put_cells u j cs (j + i)
cells_alike t u k j [] i same = same
cells_alike t u k j (c ∷ cs) zero same =
    let left : put_cells (put_at t k c) (k + 1) cs (k + 0) ≡ c = before_cells (put_at t k c) (k + 1) cs (k + 0) (omega arith) ∙ put_here t k c (k + 0) (omega arith) in
    let right : put_cells (put_at u j c) (j + 1) cs (j + 0) ≡ c = before_cells (put_at u j c) (j + 1) cs (j + 0) (omega arith) ∙ put_here u j c (j + 0) (omega arith) in
    left ∙ sym right
cells_alike t u k j (c ∷ cs) (suc i) same =
    let left : k + suc i ≡ (k + 1) + i = omega arith in
    let right : j + suc i ≡ (j + 1) + i = omega arith in
    let here : put_at t k c (k + suc i) ≡ put_at u j c (j + suc i) = put_other t k c (k + suc i) (inr (omega arith)) ∙ (same ∙ sym (put_other u j c (j + suc i) (inr (omega arith)))) in
    let shifted : put_at t k c ((k + 1) + i) ≡ put_at u j c ((j + 1) + i) = ap (put_at t k c) (sym left) ∙ (here ∙ ap (put_at u j c) right) in
    ap (put_cells (put_at t k c) (k + 1) cs) left ∙ (cells_alike (put_at t k c) (put_at u j c) (k + 1) (j + 1) cs i shifted ∙ ap (put_cells (put_at u j c) (j + 1) cs) (sym right))

-- cells of a graph stay such
one_of_graph : (g : Graph) (t : ℕ → Cell) (k : ℕ) (c : Cell) → ((a : ℕ) → IsCellOfGraph g (t a)) → IsCellOfGraph g c → (b : ℕ) → IsCellOfGraph g (put_at t k c b)
one_of_graph g t k c old new b =
    elim (cases_eq b k) [
      | inl same ↦ subst (IsCellOfGraph g) (sym (put_here t k c b same)) new
      | inr other ↦ let disjoint : (b < k) ⊎ (k < b) = grind (arith, other) in subst (IsCellOfGraph g) (sym (put_other t k c b disjoint)) (old b)
    ]

pub cells_of_graph : (g : Graph) (t : ℕ → Cell) (k : ℕ) (cs : List Cell) → ((a : ℕ) → IsCellOfGraph g (t a)) → All (IsCellOfGraph g) cs → (a : ℕ) → IsCellOfGraph g (put_cells t k cs a)
cells_of_graph g t k [] old new a = old a
cells_of_graph g t k (c ∷ cs) old new a =
    cells_of_graph g (put_at t k c) (k + 1) cs (one_of_graph g t k c old (All-head (IsCellOfGraph g) c cs new)) (All-tail (IsCellOfGraph g) c cs new) a

-- ---- what is memory

where_true : (b : Bool) (c : Cell) → b ≡ true → where_memory b c ≡ c
where_true b c is = rw is

where_false : (b : Bool) (c : Cell) → b ≡ false → where_memory b c ≡ Mist
where_false b c is = rw is

-- cells put where all is memory
here_or : (is : ℕ → Bool) (t : ℕ → Cell) (k : ℕ) (cs : List Cell) → ((i : ℕ) → i < length cs → is (k + i) ≡ true) → (a : ℕ) → where_memory (is a) (put_cells t k cs a) ≡ put_cells (λ b. where_memory (is b) (t b)) k cs a
here_or is t k cs all a =
    elim (cases_lt a k) [
      | inl less ↦ ap (where_memory (is a)) (before_cells t k cs a less) ∙ sym (before_cells (λ b. where_memory (is b) (t b)) k cs a less)
      | inr more ↦ elim (cases_lt a (k + length cs)) [
        | inr behind ↦ ap (where_memory (is a)) (behind_cells t k cs a behind) ∙ sym (behind_cells (λ b. where_memory (is b) (t b)) k cs a behind)
        | inl inside ↦
            let i : ℕ = a - k in
            let at : a ≡ k + i = omega (arith, more) in
            let is_there : is (k + i) ≡ true = all i (omega (arith, more, inside)) in
            let is_here : is a ≡ true = rw at is_there in
            let same : t (k + i) ≡ where_memory (is (k + i)) (t (k + i)) = sym (where_true (is (k + i)) (t (k + i)) is_there) in
            where_true (is a) (put_cells t k cs a) is_here ∙ (ap (put_cells t k cs) at ∙ (cells_alike t (λ b. where_memory (is b) (t b)) k k cs i same ∙ ap (put_cells (λ b. where_memory (is b) (t b)) k cs) (sym at)))
      ]
    ]

pub put_in_memory : (is : ℕ → Bool) (t : ℕ → Cell) (k : ℕ) (cs : List Cell) → ((i : ℕ) → i < length cs → is (k + i) ≡ true) → (λ a. where_memory (is a) (put_cells t k cs a)) ≡ put_cells (λ b. where_memory (is b) (t b)) k cs
put_in_memory is t k cs all = λ z a. here_or is t k cs all a z

-- cells put where none is
pub put_elsewhere : (is : Bool) (t : ℕ → Cell) (k : ℕ) (cs : List Cell) (a : ℕ) → ((i : ℕ) → i < length cs → a ≡ k + i → is ≡ false) → where_memory is (put_cells t k cs a) ≡ where_memory is (t a)
put_elsewhere is t k cs a none =
    elim (cases_lt a k) [
      | inl less ↦ ap (where_memory is) (before_cells t k cs a less)
      | inr more ↦ elim (cases_lt a (k + length cs)) [
        | inr behind ↦ ap (where_memory is) (behind_cells t k cs a behind)
        | inl inside ↦
            let free : is ≡ false = none (a - k) (omega (arith, more, inside)) (omega (arith, more)) in
            where_false is (put_cells t k cs a) free ∙ sym (where_false is (t a) free)
      ]
    ]

-- the cells of an object, where cells are put inside
inside_or : (size home : ℕ) (t : ℕ → Cell) (d : ℕ) (cs : List Cell) → d + length cs ≤ size → (i : ℕ) → where_memory (nat_lt i size) (put_cells t (home + d) cs (home + i)) ≡ put_cells (λ j. where_memory (nat_lt j size) (t (home + j))) d cs i
inside_or size home t d cs fits i =
    let u : ℕ → Cell = λ j. where_memory (nat_lt j size) (t (home + j)) in
    elim (cases_lt i d) [
      | inl less ↦ ap (where_memory (nat_lt i size)) (before_cells t (home + d) cs (home + i) (omega (arith, less))) ∙ sym (before_cells u d cs i less)
      | inr more ↦ elim (cases_lt i (d + length cs)) [
        | inr behind ↦ ap (where_memory (nat_lt i size)) (behind_cells t (home + d) cs (home + i) (omega (arith, behind))) ∙ sym (behind_cells u d cs i behind)
        | inl inside ↦
            let j : ℕ = i - d in
            let at : i ≡ d + j = omega (arith, more) in
            let there : home + i ≡ (home + d) + j = omega (arith, more) in
            let less : d + j < size = omega (arith, more, inside, fits) in
            let memory : nat_lt (d + j) size ≡ true = grind (arith, nat_tests, less) in
            let memory_here : nat_lt i size ≡ true = rw at memory in
            let same_place : home + (d + j) ≡ (home + d) + j = omega arith in
            let same : t ((home + d) + j) ≡ u (d + j) = ap t (sym same_place) ∙ sym (where_true (nat_lt (d + j) size) (t (home + (d + j))) memory) in
            where_true (nat_lt i size) (put_cells t (home + d) cs (home + i)) memory_here
            ∙ (ap (put_cells t (home + d) cs) there ∙ (cells_alike t u (home + d) d cs j same ∙ ap (put_cells u d cs) (sym at)))
      ]
    ]

-- ---- the store of a machine

abbrev pub home : Tables → ℕ → ℕ
home t o = (object_of t.graph o).home

abbrev pub size : Tables → ℕ → ℕ
size t o = (object_of t.graph o).size

abbrev pub cells_with : Tables → (ℕ → Cell) → ℕ → ℕ → Cell
cells_with t cells = λ o i. where_memory (nat_lt i (size t o)) (cells (home t o + i))

abbrev pub fixed_with : Tables → (ℕ → Cell) → ℕ → Cell
fixed_with t cells = λ a. where_memory (is_in_some t.fixed.items a) (cells a)

-- a store into fixed memory
pub fixed_put : (t : Tables) (old new : ℕ → Cell) (k : ℕ) (cs : List Cell) → new ≡ put_cells old k cs → ((i : ℕ) → i < length cs → is_in_some t.fixed.items (k + i) ≡ true) → fixed_with t new ≡ put_cells (fixed_with t old) k cs
fixed_put t old new k cs is all = ap (fixed_with t) is ∙ put_in_memory (is_in_some t.fixed.items) old k cs all

not_inside : (t : Tables) (o i a : ℕ) → is_in_some t.fixed.items a ≡ true → home t o + i ≡ a → nat_lt i (size t o) ≡ false
not_inside t o i a fixed same =
    elim (cases_lt i (size t o)) [
      | inl less ↦ let free = t.off o i less in let consumed = rw same at free in absurd (both_ways (is_in_some t.fixed.items a) consumed fixed)
      | inr more ↦ grind (arith, nat_tests, more)
    ]

pub objects_stay : (t : Tables) (old new : ℕ → Cell) (k : ℕ) (cs : List Cell) → new ≡ put_cells old k cs → ((i : ℕ) → i < length cs → is_in_some t.fixed.items (k + i) ≡ true) → cells_with t new ≡ cells_with t old
objects_stay t old new k cs is all =
    ap (cells_with t) is
    ∙ (λ z o i. put_elsewhere (nat_lt i (size t o)) old k cs (home t o + i) (λ j below same. not_inside t o i (k + j) (all j below) same) z)

-- a store into an object
pub fixed_stays : (t : Tables) (old new : ℕ → Cell) (o d : ℕ) (cs : List Cell) → new ≡ put_cells old (home t o + d) cs → d + length cs ≤ size t o → fixed_with t new ≡ fixed_with t old
fixed_stays t old new o d cs is fits =
    ap (fixed_with t) is
    ∙ (λ z a. put_elsewhere (is_in_some t.fixed.items a) old (home t o + d) cs a
    (λ j below same.
    let place : home t o + (d + j) ≡ a = omega (arith, same) in
    let free = t.off o (d + j) (omega (arith, below, fits)) in rw place at free) z)

other_object : (t : Tables) (old : ℕ → Cell) (o d : ℕ) (cs : List Cell) → d + length cs ≤ size t o → (q i : ℕ) → (q ≡ o → ⊥) → where_memory (nat_lt i (size t q)) (put_cells old (home t o + d) cs (home t q + i)) ≡ where_memory (nat_lt i (size t q)) (old (home t q + i))
other_object t old o d cs fits q i other =
    put_elsewhere (nat_lt i (size t q)) old (home t o + d) cs (home t q + i)
    (λ j below same.
    elim (cases_lt i (size t q)) [
      | inl less ↦ absurd (other (t.disjoint q o i (d + j) less (omega (arith, below, fits)) (omega (arith, same))))
      | inr more ↦ grind (arith, nat_tests, more)
    ])

put_object : (t : Tables) (old : ℕ → Cell) (o d : ℕ) (cs : List Cell) → d + length cs ≤ size t o → (q i : ℕ) → cells_with t (put_cells old (home t o + d) cs) q i ≡ put_at (cells_with t old) o (put_cells (cells_with t old o) d cs) q i
unfolding put_at
put_object t old o d cs fits q i =
    elim (cases_eq q o) [
      | inl same ↦ rw same (rw (same_number o) (inside_or (size t o) (home t o) old d cs fits i))
      | inr other ↦ let differs : (q == o) ≡ false = grind (arith, nat_tests, other) in rw differs (other_object t old o d cs fits q i other)
    ]

pub object_put : (t : Tables) (old new : ℕ → Cell) (o d : ℕ) (cs : List Cell) → new ≡ put_cells old (home t o + d) cs → d + length cs ≤ size t o → cells_with t new ≡ put_at (cells_with t old) o (put_cells (cells_with t old o) d cs)
object_put t old new o d cs is fits = ap (cells_with t) is ∙ (λ z q i. put_object t old o d cs fits q i z)

-- after a store, and after one for which there was no memory, all cells are of the graph
pub store_of_graph : {T E : Type 0} (g : Graph) (r : Result T E) (old new : ℕ → Cell) (k : ℕ) (cs : List Cell) → OnOk r (new ≡ put_cells old k cs) → OnErr r (new ≡ old) → ((a : ℕ) → IsCellOfGraph g (old a)) → All (IsCellOfGraph g) cs → (a : ℕ) → IsCellOfGraph g (new a)
store_of_graph g (Ok v) old new k cs set err was of a = rw set (cells_of_graph g old k cs was of a)
store_of_graph g (Err e) old new k cs set err was of a = rw err (was a)

pub spans_object : (t : Tables) (o d n : ℕ) → 0 < n → Spans t n (Object o d) → (o < length t.graph.objects.items) × (d + n ≤ size t o)
spans_object t o d n some spans =
    let last = spans (n - 1) (omega (arith, some)) in
    let fits = last.1 in (last.0, omega (arith, some, fits))

-- four cells of the graph
pub four_of_graph : (g : Graph) (a b c d : Cell) → IsCellOfGraph g a → IsCellOfGraph g b → IsCellOfGraph g c → IsCellOfGraph g d → All (IsCellOfGraph g) (a ∷ b ∷ c ∷ d ∷ [])
four_of_graph g a b c d p q r s =
    let one : All (IsCellOfGraph g) (d ∷ []) = All-cons (IsCellOfGraph g) d [] s (All-nil (IsCellOfGraph g)) in
    let two : All (IsCellOfGraph g) (c ∷ d ∷ []) = All-cons (IsCellOfGraph g) c (d ∷ []) r one in
    let three : All (IsCellOfGraph g) (b ∷ c ∷ d ∷ []) = All-cons (IsCellOfGraph g) b (c ∷ d ∷ []) q two in
    All-cons (IsCellOfGraph g) a (b ∷ c ∷ d ∷ []) p three
