-- The moved symbols are just those of the objects that are taken.
use Rattle.std.proofs.Common.{◌≡◌, ◌∙◌, inl, inr, ℕ, zero, suc, ◌+◌, ◌<◌, ◌==◌, nat_lt, nat_le, Bool, true, false, ◌&&◌, ◌||◌, if◌then◌else◌, List, [], ◌∷◌, ◌++◌, length, get_or, append-nil, Option, Some, None, refl, sym, ap, arith}
use Rattle.std.specs.List.{All, AllPairs, list_any}
use Rattle.std.proofs.lemmas.Bool.{cases_eq, cases_order, cases_Bool, eqb-true, eq-eqb, ltb-true}
use Rattle.std.proofs.lemmas.Bool.Decides.{nat_tests}
use Rattle.std.proofs.lemmas.List.{length-map}
use Rattle.std.proofs.lemmas.List.Folds.{list_any_at, list_any-append}
use Rattle.std.proofs.lemmas.List.Elements.{All-nil, All-cons, All-append, All-weaker}
use Rattle.std.proofs.lemmas.List.Quantifiers.{all_pairs_push}
use Rattle.list_checks.proofs.TestLemmas.{both, same_tests}
use Rattle.elf_reader.specs.File.{PlainSymbol, PlainView}
use Rattle.loaded_file.specs.Records.{symbol_at}
use Rattle.elf_writer.specs.declared.parts.SymbolMove.{SymbolMove}
use Rattle.elf_writer.specs.Conditions.{AreOfTwoSymbols}
use Rattle.board_config.specs.declared.board.Board.{Board}
use Rattle.loaded_file.specs.Ranges.{has_byte_range, has_owner, has_range, is_symbol_of}
use Rattle.object_graph.specs.Graphs.{IsGraph}
use Rattle.object_graph.specs.declared.parts.Graph.{Graph}
use Rattle.cell_values.specs.Objects.{object_of}
use Rattle.result_laws.proofs.Lists.{element_found}
use Rattle.cell_values.proofs.GraphObjects.{objects_differ}
use Rattle.relocator.specs.declared.places.Places.{Places}
use Rattle.relocator.specs.declared.slots.Slot.{Slot}
use Rattle.relocator.specs.Placing.{rows_of, ArePlaces}
use Rattle.relink_core.specs.Written.{same_move, moves_with, AreSymbolMoves}
use Rattle.relink_core.specs.Making.{start_place, HasStarts, AreOfGraph, range_value, symbol_value, move_to, moves_below}

-- objects of a graph stand where a table has them
abbrev pub ArePlacedAs : Graph → Places → (ℕ → ℕ) → Type 0
ArePlacedAs g places place = (o : ℕ) → o < length g.objects.items → start_place places o ≡ place o

-- it tells where, for each object of the graph
pub has_starts : (g : Graph) (regions : ℕ) (slots : List Slot) (places : Places) → ArePlaces g regions slots places → HasStarts g places
has_starts g regions slots places are =
    let rows = rows_of places.of.items in
    let count = length-map places.of.items (λ row. row.items) in
    let objects = are.table.objects in
    record {
      objects = omega (arith, count, objects);
      rows = λ o below.
          let wide : length (get_or rows o []) ≡ regions + 1 = are.table.widths o [] (omega (arith, below, objects)) in
          omega (arith, wide);
    }

-- ---- one symbol

-- a value is that of an option
abbrev is_value : Option ℕ → ℕ → Bool
is_value None x = false
is_value (Some y) x = x == y

-- the list of moves in terms of that: symbol `k` below `n` gets the value
abbrev has_value : PlainView → Graph → Places → List ℕ → SymbolMove → Bool
has_value v g places os m = is_value (symbol_value v g places os (symbol_at v m.symbol)) m.value

one_move : (m : SymbolMove) (k : ℕ) (o : Option ℕ) → list_any (same_move m) (move_to k o) ≡ (m.symbol == k) && is_value o m.value
one_move m k None = sym (none_and (m.symbol == k))
  where
    none_and : (b : Bool) → b && false ≡ false
    none_and true = refl
    none_and false = refl
one_move m k (Some y) = or_none ((m.symbol == k) && (m.value == y))
  where
    or_none : (b : Bool) → b || false ≡ b
    or_none true = refl
    or_none false = refl

merged : (s k : ℕ) (x y : Bool) → (s ≡ k → y ≡ x) → (nat_lt s k && x) || ((s == k) && y) ≡ nat_lt s (suc k) && x
merged s k x y same =
    elim (cases_order s k) [
      | inl equal ↦
          let is = same equal in
          grind (arith, nat_tests, equal, is)
      | inr order ↦ elim order [
        | inl before ↦ rest x y (nat_lt s k) (s == k) (nat_lt s (suc k)) (grind (arith, nat_tests, before)) (grind (arith, nat_tests, before)) (grind (arith, nat_tests, before))
        | inr behind ↦ none x y (nat_lt s k) (s == k) (nat_lt s (suc k)) (grind (arith, nat_tests, behind)) (grind (arith, nat_tests, behind)) (grind (arith, nat_tests, behind))
      ]
    ]
  where
    rest : (x y a b c : Bool) → a ≡ true → b ≡ false → c ≡ true → (a && x) || (b && y) ≡ c && x
    rest true y a b c first other last = rw (first, last) refl
    rest false y a b c first other last = rw (first, other, last) refl

    none : (x y a b c : Bool) → a ≡ false → b ≡ false → c ≡ false → (a && x) || (b && y) ≡ c && x
    none x y a b c first other last = rw (first, other, last) refl

listed_moves : (v : PlainView) (g : Graph) (places : Places) (os : List ℕ) (m : SymbolMove) (n : ℕ) → list_any (same_move m) (moves_below v g places os n) ≡ nat_lt m.symbol n && has_value v g places os m
listed_moves v g places os m zero = none_below m.symbol (has_value v g places os m)
  where
    none_below : (s : ℕ) (x : Bool) → false ≡ nat_lt s 0 && x
    none_below s x = grind (arith, nat_tests)
listed_moves v g places os m (suc n) =
    let earlier = moves_below v g places os n in
    let here = move_to n (symbol_value v g places os (symbol_at v n)) in
    let whole = list_any-append (same_move m) earlier here in
    let first = listed_moves v g places os m n in
    let last = one_move m n (symbol_value v g places os (symbol_at v n)) in
    let both_parts : list_any (same_move m) earlier || list_any (same_move m) here ≡ (nat_lt m.symbol n && has_value v g places os m) || ((m.symbol == n) && is_value (symbol_value v g places os (symbol_at v n)) m.value) =
    λ i. first i || last i in
    whole ∙ both_parts
    ∙ merged m.symbol n (has_value v g places os m) (is_value (symbol_value v g places os (symbol_at v n)) m.value)
    (λ same. ap (λ (k : ℕ). is_value (symbol_value v g places os (symbol_at v k)) m.value) (sym same))

-- ---- each symbol once

pub below_all : (v : PlainView) (g : Graph) (places : Places) (os : List ℕ) (n : ℕ) → All (λ m. m.symbol < n) (moves_below v g places os n)
below_all v g places os zero = All-nil (λ (m : SymbolMove). m.symbol < 0)
below_all v g places os (suc n) =
    All-append (λ (m : SymbolMove). m.symbol < suc n) (moves_below v g places os n) (move_to n (symbol_value v g places os (symbol_at v n)))
    (All-weaker (λ (m : SymbolMove). m.symbol < n) (λ (m : SymbolMove). m.symbol < suc n) (λ m less. omega (arith, less)) (moves_below v g places os n) (below_all v g places os n))
    (one_below n (symbol_value v g places os (symbol_at v n)))
  where
    one_below : (n : ℕ) (o : Option ℕ) → All (λ m. m.symbol < suc n) (move_to n o)
    one_below n None = All-nil (λ (m : SymbolMove). m.symbol < suc n)
    one_below n (Some y) = All-cons (λ (m : SymbolMove). m.symbol < suc n) (record { symbol = n; value = y }) [] (omega arith) (All-nil (λ (m : SymbolMove). m.symbol < suc n))

distinct_all : (v : PlainView) (g : Graph) (places : Places) (os : List ℕ) (n : ℕ) → AllPairs AreOfTwoSymbols (moves_below v g places os n)
distinct_all v g places os zero = λ i j d before below. absurd (omega (arith, before, below))
distinct_all v g places os (suc n) =
    one_more n (symbol_value v g places os (symbol_at v n)) (moves_below v g places os n) (distinct_all v g places os n) (below_all v g places os n)
  where
    one_more : (n : ℕ) (o : Option ℕ) (moves : List SymbolMove) → AllPairs AreOfTwoSymbols moves → All (λ m. m.symbol < n) moves → AllPairs AreOfTwoSymbols (moves ++ move_to n o)
    one_more n None moves distinct below = rw append-nil distinct
    one_more n (Some y) moves distinct below =
        all_pairs_push AreOfTwoSymbols moves (record { symbol = n; value = y }) distinct
        (All-weaker (λ (m : SymbolMove). m.symbol < n) (λ (m : SymbolMove). AreOfTwoSymbols m (record { symbol = n; value = y })) (λ m less same. omega (arith, less, same)) moves below)

-- ---- of which object

-- two objects of a graph with the same bytes are one
one_object : (v : PlainView) (board : Board) (g : Graph) (o p : ℕ) → IsGraph v board g → (object_of g o).home ≡ (object_of g p).home → (object_of g o).size ≡ (object_of g p).size → 0 < (object_of g o).size → o ≡ p
one_object v board g o p is home size some =
    elim (cases_eq o p) [
      | inl same ↦ same
      | inr other ↦ absurd (objects_differ v board g o p 0 0 is.objects other some (omega (arith, some, size)) (omega (arith, home)))
    ]

-- an object has the range
abbrev has_bytes : Graph → ℕ → ℕ → ℕ → Bool
has_bytes g home n o = ((object_of g o).home == home) && ((object_of g o).size == n)

bytes_home : (g : Graph) (home n o : ℕ) → has_bytes g home n o ≡ true → (object_of g o).home ≡ home
bytes_home g home n o has = eqb-true (object_of g o).home home (both ((object_of g o).home == home) ((object_of g o).size == n) has).0

bytes_size : (g : Graph) (home n o : ℕ) → has_bytes g home n o ≡ true → (object_of g o).size ≡ n
bytes_size g home n o has = eqb-true (object_of g o).size n (both ((object_of g o).home == home) ((object_of g o).size == n) has).1

-- the value of a range is the place of the object that has it
value_found : (v : PlainView) (board : Board) (g : Graph) (places : Places) (home n : ℕ) (os : List ℕ) (k d : ℕ) → IsGraph v board g → 0 < n → k < length os → has_bytes g home n (get_or os k d) ≡ true → range_value g places home n os ≡ Some (start_place places (get_or os k d))
value_found v board g places home n [] k d is some below has = absurd (omega (arith, below))
value_found v board g places home n (o ∷ os) zero d is some below has = rw has refl
value_found v board g places home n (o ∷ os) (suc k) d is some below has =
    elim (cases_Bool (has_bytes g home n o)) [
      | inl here ↦
          let p = get_or os k d in
          let home_o = bytes_home g home n o here in
          let home_p = bytes_home g home n p has in
          let size_o = bytes_size g home n o here in
          let size_p = bytes_size g home n p has in
          let same = one_object v board g o p is (home_o ∙ sym home_p) (size_o ∙ sym size_p) (omega (arith, size_o, some)) in
          ap (λ (b : Bool). if b then Some (start_place places o) else range_value g places home n os) here
          ∙ ap (λ (x : ℕ). Some (start_place places x)) same
      | inr other ↦
          ap (λ (b : Bool). if b then Some (start_place places o) else range_value g places home n os) other
          ∙ value_found v board g places home n os k d is some (omega (arith, below)) has
    ]

-- a value of a range is the place of one of the objects, which has it
value_of : (g : Graph) (places : Places) (home n x : ℕ) (os : List ℕ) → is_value (range_value g places home n os) x ≡ true → (k : ℕ) × ((k < length os) × ((has_bytes g home n (get_or os k 0) ≡ true) × (x ≡ start_place places (get_or os k 0))))
value_of g places home n x [] is = absurd (cc (is))
value_of g places home n x (o ∷ os) is =
    elim (cases_Bool (has_bytes g home n o)) [
      | inl here ↦
          let now = ap (λ (b : Bool). is_value (if b then Some (start_place places o) else range_value g places home n os) x) (sym here) ∙ is in
          (0, (omega arith, (here, eqb-true x (start_place places o) now)))
      | inr other ↦
          let later = ap (λ (b : Bool). is_value (if b then Some (start_place places o) else range_value g places home n os) x) (sym other) ∙ is in
          let (k, (below, (has, value))) = value_of g places home n x os later in
          (suc k, (omega (arith, below), (has, value)))
    ]

-- ---- all

two_true : (a b : Bool) → a ≡ true → b ≡ true → a && b ≡ true
two_true a b first last = rw (first, last) refl

all_true : (a b c d : Bool) → a ≡ true → b ≡ true → c ≡ true → d ≡ true → a && b && c && d ≡ true
all_true a b c d first second third last = rw (first, second, third, last) refl

byte_range_some : (v : PlainView) (s : PlainSymbol) → has_range v s ≡ true → 0 < s.size
byte_range_some v s range =
    let front = both ((s.kind == 1) && has_byte_range s) (has_owner v s) range in
    let byte_range = both (s.kind == 1) (has_byte_range s) front.0 in
    let two = both (nat_lt 0 s.size && nat_lt 0 s.value) (nat_le (s.value + s.size) 4294967295) byte_range.1 in
    ltb-true 0 s.size (both (nat_lt 0 s.size) (nat_lt 0 s.value) two.0).0

-- a symbol has the value where one of the objects has its range and stands there
value_same : (v : PlainView) (board : Board) (g : Graph) (places : Places) (place : ℕ → ℕ) (taken : List ℕ) (m : SymbolMove) → IsGraph v board g → AreOfGraph g taken → ArePlacedAs g places place → has_value v g places taken m ≡ list_any (moves_with v g place m) taken
value_same v board g places place taken m is listed are =
    same_tests (has_value v g places taken m) (list_any (moves_with v g place m) taken) forth back
  where
    s : PlainSymbol
    s = symbol_at v m.symbol

    forth : has_value v g places taken m ≡ true → list_any (moves_with v g place m) taken ≡ true
    forth has =
        elim (cases_Bool (has_range v s)) [
          | inr none ↦
              absurd (cc (sym (ap (λ (b : Bool). is_value (if b then range_value g places s.value s.size taken else None) m.value) none) ∙ has))
          | inl range ↦
              let given = ap (λ (b : Bool). is_value (if b then range_value g places s.value s.size taken else None) m.value) (sym range) ∙ has in
              let (k, (below, (bytes, value))) = value_of g places s.value s.size m.value taken given in
              let o = get_or taken k 0 in
              let home = bytes_home g s.value s.size o bytes in
              let size = bytes_size g s.value s.size o bytes in
              let there = are o (listed k 0 below) in
              let passes : moves_with v g place m o ≡ true =
              all_true (has_range v s) (s.value == (object_of g o).home) (s.size == (object_of g o).size) (m.value == place o)
              range (eq-eqb s.value (object_of g o).home (sym home)) (eq-eqb s.size (object_of g o).size (sym size)) (eq-eqb m.value (place o) (value ∙ there)) in
              list_any_at (moves_with v g place m) taken k 0 below passes
        ]

    back : list_any (moves_with v g place m) taken ≡ true → has_value v g places taken m ≡ true
    back any =
        let (k, (below, passes)) = element_found (moves_with v g place m) taken 0 any in
        let o = get_or taken k 0 in
        let whole = both (is_symbol_of v (object_of g o).home (object_of g o).size m.symbol) (m.value == place o) passes in
        let two = both (has_range v s && (s.value == (object_of g o).home)) (s.size == (object_of g o).size) whole.0 in
        let one = both (has_range v s) (s.value == (object_of g o).home) two.0 in
        let home = eqb-true s.value (object_of g o).home one.1 in
        let size = eqb-true s.size (object_of g o).size two.1 in
        let some : 0 < s.size = byte_range_some v s one.0 in
        let bytes : has_bytes g s.value s.size o ≡ true =
        two_true ((object_of g o).home == s.value) ((object_of g o).size == s.size) (eq-eqb (object_of g o).home s.value (sym home)) (eq-eqb (object_of g o).size s.size (sym size)) in
        let found = value_found v board g places s.value s.size taken k 0 is some below bytes in
        let value : m.value ≡ start_place places o = eqb-true m.value (place o) whole.1 ∙ sym (are o (listed k 0 below)) in
        ap (λ (b : Bool). is_value (if b then range_value g places s.value s.size taken else None) m.value) one.0
        ∙ ap (λ (x : Option ℕ). is_value x m.value) found
        ∙ eq-eqb m.value (start_place places o) value

pub moves_are : (v : PlainView) (board : Board) (g : Graph) (places : Places) (place : ℕ → ℕ) (taken : List ℕ) → IsGraph v board g → AreOfGraph g taken → ArePlacedAs g places place → AreSymbolMoves v g place taken (moves_below v g places taken (length v.symbols))
moves_are v board g places place taken is listed are =
    record {
      distinct = distinct_all v g places taken (length v.symbols);
      exact = λ m.
          listed_moves v g places taken m (length v.symbols)
          ∙ ap (λ (b : Bool). nat_lt m.symbol (length v.symbols) && b) (value_same v board g places place taken m is listed are);
    }
