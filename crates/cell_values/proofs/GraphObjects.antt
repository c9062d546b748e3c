-- The objects of a graph, by their numbers.
use Rattle.std.proofs.Common.{◌≡◌, ◌∙◌, inl, inr, ℕ, ◌+◌, ◌<◌, ◌≤◌, ◌==◌, true, ◌&&◌, length, sym, ap, arith}
use Rattle.std.proofs.lemmas.Bool.{cases_lt, cases_order}
use Rattle.std.proofs.lemmas.Bool.Decides.{nat_tests}
use Rattle.std.proofs.lemmas.List.{get_or_past}
use Rattle.std.proofs.lemmas.List.Folds.{list_any_at}
use Rattle.elf_reader.specs.File.{PlainView}
use Rattle.board_config.specs.declared.board.Board.{Board}
use Rattle.loaded_file.specs.Records.{symbol_at}
use Rattle.loaded_file.proofs.RangeLemmas.{byte_range_of}
use Rattle.object_graph.specs.Fixed.{is_movable}
use Rattle.object_graph.specs.Graphs.{is_object_of, IsObjects}
use Rattle.object_graph.specs.declared.parts.Object.{Object}
use Rattle.object_graph.specs.declared.parts.Graph.{Graph}
use Rattle.object_graph.proofs.MovableLemmas.{movable_parts}
use Rattle.cell_values.specs.Objects.{absent_object, object_of}

-- an object with bytes is one of the graph
pub object_below : (g : Graph) (o i : ℕ) → i < (object_of g o).size → o < length g.objects.items
object_below g o i inside =
    elim (cases_lt o (length g.objects.items)) [
      | inl below ↦ below
      | inr behind ↦
          let none : (object_of g o).size ≡ 0 =
          ap (λ (x : Object). x.size) (get_or_past g.objects.items o absent_object behind) in
          absurd (omega (arith, none, inside))
    ]

same_byte_range : (home n : ℕ) → (home == home) && (n == n) ≡ true
same_byte_range home n = grind (arith, nat_tests)

-- an object of the graph may move
pub object_moves : (v : PlainView) (board : Board) (g : Graph) (o : ℕ) → IsObjects v board g.objects.items → o < length g.objects.items → is_movable v board (object_of g o).home (object_of g o).size ≡ true
object_moves v board g o is below =
    let home : ℕ = (object_of g o).home in
    let n : ℕ = (object_of g o).size in
    sym (is.exact home n)
    ∙ list_any_at (is_object_of home n) g.objects.items o absent_object below (same_byte_range home n)

-- each begins behind address 0 and ends below 2 ^ 32
pub record Extends (g : Graph) (o : ℕ) : Type 0 where
  pub placed : 0 < (object_of g o).home
  pub ends : (object_of g o).home + (object_of g o).size < 4294967296

pub object_extends : (v : PlainView) (board : Board) (g : Graph) (o : ℕ) → IsObjects v board g.objects.items → Extends g o
object_extends v board g o is =
    elim (cases_lt o (length g.objects.items)) [
      | inl below ↦
          let home : ℕ = (object_of g o).home in
          let n : ℕ = (object_of g o).size in
          let moves = movable_parts v board home n (object_moves v board g o is below) in
          let byte_range = byte_range_of v home n (symbol_at v moves.symbol) moves.of in
          let ends = byte_range.ends in
          record { placed = byte_range.placed; ends = omega (arith, ends) }
      | inr behind ↦
          let past = get_or_past g.objects.items o absent_object behind in
          let home : (object_of g o).home ≡ 64 = ap (λ (x : Object). x.home) past in
          let size : (object_of g o).size ≡ 0 = ap (λ (x : Object). x.size) past in
          record { placed = omega (arith, home); ends = omega (arith, home, size) }
    ]

-- two share no byte
pub objects_differ : (v : PlainView) (board : Board) (g : Graph) (o p i j : ℕ) → IsObjects v board g.objects.items → (o ≡ p → ⊥) → i < (object_of g o).size → j < (object_of g p).size → (object_of g o).home + i ≡ (object_of g p).home + j → ⊥
objects_differ v board g o p i j is other inside inside_other same =
    let below = object_below g o i inside in
    let below_other = object_below g p j inside_other in
    elim (cases_order o p) [
      | inl equal ↦ other equal
      | inr order ↦ elim order [
        | inl before ↦
            let ends : (object_of g o).home + (object_of g o).size ≤ (object_of g p).home =
            is.disjoint o p absent_object before below_other in
            omega (arith, ends, inside, same)
        | inr behind ↦
            let ends : (object_of g p).home + (object_of g p).size ≤ (object_of g o).home =
            is.disjoint p o absent_object behind below in
            omega (arith, ends, inside_other, same)
      ]
    ]
