-- What holds of an object that may move.
use Rattle.std.proofs.Common.{◌≡◌, ◌⊎◌, inl, inr, ℕ, ◌<◌, ◌==◌, Bool, true, false, not, ◌&&◌, ◌||◌, length, refl, subst, arith}
use Rattle.std.proofs.lemmas.Bool.{eqb-true}
use Rattle.list_checks.specs.Tests.{ranges_overlap}
use Rattle.list_checks.proofs.TestLemmas.{neither, both, not_true, any_found, none_at}
use Rattle.elf_reader.specs.File.{PlainSymbol, PlainView}
use Rattle.board_config.specs.declared.board.Board.{Board}
use Rattle.loaded_file.specs.Records.{symbol_at}
use Rattle.loaded_file.specs.Ranges.{has_range, is_symbol_of, is_range, overlaps_range, is_overlapped}
use Rattle.loaded_file.proofs.RangeLemmas.{IsOf, of_parts}
use Rattle.object_graph.specs.Fixed.{is_in_zeros, is_listed, is_aliased, is_unrewritable, is_shared, is_fixed, is_movable}
use Rattle.object_graph.specs.Laws.{ObjectsDisjoint}

-- an object that may move: it has a symbol, and no rule fixes it
pub record Movable (v : PlainView) (home n : ℕ) : Type 0 where
  pub symbol : ℕ
  pub below : symbol < length v.symbols
  pub of : IsOf v home n (symbol_at v symbol)
  pub alone : is_overlapped v home n ≡ false
  pub rewritable : is_unrewritable v home n ≡ false
  pub unshared : is_shared v home n ≡ false

pub movable_parts : (v : PlainView) (board : Board) (home n : ℕ) → is_movable v board home n ≡ true → Movable v home n
movable_parts v board home n movable =
    let a = is_overlapped v home n in
    let b = is_in_zeros v board home n in
    let c = is_listed v board home n in
    let d = is_aliased v home n in
    let e = is_unrewritable v home n in
    let f = is_shared v home n in
    let whole = both (is_range v home n) (not (is_fixed v board home n)) movable in
    let (k, below, passes) = any_found (is_symbol_of v home n) (length v.symbols) whole.0 in
    let free = not_true (is_fixed v board home n) whole.1 in
    let shares = neither (a || b || c || d || e) f free in
    let unrewritable = neither (a || b || c || d) e shares.0 in
    let aliases = neither (a || b || c) d unrewritable.0 in
    let lists = neither (a || b) c aliases.0 in
    let overlaps = neither a b lists.0 in
    record {
      symbol = k;
      below = below;
      of = of_parts v home n (symbol_at v k) passes;
      alone = overlaps.0;
      rewritable = unrewritable.1;
      unshared = shares.1;
    }

-- two ranges of which the second is the first's, or meets it not
same_or_disjoint : (has overlap here fits : Bool) → has && overlap && not (here && fits) ≡ false → has ≡ true → (overlap ≡ false) ⊎ ((here ≡ true) × (fits ≡ true))
same_or_disjoint has true true true none found = inr (refl, refl)
same_or_disjoint has true true false none found = grind (arith, none, found)
same_or_disjoint has true false fits none found = grind (arith, none, found)
same_or_disjoint has false here fits none found = inl refl

alone_at : (v : PlainView) (home n home' n' : ℕ) (s : PlainSymbol) → IsOf v home' n' s → has_range v s && ranges_overlap home n s.value s.size && not ((s.value == home) && (s.size == n)) ≡ false → (ranges_overlap home n home' n' ≡ false) ⊎ ((home ≡ home') × (n ≡ n'))
alone_at v home n home' n' s of none =
    let value = of.value in
    let size = of.size in
    let overlap = ranges_overlap home n s.value s.size in
    elim (same_or_disjoint (has_range v s) overlap (s.value == home) (s.size == n) none of.test) [
      | inl disjoint ↦ inl (subst (λ (m : ℕ). ranges_overlap home n home' m ≡ false) size (subst (λ (a : ℕ). ranges_overlap home n a s.size ≡ false) value disjoint))
      | inr same ↦
          let here = eqb-true s.value home same.0 in
          let fits = eqb-true s.size n same.1 in
          inr (omega (arith, here, value), omega (arith, fits, size))
    ]

pub objects_disjoint : ObjectsDisjoint
objects_disjoint v board home n home' n' movable movable' =
    let first = movable_parts v board home n movable in
    let second = movable_parts v board home' n' movable' in
    let s = symbol_at v second.symbol in
    alone_at v home n home' n' s second.of (none_at (overlaps_range v home n) (length v.symbols) second.symbol second.below first.alone)
