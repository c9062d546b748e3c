-- Lists of events by the addresses at which they are fetched, and where the last of them is.
use Rattle.std.proofs.Common.{◌≡◌, ◌∙◌, ℕ, ◌+◌, ◌<◌, ◌≤◌, true, List, [], ◌∷◌, ◌++◌, length, map, slice_index_or, refl, sym, ap, arith}
use Rattle.std.proofs.lemmas.Bool.Decides.{nat_tests}
use Rattle.std.proofs.lemmas.List.{append_assoc}
use Rattle.board_config.specs.declared.board.Board.{Board}
use Rattle.board_config.specs.declared.board.Range.{Range}
use Rattle.flat_machine.specs.Mapping.{in_range}
use Rattle.flat_machine.specs.declared.events.FlatEvent.{FlatEvent}
use Rattle.result_laws.specs.Walks.{address_in}
use Rattle.compare_runner.specs.Comings.{EndsInPatch}

-- an address between a range's bounds
pub inside_range : (r : Range) (a : ℕ) → r.base ≤ a → a < r.base + r.size → in_range r a ≡ true
inside_range r a low high = grind (arith, nat_tests, low, high)

-- ---- two events

pub record AreTwoEvents (b : ℕ) (es : List FlatEvent) : Type 0 where
  pub first : FlatEvent
  pub last : FlatEvent
  pub whole : es ≡ first ∷ last ∷ []
  pub at : last.at ≡ b

pub two_events : (es : List FlatEvent) (a b : ℕ) → map address_in es ≡ a ∷ b ∷ [] → AreTwoEvents b es
two_events [] a b are = let count = ap (λ (xs : List ℕ). length xs) are in absurd (omega (arith, count))
two_events (e ∷ []) a b are = let count = ap (λ (xs : List ℕ). length xs) are in absurd (omega (arith, count))
two_events (e ∷ f ∷ []) a b are = record { first = e; last = f; whole = refl; at = ap (λ (xs : List ℕ). slice_index_or xs 1 0) are }
two_events (e ∷ f ∷ h ∷ es) a b are = let count = ap (λ (xs : List ℕ). length xs) are in absurd (omega (arith, count))

-- ---- the last word is of the patch range

pub ends_behind : (board : Board) (es fs : List FlatEvent) → EndsInPatch board fs → EndsInPatch board (es ++ fs)
ends_behind board es fs ends =
    record {
      before = es ++ ends.before;
      last = ends.last;
      whole = ap (λ (xs : List FlatEvent). es ++ xs) ends.whole ∙ sym (append_assoc es ends.before (ends.last ∷ []));
      fetched = ends.fetched;
    }
