-- Ways in the words of a stub and in the routine, one behind the other.
use Rattle.std.proofs.Common.{inl, inr, ℕ, ◌+◌, ◌≤◌, ◌≡◌, List, ◌++◌, arith}
use Rattle.std.specs.Prelude.{All}
use Rattle.std.proofs.lemmas.List.Elements.{All-append}
use Rattle.flat_machine.specs.declared.events.FlatAccess.{FlatAccess}
use Rattle.flat_machine.specs.State.{State}
use Rattle.patch_code.specs.Told.{IsFrom, Way}
use Rattle.patch_code.proofs.Ways.{join, recount}
use Rattle.patch_code.specs.Switches.{IsFromStub, StubWay}

-- a way in a range is one in a wider range
pub widen : (lo size at bytes n : ℕ) (told : List FlatAccess) (s t : State) → lo ≤ at → at + bytes ≤ lo + size → Way at bytes n told s t → Way lo size n told s t
widen lo size at bytes n told s t low high way =
    record {
      events = way.events;
      does = way.does;
      count = way.count;
      all = way.all;
      fetched = λ k d below.
          let one : IsFrom at bytes _ = way.fetched k d below in
          let from = one.low in
          let to = one.high in
          record { low = omega (arith, low, from); high = omega (arith, high, to); on = one.on };
    }

module _ (lo size a switch bytes : ℕ) where
  pub in_stub : (n : ℕ) (told : List FlatAccess) (s t : State) → lo ≤ a → a + 88 ≤ lo + size → Way a 88 n told s t → StubWay lo size a switch bytes n told s t
  unfolding widen
  in_stub n told s t low high way =
      record { way = widen lo size a 88 n told s t low high way; own = λ k d below. record { own = inl (way.fetched k d below) } }

  pub in_routine : (n : ℕ) (told : List FlatAccess) (s t : State) → lo ≤ switch → switch + bytes ≤ lo + size → Way switch bytes n told s t → StubWay lo size a switch bytes n told s t
  unfolding widen
  in_routine n told s t low high way =
      record { way = widen lo size switch bytes n told s t low high way; own = λ k d below. record { own = inr (way.fetched k d below) } }

  pub join_own : (m n : ℕ) (first last : List FlatAccess) (s u t : State) → StubWay lo size a switch bytes m first s u → StubWay lo size a switch bytes n last u t → StubWay lo size a switch bytes (m + n) (first ++ last) s t
  unfolding join
  join_own m n first last s u t one two =
      record {
        way = join lo size m n first last s u t one.way two.way;
        own = All-append (IsFromStub a switch bytes) one.way.events two.way.events one.own two.own;
      }

  pub recount_own : (m n : ℕ) (first last : List FlatAccess) (s t : State) → m ≡ n → first ≡ last → StubWay lo size a switch bytes m first s t → StubWay lo size a switch bytes n last s t
  unfolding recount
  recount_own m n first last s t count told one =
      record { way = recount lo size m n first last s t count told one.way; own = one.own }
