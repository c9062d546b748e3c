-- Loops over the parts of a view, whose checks speak of the parts without borrows.
use Rattle.std.proofs.Common.{◌≡◌, ℕ, ◌<◌, List, Option, Some, None, map, length}
use Rattle.std.proofs.lemmas.List.{length-map}
use Rattle.list_checks.specs.First.{first_below}
use Rattle.list_checks.proofs.FirstLemmas.{first_found}

-- the first check that fails, of one a part
pub found_first : {A B E : Type 0} (check : ℕ → Option E) (plain : A → B) (xs : List A) (k : ℕ) (fault : E) → k < length xs → first_below check k ≡ None → check k ≡ Some fault → first_below check (length (map plain xs)) ≡ Some fault
found_first check plain xs k fault below none found =
    first_found check (length (map plain xs)) k fault (rw length-map below) none found
