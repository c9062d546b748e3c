use Rattle.std.proofs.Common.{ap, rules, ◌≡◌, ℕ, List, Option, Some, None, IsSome}
use Rattle.shelf_io.specs.Counts.{is_listed}
use Rattle.shelf_io.specs.MemShelf.{held_bytes}
use Rattle.shelf_io.proofs.memory_shelf.MemShelfShelf.read.Goals as goal
use Rattle.shelf_io.proofs.memory_shelf.MemShelfShelf.read.Goals.{in_default-via-in-Some+else-not-is_listed, in_default-via-in_default}

not_IsSome : (held : Option (List ℕ)) → held ≡ None → IsSome held → ⊥
not_IsSome None missing is_held = search rules
not_IsSome (Some bytes) missing is_held = cc

-- in a shelf with no failing call only a missing name fails
pub returns-in_default-clause-sound : goal.returns-in_default-clause-sound
returns-in_default-clause-sound c = λ sound is_held.
    let not_listed = ap (λ listed. is_listed listed c.args.self.now.calls) sound in
    elim c.in_default.branch [
      | in_default-via-in-Some+else-not-is_listed w ↦ cc
      | in_default-via-in_default w ↦ absurd (not_IsSome (held_bytes c.args.self.now c.args.name.now) (search rules) is_held)
    ]
