use Rattle.std.proofs.Common.{◌≡◌, ℕ, List}
use Rattle.shelf_io.specs.Entries.{content_of, map_bytes}
use Rattle.shelf_io.proofs.memory_shelf.entries_by_name.Given as goal

-- so far the map has the entries that were taken
abbrev pub invariant-loop-name : goal.invariant-loop-name
invariant-loop-name l = (name : List ℕ) → map_bytes l.map name ≡ content_of l.yielded name
