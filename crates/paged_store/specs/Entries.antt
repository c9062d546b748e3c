-- A memory as the list of its bytes with their addresses. The first entry of an address counts.
use Rattle.std.specs.Prelude.{ℕ, ◌==◌, Bool, Option, List, find, position, is_some}
use Rattle.std.specs.Option.{option_map_or}
use Rattle.rv32im.specs.Memory.{Memory}
use Rattle.paged_store.specs.declared.list_store.Entry.{Entry}

-- the first entry of an address
abbrev pub entry_at : List Entry → ℕ → Option Entry
entry_at entries a = find (λ e. e.at == a) entries

-- the byte at each address, 0 where the list has none
abbrev pub bytes_of : List Entry → Memory
bytes_of entries = λ a. option_map_or (λ e. e.byte) (entry_at entries a) 0

-- whether the list has an entry of an address
abbrev pub has_entry : List Entry → ℕ → Bool
has_entry entries a = is_some (entry_at entries a)

-- the index of the first entry of an address
abbrev pub place_of : List Entry → ℕ → Option ℕ
place_of entries a = position (λ e. e.at == a) entries
