-- Entries of names and bytes, in a list and in a map.
use Rattle.std.specs.Prelude.{ℕ, if◌then◌else◌, List, [], ◌∷◌, Option, Some, None, option_map, Vec, String, string_bytes, bytes_eq}
use Rattle.std.specs.Option.{option_or}
use Rattle.std.specs.BTreeMap.{BTreeMap, get_by_text}
use Rattle.std.specs.declared.alloc.Global.{Global}

-- the bytes of an entry, where it has this name
abbrev pub bytes_under : String Global × Vec ℕ Global → List ℕ → Option (List ℕ)
bytes_under entry name = if bytes_eq name (string_bytes entry.0) then Some entry.1.items else None

-- the bytes that entries have under a name: those of the name's last entry
abbrev pub content_of : List (String Global × Vec ℕ Global) → List ℕ → Option (List ℕ)
content_of [] name = None
content_of (entry ∷ entries) name = option_or (content_of entries name) (bytes_under entry name)

-- the bytes that a map has under a name
abbrev pub map_bytes : BTreeMap (String Global) (Vec ℕ Global) → List ℕ → Option (List ℕ)
map_bytes entries name = option_map (λ bytes. bytes.items) (get_by_text entries name)
