-- Lemmas on lists of entries.
use Rattle.std.proofs.Common.{◌≡◌, ℕ, List, [], ◌∷◌, ◌++◌, Option, Some, None, Vec, String, refl}
use Rattle.std.specs.Option.{option_or}
use Rattle.std.specs.declared.alloc.Global.{Global}
use Rattle.shelf_io.specs.Entries.{content_of, bytes_under}

option_or-None : (held : Option (List ℕ)) → held ≡ option_or held None
option_or-None (Some bytes) = refl
option_or-None None = refl

option_or-assoc : (a b c : Option (List ℕ)) → option_or (option_or a b) c ≡ option_or a (option_or b c)
option_or-assoc (Some bytes) b c = refl
option_or-assoc None b c = refl

-- an entry at the end goes before all others of its name
pub content_of-append : (entries : List (String Global × Vec ℕ Global)) (entry : String Global × Vec ℕ Global) (name : List ℕ) → content_of (entries ++ entry ∷ []) name ≡ option_or (bytes_under entry name) (content_of entries name)
content_of-append [] entry name = option_or-None (bytes_under entry name)
content_of-append (first ∷ entries) entry name =
    rw (content_of-append entries entry name) (option_or-assoc (bytes_under entry name) (content_of entries name) (bytes_under first name))
