-- What a TOML value is read as, by its type.
use Rattle.std.specs.Prelude.{ℕ, ℤ, String, List, [], ◌∷◌, Option, Some, None, option_map, option_and_then}
use Rattle.std.specs.Option.{option_zip}
use Rattle.std.specs.Borrow.{Bor}
use Rattle.std.specs.BTreeMap.{BTreeMap}
use Rattle.std.specs.declared.alloc.Global.{Global}
use Rattle.toml.specs.Data.{Data, Items, no_items, item, Members, as_str, as_integer, as_array}
use Rattle.toml.specs.View.{view, table_view}
use Rattle.toml.specs.declared.value.Value.{Value}

abbrev pub listed : Items → List Data
listed no_items = []
listed (item first rest) = first ∷ listed rest

-- the elements of an array
abbrev pub elements_of : Data → Option (List Data)
elements_of value = option_map listed (as_array value)

abbrev pub first_of : {A : Type 0} → Option A → Option (List A) → Option (List A)
first_of first rest = option_map (λ both. both.0 ∷ both.1) (option_zip first rest)

-- what each element is read as, if each one has the type
abbrev pub all_of : {D A : Type 0} → (D → Option A) → List D → Option (List A)
all_of read [] = Some []
all_of read (first ∷ rest) = first_of (read first) (all_of read rest)

-- an array of which each element has the type
abbrev pub array_of : {A : Type 0} → (Data → Option A) → Data → Option (List A)
array_of read value = option_and_then (all_of read) (elements_of value)

-- an array of two integers
abbrev pub pair_in : List Data → Option (ℤ × ℤ)
pair_in (first ∷ second ∷ []) = option_zip (as_integer first) (as_integer second)
pair_in _ = None

abbrev pub pair_of : Data → Option (ℤ × ℤ)
pair_of value = option_and_then pair_in (elements_of value)

abbrev pub pairs_of : Data → Option (List (ℤ × ℤ))
pairs_of = array_of pair_of

abbrev pub texts_of : Data → Option (List (List ℕ))
texts_of = array_of as_str

abbrev pub text_lists_of : Data → Option (List (List (List ℕ)))
text_lists_of = array_of texts_of

-- ---- values that code lends

abbrev pub data_of : Option (Bor Value) → Option Data
data_of value = option_map (λ v. view v.now) value

abbrev pub members_of : Option (Bor (BTreeMap (String Global) Value)) → Option Members
members_of table = option_map (λ t. table_view t.now) table
