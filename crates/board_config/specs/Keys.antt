-- The keys of a board file, in the order in which they are checked, and what each of them holds.
use Rattle.std.specs.Prelude.{ℕ, ◌+◌, Bool, false, not, if◌then◌else◌, List, [], ◌∷◌, filter, codes, Option, Some, None, option_map, option_and_then, Result, Ok, Err}
use Rattle.std.specs.Result.{result_unwrap_or, result_err}
use Rattle.std.specs.List.{list_any}
use Rattle.std.specs.Str.{bytes_eq, is_utf8}
use Rattle.std.specs.Ordering.{nat_cmp, match_ordering}
use Rattle.std.specs.Cmp.Lexicographic.{slice_cmp}
use Rattle.toml.specs.Data.{Data, Members, no_members, member, get_member, as_str, as_integer, as_bool, as_table}
use Rattle.toml.specs.Parse.{parse_document}
use Rattle.list_checks.specs.First.{◌or_else◌}
use Rattle.board_config.specs.declared.board.Range.{Range}
use Rattle.board_config.specs.Faults.{Fault, not_toml, missing, wrong_type, out_of_range, unknown_key}
use Rattle.board_config.specs.Values.{pair_of, pairs_of, texts_of, text_lists_of}
use Rattle.board_config.specs.Limits.{within, range_of, aligned_range, at_most, area_ranges, grain_from, bss_from}

-- a value that has the type, where it is in its range
abbrev pub in_range : {A : Type 0} → ℕ → Option A → Result A Fault
in_range key None = Err (out_of_range key)
in_range key (Some value) = Ok value

-- the type is checked before the range
abbrev pub typed_value : {A B : Type 0} → ℕ → (B → Option A) → Option B → Result A Fault
typed_value key ranged None = Err (wrong_type key)
typed_value key ranged (Some typed) = in_range key (ranged typed)

-- the value of a key, from the data at the key: its default where there is none
abbrev pub key_value : {A B : Type 0} → ℕ → A → (Data → Option B) → (B → Option A) → Option Data → Result A Fault
key_value key default typed ranged None = Ok default
key_value key default typed ranged (Some value) = typed_value key ranged (typed value)

abbrev pub any_value : {A : Type 0} → A → Option A
any_value value = Some value

abbrev pub range : ℕ → ℕ → Range
range base size = record { base = base; size = size }

-- ---- keys 1 to 4: the memory

abbrev pub main_of : Members → Result Range Fault
main_of table = key_value 1 (range 65536 524288) pair_of range_of (get_member (codes "main") table)

abbrev pub grain_of : Members → Result ℕ Fault
grain_of table = key_value 8 16 as_integer grain_from (get_member (codes "grain") table)

-- The scratchpad is measured by the grain that the text gives at key 8, or by 16 where that key is absent
-- or has a fault.
abbrev pub spm_of : Members → Result Range Fault
spm_of table =
    key_value 2 (range 16777216 4096) pair_of (aligned_range (result_unwrap_or (grain_of table) 16) 16777216)
    (get_member (codes "spm") table)

abbrev pub patch_of : Members → Result Range Fault
patch_of table = key_value 3 (range 589824 65536) pair_of (aligned_range 64 1048576) (get_member (codes "patch") table)

abbrev pub areas_of : Members → Result (List Range) Fault
areas_of table = key_value 4 [] pairs_of area_ranges (get_member (codes "areas") table)

-- ---- key 5: the table of prices

abbrev pub price_table_of : Members → Result (Option Members) Fault
price_table_of table = key_value 5 None as_table (λ prices. Some (Some prices)) (get_member (codes "price") table)

-- the prices that the text gives: none where key 5 is absent or has a fault
abbrev pub prices_in : Members → Option Members
prices_in table = result_unwrap_or (price_table_of table) None

-- ---- keys 6 to 9: what of a program moves, and how

abbrev pub fix_of : Members → Result (List (List ℕ)) Fault
fix_of table = key_value 6 [] texts_of any_value (get_member (codes "fix") table)

abbrev pub bss_of : Members → Result Bool Fault
bss_of table = key_value 7 false as_str bss_from (get_member (codes "bss") table)

abbrev pub fence_i_of : Members → Result Bool Fault
fence_i_of table = key_value 9 false as_bool any_value (get_member (codes "fence_i") table)

-- ---- keys 10 to 15: the prices, of which a table of prices has each one

abbrev pub required_price : ℕ → Option Data → Result ℕ Fault
required_price key None = Err (missing key)
required_price key (Some value) = typed_value key (within 0 10000) (as_integer value)

abbrev pub price_at : ℕ → ℕ → List ℕ → Option Members → Result ℕ Fault
price_at key default name None = Ok default
price_at key default name (Some prices) = required_price key (get_member name prices)

-- the first fault of the prices of a fetch, a read and a write, whose keys follow each other from `first` on
unfoldable pub access_fault : ℕ → ℕ → List ℕ → List ℕ → List ℕ → Option Members → Option Fault
access_fault first default fetch read write prices =
    result_err (price_at first default fetch prices)
    or_else result_err (price_at (first + 1) default read prices)
    or_else result_err (price_at (first + 2) default write prices)

-- ---- keys 16 to 20: the regions, bounds on the work, and whether regions are twins

abbrev pub driver_of : Members → Result (List ℕ) Fault
driver_of table = key_value 16 (codes "main") as_str any_value (get_member (codes "driver") table)

abbrev pub regions_of : Members → Result (List (List (List ℕ))) Fault
regions_of table = key_value 17 [] text_lists_of (at_most 8) (get_member (codes "regions") table)

abbrev pub steps_of : Members → Result ℕ Fault
steps_of table = key_value 18 100000000 as_integer (within 1 1000000000) (get_member (codes "steps") table)

abbrev pub nodes_of : Members → Result ℕ Fault
nodes_of table = key_value 19 100000 as_integer (within 1 10000000) (get_member (codes "nodes") table)

-- whether regions 1 and 2, 3 and 4, and so on are twins, which may keep an object that both use in one place
abbrev pub twins_of : Members → Result Bool Fault
twins_of table = key_value 20 false as_bool any_value (get_member (codes "twins") table)

-- ---- keys that are none of these

abbrev pub names_of : Members → List (List ℕ)
names_of no_members = []
names_of (member name value rest) = name ∷ names_of rest

abbrev pub lesser : List ℕ → Option (List ℕ) → List ℕ
lesser name None = name
lesser name (Some other) = match_ordering (slice_cmp nat_cmp name other) name name other

-- the least of the names in the order of their bytes
abbrev pub least : List (List ℕ) → Option (List ℕ)
least [] = None
least (name ∷ rest) = Some (lesser name (least rest))

abbrev pub is_among : List (List ℕ) → List ℕ → Bool
is_among known name = list_any (λ k. bytes_eq k name) known

-- the least name in a table that is not among the known ones
abbrev pub least_unknown : List (List ℕ) → Members → Option (List ℕ)
least_unknown known table = least (filter (λ name. not (is_among known name)) (names_of table))

abbrev pub names_fault : List (List ℕ) → Members → Option Fault
names_fault known table = option_map unknown_key (least_unknown known table)

abbrev pub top_names : List (List ℕ)
top_names =
    codes "main" ∷ codes "spm" ∷ codes "patch" ∷ codes "areas" ∷ codes "price" ∷ codes "fix" ∷ codes "bss"
    ∷ codes "grain" ∷ codes "fence_i" ∷ codes "driver" ∷ codes "regions" ∷ codes "steps" ∷ codes "nodes"
    ∷ codes "twins" ∷ []

abbrev pub price_names : List (List ℕ)
price_names =
    codes "main_fetch" ∷ codes "main_read" ∷ codes "main_write"
    ∷ codes "spm_fetch" ∷ codes "spm_read" ∷ codes "spm_write" ∷ []

-- ---- the order of the checks

unfoldable pub memory_fault : Members → Option Fault
memory_fault table =
    result_err (main_of table) or_else result_err (spm_of table) or_else result_err (patch_of table)
    or_else result_err (areas_of table)

unfoldable pub price_table_fault : Members → Option Fault
price_table_fault table = result_err (price_table_of table)

unfoldable pub moving_fault : Members → Option Fault
moving_fault table =
    result_err (fix_of table) or_else result_err (bss_of table) or_else result_err (grain_of table)
    or_else result_err (fence_i_of table)

unfoldable pub prices_fault : Option Members → Option Fault
prices_fault prices =
    access_fault 10 10 (codes "main_fetch") (codes "main_read") (codes "main_write") prices
    or_else access_fault 13 2 (codes "spm_fetch") (codes "spm_read") (codes "spm_write") prices

unfoldable pub work_fault : Members → Option Fault
work_fault table =
    result_err (driver_of table) or_else result_err (regions_of table) or_else result_err (steps_of table)
    or_else result_err (nodes_of table) or_else result_err (twins_of table)

-- Unknown keys at the top come before those of the table of prices.
unfoldable pub unknown_fault : Members → Option Fault
unknown_fault table =
    names_fault top_names table or_else option_and_then (names_fault price_names) (prices_in table)

-- the first fault of a table
abbrev pub table_fault : Members → Option Fault
table_fault table =
    memory_fault table or_else price_table_fault table or_else moving_fault table
    or_else prices_fault (prices_in table) or_else work_fault table or_else unknown_fault table

-- the table that a text is, in TOML
abbrev pub table_of : List ℕ → Option Members
table_of text = if is_utf8 text then parse_document text else None

abbrev pub first_in : Option Members → Option Fault
first_in None = Some not_toml
first_in (Some table) = table_fault table

-- the first check of a text that fails
abbrev pub first_key : List ℕ → Option Fault
first_key text = first_in (table_of text)
