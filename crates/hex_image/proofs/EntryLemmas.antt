-- Runs that are made of the entries of a map.
use Rattle.std.proofs.Common.{◌≡◌, ℕ, ◌+◌, ◌==◌, ◌<◌, ◌≤◌, Bool, true, false, if◌then◌else◌, List, [], ◌∷◌, Option, Some, None, refl, sym, ◌∙◌, arith}
use Rattle.std.proofs.lemmas.Bool.Decides.{nat_tests}
use Rattle.std.specs.List.{AllByRecursion}
use Rattle.std.specs.Option.{option_or}
use Rattle.std.specs.Ordering.{nat_cmp}
use Rattle.std.specs.declared.cmp.Ordering.TheVariants.{Less}
use Rattle.std.specs.List.Sorted.{IsStrictlySortedBy}
use Rattle.std.specs.Map.{keys_of, lookup}
use Rattle.std.specs.BTreeMap.{BTreeMap, IsOrdered, is_at}
use Rattle.hex_image.specs.Runs.{PlainRun, ByteMap, map_of, with_byte}
use Rattle.hex_image.specs.Reading.{given_by}
use Rattle.hex_image.proofs.RunLemmas.{AreBelow, EndsBy, below_more, none_behind, option_or-None, with_byte_map}
use Rattle.hex_image.proofs.OrderLemmas.{each_weaker}

-- the byte of entries at an address
abbrev pub entry_at : List (ℕ × ℕ) → ByteMap
entry_at [] address = None
entry_at (e ∷ es) address = if address == e.0 then Some e.1 else entry_at es address

-- each entry's address is above those before it
abbrev pub Ascends : ℕ → List (ℕ × ℕ) → Type 0
Ascends least [] = Unit {0}
Ascends least (e ∷ es) = (least ≤ e.0) × Ascends (e.0 + 1) es

-- the runs, and the entries that are left, have the bytes of a map
pub record Goes (runs : List PlainRun) (left : List (ℕ × ℕ)) (all : ByteMap) : Type 0 where
  pub reached : ℕ
  pub fits : reached ≤ 4294967296
  pub below : AreBelow reached runs
  pub ascends : Ascends reached left
  pub bytes : (address : ℕ) → option_or (map_of runs address) (entry_at left address) ≡ all address

ends_from : (least more : ℕ) (runs : List PlainRun) → least ≤ more → AreBelow least runs → AreBelow more runs
ends_from least more runs le below = record { ends = each_weaker (EndsBy least) (EndsBy more) (λ run ends. omega arith) runs below.ends; filled = below.filled; disjoint = below.disjoint }

entry_below : (es : List (ℕ × ℕ)) (least address : ℕ) → Ascends least es → address < least → entry_at es address ≡ None
entry_below [] least address up below = refl
entry_below (e ∷ es) least address up below =
    let here = up.0 in
    let rest = entry_below es (e.0 + 1) address up.1 (omega arith) in
    grind (arith, nat_tests)

moved : (held rest : Option ℕ) (here : Bool) (byte : ℕ) → (here ≡ true → held ≡ None) → option_or (if here then Some byte else held) rest ≡ option_or held (if here then Some byte else rest)
moved held rest true byte none = let is = none refl in rw is refl
moved held rest false byte none = refl

-- the next entry goes behind the runs
pub goes_on : (runs : List PlainRun) (address byte : ℕ) (left now : List (ℕ × ℕ)) (all : ByteMap) → address < 4294967296 → now ≡ (address, byte) ∷ left → Goes runs now all → Goes (with_byte runs address byte) left all
goes_on runs address byte left now all fits is goes =
    let up = rw is at goes.ascends in
    let here = up.0 in
    let below = ends_from goes.reached address runs here goes.below in
    record {
      reached = address + 1;
      fits = omega arith;
      below = below_more runs address byte below;
      ascends = up.1;
      bytes = λ place.
          rw (with_byte_map runs address byte place below.ends)
          (moved (map_of runs place) (entry_at left place) (place == address) byte (λ test. none_behind runs address place below.ends (let same : place ≡ address = grind (arith, nat_tests) in omega arith))
          ∙ (let bytes = goes.bytes place in rw is at bytes));
    }

pub gone : (runs : List PlainRun) (now : List (ℕ × ℕ)) (all : ByteMap) → now ≡ [] → Goes runs now all → (place : ℕ) → map_of runs place ≡ all place
gone runs now all is goes place = sym (option_or-None (map_of runs place)) ∙ (let bytes = goes.bytes place in rw is at bytes)

-- ---- a map's entries

less_than : (a b : ℕ) → nat_cmp a b ≡ Less → a < b
less_than a b less = grind (arith, nat_tests)

keys_above : (a : ℕ) (ks : List ℕ) → AllByRecursion (λ k. nat_cmp a k ≡ Less) ks → AllByRecursion (λ k. a + 1 ≤ k) ks
keys_above a [] all = tt
keys_above a (k ∷ ks) all = (let less = less_than a k all.0 in omega arith, keys_above a ks all.1)

ascends_by_keys : (least : ℕ) (es : List (ℕ × ℕ)) → AllByRecursion (λ k. least ≤ k) (keys_of es) → IsStrictlySortedBy nat_cmp (keys_of es) → Ascends least es
unfolding IsStrictlySortedBy
ascends_by_keys least [] above sorted = tt
ascends_by_keys least (e ∷ es) above sorted = (above.0, ascends_by_keys (e.0 + 1) es (keys_above e.0 (keys_of es) sorted.0) sorted.1)

any_above : (ks : List ℕ) → AllByRecursion (λ k. 0 ≤ k) ks
any_above [] = tt
any_above (k ∷ ks) = (omega arith, any_above ks)

same_key : (a b : ℕ) → is_at (nat_cmp a) b ≡ (a == b)
same_key a b = grind (arith, nat_tests)

found_entry : (es : List (ℕ × ℕ)) (address : ℕ) → entry_at es address ≡ lookup (is_at (nat_cmp address)) es
found_entry [] address = refl
found_entry (e ∷ es) address = rw (same_key address e.0, found_entry es address) refl

-- before the loop there are no runs, and all entries are left
pub goes_first : (map : BTreeMap ℕ ℕ) (left : List (ℕ × ℕ)) → left ≡ map.entries → IsOrdered nat_cmp map → Goes [] left (given_by map)
goes_first map left is ordered = rw is record {
  reached = 0;
  fits = omega arith;
  below = record { ends = tt; filled = tt; disjoint = tt };
  ascends = ascends_by_keys 0 map.entries (any_above (keys_of map.entries)) ordered;
  bytes = λ address. found_entry map.entries address;
}
