-- The board of a table is lawful.
use Rattle.std.proofs.Common.{◌≡◌, inl, inr, ℕ, suc, ◌+◌, ◌%◌, ◌≤◌, ℤ, pos, negsuc, ◌&&◌, ◌==◌, nat_le, List, [], ◌∷◌, length, codes, Option, Some, None, option_and_then, Result, Ok, refl, sym, ap, ◌∙◌, subst, arith}
use Rattle.std.specs.List.{All}
use Rattle.std.specs.Result.{result_unwrap_or}
use Rattle.std.proofs.lemmas.Bool.{leb-true, eqb-true, and_parts}
use Rattle.std.proofs.lemmas.Bool.Decides.{nat_tests}
use Rattle.std.proofs.lemmas.List.{length-map}
use Rattle.std.proofs.lemmas.List.Elements.{All-nil, All-cons}
use Rattle.std.proofs.lemmas.Option.{cond_some}
use Rattle.toml.specs.Data.{Data, Members, get_member, as_integer}
use Rattle.board_config.specs.declared.board.Range.{Range}
use Rattle.board_config.specs.declared.board.Prices.{Prices}
use Rattle.board_config.specs.declared.board.Board.{Board}
use Rattle.board_config.specs.Faults.{Fault}
use Rattle.board_config.specs.Values.{all_of, pair_of, pairs_of, text_lists_of}
use Rattle.board_config.specs.Limits.{within, range_from, range_of, is_aligned, aligned, aligned_range, at_most, area_ranges, grain_from}
use Rattle.board_config.specs.Keys.{in_range, typed_value, key_value, range, price_at, required_price, grain_of, prices_in}
use Rattle.board_config.specs.Board.{plain_regions, ArePrices, HasKeys, IsLawfulRange, IsAligned, AreLawfulPrices, IsGrain, IsLawful}
use Rattle.board_config.proofs.Elements.{parts_of}

-- ---- what holds of each value that is in its range holds of the value of a key

range_overlaps : {A : Type 0} (key : ℕ) (P : A → Type 0) (ranged : Option A) (v : A)
    → ((a : A) → ranged ≡ Some a → P a) → in_range key ranged ≡ Ok v → P v
range_overlaps key P None v step e = absurd (cc)
range_overlaps key P (Some a) v step e = let same : a ≡ v = cc in subst P same (step a refl)

typed_meets : {A B : Type 0} (key : ℕ) (ranged : B → Option A) (P : A → Type 0) (typed : Option B) (v : A)
    → ((b : B) (a : A) → ranged b ≡ Some a → P a) → typed_value key ranged typed ≡ Ok v → P v
typed_meets key ranged P None v step e = absurd (cc)
typed_meets key ranged P (Some b) v step e = range_overlaps key P (ranged b) v (step b) e

key_meets : {A B : Type 0} (key : ℕ) (default : A) (typed : Data → Option B) (ranged : B → Option A) (P : A → Type 0) (at_key : Option Data) (v : A)
    → P default → ((b : B) (a : A) → ranged b ≡ Some a → P a) → key_value key default typed ranged at_key ≡ Ok v → P v
key_meets key default typed ranged P None v base step e = let same : default ≡ v = cc in subst P same base
key_meets key default typed ranged P (Some d) v base step e = typed_meets key ranged P (typed d) v step e

-- ---- numbers

record IsWithin (least most n : ℕ) : Type 0 where
  least_is : least ≤ n
  most_is : n ≤ most

within_meets : (least most : ℕ) (z : ℤ) (n : ℕ) → within least most z ≡ Some n → IsWithin least most n
within_meets least most (negsuc m) n e = absurd (cc)
within_meets least most (pos m) n e =
    let found = cond_some (nat_le least m && nat_le m most) m n e in
    let tests = and_parts (nat_le least m) (nat_le m most) found.0 in
    subst (IsWithin least most) found.1 (record { least_is = leb-true _ _ tests.0; most_is = leb-true _ _ tests.1 })

grain_meets : (z : ℤ) (n : ℕ) → grain_from z ≡ Some n → IsGrain n
grain_meets (negsuc m) n e = absurd (cc)
grain_meets (pos m) n e = grind (arith, nat_tests)

-- ---- ranges

range_lawful : (base size : ℤ) (r : Range) → range_from base size ≡ Some r → IsLawfulRange r
range_lawful (negsuc b) size r e = absurd (cc)
range_lawful (pos b) (negsuc s) r e = absurd (cc)
range_lawful (pos b) (pos s) r e =
    let found = cond_some (nat_le 1 s && nat_le (b + s) 4294967295) (range b s) r e in
    let tests = and_parts (nat_le 1 s) (nat_le (b + s) 4294967295) found.0 in
    subst IsLawfulRange found.1 (record { some = leb-true _ _ tests.0; within = leb-true _ _ tests.1 })

-- a range that is measured too
record IsMeasured (unit most : ℕ) (r : Range) : Type 0 where
  lawful : IsLawfulRange r
  aligned : IsAligned unit most r

measured_from : (unit most : ℕ) (found : Option Range) (r : Range) → ((x : Range) → found ≡ Some x → IsLawfulRange x)
    → option_and_then (aligned unit most) found ≡ Some r → IsMeasured unit most r
measured_from unit most None r lawful e = absurd (cc)
measured_from unit most (Some x) r lawful e =
    let chosen = cond_some (is_aligned unit x && nat_le x.size most) x r e in
    let tests = and_parts (is_aligned unit x) (nat_le x.size most) chosen.0 in
    let ends = and_parts (x.base % unit == 0) (x.size % unit == 0) tests.0 in
    subst (IsMeasured unit most) chosen.1
    (record {
      lawful = lawful x refl;
      aligned = record { base = eqb-true _ _ ends.0; size = eqb-true _ _ ends.1; most_size = leb-true _ _ tests.1 };
    })

measured : (unit most : ℕ) (pair : ℤ × ℤ) (r : Range) → aligned_range unit most pair ≡ Some r → IsMeasured unit most r
measured unit most pair r e = measured_from unit most (range_of pair) r (range_lawful pair.0 pair.1) e

default_spm : (unit : ℕ) → IsGrain unit → IsMeasured unit 16777216 (range 16777216 4096)
default_spm unit (inl e) = subst (λ (u : ℕ). IsMeasured u 16777216 (range 16777216 4096)) (sym e)
    (record { lawful = record { some = omega arith; within = omega arith }; aligned = record { base = refl; size = refl; most_size = omega arith } })
default_spm unit (inr (inl e)) = subst (λ (u : ℕ). IsMeasured u 16777216 (range 16777216 4096)) (sym e)
    (record { lawful = record { some = omega arith; within = omega arith }; aligned = record { base = refl; size = refl; most_size = omega arith } })
default_spm unit (inr (inr e)) = subst (λ (u : ℕ). IsMeasured u 16777216 (range 16777216 4096)) (sym e)
    (record { lawful = record { some = omega arith; within = omega arith }; aligned = record { base = refl; size = refl; most_size = omega arith } })

-- ---- lists

all_lawful : (pairs : List (ℤ × ℤ)) (rs : List Range) → all_of range_of pairs ≡ Some rs → All IsLawfulRange rs
all_lawful [] rs e = let none : rs ≡ [] = cc in subst (All IsLawfulRange) (sym none) (All-nil IsLawfulRange)
all_lawful (p ∷ pairs) rs e =
    let parts = parts_of (range_of p) (all_of range_of pairs) rs e in
    subst (All IsLawfulRange) (sym parts.list_is)
    (All-cons IsLawfulRange parts.y parts.zs (range_lawful p.0 p.1 parts.y parts.first_is) (all_lawful pairs parts.zs parts.rest_is))

same_length : (pairs : List (ℤ × ℤ)) (rs : List Range) → all_of range_of pairs ≡ Some rs → length rs ≡ length pairs
same_length [] rs e = let none : rs ≡ [] = cc in rw none refl
same_length (p ∷ pairs) rs e =
    let parts = parts_of (range_of p) (all_of range_of pairs) rs e in
    ap length parts.list_is ∙ ap suc (same_length pairs parts.zs parts.rest_is)

at_most_meets : {A : Type 0} (most : ℕ) (xs ys : List A) → at_most most xs ≡ Some ys → (xs ≡ ys) × (length ys ≤ most)
at_most_meets most xs ys e =
    let found = cond_some (nat_le (length xs) most) xs ys e in
    (found.1, subst (λ (zs : List _). length zs ≤ most) found.1 (leb-true _ _ found.0))

record AreAreas (rs : List Range) : Type 0 where
  lawful : All IsLawfulRange rs
  few : length rs ≤ 16

areas_from : (found : Option (List (ℤ × ℤ))) (rs : List Range) → ((ps : List (ℤ × ℤ)) → found ≡ Some ps → length ps ≤ 16)
    → option_and_then (all_of range_of) found ≡ Some rs → AreAreas rs
areas_from None rs few e = absurd (cc)
areas_from (Some ps) rs few e =
    record { lawful = all_lawful ps rs e; few = let same = same_length ps rs e in let bound = few ps refl in omega arith }

areas_meet : (pairs : List (ℤ × ℤ)) (rs : List Range) → area_ranges pairs ≡ Some rs → AreAreas rs
areas_meet pairs rs e = areas_from (at_most 16 pairs) rs (λ ps found. (at_most_meets 16 pairs ps found).1) e

-- ---- prices

required_meets : (key : ℕ) (found : Option Data) (v : ℕ) → required_price key found ≡ Ok v → v ≤ 10000
required_meets key None v e = absurd (cc)
required_meets key (Some d) v e =
    typed_meets key (within 0 10000) (λ n. n ≤ 10000) (as_integer d) v (λ z n found. (within_meets 0 10000 z n found).most_is) e

price_meets : (key default : ℕ) (name : List ℕ) (given : Option Members) (v : ℕ) → default ≤ 10000 → price_at key default name given ≡ Ok v → v ≤ 10000
price_meets key default name None v base e = let same : default ≡ v = cc in subst (λ (n : ℕ). n ≤ 10000) same base
price_meets key default name (Some prices) v base e = required_meets key (get_member name prices) v e

prices_lawful : (given : Option Members) (prices : Prices) → ArePrices given prices → AreLawfulPrices prices
prices_lawful given prices has =
    record {
      main_fetch = price_meets 10 10 (codes "main_fetch") given prices.main_fetch (omega arith) has.main_fetch;
      main_read = price_meets 11 10 (codes "main_read") given prices.main_read (omega arith) has.main_read;
      main_write = price_meets 12 10 (codes "main_write") given prices.main_write (omega arith) has.main_write;
      spm_fetch = price_meets 13 2 (codes "spm_fetch") given prices.spm_fetch (omega arith) has.spm_fetch;
      spm_read = price_meets 14 2 (codes "spm_read") given prices.spm_read (omega arith) has.spm_read;
      spm_write = price_meets 15 2 (codes "spm_write") given prices.spm_write (omega arith) has.spm_write;
    }

-- ---- the board

main_meets : (table : Members) (board : Board) → HasKeys table board → IsLawfulRange board.main
main_meets table board has =
    key_meets 1 (range 65536 524288) pair_of range_of IsLawfulRange (get_member (codes "main") table) board.main (record { some = omega arith; within = omega arith }) (λ p r found. range_lawful p.0 p.1 r found) has.main

board_grain : (table : Members) (board : Board) → HasKeys table board → IsGrain board.grain
board_grain table board has = key_meets 8 16 as_integer grain_from IsGrain (get_member (codes "grain") table) board.grain (inl refl) grain_meets has.grain

spm_overlaps : (table : Members) (board : Board) → HasKeys table board → IsMeasured board.grain 16777216 board.spm
spm_overlaps table board has =
    let unit : result_unwrap_or (grain_of table) 16 ≡ board.grain = ap (λ (g : Result ℕ Fault). result_unwrap_or g 16) has.grain in
    let is_grain : IsGrain (result_unwrap_or (grain_of table) 16) = subst IsGrain (sym unit) (board_grain table board has) in
    let found =
    key_meets 2 (range 16777216 4096) pair_of (aligned_range (result_unwrap_or (grain_of table) 16) 16777216) (IsMeasured (result_unwrap_or (grain_of table) 16) 16777216)
    (get_member (codes "spm") table) board.spm (default_spm (result_unwrap_or (grain_of table) 16) is_grain) (measured (result_unwrap_or (grain_of table) 16) 16777216) has.spm in
    subst (λ (u : ℕ). IsMeasured u 16777216 board.spm) unit found

patch_overlaps : (table : Members) (board : Board) → HasKeys table board → IsMeasured 64 1048576 board.patch
patch_overlaps table board has =
    key_meets 3 (range 589824 65536) pair_of (aligned_range 64 1048576) (IsMeasured 64 1048576) (get_member (codes "patch") table) board.patch
    (record { lawful = record { some = omega arith; within = omega arith }; aligned = record { base = refl; size = refl; most_size = omega arith } })
    (measured 64 1048576) has.patch

areas_are : (table : Members) (board : Board) → HasKeys table board → AreAreas board.areas.items
areas_are table board has =
    key_meets 4 [] pairs_of area_ranges AreAreas (get_member (codes "areas") table) board.areas.items (record { lawful = All-nil IsLawfulRange; few = omega arith }) areas_meet has.areas

few_regions : (table : Members) (board : Board) → HasKeys table board → length (plain_regions board.regions) ≤ 8
few_regions table board has =
    key_meets 17 [] text_lists_of (at_most 8) (λ regions. length regions ≤ 8) (get_member (codes "regions") table) (plain_regions board.regions) (omega arith) (λ xs ys found. (at_most_meets 8 xs ys found).1) has.regions

steps_meet : (table : Members) (board : Board) → HasKeys table board → IsWithin 1 1000000000 board.steps
steps_meet table board has =
    key_meets 18 100000000 as_integer (within 1 1000000000) (IsWithin 1 1000000000) (get_member (codes "steps") table) board.steps (record { least_is = omega arith; most_is = omega arith }) (within_meets 1 1000000000) has.steps

nodes_meet : (table : Members) (board : Board) → HasKeys table board → IsWithin 1 10000000 board.nodes
nodes_meet table board has =
    key_meets 19 100000 as_integer (within 1 10000000) (IsWithin 1 10000000) (get_member (codes "nodes") table) board.nodes (record { least_is = omega arith; most_is = omega arith }) (within_meets 1 10000000) has.nodes

pub board_is_lawful : (table : Members) (board : Board) → HasKeys table board → IsLawful board
board_is_lawful table board has =
    let spm = spm_overlaps table board has in
    let patch = patch_overlaps table board has in
    let areas = areas_are table board has in
    let steps = steps_meet table board has in
    let nodes = nodes_meet table board has in
    let regions = few_regions table board has in
    record {
      ranges =
          All-cons IsLawfulRange board.main (board.spm ∷ board.patch ∷ board.areas.items) (main_meets table board has)
          (All-cons IsLawfulRange board.spm (board.patch ∷ board.areas.items) spm.lawful
          (All-cons IsLawfulRange board.patch board.areas.items patch.lawful areas.lawful));
      spm = spm.aligned;
      patch = patch.aligned;
      few_areas = areas.few;
      prices = prices_lawful (prices_in table) board.prices has.prices;
      grain = board_grain table board has;
      few_regions = rw length-map at regions;
      least_steps = steps.least_is;
      most_steps = steps.most_is;
      least_nodes = nodes.least_is;
      most_nodes = nodes.most_is;
    }
