-- The regions of blocks from those of functions.
use Rattle.std.proofs.Common.{◌≡◌, ◌∙◌, ◌⊎◌, inl, inr, ℕ, zero, suc, ◌<◌, ◌≤◌, nat_le, min, Bool, true, false, if◌then◌else◌, List, [], ◌∷◌, map, length, slice_index_or, Option, Some, None, String, Vec, Global, vec_len, ◌==◌, refl, sym, ap, subst, arith}
use Rattle.std.proofs.lemmas.Bool.{eqb-true}
use Rattle.std.proofs.lemmas.Bool.Decides.{nat_tests}
use Rattle.std.proofs.lemmas.List.{length-map}
use Rattle.list_checks.specs.Tests.{any_below}
use Rattle.elf_reader.specs.File.{PlainView}
use Rattle.board_config.specs.Board.{plain_texts, plain_regions}
use Rattle.board_config.specs.declared.board.Board.{Board}
use Rattle.code_blocks.specs.Blocks.{count_below}
use Rattle.code_blocks.specs.declared.parts.Code.{Code}
use Rattle.code_blocks.specs.declared.parts.Function.{Function}
use Rattle.region_former.specs.Flow.{IsPlace}
use Rattle.region_former.specs.Listing.{list_at, stands_for, listed_region}
use Rattle.region_former.specs.Reaching.{is_root, enters, root_count, IsReached, by_one, by_none_or_several}
use Rattle.region_former.specs.Regions.{driver_of, count_by, IsRegionBy, region_fault}
use Rattle.region_former.specs.Made.{region_for, AreOfFunctions}
use Rattle.region_former.specs.declared.reaching.FunctionRegions.{FunctionRegions}
use Rattle.region_former.proofs.MarkLemmas.{root_below}

pub left_within : (t : Bool) (x y n : ℕ) → x ≡ (if t then 0 else y) → y ≤ n → x ≤ n
left_within true x y n is le = omega (arith, is)
left_within false x y n is le = omega (arith, is, le)

pub owner_within : (regions : List ℕ) (count n : ℕ) (o : Option ℕ) → IsPlace n o → ((f : ℕ) → f < n → slice_index_or regions f 0 ≤ count) → region_for regions o ≤ count
owner_within regions count n None is within = omega arith
owner_within regions count n (Some f) is within = within f is

-- ---- the regions of functions

more : (t : Bool) (n m : ℕ) → m ≤ n → m ≤ (if t then suc n else n)
more true n m le = omega (arith, le)
more false n m le = le

if_le : (t : Bool) (x n : ℕ) → x ≤ n → (if t then suc n else x) ≤ suc n
if_le true x n le = omega arith
if_le false x n le = omega (arith, le)

count_less : (root : ℕ → Bool) (n k : ℕ) → root k ≡ true → k < n → suc (count_below root k) ≤ count_below root n
count_less root zero k is below = absurd (omega (arith, below))
count_less root (suc n) k is below =
    let place : (k ≡ n) ⊎ (k < n) = grind arith in
    elim place [
      | inl here ↦ let last = subst (λ (j : ℕ). root j ≡ true) here is in rw (here, last) (omega arith)
      | inr earlier ↦
          let before = count_less root n k is earlier in
          more (root n) (count_below root n) (suc (count_below root k)) before
    ]

le_if : (t : Bool) (x n : ℕ) → t ≡ nat_le x 8 → x ≤ n → (if t then x else 0) ≤ min n 8
le_if true x n is le = let few : x ≤ 8 = grind (arith, nat_tests, is) in omega (arith, few, le)
le_if false x n is le = omega arith

reached_within : (root : ℕ → Bool) (step : ℕ → ℕ → Bool) (f r n : ℕ) → ((k : ℕ) → root k ≡ true → k < n) → IsReached root step f r → r ≤ min (count_below root n) 8
reached_within root step f r n inside (by_one k mark) =
    le_if (nat_le (suc (count_below root k)) 8) (suc (count_below root k)) (count_below root n) refl (count_less root n k mark.leads.starts (inside k mark.leads.starts))
reached_within root step f r n inside (by_none_or_several none) = omega arith

-- where the board lists none
pub of_reached : (v : PlainView) (c : Code) (board : Board) (driver : Option ℕ) (made : FunctionRegions) → plain_regions board.regions ≡ [] → driver ≡ driver_of v c board
    → made.count ≡ min (root_count c driver) 8 → length made.of_function.items ≡ length c.functions.items
    → ((f : ℕ) → f < length c.functions.items → IsReached (is_root c driver) (enters c driver) f (slice_index_or made.of_function.items f 0)) → AreOfFunctions v c board made
of_reached v c board driver made none is count one_each are =
    record {
      count_is = rw (none, sym is) count;
      few = omega (arith, count);
      one_each = one_each;
      within = λ f below.
          let le = reached_within (is_root c driver) (enters c driver) f (slice_index_or made.of_function.items f 0) (length c.functions.items) (root_below c driver) (are f below) in
          omega (arith, le, count);
      regions = λ f below. rw (none, sym is) (are f below);
    }

pub none_listed : (v : PlainView) (c : Code) (board : Board) → plain_regions board.regions ≡ [] → region_fault v c board ≡ None
none_listed v c board none = rw none refl

listed_le : (v : PlainView) (fs : List Function) (lists : List (List (List ℕ))) (f n : ℕ) → listed_region v fs lists f n ≤ n
listed_le v fs lists f zero = omega arith
listed_le v fs lists f (suc n) =
    if_le (any_below (stands_for v fs lists n f) (length (list_at lists n))) (listed_region v fs lists f n) n (listed_le v fs lists f n)

counted : (v : PlainView) (c : Code) (board : Board) (lists : List (List (List ℕ))) → 0 < length lists → count_by v c board lists ≡ length lists
counted v c board [] some = absurd (omega (arith, some))
counted v c board (list ∷ lists) some = refl

is_listed : (v : PlainView) (c : Code) (board : Board) (lists : List (List (List ℕ))) (f r : ℕ) → 0 < length lists → r ≡ listed_region v c.functions.items lists f (length lists) → IsRegionBy v c board lists f r
is_listed v c board [] f r some is = absurd (omega (arith, some))
is_listed v c board (list ∷ lists) f r some is = is

-- where the board lists regions
pub of_listed : (v : PlainView) (c : Code) (board : Board) (made : FunctionRegions) → 0 < length (plain_regions board.regions) → length (plain_regions board.regions) ≤ 8
    → made.count ≡ length (plain_regions board.regions) → length made.of_function.items ≡ length c.functions.items
    → ((f : ℕ) → f < length c.functions.items → slice_index_or made.of_function.items f 0 ≡ listed_region v c.functions.items (plain_regions board.regions) f (length (plain_regions board.regions))) → AreOfFunctions v c board made
of_listed v c board made some few count one_each are =
    record {
      count_is = count ∙ sym (counted v c board (plain_regions board.regions) some);
      few = omega (arith, count, few);
      one_each = one_each;
      within = λ f below.
          let le = listed_le v c.functions.items (plain_regions board.regions) f (length (plain_regions board.regions)) in
          let is = are f below in
          omega (arith, le, is, count);
      regions = λ f below. is_listed v c board (plain_regions board.regions) f (slice_index_or made.of_function.items f 0) some (are f below);
    }

-- ---- a board that lists no regions, and one that does

no_items : {A : Type 0} (xs : List A) → length xs ≡ 0 → xs ≡ []
no_items [] none = refl
no_items (x ∷ xs) none = absurd (omega (arith, none))

pub emptied : (regions : Vec (Vec (String Global) Global) Global) (b : Bool) → b ≡ (vec_len regions == 0) → b ≡ true → plain_regions regions ≡ []
emptied regions b is empty =
    let len : vec_len regions ≡ 0 = eqb-true (vec_len regions) 0 (sym is ∙ empty) in
    ap (λ (xs : List (Vec (String Global) Global)). map plain_texts xs) (no_items regions.items (sym regions.ok.0 ∙ len))

pub filled : (regions : Vec (Vec (String Global) Global) Global) (b : Bool) → b ≡ (vec_len regions == 0) → b ≡ false → 0 < length (plain_regions regions)
filled regions b is some =
    let disjoint : (vec_len regions == 0) ≡ false = sym is ∙ some in
    let len : 0 < vec_len regions = grind (arith, nat_tests, disjoint) in
    let count = length-map regions.items plain_texts in
    omega (arith, len, count, regions.ok.0)
