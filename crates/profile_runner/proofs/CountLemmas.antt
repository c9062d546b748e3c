-- Counts that grow where a test passes.
use Rattle.std.proofs.Common.{◌≡◌, ◌∙◌, inl, inr, ℕ, zero, suc, ◌+◌, ◌<◌, ◌≤◌, ◌==◌, Bool, true, false, ◌&&◌, List, [], length, set, slice_index_or, refl, sym, ap, subst, arith, Vec, get_or-set_same, get_or-set_other, if◌then◌else◌}
use Rattle.std.proofs.Math.ListN.{length-set}
use Rattle.std.specs.Global.{Global}
use Rattle.std.proofs.lemmas.Bool.{cases_eq, cases_lt}
use Rattle.std.proofs.lemmas.List.{length-map, get_or-map, map-set}
use Rattle.std.proofs.lemmas.Bool.Decides.{nat_tests}
use Rattle.list_checks.proofs.SumLemmas.{sum_same}
use Rattle.list_checks.specs.Sorted.{count_below, is_number, sum_below}
use Rattle.profile_runner.specs.Counts.{row_of, entry, plain_rows, IsList, IsTable}
use Rattle.profile_runner.specs.Tallies.{Adds, AddsIn, is_entry}

-- ---- one place

one_more : (xs : List ℕ) (k j : ℕ) → k < length xs → slice_index_or (set xs k (slice_index_or xs k 0 + 1)) j 0 ≡ slice_index_or xs j 0 + (if k == j then 1 else 0)
one_more xs k j below =
    elim (cases_eq k j) [
      | inl same ↦
          let test : (k == j) ≡ true = grind (arith, nat_tests, same) in
          rw (test, sym same) (get_or-set_same xs k (slice_index_or xs k 0 + 1) 0 below)
      | inr differs ↦
          let test : (k == j) ≡ false = grind (arith, nat_tests, differs) in
          let other = get_or-set_other xs k j (slice_index_or xs k 0 + 1) 0 (λ same. differs (sym same)) in
          rw test (omega (arith, other))
    ]

pub adds_one : (xs : List ℕ) (k : ℕ) → k < length xs → Adds xs (set xs k (slice_index_or xs k 0 + 1)) (is_number k)
adds_one xs k below =
    record { same_length = length-set xs k (slice_index_or xs k 0 + 1); each = λ j inside. one_more xs k j below }

none : (b : Bool) (n : ℕ) → b ≡ false → n ≡ n + (if b then 1 else 0)
none b n is = rw is (omega arith)

pub adds_none : (xs : List ℕ) (test : ℕ → Bool) → ((k : ℕ) → test k ≡ false) → Adds xs xs test
adds_none xs test fails = record { same_length = refl; each = λ k below. none (test k) (slice_index_or xs k 0) (fails k) }

pub adds_none_in : (rows : List (List ℕ)) (test : ℕ → ℕ → Bool) → ((j k : ℕ) → j < length rows → test j k ≡ false) → AddsIn rows rows test
adds_none_in rows test fails =
    record { same_height = refl; same_widths = λ j. refl; each = λ j k row column. none (test j k) (entry rows j k) (fails j k row) }

-- tests that are the same
same_one : (b c : Bool) (m n : ℕ) → b ≡ c → m ≡ n + (if b then 1 else 0) → m ≡ n + (if c then 1 else 0)
same_one b c m n same is = rw (sym same) is

pub adds_same : (old new : List ℕ) (f g : ℕ → Bool) → ((k : ℕ) → f k ≡ g k) → Adds old new f → Adds old new g
adds_same old new f g same adds =
    record {
      same_length = adds.same_length;
      each = λ k below. same_one (f k) (g k) (slice_index_or new k 0) (slice_index_or old k 0) (same k) (adds.each k below);
    }

pub adds_same_in : (old new : List (List ℕ)) (f g : ℕ → ℕ → Bool) → ((j k : ℕ) → f j k ≡ g j k) → AddsIn old new f → AddsIn old new g
adds_same_in old new f g same adds =
    record {
      same_height = adds.same_height;
      same_widths = adds.same_widths;
      each = λ j k row column. same_one (f j k) (g j k) (entry new j k) (entry old j k) (same j k) (adds.each j k row column);
    }

-- ---- one place of a table

row_there : (rows : List (List ℕ)) (j : ℕ) (row : List ℕ) → j < length rows → row_of (set rows j row) j ≡ row
row_there rows j row below = get_or-set_same rows j row [] below

row_else : (rows : List (List ℕ)) (j i : ℕ) (row : List ℕ) → (i ≡ j → ⊥) → row_of (set rows j row) i ≡ row_of rows i
row_else rows j i row differs = get_or-set_other rows j i row [] differs

width_same : (rows : List (List ℕ)) (j i : ℕ) (row : List ℕ) → j < length rows → length row ≡ length (row_of rows j) → length (row_of (set rows j row) i) ≡ length (row_of rows i)
width_same rows j i row below same =
    elim (cases_eq i j) [
      | inl is ↦ rw (is, row_there rows j row below) same
      | inr differs ↦ rw (row_else rows j i row differs) refl
    ]

entry_more : (rows : List (List ℕ)) (j k a b : ℕ) (row : List ℕ) → j < length rows → Adds (row_of rows j) row (is_number k) → b < length (row_of rows a) → entry (set rows j row) a b ≡ entry rows a b + (if (j == a) && (k == b) then 1 else 0)
entry_more rows j k a b row below adds inside =
    elim (cases_eq a j) [
      | inl is ↦
          let test : (j == a) ≡ true = grind (arith, nat_tests, is) in
          let here : b < length (row_of rows j) = rw is at inside in
          rw (test, is, row_there rows j row below) (adds.each b here)
      | inr differs ↦
          let test : (j == a) ≡ false = grind (arith, nat_tests, differs) in
          rw (test, row_else rows j a row differs) (omega arith)
    ]

pub adds_in : (rows : List (List ℕ)) (j k : ℕ) (row : List ℕ) → j < length rows → Adds (row_of rows j) row (is_number k) → AddsIn rows (set rows j row) (is_entry j k)
adds_in rows j k row below adds =
    record {
      same_height = length-set rows j row;
      same_widths = λ i. width_same rows j i row below adds.same_length;
      each = λ a b up inside. entry_more rows j k a b row below adds inside;
    }

pub adds_in_rows : (rows : List (Vec ℕ Global)) (j k : ℕ) (old new : Vec ℕ Global) → j < length rows → old ≡ slice_index_or rows j old → Adds old.items new.items (is_number k) → AddsIn (plain_rows rows) (plain_rows (set rows j new)) (is_entry j k)
adds_in_rows rows j k old new below is adds =
    let row : row_of (plain_rows rows) j ≡ old.items = get_or-map (λ (r : Vec ℕ Global). r.items) rows j old [] below ∙ ap (λ (r : Vec ℕ Global). r.items) (sym is) in
    let count = length-map rows (λ (r : Vec ℕ Global). r.items) in
    rw (map-set (λ (r : Vec ℕ Global). r.items) rows j new)
    (adds_in (plain_rows rows) j k new.items (omega (arith, count, below)) (subst (λ (xs : List ℕ). Adds xs new.items (is_number k)) (sym row) adds))

-- ---- lists and tables of counts

pub list_more : (old new : List ℕ) (size : ℕ) (f g : ℕ → ℕ) (test : ℕ → Bool) → IsList old size f → Adds old new test → ((k : ℕ) → k < size → g k ≡ f k + (if test k then 1 else 0)) → IsList new size g
list_more old new size f g test is adds more =
    record {
      size_is = adds.same_length ∙ is.size_is;
      each = λ k below.
          let size_is = is.size_is in
          let now = adds.each k (omega (arith, size_is, below)) in
          let before = is.each k below in
          let counted = more k below in
          omega (arith, now, before, counted);
    }

pub table_more : (old new : List (List ℕ)) (height width : ℕ) (f g : ℕ → ℕ → ℕ) (test : ℕ → ℕ → Bool) → IsTable old height width f → AddsIn old new test → ((j k : ℕ) → j < height → k < width → g j k ≡ f j k + (if test j k then 1 else 0)) → IsTable new height width g
table_more old new height width f g test is adds more =
    record {
      height_is = adds.same_height ∙ is.height_is;
      widths = λ j below. adds.same_widths j ∙ is.widths j below;
      counts = λ j k row column.
          let height_is = is.height_is in
          let width_is = is.widths j row in
          let now = adds.each j k (omega (arith, height_is, row)) (omega (arith, width_is, column)) in
          let before = is.counts j k row column in
          let counted = more j k row column in
          omega (arith, now, before, counted);
    }

-- ---- counts of places

pub count_same : (f g : ℕ → Bool) (n : ℕ) → ((j : ℕ) → j < n → g j ≡ f j) → count_below g n ≡ count_below f n
count_same f g zero same = refl
count_same f g (suc n) same =
    let earlier = count_same f g n (λ j below. same j (omega (arith, below))) in
    rw (earlier, same n (omega arith)) refl

one_at_most : (b : Bool) (n count : ℕ) → count ≤ n → count + (if b then 1 else 0) ≤ suc n
one_at_most true n count le = omega arith
one_at_most false n count le = omega arith

pub count_few : (f : ℕ → Bool) (n : ℕ) → count_below f n ≤ n
count_few f zero = omega arith
count_few f (suc n) = one_at_most (f n) n (count_below f n) (count_few f n)

-- ---- sums of counts of which one grows

passes_not : (b : Bool) (r k : ℕ) → (r ≡ k → ⊥) → ◌≡◌ {A = ℕ} (if b && (r == k) then 1 else 0) 0
passes_not true r k differs = let test : (r == k) ≡ false = grind (arith, nat_tests, differs) in rw test refl
passes_not false r k differs = refl

passes_there : (b : Bool) (r k : ℕ) → r ≡ k → ◌≡◌ {A = ℕ} (if b && (r == k) then 1 else 0) (if b then 1 else 0)
passes_there true r k same = let test : (r == k) ≡ true = grind (arith, nat_tests, same) in rw test refl
passes_there false r k same = refl

-- where the count of one place grows, if a test passes, the sum does
pub sum_more : (f g : ℕ → ℕ) (b : Bool) (r n : ℕ) → r < n → ((k : ℕ) → k < n → g k ≡ f k + (if b && (r == k) then 1 else 0)) → sum_below g n ≡ sum_below f n + (if b then 1 else 0)
sum_more f g b r zero below more = absurd (omega arith)
sum_more f g b r (suc n) below more =
    let here = more n (omega arith) in
    elim (cases_lt r n) [
      | inl earlier ↦
          let sum = sum_more f g b r n earlier (λ k inside. more k (omega (arith, inside))) in
          let not_here = passes_not b r n (λ same. absurd (omega (arith, same, earlier))) in
          omega (arith, here, sum, not_here)
      | inr last ↦
          let same : r ≡ n = omega (arith, last, below) in
          let rest = sum_same g f n (λ k inside.
          let now = more k (omega (arith, inside)) in
          let not_now = passes_not b r k (λ is. absurd (omega (arith, is, inside, last))) in
          omega (arith, now, not_now)) in
          let now = passes_there b r n same in
          omega (arith, here, rest, now)
    ]
