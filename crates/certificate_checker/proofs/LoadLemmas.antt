-- One more row of a dual node, in the prices.
use Rattle.std.proofs.Common.{◌≡◌, ◌≢◌, inl, inr, ℕ, zero, suc, ◌+◌, ◌*◌, ◌^◌, ◌<◌, ◌≤◌, List, [], ◌∷◌, ◌++◌, length, take, get_or, slice_index, Result, Ok, Err, sym, subst, ap, refl, arith}
use Rattle.std.specs.List.{sum_by}
use Rattle.std.proofs.lemmas.Bool.{cases_eq}
use Rattle.std.proofs.lemmas.Bool.Decides.{nat_tests}
use Rattle.std.proofs.lemmas.List.Sums.{sum_by-cons, sum_by-append}
use Rattle.placement_programme.specs.Plain.{PlainSide}
use Rattle.placement_programme.specs.Bounds.{RowsWithin, row_of, value_of}
use Rattle.placement_programme.specs.Programme.{weight_in, weight_at}
use Rattle.placement_programme.proofs.AscendLemmas.{row_at_least}
use Rattle.placement_programme.proofs.WeightLemmas.{weight_small}
use Rattle.certificate_checker.specs.Rules.{price}
use Rattle.certificate_checker.specs.RowWise.{IsRowOf}
use Rattle.certificate_checker.specs.declared.fault.CertFault.{CertFault}
use Rattle.certificate_checker.specs.declared.fields.Part.TheVariants.{Node}
use Rattle.certificate_checker.specs.Digits.{number_at}
use Rattle.certificate_checker.specs.Reading.{◌>>=◌, number_in, entry_at}
use Rattle.certificate_checker.specs.Loading.{IsLoaded}
use Rattle.certificate_checker.proofs.FieldLaws.{bind_ok, done_is, ranged_take}
use Rattle.certificate_checker.proofs.Limits.{product_small}
use Rattle.certificate_checker.proofs.ManyLemmas.{with_front}

-- the rows of entries in a row with one more
pub rows_push : (low high : ℕ) (ms : List (ℕ × ℕ)) (row m : ℕ) → low ≤ high → RowsWithin low high ms → high ≤ row → RowsWithin low (row + 1) (ms ++ (row, m) ∷ [])
rows_push low high [] row m order rows past = (omega (arith, order, past), omega arith, tt)
rows_push low high (k ∷ ms) row m order rows past =
    let inside = rows.1 in
    (rows.0, omega (arith, inside, past), rows_push (suc (row_of k)) high ms row m inside rows.2 past)

rows_last : (low high : ℕ) (ms : List (ℕ × ℕ)) (row m : ℕ) → RowsWithin low high (ms ++ (row, m) ∷ []) → row < high
rows_last low high [] row m rows = rows.1
rows_last low high (k ∷ ms) row m rows = rows_last (suc (row_of k)) high ms row m rows.2

-- an entry behind others counts where they don't name its row
pub weight_other : (ms : List (ℕ × ℕ)) (row m other : ℕ) → row ≢ other → weight_in (ms ++ (row, m) ∷ []) other ≡ weight_in ms other
weight_other [] row m other differ = grind (arith, nat_tests, differ)
weight_other (k ∷ ms) row m other differ =
    let rest = weight_other ms row m other differ in
    elim (cases_eq (row_of k) other) [
      | inl same ↦ grind (arith, nat_tests, same)
      | inr disjoint ↦ grind (arith, nat_tests, disjoint, rest)
    ]

pub weight_last : (low : ℕ) (ms : List (ℕ × ℕ)) (row m : ℕ) → RowsWithin low row ms → weight_in (ms ++ (row, m) ∷ []) row ≡ m
weight_last low [] row m rows = grind (arith, nat_tests)
weight_last low (k ∷ ms) row m rows =
    let rest = weight_last (suc (row_of k)) ms row m rows.2 in
    let disjoint : row_of k ≢ row = omega (arith, rows.1) in
    grind (arith, nat_tests, disjoint, rest)

-- the entries before one name rows before its own
pub rows_before : (low high : ℕ) (ms : List (ℕ × ℕ)) (i : ℕ) (d : ℕ × ℕ) → RowsWithin low high ms → i < length ms → RowsWithin low (row_of (get_or ms i d)) (take i ms)
rows_before low high [] i d rows inside = absurd (omega arith)
rows_before low high (m ∷ ms) zero d rows inside = tt
rows_before low high (m ∷ ms) (suc i) d rows inside =
    let within : i < length ms = omega (arith, inside) in
    let later = row_at_least (suc (row_of m)) high ms i d rows.2 within in
    (rows.0, omega (arith, later), rows_before (suc (row_of m)) high ms i d rows.2 within)

pub loaded_none : (s : PlainSide) (prices : ℕ → ℕ) → ((j : ℕ) → prices j ≡ 0) → IsLoaded s prices 0 0 []
loaded_none s prices zeroes = record {
  ascending = tt;
  tight = λ high all. omega arith;
  values = λ within j inside. zeroes j;
  bound = λ within. refl;
  small = omega arith;
  most = omega arith;
  low = λ j. let none = zeroes j in omega (arith, none);
  lowest = λ j. let none = zeroes j in omega (arith, none);
}

-- a row that there isn't
pub loaded_past : (s : PlainSide) (prices : ℕ → ℕ) (row_end bound row m next : ℕ) (ms : List (ℕ × ℕ)) → IsLoaded s prices row_end bound ms → row_end ≤ row → length s.rows ≤ row → next ≡ row + 1 → IsLoaded s prices next bound (ms ++ (row, m) ∷ [])
loaded_past s prices row_end bound row m next ms loaded past out is =
    let small = loaded.small in
    let most = loaded.most in
    record {
      ascending = subst (λ n. RowsWithin 0 n (ms ++ (row, m) ∷ [])) (sym is) (rows_push 0 row_end ms row m (omega arith) loaded.ascending past);
      tight = λ high all. let last = rows_last 0 high ms row m all in omega (arith, last, is);
      values = λ within. absurd (omega (arith, within, out, is));
      bound = λ within. absurd (omega (arith, within, out, is));
      small = omega (arith, small, past, is);
      most = most;
      low = λ j. let here = loaded.low j in omega (arith, here, past, is);
      lowest = loaded.lowest;
    }

price_more : (s : PlainSide) (ms : List (ℕ × ℕ)) (row m j : ℕ) → price s (ms ++ (row, m) ∷ []) j ≡ price s ms j + m * weight_at s.vars row j
price_more s ms row m j =
    let added = sum_by-append (λ (k : ℕ × ℕ). value_of k * weight_at s.vars (row_of k) j) ms ((row, m) ∷ []) in
    let one = sum_by-cons (λ (k : ℕ × ℕ). value_of k * weight_at s.vars (row_of k) j) (row, m) [] in
    omega (arith, added, one)

-- a row that there is, whose weights are added to the prices
pub loaded_here : (s : PlainSide) (prices new : ℕ → ℕ) (entries : List (ℕ × ℕ)) (row_end bound row m next more : ℕ) (ms : List (ℕ × ℕ)) → IsLoaded s prices row_end bound ms → IsRowOf s.vars (length s.vars) row entries → ((j : ℕ) → new j ≡ prices j + m * weight_in entries j) → m < 2 ^ 64 → row_end ≤ row → row < length s.rows → next ≡ row + 1 → more ≡ bound + m * slice_index s.rows row → m * slice_index s.rows row < 2 ^ 96 → IsLoaded s new next more (ms ++ (row, m) ∷ [])
loaded_here s prices new entries row_end bound row m next more ms loaded here added few past inside is is_more fits =
    let small = loaded.small in
    let each : (j : ℕ) → m * weight_in entries j ≤ 2 ^ 96 =
    λ j.
    let weight = weight_small (2 ^ 32) entries j (omega arith) here.weights.small in
    let most : m * weight_in entries j ≤ 2 ^ 64 * 2 ^ 32 = product_small m (weight_in entries j) (2 ^ 64) (2 ^ 32) (omega (arith, few)) (omega (arith, weight)) in
    omega (arith, most) in
    let values : row_end ≤ length s.rows → (j : ℕ) → j < length s.vars → new j ≡ price s (ms ++ (row, m) ∷ []) j =
    λ within j below.
    let so_far = loaded.values within j below in
    let grown = added j in
    let last = price_more s ms row m j in
    let weight : m * weight_in entries j ≡ m * weight_at s.vars row j = ap (λ n. m * n) (here.values j below) in
    omega (arith, so_far, grown, last, weight) in
    let summed : row_end ≤ length s.rows → more ≡ sum_by (λ k. value_of k * slice_index s.rows (row_of k)) (ms ++ (row, m) ∷ []) =
    λ within.
    let so_far = loaded.bound within in
    let appended = sum_by-append (λ (k : ℕ × ℕ). value_of k * slice_index s.rows (row_of k)) ms ((row, m) ∷ []) in
    let one = sum_by-cons (λ (k : ℕ × ℕ). value_of k * slice_index s.rows (row_of k)) (row, m) [] in
    omega (arith, so_far, appended, one, is_more) in
    record {
      ascending = subst (λ n. RowsWithin 0 n (ms ++ (row, m) ∷ [])) (sym is) (rows_push 0 row_end ms row m (omega arith) loaded.ascending past);
      tight = λ high all. let last = rows_last 0 high ms row m all in omega (arith, last, is);
      values = λ within. values (omega (arith, past, inside));
      bound = λ within. summed (omega (arith, past, inside));
      small = omega (arith, small, past, is, is_more, fits);
      most = omega (arith, small, past, inside, is_more, fits);
      low = λ j. let before = loaded.low j in let grown = added j in let most = each j in omega (arith, before, grown, most, past, is);
      lowest = λ j. let before = loaded.low j in let grown = added j in let most = each j in omega (arith, before, grown, most, past, inside);
    }

pub front_none : {A : Type 0} (read : Result (List A × List ℕ) CertFault) → with_front [] read ≡ read
front_none (Ok x) = refl
front_none (Err e) = refl

-- an entry's row is at least the least
pub entry_from : (total least : ℕ) (bytes : List ℕ) (x : (ℕ × ℕ) × List ℕ) → entry_at least total bytes ≡ Ok x → least ≤ row_of x.0
unfolding entry_at number_in
entry_from total least bytes x e =
    let a = bind_ok (number_in Node least 4294967295 total bytes) (λ row. number_in Node 0 18446744073709551615 total row.1 >>= λ multiplier. Ok ((row.0, multiplier.0), multiplier.1)) x e in
    let b = bind_ok (number_in Node 0 18446744073709551615 total a.0.1) (λ multiplier. Ok ((a.0.0, multiplier.0), multiplier.1)) x a.2 in
    let read = ranged_take Node least 4294967295 total bytes (number_at bytes) a.0.0 a.0.1 a.1 in
    subst (λ (y : (ℕ × ℕ) × List ℕ). least ≤ row_of y.0) (done_is ((a.0.0, b.0.0), b.0.1) x b.2) read.1
