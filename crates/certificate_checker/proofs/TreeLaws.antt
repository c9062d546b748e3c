-- A tree that is read is the tree that was spelled, and what was spelled is read again.
use Rattle.std.proofs.Common.{◌≡◌, ◌∙◌, ℕ, zero, suc, ◌^◌, ◌<◌, ◌≤◌, List, [], ◌∷◌, ◌++◌, length, get_or, Ok, refl, sym, ap, subst, append_assoc, arith}
use Rattle.std.specs.List.{flat_map}
use Rattle.placement_programme.specs.Bounds.{AscendWithin, RowsWithin, row_of, value_of}
use Rattle.certificate_checker.specs.declared.fields.Part.TheVariants.{Head, Node}
use Rattle.certificate_checker.specs.declared.fault.CertFault.TheVariants.{BadNode}
use Rattle.certificate_checker.specs.Nodes.{PlainTree, branch, over, dual, leaf}
use Rattle.certificate_checker.specs.Digits.{number_of}
use Rattle.certificate_checker.specs.Reading.{◌>>=◌, place, cut_off, below_all, number_in, entry_at, entries_at, var_key, over_at, dual_at, tree_at}
use Rattle.certificate_checker.specs.Spelling.{entry_text, tree_text, IsDualInRange, IsTreeInRange}
use Rattle.certificate_checker.proofs.NumberLaws.{IsBytes, Takes, takes_then, takes_byte, takes_none, bytes_behind}
use Rattle.certificate_checker.proofs.FieldLaws.{bind_ok, done_is, not_done, in_takes, in_again, IsEntry, entry_takes, entry_again, AllFrom, many_take, many_again}

rows_from : (low : ℕ) (ms : List (ℕ × ℕ)) → AllFrom IsEntry row_of low ms → RowsWithin low (2 ^ 32) ms
rows_from low [] all = tt
rows_from low (m ∷ ms) all = (all.0.0, all.0.1, rows_from (suc (row_of m)) ms all.1)

small_from : (low : ℕ) (ms : List (ℕ × ℕ)) → AllFrom IsEntry row_of low ms → (k : ℕ) (d : ℕ × ℕ) → k < length ms → value_of (get_or ms k d) < 2 ^ 64
small_from low [] all k d inside = absurd (omega arith)
small_from low (m ∷ ms) all zero d inside = all.0.2
small_from low (m ∷ ms) all (suc k) d inside = small_from (suc (row_of m)) ms all.1 k d (omega arith)

from_rows : (low : ℕ) (ms : List (ℕ × ℕ)) → RowsWithin low (2 ^ 32) ms → ((k : ℕ) (d : ℕ × ℕ) → k < length ms → value_of (get_or ms k d) < 2 ^ 64) → AllFrom IsEntry row_of low ms
from_rows low [] rows small = tt
from_rows low (m ∷ ms) rows small =
    ((rows.0, rows.1, small 0 m (omega arith)), from_rows (suc (row_of m)) ms rows.2 (λ k d inside. small (suc k) d (omega arith)))

abbrev pub IsVar : ℕ → ℕ → Type 0
IsVar least k = (least ≤ k) × (k < 2 ^ 32)

pub ascend_from : (low : ℕ) (ns : List ℕ) → AllFrom IsVar var_key low ns → AscendWithin low (2 ^ 32) ns
ascend_from low [] all = tt
ascend_from low (n ∷ ns) all = (all.0.0, all.0.1, ascend_from (suc n) ns all.1)

pub from_ascend : (low : ℕ) (ns : List ℕ) → AscendWithin low (2 ^ 32) ns → AllFrom IsVar var_key low ns
from_ascend low [] all = tt
from_ascend low (n ∷ ns) all = ((all.0, all.1), from_ascend (suc n) ns all.2)

pub var_takes : (total least : ℕ) (bytes : List ℕ) (x : ℕ × List ℕ) → IsBytes bytes → number_in Head least 4294967295 total bytes ≡ Ok x → Takes bytes (number_of x.0) x.1 × IsVar least x.0
var_takes total least bytes x all e =
    let taken = in_takes Head least 4294967295 total bytes x.0 x.1 all e in
    let high = taken.2 in
    (taken.0, (taken.1, omega (arith, high)))

pub var_again : (total least n : ℕ) (rest : List ℕ) → IsVar least n → number_in Head least 4294967295 total (number_of n ++ rest) ≡ Ok (n, rest)
var_again total least n rest good =
    let high = good.1 in
    in_again Head least 4294967295 total n rest good.0 (omega (arith, high)) (omega (arith, high))

over_takes : (total levels : ℕ) (bytes : List ℕ) (x : PlainTree × List ℕ) → IsBytes bytes → over_at total bytes ≡ Ok x → Takes (1 ∷ bytes) (tree_text x.0) x.1 × IsTreeInRange (suc levels) x.0
unfolding over_at
over_takes total levels bytes x all e =
    let a = bind_ok (number_in Node 0 4294967295 total bytes) (λ row. Ok (over row.0, row.1)) x e in
    let taken = in_takes Node 0 4294967295 total bytes a.0.0 a.0.1 all a.1 in
    let high = taken.2 in
    subst (λ (y : PlainTree × List ℕ). Takes (1 ∷ bytes) (tree_text y.0) y.1 × IsTreeInRange (suc levels) y.0) (done_is (over a.0.0, a.0.1) x a.2) (takes_byte 1 bytes (number_of a.0.0) a.0.1 taken.0, omega (arith, high))

dual_takes : (total levels : ℕ) (bytes : List ℕ) (x : PlainTree × List ℕ) → IsBytes bytes → dual_at total bytes ≡ Ok x → Takes (2 ∷ bytes) (tree_text x.0) x.1 × IsTreeInRange (suc levels) x.0
unfolding dual_at
dual_takes total levels bytes x all e =
    let a = bind_ok (number_in Node 1 65536 total bytes) (λ scale. number_in Node 0 4294967295 total scale.1 >>= λ count. entries_at total count.0 0 count.1 >>= λ entries. Ok (dual scale.0 entries.0, entries.1)) x e in
    let b = bind_ok (number_in Node 0 4294967295 total a.0.1) (λ count. entries_at total count.0 0 count.1 >>= λ entries. Ok (dual a.0.0 entries.0, entries.1)) x a.2 in
    let c = bind_ok (entries_at total b.0.0 0 b.0.1) (λ entries. Ok (dual a.0.0 entries.0, entries.1)) x b.2 in
    let first = in_takes Node 1 65536 total bytes a.0.0 a.0.1 all a.1 in
    let second = in_takes Node 0 4294967295 total a.0.1 b.0.0 b.0.1 first.0.fits b.1 in
    let third = many_take (λ low rest. entry_at low total rest) row_of entry_text IsEntry (λ low bs y fits read. entry_takes total low bs y fits read) b.0.0 0 b.0.1 c.0 second.0.fits c.1 in
    let low = first.1 in
    let high = first.2 in
    let few = second.2 in
    let count = third.1 in
    let behind = takes_then a.0.1 (number_of b.0.0) b.0.1 (flat_map entry_text c.0.0) c.0.1 second.0 third.0 in
    let counted : Takes a.0.1 (number_of (length c.0.0) ++ flat_map entry_text c.0.0) c.0.1 = subst (λ (k : ℕ). Takes a.0.1 (number_of k ++ flat_map entry_text c.0.0) c.0.1) (sym count) behind in
    let whole = takes_then bytes (number_of a.0.0) a.0.1 (number_of (length c.0.0) ++ flat_map entry_text c.0.0) c.0.1 first.0 counted in
    let good : IsDualInRange a.0.0 c.0.0 = record { least = low; most = high; few = omega (arith, few, count); rows = rows_from 0 c.0.0 third.2; small = small_from 0 c.0.0 third.2 } in
    subst (λ (y : PlainTree × List ℕ). Takes (2 ∷ bytes) (tree_text y.0) y.1 × IsTreeInRange (suc levels) y.0) (done_is (dual a.0.0 c.0.0, c.0.1) x c.2) (takes_byte 2 bytes _ c.0.1 whole, good)

dual_again : (total scale : ℕ) (ms : List (ℕ × ℕ)) (rest : List ℕ) → IsDualInRange scale ms → dual_at total ((number_of scale ++ (number_of (length ms) ++ flat_map entry_text ms)) ++ rest) ≡ Ok (dual scale ms, rest)
unfolding dual_at
dual_again total scale ms rest good =
    let most = good.most in
    let few = good.few in
    let entries = flat_map entry_text ms in
    let regrouped : (number_of scale ++ (number_of (length ms) ++ entries)) ++ rest ≡ number_of scale ++ (number_of (length ms) ++ (entries ++ rest)) = append_assoc (number_of scale) (number_of (length ms) ++ entries) rest ∙ ap (λ (t : List ℕ). number_of scale ++ t) (append_assoc (number_of (length ms)) entries rest) in
    let first = in_again Node 1 65536 total scale (number_of (length ms) ++ (entries ++ rest)) good.least most (omega (arith, most)) in
    let second = in_again Node 0 4294967295 total (length ms) (entries ++ rest) (omega arith) (omega (arith, few)) (omega (arith, few)) in
    let third = many_again (λ low bs. entry_at low total bs) row_of entry_text IsEntry (λ low m after ok. entry_again total low m after ok) ms 0 rest (from_rows 0 ms good.rows good.small) in
    ap (dual_at total) regrouped ∙ rw (first, second, third) refl

pub tree_takes : (total levels : ℕ) (bytes : List ℕ) (x : PlainTree × List ℕ) → IsBytes bytes → tree_at total levels bytes ≡ Ok x → Takes bytes (tree_text x.0) x.1 × IsTreeInRange levels x.0
unfolding tree_at
tree_takes total zero [] x all e = absurd (not_done (cut_off total) x e)
tree_takes total (suc levels) [] x all e = absurd (not_done (cut_off total) x e)
tree_takes total zero (tag ∷ bytes) x all e = absurd (not_done (below_all total (tag ∷ bytes) tag) x e)
tree_takes total (suc levels) (zero ∷ bytes) x all e =
    let a = bind_ok (number_in Node 0 4294967295 total bytes) (λ var. tree_at total levels var.1 >>= λ first. tree_at total levels first.1 >>= λ second. Ok (branch var.0 first.0 second.0, second.1)) x e in
    let b = bind_ok (tree_at total levels a.0.1) (λ first. tree_at total levels first.1 >>= λ second. Ok (branch a.0.0 first.0 second.0, second.1)) x a.2 in
    let c = bind_ok (tree_at total levels b.0.1) (λ second. Ok (branch a.0.0 b.0.0 second.0, second.1)) x b.2 in
    let first = in_takes Node 0 4294967295 total bytes a.0.0 a.0.1 (bytes_behind 0 bytes all) a.1 in
    let second = tree_takes total levels a.0.1 b.0 first.0.fits b.1 in
    let third = tree_takes total levels b.0.1 c.0 second.0.fits c.1 in
    let behind = takes_then a.0.1 (tree_text b.0.0) b.0.1 (tree_text c.0.0) c.0.1 second.0 third.0 in
    let whole = takes_then bytes (number_of a.0.0) a.0.1 (tree_text b.0.0 ++ tree_text c.0.0) c.0.1 first.0 behind in
    let high = first.2 in
    let small : a.0.0 < 2 ^ 32 = omega (arith, high) in
    subst (λ (y : PlainTree × List ℕ). Takes (0 ∷ bytes) (tree_text y.0) y.1 × IsTreeInRange (suc levels) y.0) (done_is (branch a.0.0 b.0.0 c.0.0, c.0.1) x c.2) (takes_byte 0 bytes _ c.0.1 whole, (small, second.1, third.1))
tree_takes total (suc levels) (suc zero ∷ bytes) x all e = over_takes total levels bytes x (bytes_behind 1 bytes all) e
tree_takes total (suc levels) (suc (suc zero) ∷ bytes) x all e = dual_takes total levels bytes x (bytes_behind 2 bytes all) e
tree_takes total (suc levels) (suc (suc (suc zero)) ∷ bytes) x all e =
    subst (λ (y : PlainTree × List ℕ). Takes (3 ∷ bytes) (tree_text y.0) y.1 × IsTreeInRange (suc levels) y.0) (done_is (leaf, bytes) x e) (takes_byte 3 bytes [] bytes (takes_none bytes (bytes_behind 3 bytes all)), tt)
tree_takes total (suc levels) (suc (suc (suc (suc tag))) ∷ bytes) x all e =
    absurd (not_done (BadNode (place total (suc (suc (suc (suc tag))) ∷ bytes))) x e)

pub tree_again : (total levels : ℕ) (t : PlainTree) (rest : List ℕ) → IsTreeInRange levels t → tree_at total levels (tree_text t ++ rest) ≡ Ok (t, rest)
unfolding tree_at over_at
tree_again total zero t rest good = absurd good
tree_again total (suc levels) (branch j l r) rest good =
    let small = good.0 in
    let regrouped : (number_of j ++ (tree_text l ++ tree_text r)) ++ rest ≡ number_of j ++ (tree_text l ++ (tree_text r ++ rest)) = append_assoc (number_of j) (tree_text l ++ tree_text r) rest ∙ ap (λ (t : List ℕ). number_of j ++ t) (append_assoc (tree_text l) (tree_text r) rest) in
    let first = in_again Node 0 4294967295 total j (tree_text l ++ (tree_text r ++ rest)) (omega arith) (omega (arith, small)) (omega (arith, small)) in
    let second = tree_again total levels l (tree_text r ++ rest) good.1 in
    let third = tree_again total levels r rest good.2 in
    ap (λ (t : List ℕ). tree_at total (suc levels) (0 ∷ t)) regrouped ∙ rw (first, second, third) refl
tree_again total (suc levels) (over row) rest good =
    let first = in_again Node 0 4294967295 total row rest (omega arith) (omega (arith, good)) (omega (arith, good)) in
    rw first refl
tree_again total (suc levels) (dual scale ms) rest good = dual_again total scale ms rest good
tree_again total (suc levels) leaf rest good = refl
