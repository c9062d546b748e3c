use Rattle.std.proofs.Common.{◌≡◌, ℕ, ◌-◌, ◌<◌, ◌≤◌, nat_le, length, get_or, true, false, ◌≢◌, sym, ◌∙◌, arith, rules}
use Rattle.std.proofs.lemmas.Bool.Decides.{nat_tests}
use Rattle.std.proofs.lemmas.List.Sorted.{IsPartitionPoint-from_clause}
use Rattle.hex_image.specs.declared.image.HexRun.{HexRun}
use Rattle.hex_image.proofs.CompareLemmas.{run_before, starts_rise, none_above, found_run}
use Rattle.hex_image.proofs.comparing.image_byte.Goals as goal

above_from_test : (start address : ℕ) → (nat_le start address) ≡ false → address < start
above_from_test start address test = grind (arith, nat_tests)

from_test : (start address : ℕ) → (nat_le start address) ≡ true → start ≤ address
from_test start address test = grind (arith, nat_tests)

pub returns-then-count-eq0 : goal.returns-then-count-eq0
returns-then-count-eq0 c =
    let runs = c.args.image.now.runs.items in
    let count = c.partition_point-count in
    let p = IsPartitionPoint-from_clause (λ (run : HexRun). nat_le run.at c.args.address) c.deref.result.now count.result count.ensures.partitioned
    (rw c.deref.ensures.value (starts_rise runs c.args.address c.requires)) (λ a r q k. search rules) in
    let at_runs = rw c.deref.ensures.value at p in
    sym (none_above runs c.args.address (λ j d below. above_from_test (get_or runs j d).at c.args.address (at_runs.1 j d (omega arith) below)))

pub returns : goal.returns
returns c =
    let runs = c.args.image.now.runs.items in
    let count = c.partition_point-count in
    let p = IsPartitionPoint-from_clause (λ (run : HexRun). nat_le run.at c.args.address) c.deref.result.now count.result count.ensures.partitioned
    (rw c.deref.ensures.value (starts_rise runs c.args.address c.requires)) (λ a r q k. search rules) in
    let at_runs = rw c.deref.ensures.value at p in
    let some : count.result ≢ 0 = c.if-count-eq0.false in
    let within : count.result - 1 < length runs = let bound = rw c.deref.ensures.value at count.ensures.bound in omega arith in
    let found = found_run runs (count.result - 1) c.index-run.result.now c.args.address within c.index-run.ensures
    (λ j d lower.
    let before = run_before runs c.requires j (count.result - 1) d lower within in
    let start = from_test (get_or runs (count.result - 1) d).at c.args.address (at_runs.0 (count.result - 1) d (omega arith) (omega arith)) in
    omega arith)
    (λ j d lower below. above_from_test (get_or runs j d).at c.args.address (at_runs.1 j d (omega arith) below)) in
    c.byte_at.ensures ∙ rw c.deref-2.ensures.value (sym found)
