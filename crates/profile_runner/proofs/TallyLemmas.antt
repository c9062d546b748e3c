-- What was counted, with one transition more.
use Rattle.std.proofs.Common.{◌≡◌, ◌∙◌, inl, inr, ℕ, zero, suc, ◌+◌, ◌<◌, ◌≤◌, ◌==◌, Bool, true, false, ◌&&◌, if◌then◌else◌, List, [], ◌∷◌, ◌++◌, length, set, Option, Some, None, refl, sym, ap, subst, arith, get_or-set_same, get_or-set_other}
use Rattle.std.proofs.Math.ListN.{length-set}
use Rattle.std.proofs.lemmas.Bool.{cases_eq}
use Rattle.code_blocks.specs.Early.{has}
use Rattle.profile_runner.specs.Transition.{Transition}
use Rattle.profile_runner.specs.Standing.{number_of, region_of, entered, block_of, units_run, current}
use Rattle.profile_runner.specs.Counts.{plain_rows, count_in, arrivals_of, edges_of, accesses_of, switches_of}
use Rattle.profile_runner.specs.Tallies.{IsBlockAt, IsNext, is_coming, is_led, block_now, region_now, is_switch, is_leave, is_enter, is_access_in, plain_edges, edge_row, with_edge, AreFrom, AreRows, LedTo}
use Rattle.profile_runner.specs.Tally.{IsTally, HasChanged, HasCounted, leaves_of, enters_of}
use Rattle.profile_runner.specs.declared.counts.Edge.{Edge}
use Rattle.profile_runner.specs.declared.changes.Changes.{Changes}
use Rattle.profile_runner.specs.declared.tally.Tally.{Tally}
use Rattle.profile_runner.proofs.CountLemmas.{adds_none, adds_none_in, list_more, table_more, sum_more}
use Rattle.profile_runner.proofs.EdgeLemmas.{are_still, are_more, counts_more}
use Rattle.profile_runner.proofs.TestLemmas.{block_choice, units_choice, region_choice, coming_test, led_test, no_switch, no_leave, no_enter, switch_leave, switch_enter, eq_refl, eq_not}
use Rattle.profile_runner.proofs.TransitionLemmas.{one_longer, block_here, units_here, current_here, arrivals_more, edges_more, accesses_more, switches_more}

-- ---- edges

row_there : (rows : List (List Edge)) (a : ℕ) (row : List Edge) → a < length rows → edge_row (set rows a row) a ≡ row
row_there rows a row below = get_or-set_same rows a row [] below

row_else : (rows : List (List Edge)) (a b : ℕ) (row : List Edge) → (b ≡ a → ⊥) → edge_row (set rows a row) b ≡ edge_row rows b
row_else rows a b row differs = get_or-set_other rows a b row [] differs

from_led : (rows : List (List Edge)) (size most block k : ℕ) (f : ℕ → ℕ → ℕ) (a : ℕ) → AreRows rows size most f → block < size → k < size → a < size → AreFrom 0 a size (suc most) (edge_row (set rows block (with_edge (edge_row rows block) block k)) a)
from_led rows size most block k f a are fits number below =
    let height = are.height_is in
    elim (cases_eq a block) [
      | inl is ↦
          rw (is, row_there rows block (with_edge (edge_row rows block) block k) (omega (arith, height, fits)))
          (are_more 0 block size most k (edge_row rows block) (omega arith) number (are.from block fits))
      | inr differs ↦
          rw (row_else rows block a (with_edge (edge_row rows block) block k) differs)
          (are_still 0 a size most (edge_row rows a) (are.from a below))
    ]

one_if : (c : Bool) (m n : ℕ) → c ≡ false → m ≡ n → m ≡ n + (if c then 1 else 0)
one_if c m n is same = rw is (omega (arith, same))

and_not : (x y : Bool) → x ≡ false → x && y ≡ false
and_not x y is = rw is refl

count_led : (rows : List (List Edge)) (size most block k : ℕ) (f : ℕ → ℕ → ℕ) (a b : ℕ) → AreRows rows size most f → block < size → a < size → b < size → count_in (edge_row (set rows block (with_edge (edge_row rows block) block k)) a) a b ≡ f a b + (if (block == a) && (k == b) then 1 else 0)
count_led rows size most block k f a b are fits below inside =
    let height = are.height_is in
    elim (cases_eq a block) [
      | inl is ↦
          rw (is, row_there rows block (with_edge (edge_row rows block) block k) (omega (arith, height, fits)), eq_refl block)
          (let more = counts_more 0 block size most k b (edge_row rows block) (are.from block fits) in
          let was = are.counts block b fits inside in
          omega (arith, more, was))
      | inr differs ↦
          let was = are.counts a b below inside in
          rw (row_else rows block a (with_edge (edge_row rows block) block k) differs)
          (one_if ((block == a) && (k == b)) _ _ (and_not (block == a) (k == b) (eq_not block a (λ is. differs (sym is)))) was)
    ]

pub rows_led : (next : Option ℕ) (rows new : List (List Edge)) (size most block : ℕ) (f g : ℕ → ℕ → ℕ) → AreRows rows size most f → LedTo next block rows new → block < size → ((k : ℕ) → next ≡ Some k → k < size) → ((a b : ℕ) → a < size → b < size → g a b ≡ f a b + (if is_led block next a b then 1 else 0)) → AreRows new size (suc most) g
rows_led None rows new size most block f g are led fits number more =
    rw led
    (record {
      height_is = are.height_is;
      from = λ a below. are_still 0 a size most (edge_row rows a) (are.from a below);
      counts = λ a b below inside.
          let was = are.counts a b below inside in
          let now = more a b below inside in
          omega (arith, was, now);
    })
rows_led (Some k) rows new size most block f g are led fits number more =
    rw led
    (record {
      height_is = length-set rows block (with_edge (edge_row rows block) block k) ∙ are.height_is;
      from = λ a below. from_led rows size most block k f a are fits (number k refl) below;
      counts = λ a b below inside. count_led rows size most block k f a b are fits below inside ∙ sym (more a b below inside);
    })

next_fits : (starts : List ℕ) (goes_on : Bool) (x k : ℕ) (next : Option ℕ) → IsNext starts goes_on x next → next ≡ Some k → k < length starts
next_fits starts true x k None to is = cc
next_fits starts true x k (Some j) to is = let within = to.2 in let same : j ≡ k = cc in omega (arith, within, same)
next_fits starts false x k next to is = cc

-- ---- the region stays

pub no_change : (c : Changes) (r : ℕ) → HasChanged c c r r
no_change c r =
    record {
      switches_add = adds_none_in (plain_rows c.switches.items) (is_switch r r) (λ s k inside. no_switch r s k);
      leaves_add = adds_none c.leaves.items (is_leave r r) (no_leave r);
      enters_add = adds_none c.enters.items (is_enter r r) (no_enter r);
    }

-- ---- all of it

pub number_fits : (starts : List ℕ) (a b : ℕ) (coming : Option ℕ) → IsBlockAt starts a coming → b < length starts → block_now coming b < length starts
number_fits starts a b None at below = below
number_fits starts a b (Some k) at below = at.2

pub entered_fits : (last r k : ℕ) → r ≤ last → k ≤ last → entered r k ≤ last
entered_fits last r zero fits more = fits
entered_fits last r (suc k) fits more = more

pub region_fits : (regions : List ℕ) (last r : ℕ) (coming : Option ℕ) → ((k : ℕ) → region_of regions k ≤ last) → r ≤ last → region_now regions coming r ≤ last
region_fits regions last r None all fits = fits
region_fits regions last r (Some k) all fits = entered_fits last r (region_of regions k) fits (all k)

test_is : (n : ℕ) (b c : Bool) → b ≡ c → n + (if b then 1 else 0) ≡ n + (if c then 1 else 0)
test_is n b c same = rw same refl

at_most : (b : Bool) (sum more n : ℕ) → more ≡ sum + (if b then 1 else 0) → sum ≤ n → more ≤ suc n
at_most true sum more n is le = omega (arith, is, le)
at_most false sum more n is le = omega (arith, is, le)

pub record IsOneMore (starts regions : List ℕ) (last : ℕ) (ms : List Transition) (m : Transition) (coming next : Option ℕ) : Type 0 where
  pub begun_is : IsBlockAt starts m.at coming
  pub next_is : IsNext starts m.goes_on m.next next
  pub first_begins : length ms ≡ 0 → has starts m.at ≡ true
  pub regions_fit : (k : ℕ) → region_of regions k ≤ last

leaves_sum : (starts regions : List ℕ) (last : ℕ) (ms : List Transition) (m : Transition) (old new s : ℕ) → current starts regions ms (length ms) ≡ old → current starts regions (ms ++ m ∷ []) (suc (length ms)) ≡ new → new ≤ last → leaves_of starts regions last (ms ++ m ∷ []) s ≡ leaves_of starts regions last ms s + (if is_leave old new s then 1 else 0)
leaves_sum starts regions last ms m old new s was is fits =
    sum_more (switches_of starts regions ms s) (switches_of starts regions (ms ++ m ∷ []) s) (is_leave old new s) new (suc last) (omega (arith, fits))
    (λ r below. switches_more starts regions ms m old new s r was is ∙ test_is _ _ _ (switch_leave old new s r))

enters_sum : (starts regions : List ℕ) (last : ℕ) (ms : List Transition) (m : Transition) (old new r : ℕ) → current starts regions ms (length ms) ≡ old → current starts regions (ms ++ m ∷ []) (suc (length ms)) ≡ new → old ≤ last → enters_of starts regions last (ms ++ m ∷ []) r ≡ enters_of starts regions last ms r + (if is_enter old new r then 1 else 0)
enters_sum starts regions last ms m old new r was is fits =
    sum_more (λ s. switches_of starts regions ms s r) (λ s. switches_of starts regions (ms ++ m ∷ []) s r) (is_enter old new r) old (suc last) (omega (arith, fits))
    (λ s below. switches_more starts regions ms m old new s r was is ∙ test_is _ _ _ (switch_enter old new s r))

pub tally_more : (starts regions : List ℕ) (last size : ℕ) (ms : List Transition) (m : Transition) (coming next : Option ℕ) (old new : Tally) → IsTally starts regions last size ms old → HasCounted regions coming m.access next old new → IsOneMore starts regions last ms m coming next → IsTally starts regions last size (ms ++ m ∷ []) new
tally_more starts regions last size ms m coming next old new t c one =
    let longer = one_longer ms m in
    let block : block_of starts (ms ++ m ∷ []) (length ms) ≡ new.block =
    block_here starts ms m old.block t.block_is one.first_begins ∙ (block_choice starts m.at old.block coming one.begun_is ∙ sym c.block_is) in
    let units : units_run starts (ms ++ m ∷ []) (length ms) ≡ new.units =
    units_here starts ms m old.units t.units_are one.first_begins ∙ (units_choice starts m.at old.units coming one.begun_is ∙ sym c.units_are) in
    let was : current starts regions ms (length ms) ≡ old.region = sym t.region_is in
    let is : current starts regions (ms ++ m ∷ []) (suc (length ms)) ≡ new.region =
    current_here starts regions ms m
    ∙ (ap (λ r. if has starts m.at then entered r (region_of regions (number_of starts m.at)) else r) was
    ∙ (region_choice starts regions m.at old.region coming one.begun_is ∙ sym c.region_is)) in
    let fits : new.region ≤ last = subst (λ r. r ≤ last) (sym c.region_is) (region_fits regions last old.region coming one.regions_fit t.region_fits) in
    let block_fits : new.block < length starts = subst (λ b. b < length starts) (sym c.block_is) (number_fits starts m.at old.block coming one.begun_is t.block_fits) in
    record {
      steps_are = c.steps_are ∙ (ap suc t.steps_are ∙ sym longer);
      arrivals_are =
          list_more old.arrivals.items new.arrivals.items (length starts) (arrivals_of starts ms) (arrivals_of starts (ms ++ m ∷ [])) (is_coming coming) t.arrivals_are c.arrivals_add
          (λ b below. arrivals_more starts ms m b ∙ test_is _ _ _ (coming_test starts m.at b coming one.begun_is));
      edges_are =
          subst (λ n. AreRows (plain_edges new.edges.items) (length starts) n (edges_of starts (ms ++ m ∷ []))) (sym longer)
          (rows_led next (plain_edges old.edges.items) (plain_edges new.edges.items) (length starts) (length ms) new.block (edges_of starts ms) (edges_of starts (ms ++ m ∷ [])) t.edges_are c.edges_add block_fits
          (λ k at. next_fits starts m.goes_on m.next k next one.next_is at)
          (λ a b below inside. edges_more starts ms m new.block a b block ∙ test_is _ _ _ (led_test starts m.goes_on m.next new.block a b next inside one.next_is)));
      reads_are =
          table_more (plain_rows old.reads.items) (plain_rows new.reads.items) size (suc last) (accesses_of starts regions ms false) (accesses_of starts regions (ms ++ m ∷ []) false) (is_access_in false m.access new.region) t.reads_are c.reads_add
          (λ o r below inside. accesses_more starts regions ms m new.region false o r is);
      writes_are =
          table_more (plain_rows old.writes.items) (plain_rows new.writes.items) size (suc last) (accesses_of starts regions ms true) (accesses_of starts regions (ms ++ m ∷ []) true) (is_access_in true m.access new.region) t.writes_are c.writes_add
          (λ o r below inside. accesses_more starts regions ms m new.region true o r is);
      switches_are =
          table_more (plain_rows old.changes.switches.items) (plain_rows new.changes.switches.items) (suc last) (suc last) (switches_of starts regions ms) (switches_of starts regions (ms ++ m ∷ [])) (is_switch old.region new.region) t.switches_are c.changes_add.switches_add
          (λ s r below inside. switches_more starts regions ms m old.region new.region s r was is);
      leaves_are =
          list_more old.changes.leaves.items new.changes.leaves.items (suc last) (leaves_of starts regions last ms) (leaves_of starts regions last (ms ++ m ∷ [])) (is_leave old.region new.region) t.leaves_are c.changes_add.leaves_add
          (λ s below. leaves_sum starts regions last ms m old.region new.region s was is fits);
      enters_are =
          list_more old.changes.enters.items new.changes.enters.items (suc last) (enters_of starts regions last ms) (enters_of starts regions last (ms ++ m ∷ [])) (is_enter old.region new.region) t.enters_are c.changes_add.enters_add
          (λ r below. enters_sum starts regions last ms m old.region new.region r was is t.region_fits);
      few_leaves = λ s below.
          subst (λ n. leaves_of starts regions last (ms ++ m ∷ []) s ≤ n) (sym longer)
          (at_most (is_leave old.region new.region s) (leaves_of starts regions last ms s) _ (length ms) (leaves_sum starts regions last ms m old.region new.region s was is fits) (t.few_leaves s below));
      few_enters = λ r below.
          subst (λ n. enters_of starts regions last (ms ++ m ∷ []) r ≤ n) (sym longer)
          (at_most (is_enter old.region new.region r) (enters_of starts regions last ms r) _ (length ms) (enters_sum starts regions last ms m old.region new.region r was is t.region_fits) (t.few_enters r below));
      region_is = sym (ap (current starts regions (ms ++ m ∷ [])) longer ∙ is);
      region_fits = fits;
      block_fits = block_fits;
      block_is = λ i at.
          let place : length ms ≡ i = omega (arith, at, longer) in
          sym (ap (block_of starts (ms ++ m ∷ [])) (sym place) ∙ block);
      units_are = λ i at.
          let place : length ms ≡ i = omega (arith, at, longer) in
          sym (ap (units_run starts (ms ++ m ∷ [])) (sym place) ∙ units);
    }
