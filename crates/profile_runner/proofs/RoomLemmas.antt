-- Fewer transitions than 2 ^ 64 leave room for one more in each count.
use Rattle.std.proofs.Common.{◌≡◌, ℕ, suc, ◌<◌, ◌≤◌, true, false, List, length, slice_index_or, Option, Some, None, Vec, arith}
use Rattle.std.specs.Global.{Global}
use Rattle.std.proofs.lemmas.List.{length-map}
use Rattle.profile_runner.specs.Transition.{Transition}
use Rattle.profile_runner.specs.Standing.{region_of, entered}
use Rattle.profile_runner.specs.Counts.{plain_rows, entry, arrivals_of, accesses_of, switches_of, IsList, IsTable}
use Rattle.profile_runner.specs.Tallies.{IsBlockAt, block_now, region_now, plain_edges, edge_row}
use Rattle.profile_runner.specs.Tally.{HasRoomToChange, HasRoomToBegin, HasRoomToAccess, HasRoomToLead, HasRoom, IsTally}
use Rattle.profile_runner.specs.declared.tally.Tally.{Tally}
use Rattle.profile_runner.proofs.CountLemmas.{count_few}
use Rattle.profile_runner.proofs.EdgeLemmas.{ascend_from, begun_of, few_of}
use Rattle.profile_runner.proofs.TallyLemmas.{number_fits, region_fits, entered_fits}

list_room : (xs : List ℕ) (size k n : ℕ) (f : ℕ → ℕ) → IsList xs size f → k < size → f k ≤ n → n < 18446744073709551615 → slice_index_or xs k 0 < 18446744073709551615
list_room xs size k n f is below le few = let here = is.each k below in omega (arith, here, le, few)

table_room : (rows : List (List ℕ)) (h w j k n : ℕ) (f : ℕ → ℕ → ℕ) → IsTable rows h w f → j < h → k < w → f j k ≤ n → n < 18446744073709551615 → entry rows j k < 18446744073709551615
table_room rows h w j k n f is row column le few =
    let here = is.counts j k row column in omega (arith, here, le, few)

change_room : (starts regions : List ℕ) (last size before after : ℕ) (ms : List Transition) (t : Tally) → IsTally starts regions last size ms t → length ms < 18446744073709551615 → before ≤ last → after ≤ last → HasRoomToChange t.changes before after
change_room starts regions last size before after ms t is few first second =
    let low : before < suc last = omega (arith, first) in
    let high : after < suc last = omega (arith, second) in
    let height = is.switches_are.height_is in
    let count = length-map t.changes.switches.items (λ (r : Vec ℕ Global). r.items) in
    let width = is.switches_are.widths before low in
    let leaves = is.leaves_are.size_is in
    let enters = is.enters_are.size_is in
    record {
      row = omega (arith, height, count, low);
      column = omega (arith, width, high);
      switch = table_room (plain_rows t.changes.switches.items) (suc last) (suc last) before after (length ms) (switches_of starts regions ms) is.switches_are low high (count_few _ (length ms)) few;
      leave_row = omega (arith, leaves, low);
      leave = list_room t.changes.leaves.items (suc last) before (length ms) _ is.leaves_are low (is.few_leaves before low) few;
      enter_row = omega (arith, enters, high);
      enter = list_room t.changes.enters.items (suc last) after (length ms) _ is.enters_are high (is.few_enters after high) few;
    }

begin_room : (starts regions : List ℕ) (last size pc : ℕ) (ms : List Transition) (t : Tally) (coming : Option ℕ) → IsTally starts regions last size ms t → length ms < 18446744073709551615 → length regions ≡ length starts → ((k : ℕ) → region_of regions k ≤ last) → IsBlockAt starts pc coming → HasRoomToBegin regions coming t
begin_room starts regions last size pc ms t None is few same fit at = tt
begin_room starts regions last size pc ms t (Some k) is few same fit at =
    let below = at.2 in
    let count = is.arrivals_are.size_is in
    record {
      number = omega (arith, below, same);
      row = omega (arith, below, count);
      arrival = list_room t.arrivals.items (length starts) k (length ms) (arrivals_of starts ms) is.arrivals_are below (count_few _ (length ms)) few;
      change = change_room starts regions last size t.region (entered t.region (region_of regions k)) ms t is few is.region_fits (entered_fits last t.region (region_of regions k) is.region_fits (fit k));
    }

access_room : (starts regions : List ℕ) (last size region : ℕ) (ms : List Transition) (t : Tally) → IsTally starts regions last size ms t → length ms < 18446744073709551615 → region ≤ last → HasRoomToAccess region (plain_rows t.reads.items) (plain_rows t.writes.items)
access_room starts regions last size region ms t is few fits =
    let low : region < suc last = omega (arith, fits) in
    let reads = is.reads_are.height_is in
    let writes = is.writes_are.height_is in
    record {
      read_columns = λ j below. let width = is.reads_are.widths j (omega (arith, reads, below)) in omega (arith, width, low);
      read = λ j below.
          table_room (plain_rows t.reads.items) size (suc last) j region (length ms) (accesses_of starts regions ms false) is.reads_are (omega (arith, reads, below)) low (count_few _ (length ms)) few;
      write_columns = λ j below. let width = is.writes_are.widths j (omega (arith, writes, below)) in omega (arith, width, low);
      write = λ j below.
          table_room (plain_rows t.writes.items) size (suc last) j region (length ms) (accesses_of starts regions ms true) is.writes_are (omega (arith, writes, below)) low (count_few _ (length ms)) few;
    }

lead_room : (starts regions : List ℕ) (last size block : ℕ) (ms : List Transition) (t : Tally) (next : Option ℕ) → IsTally starts regions last size ms t → length ms < 18446744073709551615 → block < length starts → HasRoomToLead next block (plain_edges t.edges.items)
lead_room starts regions last size block ms t None is few below = tt
lead_room starts regions last size block ms t (Some b) is few below =
    let height = is.edges_are.height_is in
    let from = is.edges_are.from block below in
    record {
      row = omega (arith, height, below);
      begun = begun_of 0 block (length starts) (length ms) (edge_row (plain_edges t.edges.items) block) from;
      ascending = ascend_from 0 block (length starts) (length ms) (edge_row (plain_edges t.edges.items) block) from;
      edge = few_of 0 block (length starts) (length ms) (edge_row (plain_edges t.edges.items) block) from few;
    }

pub room : (starts regions : List ℕ) (last size pc : ℕ) (ms : List Transition) (t : Tally) (coming next : Option ℕ) → IsTally starts regions last size ms t → length ms < 18446744073709551615 → length regions ≡ length starts → ((k : ℕ) → region_of regions k ≤ last) → IsBlockAt starts pc coming → HasRoom regions coming next t
room starts regions last size pc ms t coming next is few same fit at =
    record {
      begin = begin_room starts regions last size pc ms t coming is few same fit at;
      accesses = access_room starts regions last size (region_now regions coming t.region) ms t is few (region_fits regions last t.region coming fit is.region_fits);
      lead = lead_room starts regions last size (block_now coming t.block) ms t next is few (number_fits starts pc t.block coming at is.block_fits);
    }
