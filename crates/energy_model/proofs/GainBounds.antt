-- What items save where there is overlay is small.
use Rattle.std.proofs.Common.{ℕ, ◌+◌, ◌*◌, ◌≤◌, true, false, pos, ◌-ℤ◌, length, arith, if◌then◌else◌}
use Rattle.std.specs.Prelude.{unsigned_abs}
use Rattle.std.proofs.lemmas.Int.{ints}
use Rattle.std.proofs.lemmas.Nat.{mul-le}
use Rattle.list_checks.specs.Sorted.{sum_below}
use Rattle.board_config.specs.Board.{AreLawfulPrices}
use Rattle.board_config.specs.declared.board.Prices.{Prices}
use Rattle.object_graph.specs.declared.parts.Graph.{Graph}
use Rattle.object_graph.specs.declared.parts.Object.{Object}
use Rattle.code_blocks.specs.declared.parts.Code.{Code}
use Rattle.region_former.specs.declared.table.RegionTable.{RegionTable}
use Rattle.profile_runner.specs.declared.counts.Profile.{Profile}
use Rattle.block_splitter.specs.declared.block_range.BlockRange.{BlockRange}
use Rattle.energy_model.specs.Energy.{object_rounds, job_price, into_price, back_price, arrival_price}
use Rattle.energy_model.specs.Copied.{arrivals_in, home_words, copy_words_run, came_in, came_to}
use Rattle.energy_model.specs.Counts.{CountsCode}
use Rattle.energy_model.specs.Overlay.{accesses_price, is_entered, entering_price, entered_words, copied_price}
use Rattle.energy_model.specs.OverlayCost.{CountsOverlay}
use Rattle.energy_model.specs.Entering.{displaced_of, first_of}
use Rattle.energy_model.specs.Gains.{object_copied, object_saves, AreSmallCounts, piece_saves}
use Rattle.energy_model.specs.declared.object_counts.ObjectCounts.{ObjectCounts}
use Rattle.energy_model.proofs.EnteringLemmas.{if_at_most, entered_sum, few_came, small_entering}
use Rattle.energy_model.proofs.PieceLemmas.{came_small}

difference_small : (a b most : ℕ) → a ≤ most → b ≤ most → unsigned_abs (pos a -ℤ pos b) ≤ most
difference_small a b most first second = omega (arith, ints, first, second)

-- ---- objects

-- a copy of so many rounds
abbrev pub most_job : ℕ → ℕ
most_job rounds = 60000 + 70000 * rounds

job_small : (prices : Prices) (read write n most : ℕ) → AreLawfulPrices prices → read ≤ 10000 → write ≤ 10000 → n ≤ most → job_price prices read write n ≤ most_job most
job_small prices read write n most lawful read_small write_small few =
    let fetches = mul-le (6 + 5 * n) prices.main_fetch (6 + 5 * most) 10000 (omega (arith, few)) lawful.main_fetch in
    let reads = mul-le n read most 10000 few read_small in
    let writes = mul-le n write most 10000 few write_small in
    omega (arith, fetches, reads, writes)

accesses_small : (reads writes read write : ℕ) → reads ≤ 2000000000 → writes ≤ 2000000000 → read ≤ 10000 → write ≤ 10000 → reads * read + writes * write ≤ 40000000000000
accesses_small reads writes read write few_reads few_writes read_small write_small =
    let first = mul-le reads read 2000000000 10000 few_reads read_small in
    let second = mul-le writes write 2000000000 10000 few_writes write_small in
    omega (arith, first, second)

-- an object whose copies have at most so many rounds
pub object_saves_small : (prices : Prices) (o : Object) (counts : ObjectCounts) (rounds : ℕ) → AreLawfulPrices prices → AreSmallCounts counts → object_rounds o ≤ rounds → unsigned_abs (object_saves prices o counts) ≤ 40000000000000 + 4000000000 * most_job rounds
object_saves_small prices o counts rounds lawful small few =
    let home = accesses_small counts.reads counts.writes prices.main_read prices.main_write small.reads small.writes lawful.main_read lawful.main_write in
    let moved = accesses_small counts.reads counts.writes prices.spm_read prices.spm_write small.reads small.writes lawful.spm_read lawful.spm_write in
    let into = job_small prices prices.main_read prices.spm_write (object_rounds o) rounds lawful lawful.main_read lawful.spm_write few in
    let back = if_at_most o.writable (back_price prices (object_rounds o)) (most_job rounds) (job_small prices prices.spm_read prices.main_write (object_rounds o) rounds lawful lawful.spm_read lawful.main_write few) in
    let enters = mul-le counts.enters (into_price prices (object_rounds o)) 2000000000 (most_job rounds) small.enters into in
    let leaves = mul-le counts.leaves (if o.writable then back_price prices (object_rounds o) else 0) 2000000000 (most_job rounds) small.leaves back in
    difference_small (accesses_price prices false counts.reads counts.writes)
    (accesses_price prices true counts.reads counts.writes + object_copied prices o counts.enters counts.leaves)
    (40000000000000 + 4000000000 * most_job rounds)
    (omega (arith, home)) (omega (arith, moved, enters, leaves))

-- ---- pieces

-- a piece whose copies cost so much
pub piece_saves_small : (c : Code) (t : RegionTable) (g : Graph) (q : Profile) (prices : Prices) (range : BlockRange) (copies : ℕ) → CountsCode c g q → CountsOverlay c t g q → AreLawfulPrices prices → unsigned_abs (piece_saves c g prices q t.border.items range copies) ≤ 200000000000000000 + copies
piece_saves_small c t g q prices range copies code counts lawful =
    let n = length c.blocks.items in
    let borders = t.border.items in
    let small = small_entering c t g q range code counts in
    let checks = small.checks in
    let displaced = small.displaced in
    let first = small.first in
    let checks_are = entered_sum borders range (arrivals_in q) n in
    let displaced_are = entered_sum borders range (displaced_of c g q) n in
    let first_are = entered_sum borders range (first_of c q) n in
    let fetch = lawful.main_fetch in
    let read = lawful.main_read in
    let home_price = mul-le (home_words c g q range) prices.main_fetch 1000000000000 10000 (code.home range) fetch in
    let check_price = mul-le (sum_below (λ b. if is_entered borders range b then arrivals_in q b else 0) n) (arrival_price prices false true) 1000000000 60000 (omega (arith, checks, checks_are)) (omega (arith, fetch, read)) in
    let displaced_price = mul-le (sum_below (λ b. if is_entered borders range b then displaced_of c g q b else 0) n) prices.main_fetch 3000000000 10000 (omega (arith, displaced, displaced_are)) fetch in
    let first_price = mul-le (entered_words c q borders range) prices.main_fetch 2000000000 10000 (omega (arith, first, first_are)) fetch in
    let copied_words = mul-le (copy_words_run c g q range) prices.spm_fetch 1000000000000 10000 (code.copies range) lawful.spm_fetch in
    let pads = mul-le (came_in c q range) (3 * prices.main_fetch) 2000000000000 30000 (came_small c g q range code) (omega (arith, fetch)) in
    let entered = mul-le (came_to c q range (is_entered borders range)) (4 * prices.main_fetch + prices.main_read) 2000000000000 50000 (few_came c t g q range code counts) (omega (arith, fetch, read)) in
    difference_small (home_words c g q range * prices.main_fetch + entering_price c g prices q borders range)
    (entered_words c q borders range * prices.main_fetch + copied_price c g prices q borders range + copies)
    (200000000000000000 + copies)
    (omega (arith, home_price, check_price, displaced_price))
    (omega (arith, first_price, copied_words, pads, entered))
