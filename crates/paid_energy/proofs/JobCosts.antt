-- What copy jobs cost: their words, and a read and a write a turn.
use Rattle.std.proofs.Common.{◌≡◌, ◌∙◌, ℕ, zero, suc, ◌+◌, ◌*◌, ◌/◌, ◌<◌, ◌≤◌, Bool, true, false, List, [], ◌∷◌, ap, arith}
use Rattle.std.specs.List.{sum_by}
use Rattle.std.proofs.lemmas.List.Concat.{flat_map-cons}
use Rattle.std.proofs.lemmas.List.Sums.{sum_by-cons}
use Rattle.board_config.specs.declared.board.Board.{Board}
use Rattle.flat_machine.specs.declared.events.FlatAccess.{FlatAccess}
use Rattle.patch_code.specs.declared.job.CopyJob.{CopyJob}
use Rattle.patch_code.specs.Jobs.{copies_words, unit_bytes, turns, job_run, jobs_run}
use Rattle.patch_code.specs.Told.{read_at, write_at, turn_accesses, job_accesses, jobs_accesses}
use Rattle.energy_model.specs.Energy.{read_price, write_price, job_price}
use Rattle.paid_energy.specs.Costs.{is_fast, access_cost}
use Rattle.paid_energy.proofs.CostLemmas.{accesses_cost, accesses_joined}

-- ---- turns

-- each reads at one price and writes at one
turns_cost : (cost : FlatAccess → ℕ) (read write unit from to n : ℕ) → 1 ≤ unit → ((a : ℕ) → from ≤ a → a < from + n * unit → cost (read_at a) ≡ read) → ((a : ℕ) → to ≤ a → a < to + n * unit → cost (write_at a) ≡ write) → sum_by cost (turn_accesses unit from to n) ≡ n * read + n * write
turns_cost cost read write unit from to zero some reads writes = omega arith
turns_cost cost read write unit from to (suc n) some reads writes =
    let whole : suc n * unit ≡ unit + n * unit = grind arith in
    let first = reads from (omega arith) (omega (arith, whole, some)) in
    let second = writes to (omega arith) (omega (arith, whole, some)) in
    let rest =
    turns_cost cost read write unit (from + unit) (to + unit) n some
    (λ a low high. reads a (omega (arith, low)) (omega (arith, high, whole)))
    (λ a low high. writes a (omega (arith, low)) (omega (arith, high, whole))) in
    let one = sum_by-cons cost (read_at from) (write_at to ∷ turn_accesses unit (from + unit) (to + unit) n) in
    let two = sum_by-cons cost (write_at to) (turn_accesses unit (from + unit) (to + unit) n) in
    let more_reads : suc n * read ≡ read + n * read = grind arith in
    let more_writes : suc n * write ≡ write + n * write = grind arith in
    omega (arith, first, second, rest, one, two, more_reads, more_writes)

unit_some : (words : Bool) → 1 ≤ unit_bytes words
unit_some true = omega arith
unit_some false = omega arith

turns_fit : (words : Bool) (bytes : ℕ) → bytes / unit_bytes words * unit_bytes words ≤ bytes
turns_fit true bytes = omega arith
turns_fit false bytes = omega arith

module _ (board : Board) where
  -- ---- one job

  abbrev pub job_paid : CopyJob → ℕ
  job_paid job = job_run job * board.prices.main_fetch + accesses_cost board (job_accesses job)

  -- that reads memory of one kind, and writes memory of one kind
  pub job_cost : (job : CopyJob) (read write : Bool) → ((a : ℕ) → job.from ≤ a → a < job.from + job.bytes → is_fast board a ≡ read) → ((a : ℕ) → job.to ≤ a → a < job.to + job.bytes → is_fast board a ≡ write) → job_paid job ≡ job_price board.prices (read_price read board.prices) (write_price write board.prices) (turns job)
  unfolding job_accesses
  job_cost job read write reads writes =
      let unit : ℕ = unit_bytes (copies_words job) in
      let n : ℕ = turns job in
      let fits = turns_fit (copies_words job) job.bytes in
      let told =
      turns_cost (access_cost board) (read_price read board.prices) (write_price write board.prices) unit job.from job.to n (unit_some (copies_words job))
      (λ a low high. ap (λ (b : Bool). read_price b board.prices) (reads a low (omega (arith, high, fits))))
      (λ a low high. ap (λ (b : Bool). write_price b board.prices) (writes a low (omega (arith, high, fits)))) in
      omega (arith, told)

  -- ---- jobs in order

  pub jobs_paid : (jobs : List CopyJob) → jobs_run jobs * board.prices.main_fetch + accesses_cost board (jobs_accesses jobs) ≡ sum_by job_paid jobs
  jobs_paid [] = omega arith
  jobs_paid (job ∷ jobs) =
      let rest = jobs_paid jobs in
      let told =
      ap (accesses_cost board) (flat_map-cons job_accesses job jobs) ∙ accesses_joined board (job_accesses job) (jobs_accesses jobs) in
      let words : (job_run job + jobs_run jobs) * board.prices.main_fetch ≡ job_run job * board.prices.main_fetch + jobs_run jobs * board.prices.main_fetch = grind arith in
      let more = sum_by-cons job_paid job jobs in
      omega (arith, rest, told, words, more)
