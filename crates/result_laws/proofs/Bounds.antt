-- How many steps the start stub and the arrival behind it take.
use Rattle.std.proofs.Common.{◌≡◌, ℕ, ◌+◌, ◌-◌, ◌*◌, ◌/◌, ◌≤◌, Bool, true, false, List, [], ◌∷◌, length, arith}
use Rattle.std.specs.Prelude.{All}
use Rattle.std.proofs.lemmas.List.Elements.{All-head, All-tail}
use Rattle.std.proofs.lemmas.List.Sums.{sum_by-cons}
use Rattle.std.proofs.lemmas.Nat.{mul-le}
use Rattle.board_config.specs.declared.board.Board.{Board}
use Rattle.patch_code.specs.declared.job.CopyJob.{CopyJob}
use Rattle.patch_code.specs.Jobs.{unit_bytes, copies_words, job_run, fences, jobs_run}
use Rattle.patch_code.specs.Counts.{span, spans}
use Rattle.patch_code.specs.Start.{StartPlan, start_run}
use Rattle.result_laws.specs.ResultLaws.{most_steps}

-- ---- jobs

few_turns : (words : Bool) (n : ℕ) → n / unit_bytes words ≤ n
few_turns true n = omega arith
few_turns false n = omega arith

abbrev pub HasBytes : CopyJob → Type 0
HasBytes job = 1 ≤ job.bytes

job_short : (job : CopyJob) → 1 ≤ job.bytes → job_run job ≤ 6 * span job
job_short job some = let few = few_turns (copies_words job) job.bytes in omega (arith, few, some)

-- at most six words run for each byte that jobs take
pub jobs_short : (jobs : List CopyJob) → All HasBytes jobs → jobs_run jobs ≤ 6 * spans jobs
jobs_short [] some = omega arith
jobs_short (job ∷ jobs) some =
    let first = job_short job (All-head HasBytes job jobs some) in
    let rest = jobs_short jobs (All-tail HasBytes job jobs some) in
    let whole = sum_by-cons span job jobs in
    omega (arith, first, rest, whole)

fence_short : (fence : Bool) → length (fences fence) ≤ 1
fence_short true = omega arith
fence_short false = omega arith

-- ---- the whole

-- Where a stub's jobs take so many bytes of the scratchpad, and an arrival at most twelve steps for each byte that they leave
-- and some more, the stub, an arrival and so many steps for each of the program's are within the bound.
sum_short : (start taken size most n : ℕ) → taken ≤ size → start ≤ 6 * taken + 6 → most ≤ 12 * (size - taken) + 93 → start + (most + n * (4 + most)) ≤ (n + 1) * (12 * size + 256)
sum_short start taken size most n fits short few =
    let all : n * (4 + most) ≤ n * (12 * size + 256) = mul-le n (4 + most) n (12 * size + 256) (omega arith) (omega (arith, few)) in
    let split : (n + 1) * (12 * size + 256) ≡ n * (12 * size + 256) + (12 * size + 256) = omega arith in
    omega (arith, fits, short, few, all, split)

pub start_short : (plan : StartPlan) (board : Board) (most n : ℕ) → All HasBytes plan.jobs → spans plan.jobs ≤ board.spm.size → most ≤ 12 * (board.spm.size - spans plan.jobs) + 93 → start_run plan + (most + n * (4 + most)) ≤ (n + 1) * most_steps board
start_short plan board most n some fits few =
    let jobs = jobs_short plan.jobs some in
    let fence = fence_short plan.fence_i in
    sum_short (start_run plan) (spans plan.jobs) board.spm.size most n fits (omega (arith, jobs, fence)) few
