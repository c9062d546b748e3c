use Rattle.std.proofs.Common.{◌≡◌, ◌++◌, drop}
use Rattle.std.specs.List.{flat_map}
use Rattle.patch_code.specs.Jobs.{copying}
use Rattle.patch_code.proofs.job_code.push_jobs.Given as goal

abbrev pub invariant-loop-job : goal.invariant-loop-job
invariant-loop-job l =
    l.code.items ++ flat_map copying (drop l.job-index l.jobs) ≡ l.fn.code.items ++ flat_map copying l.jobs
