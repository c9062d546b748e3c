-- An example: one region with one job of eight bytes, and a stub by x5 whose body jumps to the job's target.
use Rattle.std.specs.Prelude.{ℕ, false, List, [], ◌∷◌, ◌++◌}
use Rattle.rv32im.specs.Sequences.{MeanAll, jump_absolute}
use Rattle.patch_code.specs.declared.job.CopyJob.{CopyJob}
use Rattle.patch_code.specs.Parts.{SwitchPlan}
use Rattle.patch_code.specs.Switching.{routine, jobs_code}
use Rattle.patch_code.specs.Checking.{checking}

abbrev pub example_plan : SwitchPlan (List CopyJob)
example_plan =
    record {
      base = 0x90000;
      fence_i = false;
      twins = false;
      regions = 1;
      leave = λ i. [];
      enter = λ i. record { from = 0x9010c; to = 0x1000000; bytes = 8 } ∷ [];
      kept_leave = λ i. [];
      kept_enter = λ i. [];
    }

-- the stub with its body, and the routine
abbrev pub example_stub : List ℕ
example_stub =
    0x000902b7 ∷ 0x0002a283 ∷ 0xfff28293 ∷ 0x04028663 ∷ 0x000902b7 ∷ 0x0052a223
    ∷ 0x0062a423 ∷ 0x0072a623 ∷ 0x01c2a823 ∷ 0x01d2aa23 ∷ 0x01e2ac23 ∷ 0x01f2ae23
    ∷ 0x00100f13 ∷ 0x02c00eef ∷ 0x000902b7 ∷ 0x0042a003 ∷ 0x0082a303 ∷ 0x00c2a383
    ∷ 0x0102ae03 ∷ 0x0142ae83 ∷ 0x0182af03 ∷ 0x01c2af83 ∷ 0x010002b7 ∷ 0x00028067 ∷ []

abbrev pub example_routine : List ℕ
example_routine =
    0x000902b7 ∷ 0x0002a303 ∷ 0xfff30393 ∷ 0x00038463 ∷ 0x0040006f ∷ 0xffff0393
    ∷ 0x00038463 ∷ 0x0300006f ∷ 0x000902b7 ∷ 0x10c28293 ∷ 0x010003b7 ∷ 0x00038393
    ∷ 0x00090e37 ∷ 0x114e0e13 ∷ 0x0002af83 ∷ 0x01f3a023 ∷ 0x00428293 ∷ 0x00438393
    ∷ 0xffc298e3 ∷ 0x000902b7 ∷ 0x01e2a023 ∷ 0x000e8067 ∷ []

-- word by word
abbrev pub ExampleWords : Type 0
ExampleWords =
    MeanAll example_stub (checking 0x90000 5 1 0x90054 0x900b4 ++ jump_absolute 5 0x1000000)
    × MeanAll example_routine (routine jobs_code example_plan)
