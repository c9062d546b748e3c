-- The law of a switch that changes the region.
use Rattle.std.specs.Prelude.{ℕ, ◌+◌, ◌<◌, Bool, List}
use Rattle.flat_machine.specs.State.{State}
use Rattle.flat_machine.specs.Sizes.{HasWords}
use Rattle.patch_code.specs.declared.job.CopyJob.{CopyJob}
use Rattle.patch_code.specs.Switches.{CameTo, Switched}
use Rattle.object_machine.specs.Program.{Program}
use Rattle.simulation.specs.Setups.{Setup}
use Rattle.simulation.specs.Changes.{ChangesRegion}
use Rattle.simulation.specs.RegionLaws.{matters}
use Rattle.result_laws.specs.Serves.{IsOfRegion, JobsServe}

-- a switch whose jobs serve changes the region
abbrev pub SwitchesChange : Type 0
SwitchesChange =
    (p : Program) (l : Setup) (live : ℕ → ℕ → Bool) (base lo size from to u a temp : ℕ) (jobs : List CopyJob) (t t' : State)
    → base + 64 < 4294967296 → Switched base lo size to jobs t.hart.mem t'.hart.mem → CameTo a temp t t' → HasWords t'
    → (matters live u temp → ⊥) → JobsServe p l base from to jobs → IsOfRegion p l from to t.hart.mem
    → ChangesRegion p l (matters live) from to u t t'
