-- What the flat machine tells of its steps: accesses in order, and that it goes on.
use Rattle.std.specs.Prelude.{◌≡◌, ℕ, zero, suc, ◌+◌, ◌<◌, ◌≤◌, true, false, List, [], ◌∷◌, length, Option, Some, None, All}
use Rattle.std.specs.List.{flat_map}
use Rattle.flat_machine.specs.declared.events.FlatAccess.{FlatAccess}
use Rattle.flat_machine.specs.declared.events.FlatEvent.{FlatEvent}
use Rattle.flat_machine.specs.declared.events.FlatOutcome.TheVariants.{GoesOn}
use Rattle.flat_machine.specs.State.{State}
use Rattle.flat_machine.specs.Runs.{Does}
use Rattle.patch_code.specs.declared.job.CopyJob.{CopyJob}
use Rattle.patch_code.specs.Jobs.{copies_words, unit_bytes, turns}

abbrev pub access_in : Option FlatAccess → List FlatAccess
access_in None = []
access_in (Some access) = access ∷ []

-- the accesses of all events
abbrev pub accesses : List FlatEvent → List FlatAccess
accesses events = flat_map (λ event. access_in event.access) events

-- an event of a word that is fetched in a range, behind which the machine goes on
pub record IsFrom (lo size : ℕ) (event : FlatEvent) : Type 0 where
  pub low : lo ≤ event.at
  pub high : event.at < lo + size
  pub on : event.outcome ≡ GoesOn

-- `n` steps lead from one state to another. Each fetches in a range, and these are all accesses
pub record Way (lo size n : ℕ) (told : List FlatAccess) (s t : State) : Type 0 where
  pub events : List FlatEvent
  pub does : Does events s t
  pub count : length events ≡ n
  pub all : accesses events ≡ told
  pub fetched : All (IsFrom lo size) events

-- ---- accesses by address

abbrev pub read_at : ℕ → FlatAccess
read_at at = record { at = at; write = false }

abbrev pub write_at : ℕ → FlatAccess
write_at at = record { at = at; write = true }

-- a turn of a job reads a unit and writes it
abbrev pub turn_accesses : ℕ → ℕ → ℕ → ℕ → List FlatAccess
turn_accesses unit from to zero = []
turn_accesses unit from to (suc n) = read_at from ∷ write_at to ∷ turn_accesses unit (from + unit) (to + unit) n

unfoldable pub job_accesses : CopyJob → List FlatAccess
job_accesses job = turn_accesses (unit_bytes (copies_words job)) job.from job.to (turns job)

abbrev pub jobs_accesses : List CopyJob → List FlatAccess
jobs_accesses jobs = flat_map job_accesses jobs
