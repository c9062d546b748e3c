-- What the start stub and plain stubs do on the flat machine, and where the parts of the code stand.
use Rattle.std.specs.Prelude.{◌≡◌, ℕ, ◌+◌, ◌*◌, ◌%◌, ◌<◌, ◌≤◌, List, [], length, slice_index, slice_index_or, All}
use Rattle.rv32im.specs.Memory.{Memory}
use Rattle.rv32im.specs.Acts.{Registers}
use Rattle.rv32im.specs.Sequences.{MeanAll}
use Rattle.flat_machine.specs.declared.events.FlatOutcome.TheVariants.{GoesOn}
use Rattle.flat_machine.specs.State.{State}
use Rattle.flat_machine.specs.Lines.{AreMapped, HoldsAt, IsAtWords, Ran, words_from}
use Rattle.patch_code.specs.Start.{StartPlan, CanStart, BeginWithStart, start_at, start_bytes, start_run, cleared}
use Rattle.patch_code.specs.Jobs.{all_copied, CanCopy}
use Rattle.patch_code.specs.Told.{Way, jobs_accesses}
use Rattle.patch_code.specs.PlainStubs.{PlainStub, stub_code, stub_bytes}
use Rattle.patch_code.specs.Layout.{CodePlan, AreCodeWords, stub_place, stubs_at, images_at, image_places, bytes_behind}

-- the flat machine goes on at the start stub, whose words stand in its memory; any registers
pub record IsAtStart (p : StartPlan) (code : List ℕ) (s : State) : Type 0 where
  pub going : s.outcome ≡ GoesOn
  pub pc : s.hart.pc ≡ start_at p
  pub bytes : (a : ℕ) → s.hart.mem a < 256
  pub words : HoldsAt s.hart.mem p.base code
  pub fetched : AreMapped s.map p.base (4 * length code)
  pub copied : All (CanCopy s.map) p.jobs

-- the program can begin: the targets hold the bytes of the sources, the registers that were used
-- are 0, and all else is as it was
abbrev pub started : StartPlan → State → State
started p s =
    record s {
      hart = record {
        pc = p.entry;
        regs = cleared s.hart.regs;
        mem = all_copied s.hart.mem p.jobs;
      };
    }

-- the start stub does so, in just so many steps of its words, with the accesses of its jobs; any words may stand behind it
abbrev pub StartRuns : Type 0
StartRuns =
    (p : StartPlan) (words : List ℕ) (s : State) → CanStart p → BeginWithStart p words →
    IsAtStart p words s → Way (start_at p) (start_bytes p) (start_run p) (jobs_accesses p.jobs) s (started p s)

-- ---- plain stubs

-- the two words of a plain stub run without an access: control is where it goes, and all registers but its own are as
-- they were
abbrev pub PlainStubRuns : Type 0
PlainStubRuns =
    (stub : PlainStub) (words : List ℕ) (at : ℕ) (s : State) → (stub.temp ≡ 0 → ⊥) → stub.to % 2 ≡ 0 →
    stub.to < 4294967296 → at % 4 ≡ 0 → at + 4 < 4294967296 → MeanAll words (stub_code stub) → IsAtWords s at words →
    (regs : Registers) × (Ran s (words_from at 2) regs stub.to
    × ((k : ℕ) → (k ≡ stub.temp → ⊥) → regs k ≡ s.hart.regs k))

-- ---- places

-- words that mean a stub stand at its place
abbrev pub StubStands : CodePlan → Memory → PlainStub → Type 0
StubStands p mem stub =
    (words : List ℕ) × (MeanAll words (stub_code stub) × HoldsAt mem (stub_place p stub) words)

-- a stub's place is that of a word, between the start stub and the images
pub record LiesInside (p : CodePlan) (stub : PlainStub) : Type 0 where
  pub aligned : stub_place p stub % 4 ≡ 0
  pub from : stubs_at p ≤ stub_place p stub
  pub ends : stub_place p stub + stub_bytes stub ≤ images_at p

-- images stand in memory, one behind the other
abbrev pub ImagesStand : Memory → ℕ → List (List ℕ) → Type 0
ImagesStand mem first images =
    (j : ℕ) → j < length images → HoldsAt mem (slice_index (image_places first images) j) (slice_index_or images j [])

-- where the words of a plan stand in memory, each stub and each image stands at its place. There are as many words as
-- the parts take
pub record PartsStand : Type 0 where
  pub stubs : (p : CodePlan) (words : List ℕ) (mem : Memory) → AreCodeWords p words →
      HoldsAt mem p.start.base words → All (StubStands p mem) p.stubs
  pub images : (p : CodePlan) (words : List ℕ) (mem : Memory) → AreCodeWords p words →
      HoldsAt mem p.start.base words → ImagesStand mem (images_at p) p.images
  pub inside : (p : CodePlan) → p.start.base % 4 ≡ 0 → All (LiesInside p) p.stubs
  pub count : (p : CodePlan) (words : List ℕ) → AreCodeWords p words →
      4 * length words ≡ 64 + start_bytes p.start + bytes_behind p
