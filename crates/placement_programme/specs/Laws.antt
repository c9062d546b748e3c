-- What is claimed of programmes and of their rows.
use Rattle.std.specs.Prelude.{◌≡◌, ◌↔◌, ℕ, ◌<◌, ◌≤◌, pos, Bool, true, false, List, [], ◌∷◌, length}
use Rattle.std.specs.List.{All}
use Rattle.std.specs.List.Sorted.{IsStrictlyIncreasing}
use Rattle.placement_programme.specs.Plain.{PlainSide, PlainProgramme}
use Rattle.placement_programme.specs.Bounds.{AscendWithin, RowsWithin}
use Rattle.placement_programme.specs.Programme.{load, Fits, IsFeasible, gain, nothing}
use Rattle.placement_programme.specs.Sums.{takes}
use Rattle.placement_programme.specs.Rows.{Layout, Datum, Part, Candidate, static_data, static_code, overlay_data, overlay_code, kept_data, capacities, weights, IsOfSide, IsCandidateOf}

-- the empty choice is feasible and gains nothing
abbrev pub NothingIsFeasible : Type 0
NothingIsFeasible = (p : PlainProgramme) → IsFeasible p nothing × (gain p nothing ≡ pos 0)

-- to take nothing fits every side
abbrev pub NothingFits : Type 0
NothingFits = (side : PlainSide) → Fits side []

-- a candidate's weights stand in rows of its side, one a row
abbrev pub WeightsAreInRows : Type 0
WeightsAreInRows =
    (on : Bool) (l : Layout) (candidate : Candidate) → IsCandidateOf l candidate → IsOfSide on candidate
    → RowsWithin 0 (length (capacities on l)) (weights on l candidate)

-- the numbers of a choice that fits are those that increase strictly and are below the count of variables
abbrev pub NumbersAscend : Type 0
NumbersAscend =
    (count : ℕ) (numbers : List ℕ) → AscendWithin 0 count numbers ↔ (IsStrictlyIncreasing numbers × All (λ n. n < count) numbers)

-- what takes more variables loads each row at least as much
abbrev pub MoreLoad : Type 0
MoreLoad =
    (side : PlainSide) (some more : List ℕ) (row : ℕ) → AscendWithin 0 (length side.vars) some
    → AscendWithin 0 (length side.vars) more → ((k : ℕ) → takes some k ≡ true → takes more k ≡ true)
    → load side some row ≤ load side more row

-- so what is left of taken variables that fit does, too
abbrev pub FewerFit : Type 0
FewerFit =
    (side : PlainSide) (some more : List ℕ) → Fits side more → AscendWithin 0 (length side.vars) some
    → ((k : ℕ) → takes some k ≡ true → takes more k ≡ true) → Fits side some

-- the layouts of the examples: a patch range of 65536 bytes, no FENCE.I and a grain of 16
abbrev pub layout_with : (scratchpad blocks objects regions : ℕ) → List ℕ → Layout
layout_with scratchpad blocks objects regions displaced =
    record {
      scratchpad = scratchpad;
      patch = 65536;
      fence_i = false;
      twins = false;
      blocks = blocks;
      objects = objects;
      regions = regions;
      displaced = displaced;
      grain = 16;
    }

-- an example: six blocks and one object of 256 bytes at 0x11000, with a scratchpad of 256 bytes
abbrev pub example_layout : Layout
example_layout = layout_with 256 6 1 0 []

abbrev pub example_table : Candidate
example_table = static_data record { number = 0; home = 69632; size = 256; writable = true }

abbrev pub ExampleRows : Type 0
ExampleRows = capacities false example_layout ≡ 256 ∷ 65452 ∷ 1 ∷ 1 ∷ 1 ∷ 1 ∷ 1 ∷ 1 ∷ []

abbrev pub ExampleWeights : Type 0
ExampleWeights = weights false example_layout example_table ≡ (0, 256) ∷ (1, 44) ∷ []

-- an example with two regions: three blocks, two border entries of two and three displaced words, and two objects
abbrev pub region_layout : Layout
region_layout = layout_with 1024 3 2 2 (2 ∷ 3 ∷ [])

abbrev pub first_table : Datum
first_table = record { number = 0; home = 69632; size = 1020; writable = false }

abbrev pub second_table : Datum
second_table = record { number = 1; home = 70660; size = 16; writable = true }

abbrev pub last_blocks : Part
last_blocks = record { first = 1; last = 2; copied = 20; plain_entries = 1; border_entries = 2 ∷ 3 ∷ [] }

-- the patch range has 84 + 4 * 24 + 4 * 25 + 4 * 17 fixed bytes
abbrev pub RegionRows : Type 0
RegionRows =
    capacities true region_layout ≡ 1024 ∷ 1024 ∷ 1024 ∷ 65188 ∷ 1 ∷ 1 ∷ 1 ∷ 1 ∷ 1 ∷ 1 ∷ 1 ∷ []

abbrev pub RegionWeights : Type 0
RegionWeights =
    (weights true region_layout (static_data first_table)
    ≡ (0, 1024) ∷ (1, 1024) ∷ (2, 1024) ∷ (3, 44) ∷ (7, 1) ∷ (8, 1) ∷ [])
    × (weights true region_layout (overlay_data 2 second_table) ≡ (2, 32) ∷ (3, 88) ∷ (10, 1) ∷ [])
    × (weights true region_layout (overlay_code 1 last_blocks) ≡ (1, 32) ∷ (3, 68) ∷ (5, 1) ∷ (6, 1) ∷ [])
    × (weights false region_layout (static_code last_blocks) ≡ (0, 32) ∷ (1, 88) ∷ (3, 1) ∷ (4, 1) ∷ [])

-- the same file where the board asks for twins: 24 bytes more for each of the two, and what a table weighs that they keep
abbrev pub twin_layout : Layout
twin_layout =
    record {
      scratchpad = 1024;
      patch = 65536;
      fence_i = false;
      twins = true;
      blocks = 3;
      objects = 2;
      regions = 2;
      displaced = 2 ∷ 3 ∷ [];
      grain = 16;
    }

abbrev pub TwinRows : Type 0
TwinRows = capacities true twin_layout ≡ 1024 ∷ 1024 ∷ 1024 ∷ 65140 ∷ 1 ∷ 1 ∷ 1 ∷ 1 ∷ 1 ∷ 1 ∷ 1 ∷ []

abbrev pub TwinWeights : Type 0
TwinWeights =
    (weights true twin_layout (kept_data 1 first_table) ≡ (1, 1024) ∷ (2, 1024) ∷ (3, 88) ∷ (7, 1) ∷ (8, 1) ∷ [])
    × (weights true twin_layout (kept_data 1 second_table) ≡ (1, 32) ∷ (2, 32) ∷ (3, 176) ∷ (9, 1) ∷ (10, 1) ∷ [])
