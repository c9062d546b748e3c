-- Stubs of all kinds. A stub of no region is its body alone. Any other is checked first: it has its region brought in
-- where another is current.
use Rattle.std.specs.Prelude.{◌≡◌, ℕ, ◌+◌, ◌*◌, ◌==◌, if◌then◌else◌, List, [], ◌∷◌, ◌++◌, length}
use Rattle.std.specs.List.{sum_by}
use Rattle.rv32im.specs.declared.instructions.Instr.{Instr}
use Rattle.rv32im.specs.Sequences.{MeanAll, jump_absolute}
use Rattle.patch_code.specs.Checking.{checking}
use Rattle.patch_code.specs.Homes.{bytes_before}

-- what a stub ends with: a jump to the copy of its entry, or words that do what the home's word did
pub data StubBody : Type 0 where
  jumps_to : ℕ → StubBody
  runs_words : List ℕ → StubBody

-- a stub that serves the entry at `home`, with a register that is dead there
pub record ServingStub : Type 0 where
  pub home : ℕ
  pub temp : ℕ
  pub region : ℕ
  pub body : StubBody

-- ---- its words

-- what stands before its body
abbrev pub test_code : ℕ → ℕ → ℕ → ℕ → ℕ → List Instr
test_code base temp at switch r = if r == 0 then [] else checking base temp r at switch

abbrev pub IsBody : ℕ → StubBody → List ℕ → Type 0
IsBody temp (jumps_to to) words = MeanAll words (jump_absolute temp to)
IsBody temp (runs_words given) words = words ≡ given

-- these are the words of a stub at `at`, for control words at `base` and the routine at `switch`
pub record AreStubWords (base switch at : ℕ) (stub : ServingStub) (words : List ℕ) : Type 0 where
  pub test : List ℕ
  pub body : List ℕ
  pub whole : words ≡ test ++ body
  pub tests : MeanAll test (test_code base stub.temp at switch stub.region)
  pub does : IsBody stub.temp stub.body body

-- ---- its bytes

abbrev pub test_bytes : ℕ → ℕ
test_bytes r = if r == 0 then 0 else 88

abbrev pub body_bytes : StubBody → ℕ
body_bytes (jumps_to to) = 8
body_bytes (runs_words words) = 4 * length words

abbrev pub serving_size : ServingStub → ℕ
serving_size stub = test_bytes stub.region + body_bytes stub.body

abbrev pub serving_bytes : List ServingStub → ℕ
serving_bytes stubs = sum_by serving_size stubs

-- ---- stubs one behind the other

abbrev pub AreServed : ℕ → ℕ → ℕ → List ServingStub → List ℕ → Type 0
AreServed base switch at [] words = words ≡ []
AreServed base switch at (stub ∷ stubs) words =
    (here : List ℕ) × ((rest : List ℕ) × ((words ≡ here ++ rest)
    × (AreStubWords base switch at stub here × AreServed base switch (at + serving_size stub) stubs rest)))

abbrev pub serving_home : ServingStub → ℕ
serving_home stub = stub.home

-- the bytes of those whose homes are lower
abbrev pub served_before : ℕ → List ServingStub → ℕ
served_before home stubs = bytes_before serving_home serving_size home stubs

-- where each stands, the first at an address, and where the last one ends
abbrev pub places_from : ℕ → List ServingStub → List ℕ
places_from at [] = at ∷ []
places_from at (stub ∷ stubs) = at ∷ places_from (at + serving_size stub) stubs
