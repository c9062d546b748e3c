-- The programme that the runs of a program on several inputs state, each with a weight.
use Rattle.std.specs.Prelude.{◌≡◌, ℕ, ◌≤◌, List, [], ◌∷◌, ◌++◌, length, Err}
use Rattle.std.specs.List.{All}
use Rattle.elf_reader.specs.File.{PlainView}
use Rattle.elf_reader.specs.declared.view.ElfView.{ElfView}
use Rattle.board_config.specs.declared.board.Board.{Board}
use Rattle.object_graph.specs.declared.parts.Graph.{Graph}
use Rattle.code_blocks.specs.declared.parts.Code.{Code}
use Rattle.block_splitter.specs.declared.piece.Piece.{Piece}
use Rattle.region_former.specs.declared.table.RegionTable.{RegionTable}
use Rattle.placement_programme.specs.Plain.{PlainFull, PlainProgramme}
use Rattle.profile_runner.specs.declared.counts.Profile.{Profile}
use Rattle.profile_runner.specs.declared.fault.ProfileFault.{ProfileFault}
use Rattle.energy_model.specs.Scenes.{scene_of}
use Rattle.placement_candidates.specs.Overlaid.{AreOverlaidObjects, overlay_layout}
use Rattle.placement_candidates.specs.Parts.{PlainPart, IsMix}
use Rattle.placement_candidates.specs.Mixed.{WeightedRun, mixed_stated, EnergiesAreMixed}
use Rattle.relinking.specs.Runs.{ReportsCounts}
use Rattle.relinking.specs.ProgrammeOfRun.{RunsOn, StatesFull}
use Rattle.relinking.specs.declared.mixing.WeightedBytes.{WeightedBytes}

-- an input, and how much its run counts
pub record WeightedInput : Type 0 where
  pub weight : ℕ
  pub bytes : List ℕ

abbrev pub plain_input : WeightedBytes → WeightedInput
plain_input i = record { weight = i.weight; bytes = i.bytes.now }

-- there are 1 to 16, with weights from 1 to 1,000
pub record AreSomeInputs (inputs : List WeightedInput) : Type 0 where
  pub some : 1 ≤ length inputs
  pub few : length inputs ≤ 16
  pub weights : All (λ i. (1 ≤ i.weight) × (i.weight ≤ 1000)) inputs

-- the program meets no address fault on any of the inputs, and each run has its input's weight
abbrev pub AreRunsOn : PlainView → Board → Graph → List WeightedInput → List WeightedRun → Type 0
AreRunsOn v board g [] [] = Unit {0}
AreRunsOn v board g [] (r ∷ rs) = ⊥
AreRunsOn v board g (i ∷ is) [] = ⊥
AreRunsOn v board g (i ∷ is) (r ∷ rs) =
    (r.weight ≡ i.weight) × RunsOn v board g i.bytes r.transitions × AreRunsOn v board g is rs

-- what the run on an input states, with the input's weight
pub record IsPartOf (view : ElfView) (board : Board) (g : Graph) (c : Code) (t : RegionTable) (pieces : List Piece) (objects : List ℕ) (input : WeightedInput) (p : PlainPart) : Type 0 where
  pub weight : p.weight ≡ input.weight
  pub profile : Profile
  pub states : StatesFull view board g c t pieces objects input.bytes p.full profile

-- these are the parts of the inputs, in their order
abbrev pub ArePartsOf : ElfView → Board → Graph → Code → RegionTable → List Piece → List ℕ → List WeightedInput → List PlainPart → Type 0
ArePartsOf view board g c t pieces objects [] [] = Unit {0}
ArePartsOf view board g c t pieces objects [] (p ∷ ps) = ⊥
ArePartsOf view board g c t pieces objects (i ∷ is) [] = ⊥
ArePartsOf view board g c t pieces objects (i ∷ is) (p ∷ ps) =
    IsPartOf view board g c t pieces objects i p × ArePartsOf view board g c t pieces objects is ps

-- what the runs on these inputs state, mixed
pub record AreMixed (view : ElfView) (board : Board) (g : Graph) (c : Code) (t : RegionTable) (pieces : List Piece) (objects : List ℕ) (inputs : List WeightedInput) (f : PlainFull) : Type 0 where
  pub parts : List PlainPart
  pub are : ArePartsOf view board g c t pieces objects inputs parts
  pub mix : IsMix parts f

-- The runs on these inputs state this programme together, for the objects that may move, of which these may be overlaid, and
-- for these pieces of code.
pub record StatesTogether (v : PlainView) (board : Board) (g : Graph) (c : Code) (t : RegionTable) (pieces : List Piece) (inputs : List WeightedInput) (p : PlainProgramme) : Type 0 where
  pub runs : List WeightedRun
  pub are_runs : AreRunsOn v board g inputs runs
  pub overlaid : List ℕ
  pub are_overlaid : AreOverlaidObjects c g t overlaid
  pub programme_is : p ≡ mixed_stated (scene_of g c t board) (overlay_layout g c t board) overlaid pieces runs
  pub energies : EnergiesAreMixed (scene_of g c t board) runs p

-- the run on one of the inputs meets this address fault, and those on the inputs before it meet none; or no memory was left
pub record FaultsFirst (v : PlainView) (board : Board) (g : Graph) (c : Code) (t : RegionTable) (inputs : List WeightedInput) (fault : ProfileFault) : Type 0 where
  pub before : List WeightedInput
  pub one : WeightedInput
  pub after : List WeightedInput
  pub inputs_are : inputs ≡ before ++ one ∷ after
  pub earlier_runs : List WeightedRun
  pub earlier : AreRunsOn v board g before earlier_runs
  pub faults : ReportsCounts v board g c t one.bytes (Err fault)
