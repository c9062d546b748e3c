-- The programme that the run of a file's program states, and what it is stated from.
use Rattle.std.proofs.Common.{◌≡◌, ℕ, ◌+◌, ◌≤◌, ℤ, pos, ◌-ℤ◌, ◌≤ℤ◌, Bool, true, false, if◌then◌else◌, List, length, None, refl, sym, subst, arith}
use Rattle.elf_reader.specs.File.{plain_view}
use Rattle.elf_reader.specs.declared.view.ElfView.{ElfView}
use Rattle.board_config.specs.Board.{IsLawful}
use Rattle.board_config.specs.declared.board.Board.{Board}
use Rattle.loaded_file.specs.Read.{IsRead}
use Rattle.object_graph.specs.Graphs.{IsGraph}
use Rattle.object_graph.specs.declared.parts.Graph.{Graph}
use Rattle.block_splitter.specs.declared.piece.Piece.{Piece}
use Rattle.code_blocks.specs.Leaders.{is_leader}
use Rattle.code_blocks.specs.Blocks.{IsCode, code_fault}
use Rattle.code_blocks.specs.Numbers.{starts_of}
use Rattle.code_blocks.specs.declared.parts.Code.{Code}
use Rattle.object_machine.specs.Program.{program_of}
use Rattle.object_machine.specs.State.{SourceState}
use Rattle.object_machine.specs.Start.{start_of}
use Rattle.region_former.specs.declared.table.RegionTable.{RegionTable}
use Rattle.std.proofs.lemmas.Int.{ints}
use Rattle.placement_programme.specs.Programme.{IsFeasible, gain}
use Rattle.placement_programme.specs.Plain.{PlainProgramme, PlainChoice}
use Rattle.profile_runner.specs.Transition.{Transition}
use Rattle.profile_runner.specs.Running.{Profiles}
use Rattle.profile_runner.specs.declared.counts.Profile.{Profile}
use Rattle.rv32im.proofs.Meaning.{same_instruction}
use Rattle.energy_model.specs.Energy.{Scene, energy}
use Rattle.placement_candidates.specs.Stated.{AreSomePieces}
use Rattle.energy_model.specs.Scenes.{scene_of, AreOfSameFile}
use Rattle.placement_candidates.specs.Overlaid.{AreOverlaidObjects, overlay_layout}
use Rattle.placement_candidates.specs.Whole.{whole_stated, taken_of}
use Rattle.placement_candidates.proofs.WholeChoices.{whole_of_the_run}
use Rattle.placement_candidates.specs.Mixed.{WeightedRun, mixed_energy, EnergiesAreMixed}
use Rattle.relink_core.specs.Faults.{least_patch}
use Rattle.relinking.specs.ProgrammeOfRun.{EnergiesAreOf}

start_fits : (fence : Bool) (size : ℕ) → least_patch fence ≤ size → 84 + (if fence then 4 else 0) ≤ size
start_fits true size room = omega (arith, room)
start_fits false size room = omega (arith, room)

-- a run from the start, and what it is a run of
pub of_one_file : (view : ElfView) (board : Board) (g : Graph) (c : Code) (t : RegionTable) (input : List ℕ) (q : Profile) (last : SourceState)
    → IsRead view → IsLawful board → IsGraph (plain_view view) board g → IsCode (plain_view view) c
    → code_fault (plain_view view) ≡ None → least_patch board.fence_i ≤ board.patch.size → is_leader (plain_view view) view.entry ≡ true
    → length t.of_block.items ≡ length c.blocks.items
    → (made : Profiles (starts_of c) t.of_block.items t.count (length g.objects.items) (program_of (plain_view view) board g) board.steps (start_of (plain_view view) (program_of (plain_view view) board g) g input) last q)
    → AreOfSameFile view board g c t q made.transitions
of_one_file view board g c t input q last read lawful is_graph is_code no_fault room entry one_each made =
    record {
      read = read;
      lawful = lawful;
      graph = is_graph;
      code = is_code;
      regions = one_each;
      patch = start_fits board.fence_i board.patch.size room;
      no_code_fault = no_fault;
      run = record {
        from = start_of (plain_view view) (program_of (plain_view view) board g) g input;
        to = last;
        going = refl;
        entry = refl;
        begins = entry;
        run = made.run;
        profile = made.profile;
      };
    }

-- the energies of what the run states are those of the run
pub energies_of : (view : ElfView) (board : Board) (g : Graph) (c : Code) (t : RegionTable) (pieces : List Piece) (objects : List ℕ) (q : Profile) (transitions : List Transition) (p : PlainProgramme)
    → AreOfSameFile view board g c t q transitions → AreSomePieces c g pieces → AreOverlaidObjects c g t objects
    → p ≡ whole_stated (scene_of g c t board) (overlay_layout g c t board) objects pieces transitions
    → EnergiesAreOf (scene_of g c t board) transitions p
energies_of view board g c t pieces objects q transitions p one are overlaid is =
    let w = scene_of g c t board in
    let of_stated : EnergiesAreOf w transitions (whole_stated w (overlay_layout g c t board) objects pieces transitions) =
    λ choice feasible. whole_of_the_run same_instruction view board g c t q objects pieces transitions choice one are overlaid feasible in
    subst (λ (r : PlainProgramme). EnergiesAreOf w transitions r) (sym is) of_stated

-- ---- energies

pub at_most_base : (base : ℕ) (saved : ℤ) (n : ℕ) → pos base -ℤ saved ≡ pos n → saved ≤ℤ pos base
at_most_base base saved n is = omega (arith, ints, is)

-- a choice whose energy is that of a run saves no more than the base
pub within_base : (w : Scene) (transitions : List Transition) (p : PlainProgramme) → EnergiesAreOf w transitions p
    → (c : PlainChoice) → IsFeasible p c → gain p c ≤ℤ pos p.base
within_base w transitions p energies c feasible = at_most_base p.base (gain p c) (energy w (taken_of p c) transitions) (energies c feasible)

pub mixed_within : (w : Scene) (runs : List WeightedRun) (p : PlainProgramme) → EnergiesAreMixed w runs p
    → (c : PlainChoice) → IsFeasible p c → gain p c ≤ℤ pos p.base
mixed_within w runs p energies c feasible = at_most_base p.base (gain p c) (mixed_energy w (taken_of p c) runs) (energies c feasible)
