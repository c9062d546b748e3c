-- The words in which the lemmas on what a placed result costs speak.
use Rattle.std.proofs.Common.{ℕ, suc, Bool, List, Option}
use Rattle.board_config.specs.declared.board.Board.{Board}
use Rattle.object_graph.specs.declared.parts.Graph.{Graph}
use Rattle.code_blocks.specs.Numbers.{starts_of}
use Rattle.code_blocks.specs.declared.parts.Code.{Code}
use Rattle.block_splitter.specs.declared.block_range.BlockRange.{BlockRange}
use Rattle.profile_runner.specs.Standing.{begins, block_of}
use Rattle.profile_runner.specs.Transition.{Transition}
use Rattle.energy_model.specs.Energy.{Scene, Taken, piece_of}
use Rattle.result_laws.specs.ChosenPlacement.{ChosenPlacement}
use Rattle.paid_energy.specs.WalkCosts.{placed_scene, placed_names}

-- what energies are counted of, what is taken, and the piece of a block
pub record PlacedScene : Type 0 where
  pub w : Scene
  pub taken : Taken
  pub named : ℕ → Option BlockRange

abbrev pub scene_in : (board : Board) (g : Graph) (c : Code) (pl : ChosenPlacement) → PlacedScene
scene_in board g c pl =
    record {
      w = placed_scene board g c pl;
      taken = placed_names board pl;
      named = λ b. piece_of (placed_names board pl).names b;
    }

-- the blocks of a transition and of the next one, and whether that one begins its block
pub record StepScene : Type 0 where
  pub b : ℕ
  pub d : ℕ
  pub begun : Bool

abbrev pub step_in : (c : Code) (ts : List Transition) (j : ℕ) → StepScene
step_in c ts j =
    record {
      b = block_of (starts_of c) ts j;
      d = block_of (starts_of c) ts (suc j);
      begun = begins (starts_of c) ts (suc j);
    }
