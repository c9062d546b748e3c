-- Where a search that a guide leads stands, and what is known there.
use Rattle.std.specs.Prelude.{ℕ, suc, ◌+◌, ◌*◌, ◌<◌, Bool, true, false, List, [], ◌∷◌, length, Option, None, is_some}
use Rattle.std.specs.List.{count_by}
use Rattle.placement_programme.specs.Plain.{PlainSide, PlainProgramme}
use Rattle.certificate_checker.specs.Fixings.{is_free}
use Rattle.certificate_checker.specs.Nodes.{PlainTree}
use Rattle.certificate_checker.specs.NodeLists.{PlainNode}
use Rattle.certificate_checker.specs.declared.fixings.Fixing.{Fixing}
use Rattle.lagrangian_bound.specs.declared.guiding.NodeBound.{NodeBound}
use Rattle.branch_bound.specs.Guided.{Spends, Searches, stand}
use Rattle.branch_bound.specs.Incumbents.{GoesOn}
use Rattle.branch_bound.specs.Trails.{steps_on, nodes_on, place_of, Way, IsBehind, IsWhole}
use Rattle.branch_bound.specs.Visits.{ShownWithin}
use Rattle.branch_bound.specs.declared.open_branches.OpenBranch.{OpenBranch}
use Rattle.branch_bound.specs.declared.side_incumbents.Incumbent.{Incumbent}
use Rattle.branch_bound.specs.declared.side_stands.Stand.{Stand}
use Rattle.branch_bound.specs.declared.side_stands.Stand.TheVariants.{Before, Behind, Ended}
use Rattle.branch_bound.specs.declared.side_visiting.Visit.TheVariants.{Open}
use Rattle.branch_bound.specs.declared.trails.Trail.{Trail}

abbrev pub is_side_ended : Stand → Bool
is_side_ended Before = false
is_side_ended Behind = false
is_side_ended (Ended whole) = true

-- a branch is written by its variable's number
abbrev pub number_itself : ℕ → ℕ
number_itself number = number

-- a node was visited, and branched on
pub record IsOpenedBy {G : Type 0} (answers : G → PlainSide → List Fixing → ℕ → NodeBound → G → Type 0) (p : PlainProgramme) (on : Bool) (s : PlainSide) (var : ℕ) (marks : List Fixing) (old new : G × Incumbent) : Type 0 where
  pub spends : Spends answers p on s marks (stand old.0 old.1) (Open var) (stand new.0 new.1)

-- what the search below some marks finds: a tree that closes them, or no end
pub record FindsBy {G : Type 0} (answers : G → PlainSide → List Fixing → ℕ → NodeBound → G → Type 0) (p : PlainProgramme) (on : Bool) (s : PlainSide) (marks : List Fixing) (old new : G × Incumbent) (tree : Option PlainTree) : Type 0 where
  pub goes_on : GoesOn p old.1 new.1
  pub shown : ShownWithin s new.1.gain marks (suc (count_by is_free marks)) tree
  pub searches : Searches answers p on s marks (stand old.0 old.1) (is_some tree) (stand new.0 new.1)

abbrev pub SideWay : {G : Type 0} → (G → PlainSide → List Fixing → ℕ → NodeBound → G → Type 0) → PlainProgramme → Bool → PlainSide → List Fixing → G × Incumbent → Trail → List Fixing → G × Incumbent → Type 0
SideWay answers p on s root start trail marks now =
    Way number_itself (IsOpenedBy answers p on s) (FindsBy answers p on s) root start (steps_on trail) (nodes_on trail) marks now

abbrev pub IsSideEnd : {G : Type 0} → (G → PlainSide → List Fixing → ℕ → NodeBound → G → Type 0) → PlainProgramme → Bool → PlainSide → List Fixing → G × Incumbent → List PlainNode → List Fixing → G × Incumbent → Bool → Type 0
IsSideEnd answers p on s root start nodes marks now true = IsWhole (FindsBy answers p on s) root start nodes marks now
IsSideEnd answers p on s root start nodes marks now false = FindsBy answers p on s root start now None

abbrev pub SideStands : {G : Type 0} → (G → PlainSide → List Fixing → ℕ → NodeBound → G → Type 0) → PlainProgramme → Bool → PlainSide → List Fixing → G × Incumbent → Trail → List Fixing → G × Incumbent → Stand → Type 0
SideStands answers p on s root start trail marks now Before = SideWay answers p on s root start trail marks now
SideStands answers p on s root start trail marks now Behind =
    IsBehind number_itself (IsOpenedBy answers p on s) (FindsBy answers p on s) root start (steps_on trail) (nodes_on trail) marks now
SideStands answers p on s root start trail marks now (Ended whole) =
    IsSideEnd answers p on s root start (nodes_on trail) marks now whole

-- the last step can be taken back
abbrev pub IsOfSideVars : PlainSide → List OpenBranch → Type 0
IsOfSideVars s [] = Unit {0}
IsOfSideVars s (last ∷ steps) = place_of last < length s.vars

abbrev pub CanStepBack : PlainSide → List OpenBranch → Stand → Type 0
CanStepBack s steps Before = Unit {0}
CanStepBack s steps Behind = IsOfSideVars s steps
CanStepBack s steps (Ended whole) = Unit {0}

-- what is left to do, in units that each step forward uses up
abbrev pub side_weight : Stand → ℕ
side_weight Before = 1
side_weight Behind = 2
side_weight (Ended whole) = 0

abbrev pub side_ahead : Incumbent → Trail → Stand → ℕ
side_ahead best trail stand = 5 * best.left + 3 * length (steps_on trail) + side_weight stand
