-- Where the search of the stated list stands, and what is known there.
use Rattle.std.specs.Prelude.{ℕ, ◌+◌, ◌*◌, ◌<◌, Bool, true, false, List, [], ◌∷◌, length, None}
use Rattle.placement_programme.specs.Plain.{PlainSide}
use Rattle.certificate_checker.specs.NodeLists.{PlainNode}
use Rattle.certificate_checker.specs.declared.fixings.Fixing.{Fixing}
use Rattle.branch_bound.specs.Ranking.{PassedOver, number_at}
use Rattle.branch_bound.specs.Searching.{IsKnown, IsOpened, Finds}
use Rattle.branch_bound.specs.Trails.{steps_on, nodes_on, place_of, Way, IsBehind, IsWhole}
use Rattle.branch_bound.specs.declared.open_branches.OpenBranch.{OpenBranch}
use Rattle.branch_bound.specs.declared.ranking.Ranked.{Ranked}
use Rattle.branch_bound.specs.declared.running.Running.{Running}
use Rattle.branch_bound.specs.declared.stands.Next.{Next}
use Rattle.branch_bound.specs.declared.stands.Stand.{Stand}
use Rattle.branch_bound.specs.declared.stands.Stand.TheVariants.{Before, Behind, Ended}
use Rattle.branch_bound.specs.declared.trails.Trail.{Trail}

abbrev pub is_ended : Stand → Bool
is_ended (Before next) = false
is_ended Behind = false
is_ended (Ended whole) = true

-- a node can be visited
pub record CanVisit (s : PlainSide) (ranking : List Ranked) (marks : List Fixing) (best : ℕ) (next : Next) : Type 0 where
  pub passed : PassedOver ranking marks next.place
  pub known : IsKnown s best marks next.raised

-- the last step can be taken back
abbrev pub CanLeave : List Ranked → List OpenBranch → Type 0
CanLeave ranking [] = Unit {0}
CanLeave ranking (last ∷ steps) = place_of last < length ranking

abbrev pub CanAdvance : PlainSide → List Ranked → List OpenBranch → List Fixing → ℕ → Stand → Type 0
CanAdvance s ranking steps marks best (Before next) = CanVisit s ranking marks best next
CanAdvance s ranking steps marks best Behind = CanLeave ranking steps
CanAdvance s ranking steps marks best (Ended whole) = Unit {0}

-- what is known before a node
pub record IsBefore (on : Bool) (s : PlainSide) (ranking : List Ranked) (root : List Fixing) (start : Running) (trail : Trail) (marks : List Fixing) (run : Running) (next : Next) : Type 0 where
  pub way : Way (number_at ranking) (IsOpened on s ranking) (Finds on s) root start (steps_on trail) (nodes_on trail) marks run
  pub visit : CanVisit s ranking marks run.best.gain next

-- what is known at the end of a search
abbrev pub IsEnd : Bool → PlainSide → List Fixing → Running → List PlainNode → List Fixing → Running → Bool → Type 0
IsEnd on s root start nodes marks run true = IsWhole (Finds on s) root start nodes marks run
IsEnd on s root start nodes marks run false = Finds on s root start run None

abbrev pub Stands : Bool → PlainSide → List Ranked → List Fixing → Running → Trail → List Fixing → Running → Stand → Type 0
Stands on s ranking root start trail marks run (Before next) = IsBefore on s ranking root start trail marks run next
Stands on s ranking root start trail marks run Behind =
    IsBehind (number_at ranking) (IsOpened on s ranking) (Finds on s) root start (steps_on trail) (nodes_on trail) marks run
Stands on s ranking root start trail marks run (Ended whole) = IsEnd on s root start (nodes_on trail) marks run whole

-- what is left to do, in units that each step forward uses up
abbrev pub weight_of : Stand → ℕ
weight_of (Before next) = 1
weight_of Behind = 2
weight_of (Ended whole) = 0

abbrev pub ahead : Running → Trail → Stand → ℕ
ahead run trail stand = 5 * run.left + 3 * length (steps_on trail) + weight_of stand
