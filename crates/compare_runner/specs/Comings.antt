-- Where the flat machine comes to the units of a program, in a result of it.
use Rattle.std.specs.Prelude.{◌≡◌, ◌⊎◌, ℕ, ◌<◌, ◌≤◌, true, if◌then◌else◌, List, [], ◌∷◌, ◌++◌, length, Option, None, Contains}
use Rattle.board_config.specs.declared.board.Board.{Board}
use Rattle.flat_machine.specs.Mapping.{in_range}
use Rattle.flat_machine.specs.State.{State}
use Rattle.flat_machine.specs.Runs.{Does}
use Rattle.flat_machine.specs.declared.events.FlatAccess.{FlatAccess}
use Rattle.flat_machine.specs.declared.events.FlatEvent.{FlatEvent}
use Rattle.code_blocks.specs.Early.{has}
use Rattle.profile_runner.specs.Standing.{number_of, region_of, entered}
use Rattle.relink_core.specs.declared.unit_forms.UnitAt.{UnitAt}

-- ---- the first of several steps

-- the steps of a machine up to the first behind which `Stops` holds, or none where it holds before any
pub record StopsFirst (Stops : List FlatEvent → State → Type 0) (s : State) (es : List FlatEvent) (t : State) : Type 0 where
  pub does : Does es s t
  pub stops : Stops es t
  pub first : (fs : List FlatEvent) (m : State) → length fs < length es → Does fs s m → Stops fs m → ⊥

-- it holds behind none of the first `most`
abbrev pub StopsNever : (List FlatEvent → State → Type 0) → ℕ → State → Type 0
StopsNever Stops most s = (es : List FlatEvent) (t : State) → length es ≤ most → Does es s t → Stops es t → ⊥

-- ---- the access of a step

-- that of the first of some steps
abbrev pub first_access : List FlatEvent → Option FlatAccess
first_access [] = None
first_access (e ∷ es) = e.access

-- ---- regions

-- the region that is current once a unit is reached: if a block begins there, its own, if it has one
abbrev pub region_behind : List ℕ → List ℕ → ℕ → ℕ → ℕ
region_behind starts regions from at =
    if has starts at then entered from (region_of regions (number_of starts at)) else from

-- ---- forms

-- the last of some steps fetched its word in the patch range
pub record EndsInPatch (board : Board) (es : List FlatEvent) : Type 0 where
  pub before : List FlatEvent
  pub last : FlatEvent
  pub whole : es ≡ before ++ last ∷ []
  pub fetched : in_range board.patch last.at ≡ true

-- Behind these steps control is at a form of a unit that stands while region `to` is current. If another was current, `from`,
-- a form of one region alone is reached from the patch range: before, what the other region has may stand at its place
pub record IsAtForm (units : List UnitAt) (board : Board) (from to home : ℕ) (es : List FlatEvent) (t : State) : Type 0 where
  pub form : UnitAt
  pub listed : Contains units form
  pub home_is : form.home ≡ home
  pub at : form.at ≡ t.hart.pc
  pub stands : (form.region ≡ 0) ⊎ ((form.region ≡ to) × ((from ≡ to) ⊎ EndsInPatch board es))
