-- The sums over an assignment that are kept with it.
use Rattle.std.specs.Prelude.{◌≡◌, ℕ, ◌≤◌, List, [], length, slice_index, slice_set}
use Rattle.placement_programme.specs.Plain.{PlainSide}
use Rattle.placement_programme.specs.Programme.{gain_at}
use Rattle.placement_programme.specs.Sums.{sum_below}
use Rattle.certificate_checker.specs.Fixings.{fixing_of}
use Rattle.certificate_checker.specs.Rules.{if_one, load_of, kept_at}
use Rattle.certificate_checker.specs.declared.fixings.Fixing.{Fixing}
use Rattle.certificate_checker.specs.declared.fixings.Fixing.TheVariants.{Zero, One, Free}
use Rattle.certificate_checker.specs.declared.assignments.Assignment.{Assignment}

-- the load of each row
abbrev pub AreLoads : PlainSide → List Fixing → List ℕ → Type 0
AreLoads s marks loads = (row : ℕ) → slice_index loads row ≡ load_of s marks row

-- one for a free variable
abbrev pub if_free : Fixing → ℕ
if_free Zero = 0
if_free One = 0
if_free Free = 1

-- how many variables are free
abbrev pub free_of : PlainSide → List Fixing → ℕ
free_of s marks = sum_below (length s.vars) (λ j. if_free (fixing_of marks j))

pub record AreTallies (s : PlainSide) (a : Assignment) : Type 0 where
  pub marked : length s.vars ≤ length a.marks.items
  pub room : length a.loads.items ≡ length s.rows
  pub loads : AreLoads s a.marks.items a.loads.items
  pub gains : a.gains ≡ sum_below (length s.vars) (λ j. if_one (fixing_of a.marks.items j) (gain_at s.vars j))
  pub bound : a.bound ≡ sum_below (length s.vars) (kept_at s a.marks.items 1 [])
  pub free_count : a.free_count ≡ free_of s a.marks.items

-- an assignment with a mark for each variable and no more
pub record IsAssignmentOf (s : PlainSide) (a : Assignment) : Type 0 where
  pub tallies : AreTallies s a
  pub long : length a.marks.items ≡ length s.vars

-- an assignment of a side has room for its marks and loads, whatever they are
pub record HasRoomFor (s : PlainSide) (a : Assignment) : Type 0 where
  pub marks : length a.marks.items ≡ length s.vars
  pub loads : length a.loads.items ≡ length s.rows

-- an assignment has room for the same sides
pub record HasSameRoomFor (old new : Assignment) : Type 0 where
  pub marks : length new.marks.items ≡ length old.marks.items
  pub loads : length new.loads.items ≡ length old.loads.items

-- a variable is fixed or freed, and the sums follow
pub record Fixes (s : PlainSide) (j : ℕ) (fixing : Fixing) (old new : Assignment) : Type 0 where
  pub tallies : AreTallies s new
  pub marks : new.marks.items ≡ slice_set old.marks.items j fixing
