-- What is fixed of the variables on the way to a node.
use Rattle.std.specs.Prelude.{ℕ, Bool, true, false, List, slice_index_or}
use Rattle.certificate_checker.specs.declared.fixings.Fixing.{Fixing}
use Rattle.certificate_checker.specs.declared.fixings.Fixing.TheVariants.{Zero, One, Free}

-- how variable `j` is fixed
abbrev pub fixing_of : List Fixing → ℕ → Fixing
fixing_of fixings j = slice_index_or fixings j Zero

abbrev pub is_free : Fixing → Bool
is_free Zero = false
is_free One = false
is_free Free = true
