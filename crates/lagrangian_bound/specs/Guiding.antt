-- What is told of the answers of the guide that bounds by a Lagrangian dual.
use Rattle.std.specs.Prelude.{ℕ, List}
use Rattle.placement_programme.specs.Plain.{PlainSide}
use Rattle.certificate_checker.specs.declared.fixings.Fixing.{Fixing}
use Rattle.lagrangian_bound.specs.declared.bounding.DualBound.{DualBound}
use Rattle.lagrangian_bound.specs.declared.guiding.NodeBound.{NodeBound}

-- nothing is told of them
abbrev pub any_answer : DualBound → PlainSide → List Fixing → ℕ → NodeBound → DualBound → Type 0
any_answer old s marks best answer new = Unit {0}
