-- What the walk over a tree answers.
use Rattle.std.specs.Prelude.{◌≡◌, ℕ, ◌+◌, List, Option, Result, Ok, Err}
use Rattle.placement_programme.specs.Plain.{PlainSide}
use Rattle.certificate_checker.specs.Nodes.{PlainTree, size}
use Rattle.certificate_checker.specs.Rules.{Holds, FirstWrong}
use Rattle.certificate_checker.specs.Shows.{ShownBy, SideWrong, in_32_bits}
use Rattle.certificate_checker.specs.declared.walking.Failing.{Failing}
use Rattle.certificate_checker.specs.declared.fixings.Fixing.{Fixing}

-- the node and the depth that a walk from `node` and `depth` tells
abbrev pub IsAt : ℕ → ℕ → Failing → ℕ → ℕ → Type 0
IsAt node depth f n d = (f.node ≡ in_32_bits (node + n)) × (f.depth ≡ in_32_bits (depth + d))

abbrev pub FailsIn : PlainSide → ℕ → List Fixing → PlainTree → ℕ → ℕ → Failing → Type 0
FailsIn s best marks t node depth f =
    (n : ℕ) × ((d : ℕ) × (FirstWrong s best marks t n d × IsAt node depth f n d))

-- the whole tree holds, and the number behind its last node; or its first failing node
abbrev pub Walks : PlainSide → ℕ → List Fixing → PlainTree → ℕ → ℕ → Result ℕ Failing → Type 0
Walks s best marks t node depth (Ok next) =
    Holds s best marks t × (next ≡ in_32_bits (node + size t))
Walks s best marks t node depth (Err f) = FailsIn s best marks t node depth f

-- what a side is answered
abbrev pub SideAnswers : Option PlainSide → ℕ → Option PlainTree → Result (Unit {0}) Failing → Type 0
SideAnswers side best t (Ok u) = ShownBy side best t
SideAnswers side best t (Err f) =
    (n : ℕ) × ((d : ℕ) × (SideWrong side best t n d × IsAt 0 0 f n d))
