-- What a certificate shows of a programme, and what is answered to it.
use Rattle.std.specs.Prelude.{◌≡◌, ◌⊎◌, ℕ, pos, min, List, length, Option, Some, None}
use Rattle.std.proofs.Common.{replicate}
use Rattle.placement_programme.specs.Plain.{PlainSide, PlainProgramme, PlainChoice}
use Rattle.placement_programme.specs.Programme.{IsFeasible, gain}
use Rattle.certificate_checker.specs.Nodes.{PlainTree, PlainCertificate}
use Rattle.certificate_checker.specs.Rules.{Holds, FirstWrong}
use Rattle.certificate_checker.specs.declared.fixings.Fixing.{Fixing}
use Rattle.certificate_checker.specs.declared.fixings.Fixing.TheVariants.{Free}

-- nothing is fixed
abbrev pub all_free : PlainSide → List Fixing
all_free s = replicate (length s.vars) Free

-- a choice is feasible and gains `best`, which is no less than 0
pub record IsAccepted (p : PlainProgramme) (c : PlainChoice) (best : ℕ) : Type 0 where
  pub feasible : IsFeasible p c
  pub gains : gain p c ≡ pos best

-- a side has a tree, and each node of it holds; a side that isn't there has none
abbrev pub ShownBy : Option PlainSide → ℕ → Option PlainTree → Type 0
ShownBy None best None = Unit {0}
ShownBy None best (Some tree) = ⊥
ShownBy (Some s) best None = ⊥
ShownBy (Some s) best (Some tree) = Holds s best (all_free s) tree

-- the trees show that nothing gains more than `best`
pub record ShowsBest (p : PlainProgramme) (c : PlainCertificate) (best : ℕ) : Type 0 where
  pub accepted : IsAccepted p c.choice best
  pub off : ShownBy (Some p.off) best c.off
  pub on : ShownBy p.on best c.on

abbrev pub Shows : PlainProgramme → PlainCertificate → Type 0
Shows p c = (best : ℕ) × ShowsBest p c best

-- the first node of a side's tree that fails: node 0 where a tree is missing, or the side
abbrev pub SideWrong : Option PlainSide → ℕ → Option PlainTree → ℕ → ℕ → Type 0
SideWrong None best None node depth = ⊥
SideWrong None best (Some tree) node depth = (node ≡ 0) × (depth ≡ 0)
SideWrong (Some s) best None node depth = (node ≡ 0) × (depth ≡ 0)
SideWrong (Some s) best (Some tree) node depth = FirstWrong s best (all_free s) tree node depth

-- the first of both sides, off before on: 0 is off, 1 is on
abbrev pub TreeWrong : PlainProgramme → PlainCertificate → ℕ → ℕ → ℕ → ℕ → Type 0
TreeWrong p c best side node depth =
    ((side ≡ 0) × SideWrong (Some p.off) best c.off node depth)
    ⊎ ((side ≡ 1) × ShownBy (Some p.off) best c.off × SideWrong p.on best c.on node depth)

-- a certificate without a tree claims no more than that its choice is feasible
abbrev pub HasNoTree : PlainCertificate → Type 0
HasNoTree c = (c.off ≡ None) × (c.on ≡ None)

abbrev pub HasTree : PlainCertificate → Type 0
HasTree c = HasNoTree c → ⊥

-- numbers of 32 bits stop at their greatest
unfoldable pub in_32_bits : ℕ → ℕ
in_32_bits n = min n 4294967295

-- an answer as plain numbers
pub data PlainVerdict : Type 0 where
  optimal : PlainVerdict
  best_found : PlainVerdict
  bad_choice : PlainVerdict
  wrong : (side node depth : ℕ) → PlainVerdict

-- a certificate's answer
abbrev pub Answers : PlainProgramme → PlainCertificate → PlainVerdict → Type 0
Answers p c bad_choice = (best : ℕ) → IsAccepted p c.choice best → ⊥
Answers p c best_found = ((best : ℕ) × IsAccepted p c.choice best) × (c.off ≡ None) × (c.on ≡ None)
Answers p c optimal = Shows p c
Answers p c (wrong side node depth) =
    (best : ℕ)
    × ((n : ℕ)
    × ((d : ℕ)
    × (IsAccepted p c.choice best
    × HasTree c
    × TreeWrong p c best side n d
    × (node ≡ in_32_bits n)
    × (depth ≡ in_32_bits d))))
