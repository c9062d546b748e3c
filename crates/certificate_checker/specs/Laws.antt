-- What is claimed of certificates.
use Rattle.std.specs.Prelude.{◌≡◌, ◌↔◌, ℕ, ◌≤ℤ◌, List, Ok}
use Rattle.placement_programme.specs.Plain.{PlainProgramme, PlainChoice}
use Rattle.placement_programme.specs.Programme.{IsFeasible, gain, energy}
use Rattle.certificate_checker.specs.Nodes.{PlainCertificate}
use Rattle.certificate_checker.specs.Reading.{certificate_of}
use Rattle.certificate_checker.specs.Spelling.{Spells, AreBytes}
use Rattle.certificate_checker.specs.Shows.{Shows, PlainVerdict, Answers}

-- no feasible choice has less energy than one that a certificate shows to be best
abbrev pub ShownIsLeast : Type 0
ShownIsLeast =
    (p : PlainProgramme) (c : PlainCertificate) (other : PlainChoice) → Shows p c → IsFeasible p other
    → (gain p other ≤ℤ gain p c.choice) × (energy p c.choice ≤ℤ energy p other)

-- a certificate has one answer
abbrev pub OneAnswer : Type 0
OneAnswer =
    (p : PlainProgramme) (c : PlainCertificate) (v w : PlainVerdict) → Answers p c v → Answers p c w → v ≡ w

-- what is read is what the bytes spell
abbrev pub ReadsSpelled : Type 0
ReadsSpelled =
    (bytes : List ℕ) (c : PlainCertificate) → AreBytes bytes → (certificate_of bytes ≡ Ok c) ↔ Spells bytes c

-- bytes spell at most one certificate
abbrev pub OneCertificate : Type 0
OneCertificate = (bytes : List ℕ) (c d : PlainCertificate) → Spells bytes c → Spells bytes d → c ≡ d

-- a certificate has one spelling
abbrev pub OneText : Type 0
OneText = (bytes other : List ℕ) (c : PlainCertificate) → Spells bytes c → Spells other c → bytes ≡ other
