-- The lines of a report that tell how a choice was found, and what the run costs.
use Rattle.std.specs.Prelude.{◌≡◌, ℕ, pos, Bool, true, false, List, [], ◌∷◌, ◌++◌, codes}
use Rattle.std.specs.Fmt.{decimal}
use Rattle.placement_programme.specs.Plain.{PlainProgramme, PlainChoice}
use Rattle.placement_programme.specs.Programme.{energy}

-- the energy of the run before and after
abbrev pub energies_text : ℕ → ℕ → List ℕ
energies_text before after =
    codes "\nbefore " ++ (decimal before ++ (codes "\nafter " ++ (decimal after ++ 10 ∷ [])))

-- `optimal`, or `best found N`, and the energies
abbrev pub report_text : Bool → ℕ → ℕ → ℕ → List ℕ
report_text true nodes before after = codes "optimal" ++ energies_text before after
report_text false nodes before after = codes "best found " ++ (decimal nodes ++ energies_text before after)

-- the report on a choice of a programme: the energy with nothing taken, and that of the choice
pub record IsReport (p : PlainProgramme) (nodes : ℕ) (choice : PlainChoice) (optimal : Bool) (text : List ℕ) : Type 0 where
  pub after : ℕ
  pub after_is : pos after ≡ energy p choice
  pub text_is : text ≡ report_text optimal nodes p.base after
