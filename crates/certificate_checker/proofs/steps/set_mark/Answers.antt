use Rattle.certificate_checker.proofs.TallyLemmas.{fixed_exact}
use Rattle.certificate_checker.proofs.steps.set_mark.Goals as goal

pub returns-in-Ok-clause-exact : goal.returns-in-Ok-clause-exact
returns-in-Ok-clause-exact c = fixed_exact _ _ _ _ _ c.requires.exact c.fix_priced.ensures.fixes
