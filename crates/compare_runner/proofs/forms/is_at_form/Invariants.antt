use Rattle.compare_runner.proofs.FormLemmas.{NoneBelow}
use Rattle.compare_runner.proofs.forms.is_at_form.Given as goal

-- none of the forms so far is one of the unit
abbrev pub invariant-loop-k : goal.invariant-loop-k
invariant-loop-k l = NoneBelow l.sought l.patched l.pc l.k
