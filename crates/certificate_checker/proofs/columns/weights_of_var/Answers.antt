use Rattle.std.proofs.Common.{◌≡◌, ◌∙◌, ℕ, List, map, length, sym, ap, subst, arith}
use Rattle.placement_programme.specs.Plain.{plain_var}
use Rattle.placement_programme.specs.declared.variables.Var.{Var}
use Rattle.placement_programme.specs.Bounds.{AreWeights}
use Rattle.placement_programme.specs.Programme.{weights_at}
use Rattle.placement_programme.proofs.WeightLemmas.{weights_are}
use Rattle.certificate_checker.proofs.Limits.{rows_few}
use Rattle.certificate_checker.proofs.columns.weights_of_var.Goals as goal

-- what was read are weights
found_weights : (rows number : ℕ) (vars read : List Var) (found : List (ℕ × ℕ)) → AreWeights rows (weights_at (map plain_var vars) number) → found ≡ weights_at (map plain_var read) number → read ≡ vars → AreWeights rows found
found_weights rows number vars read found are value same =
    subst (λ ws. AreWeights rows ws) (sym (value ∙ ap (λ vs. weights_at (map plain_var vs) number) same)) are

pub returns-clause-rows : goal.returns-clause-rows
returns-clause-rows c =
    let side = c.args.side.now in
    found_weights (length side.rows.items) c.args.number side.vars.items _ _ (weights_are (length side.rows.items) (map plain_var side.vars.items) c.args.number side.bounds.weights c.requires) c.weights_in.ensures c.deref.ensures.value

pub returns-clause-few : goal.returns-clause-few
returns-clause-few c =
    let side = c.args.side.now in
    let are = found_weights (length side.rows.items) c.args.number side.vars.items _ _ (weights_are (length side.rows.items) (map plain_var side.vars.items) c.args.number side.bounds.weights c.requires) c.weights_in.ensures c.deref.ensures.value in
    let few = rows_few (length side.rows.items) c.weights_in.result.now are.ascending in
    let most = side.bounds.few_rows in
    omega (arith, few, most)
