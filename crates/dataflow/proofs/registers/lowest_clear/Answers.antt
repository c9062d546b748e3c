use Rattle.std.proofs.Common.{◌≡◌, ℕ, true, inl, inr, sym, subst, arith, rules}
use Rattle.std.proofs.lemmas.Bool.{cases_eq}
use Rattle.reach_graph.specs.Reaching.{HasMark}
use Rattle.dataflow.proofs.registers.lowest_clear.Goals as goal

pub loop-register-preserved : goal.loop-register-preserved
loop-register-preserved c x from less =
    elim (cases_eq x c.loop-register.register) [
      | inl same ↦
          let on : c.has.result ≡ true = search rules in
          subst (λ (r : ℕ). HasMark c.args.word r) (sym same) (c.has.ensures.0 on)
      | inr other ↦ c.loop-register.invariant x from (omega (arith, less, other))
    ]
