use Rattle.std.proofs.Common.{◌≡◌, [], length, sym, subst, ap, arith}
use Rattle.std.proofs.lemmas.Bool.Decides.{nat_tests}
use Rattle.certificate_checker.specs.LastDuals.{IsBehindSame}
use Rattle.certificate_checker.proofs.LastLemmas.{behind_front}
use Rattle.certificate_checker.proofs.dual_prices.DualPrices.behind_same.Goals as goal

pub returns : goal.returns
returns c =
    let some : c.args.self.now.text.items ≡ [] → ⊥ = λ none. let long = ap length none in let tested = c.is_empty.ensures in let missed = c.if-is_empty.false in grind (arith, nat_tests, long, tested, missed) in
    subst (λ text. IsBehindSame text c.args.bytes.now c.strip_prefix.result) c.deref.ensures.value
    (behind_front c.deref.result.now c.args.bytes.now c.strip_prefix.result (subst (λ text. text ≡ [] → ⊥) (sym c.deref.ensures.value) some) c.strip_prefix.ensures.cases)
