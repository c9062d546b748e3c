use Rattle.std.proofs.Common.{◌≡◌, ◌∙◌, ℕ, [], sym, ap, subst, arith}
use Rattle.certificate_checker.specs.Prices.{priced_at}
use Rattle.certificate_checker.specs.Loading.{IsLoaded}
use Rattle.certificate_checker.specs.LastDuals.{IsKeptText}
use Rattle.certificate_checker.specs.declared.loading.Loaded.{Loaded}
use Rattle.certificate_checker.proofs.CreditLemmas.{credits_none}
use Rattle.certificate_checker.proofs.LoadLemmas.{loaded_none}
use Rattle.certificate_checker.proofs.LastLemmas.{none_priced}
use Rattle.certificate_checker.proofs.dual_prices.DualPrices.forget.Goals as goal

pub returns-clause-last : goal.returns-clause-last
returns-clause-last c side marks =
    let stamp = c.args.stamp in
    let none : (j : ℕ) → priced_at stamp c.fill.new.self.items j ≡ 0 = λ j. ap (λ ps. priced_at stamp ps j) (c.fill.ensures.items (λ y same. same)) ∙ none_priced _ stamp j in
    let row_end = ap (λ (l : Loaded). l.row_end) c.nothing_loaded-self.ensures in
    let bound = ap (λ (l : Loaded). l.bound) c.nothing_loaded-self.ensures in
    let credit = ap (λ (l : Loaded). l.credit) c.nothing_loaded-self.ensures in (
      [],
      (
        record {
          least = omega arith;
          most = omega arith;
          loaded = subst (λ e. IsLoaded side (priced_at stamp c.fill.new.self.items) e c.nothing_loaded-self.result.bound []) (sym row_end)
              (subst (λ b. IsLoaded side (priced_at stamp c.fill.new.self.items) 0 b []) (sym bound) (loaded_none side (priced_at stamp c.fill.new.self.items) none));
          credit = credit ∙ credits_none side marks 1 (priced_at stamp c.fill.new.self.items) none;
        },
        subst (λ text. IsKeptText text 1 []) (sym c.clear.ensures.items) tt,
      ),
    )
