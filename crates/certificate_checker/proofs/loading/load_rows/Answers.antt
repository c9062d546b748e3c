use Rattle.std.proofs.Common.{◌∙◌, [], take, subst, sym, ap}
use Rattle.std.proofs.lemmas.List.{take_more}
use Rattle.placement_programme.specs.Views.{plain_side}
use Rattle.certificate_checker.specs.Prices.{priced_at}
use Rattle.certificate_checker.specs.declared.loading.Loaded.{Loaded}
use Rattle.certificate_checker.specs.Loading.{IsLoaded}
use Rattle.certificate_checker.proofs.LoadLemmas.{loaded_none, rows_before}
use Rattle.certificate_checker.proofs.CreditLemmas.{credits_none, credits_few}
use Rattle.certificate_checker.proofs.loading.load_rows.Goals as goal

pub loop-entry-init : goal.loop-entry-init
loop-entry-init c =
    let s = plain_side c.args.pricing.now.side.now in
    let price = priced_at c.args.pricing.now.stamp c.args.prices.now in
    let row_end = ap (λ (l : Loaded). l.row_end) c.nothing_loaded-loaded.ensures in
    let bound = ap (λ (l : Loaded). l.bound) c.nothing_loaded-loaded.ensures in
    let credit = ap (λ (l : Loaded). l.credit) c.nothing_loaded-loaded.ensures in
    record {
      loaded = subst (λ e. IsLoaded s price e c.nothing_loaded-loaded.result.bound []) (sym row_end) (subst (λ b. IsLoaded s price 0 b []) (sym bound) (loaded_none s price c.requires.clear));
      credit = credit ∙ credits_none s c.args.pricing.now.marks.now c.args.pricing.now.scale price c.requires.clear;
    }

pub loop-entry-preserved : goal.loop-entry-preserved
loop-entry-preserved c =
    let s = plain_side c.args.pricing.now.side.now in
    let ms = c.args.multipliers.now in
    let i = c.loop-entry.entry-index in
    let so_far = c.loop-entry.invariant.loaded in
    let low = so_far.tight _ (rows_before 0 _ ms i (0, 0) c.requires.rows c.loop-entry-test.true) in
    record {
      loaded = subst (λ rows. IsLoaded s (priced_at c.args.pricing.now.stamp c.load_entry-loaded.new.prices) c.load_entry-loaded.result.row_end c.load_entry-loaded.result.bound rows) (sym (take_more ms i (0, 0) c.loop-entry-test.true)) (c.load_entry-loaded.ensures.loaded (take i ms) so_far low);
      credit = c.load_entry-loaded.ensures.credit;
    }

pub returns-clause-few : goal.returns-clause-few
returns-clause-few c =
    credits_few (plain_side c.args.pricing.now.side.now) c.args.pricing.now.marks.now c.args.pricing.now.scale (priced_at c.args.pricing.now.stamp c.loop-entry.prices) c.loop-entry.loaded.credit c.args.pricing.now.side.now.bounds c.loop-entry.invariant.loaded.lowest c.loop-entry.invariant.credit
