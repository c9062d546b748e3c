use Rattle.std.proofs.Common.{◌≡◌, ◌∙◌, suc, ◌-◌, [], ◌∷◌, ◌++◌, sym, ap, subst, arith}
use Rattle.std.proofs.lemmas.Result.{err_from_is_err_and}
use Rattle.placement_programme.specs.Bounds.{row_of}
use Rattle.placement_programme.specs.Views.{plain_side}
use Rattle.certificate_checker.specs.Prices.{priced_at}
use Rattle.certificate_checker.specs.declared.loading.Loaded.{Loaded}
use Rattle.certificate_checker.specs.Reading.{entry_at, entries_at}
use Rattle.certificate_checker.specs.Loading.{IsLoaded}
use Rattle.certificate_checker.proofs.LoadLemmas.{entry_from, loaded_none, front_none}
use Rattle.certificate_checker.proofs.CreditLemmas.{credits_none, credits_few}
use Rattle.certificate_checker.proofs.ManyLemmas.{with_front, goes_on, ends, is_done}
use Rattle.certificate_checker.proofs.loading.load_entries.Goals as goal

pub loop-init : goal.loop-init
loop-init c =
    let total = c.args.total in
    let s = plain_side c.args.pricing.now.side.now in
    let price = priced_at c.args.pricing.now.stamp c.args.prices.now in
    let read = entries_at total c.args.count 0 c.args.bytes.now in
    let all : c.args.count - 0 ≡ c.args.count = omega arith in
    let row_end = ap (λ (l : Loaded). l.row_end) c.nothing_loaded-loaded.ensures in
    let bound = ap (λ (l : Loaded). l.bound) c.nothing_loaded-loaded.ensures in
    let credit = ap (λ (l : Loaded). l.credit) c.nothing_loaded-loaded.ensures in
    record {
      read = (
        [],
        (
          subst (λ low. with_front [] (entries_at total (c.args.count - 0) low c.args.bytes.now) ≡ read) (sym row_end)
              (subst (λ n. with_front [] (entries_at total n 0 c.args.bytes.now) ≡ read) (sym all) (front_none read)),
          subst (λ e. IsLoaded s price e c.nothing_loaded-loaded.result.bound []) (sym row_end)
              (subst (λ b. IsLoaded s price 0 b []) (sym bound) (loaded_none s price c.requires.clear)),
        ),
      );
      credit = credit ∙ credits_none s c.args.pricing.now.marks.now c.args.pricing.now.scale price c.requires.clear;
      stamps = λ limit order all. all;
    }

pub returns-in_err-found-clause-loads : goal.returns-in_err-found-clause-loads
returns-in_err-found-clause-loads c =
    let inv = c.loop.invariant.read in
    let p = err_from_is_err_and c.from_residual.result c.from_residual.ensures.1 in
    rw (p.1, p.2) (ends (λ low rest. entry_at low c.args.total rest) row_of c.in_err-found.field-0.0 inv.0 c.args.count c.loop.counter c.loop.loaded.row_end c.loop.rest.now (entries_at c.args.total c.args.count 0 c.args.bytes.now) c.loop-test.true c.in_err-found.ensures inv.1.0)

pub loop-preserved : goal.loop-preserved
loop-preserved c =
    let inv = c.loop.invariant.read in
    let low = entry_from c.args.total c.loop.loaded.row_end c.loop.rest.now (c.in_ok-found.found, c.in_ok-found.after.now) c.in_ok-found.ensures in
    let loaded = c.load_entry-loaded.ensures.loaded inv.0 inv.1.1 low in
    let row_end = c.load_entry-loaded.ensures.row_end in
    let next : c.load_entry-loaded.result.row_end ≡ suc (row_of c.in_ok-found.found) = omega (arith, row_end) in
    record {
      read = (
        inv.0 ++ c.in_ok-found.found ∷ [],
        (
          goes_on (λ low rest. entry_at low c.args.total rest) row_of inv.0 c.args.count c.loop.counter c.loop.loaded.row_end c.loop.rest.now c.in_ok-found.found c.in_ok-found.after.now c.load_entry-loaded.result.row_end (entries_at c.args.total c.args.count 0 c.args.bytes.now) c.loop-test.true c.in_ok-found.ensures next inv.1.0,
          loaded,
        ),
      );
      credit = c.load_entry-loaded.ensures.credit;
      stamps = λ limit order all. c.load_entry-loaded.ensures.stamps limit order (c.loop.invariant.stamps limit order all);
    }

pub returns-clause-loads : goal.returns-clause-loads
returns-clause-loads c =
    let inv = c.loop.invariant.read in (
      inv.0,
      (
        is_done (λ low rest. entry_at low c.args.total rest) row_of inv.0 c.args.count c.loop.counter c.loop.loaded.row_end c.loop.rest.now (entries_at c.args.total c.args.count 0 c.args.bytes.now) c.loop-test.false inv.1.0,
        inv.1.1,
        c.loop.invariant.credit,
      ),
    )

pub returns-clause-few : goal.returns-clause-few
returns-clause-few c =
    let s = plain_side c.args.pricing.now.side.now in
    credits_few s c.args.pricing.now.marks.now c.args.pricing.now.scale (priced_at c.args.pricing.now.stamp c.loop.prices) c.loop.loaded.credit c.args.pricing.now.side.now.bounds c.loop.invariant.read.1.1.lowest c.loop.invariant.credit
