use Rattle.std.proofs.Common.{◌≡◌, length, sym, subst, arith}
use Rattle.std.proofs.lemmas.List.{with_items_is}
use Rattle.placement_programme.specs.Views.{plain_side}
use Rattle.certificate_checker.specs.Prices.{priced_at, AreFrom, credits}
use Rattle.certificate_checker.specs.Loading.{IsLoaded}
use Rattle.certificate_checker.specs.declared.fields.Part.TheVariants.{Node}
use Rattle.certificate_checker.proofs.CreditLemmas.{from_less}
use Rattle.certificate_checker.proofs.StreamLemmas.{number_from}
use Rattle.certificate_checker.proofs.LastLemmas.{text_read, text_kept}
use Rattle.certificate_checker.proofs.dual_prices.read_dual.Goals as goal

pub slice_bounds-keep_text-count : goal.slice_bounds-keep_text-count
slice_bounds-keep_text-count c =
    let loads = c.in_ok-loaded.ensures.loads in
    (text_read c.args.task.now.total c.args.bytes.now _ _ _ _ loads.0 c.in_ok-loaded.rest.now (λ i. omega (arith, c.type_inv.bytes i)) c.in_ok-scale.ensures.gives c.in_ok-count.ensures loads.1.0).shorter

pub returns-clause-fresh : goal.returns-clause-fresh
returns-clause-fresh c =
    let here = length c.args.bytes.now in
    let long = c.load_entries.auto.prices in
    let room = c.deref_mut.ensures.len in
    let whole = with_items_is c.args.prices.now.list c.load_entries.new.prices (omega (arith, long, room)) in
    let before = from_less here _ c.args.prices.now.list.items (omega arith) c.requires.fresh in
    subst (λ ps. AreFrom here ps) (sym whole) (c.load_entries.ensures.stamps here (omega arith) (subst (λ ps. AreFrom here ps) (sym c.deref_mut.ensures.value) before))

pub returns-clause-loads : goal.returns-clause-loads
returns-clause-loads c =
    let s = plain_side c.args.task.now.side.now in
    let total = c.args.task.now.total in
    let stamp = length c.args.bytes.now in
    let scale = c.in_ok-scale.scale in
    let long = c.load_entries.auto.prices in
    let room = c.deref_mut.ensures.len in
    let whole = with_items_is c.args.prices.now.list c.load_entries.new.prices (omega (arith, long, room)) in
    let loads = c.in_ok-loaded.ensures.loads in
    let node = text_read total c.args.bytes.now scale _ _ _ loads.0 c.in_ok-loaded.rest.now (λ i. omega (arith, c.type_inv.bytes i)) c.in_ok-scale.ensures.gives c.in_ok-count.ensures loads.1.0 in (
      loads.0,
      (
        node.read,
        record {
          least = number_from Node 1 65536 total c.args.bytes.now scale c.in_ok-scale.rest.now c.in_ok-scale.ensures.gives;
          most = c.in_ok-scale.ensures.most;
          loaded = subst (λ ps. IsLoaded s (priced_at stamp ps) c.in_ok-loaded.loaded.row_end c.in_ok-loaded.loaded.bound loads.0) (sym whole) loads.1.1;
          credit = subst (λ ps. c.in_ok-loaded.loaded.credit ≡ credits s c.args.marks.now scale (priced_at stamp ps)) (sym whole) loads.1.2;
        },
        text_kept c.keep_text.new.kept.items _ scale loads.0 c.keep_text.ensures node.in_range node.text,
      ),
    )
