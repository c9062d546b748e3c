use Rattle.std.proofs.Common.{◌≡◌, suc, ◌+◌, ◌-◌, [], ◌∷◌, ◌++◌, sym, subst, arith}
use Rattle.std.proofs.lemmas.Result.{err_from_is_err_and}
use Rattle.placement_programme.specs.Bounds.{row_of}
use Rattle.certificate_checker.specs.Reading.{entry_at, entries_at}
use Rattle.certificate_checker.proofs.LoadLemmas.{front_none}
use Rattle.certificate_checker.proofs.ManyLemmas.{with_front, goes_on, ends, is_done}
use Rattle.certificate_checker.proofs.skipping.skip_entries.Goals as goal

pub loop-init : goal.loop-init
loop-init c =
    let read = entries_at c.args.total c.args.count 0 c.args.bytes.now in
    let all : c.args.count - 0 ≡ c.args.count = omega arith in
    ([], subst (λ n. with_front [] (entries_at c.args.total n 0 c.args.bytes.now) ≡ read) (sym all) (front_none read))

pub returns-in_err-found : goal.returns-in_err-found
returns-in_err-found c =
    let inv = c.loop.invariant in
    let p = err_from_is_err_and c.from_residual.result c.from_residual.ensures.1 in
    rw (p.1, p.2) (ends (λ low rest. entry_at low c.args.total rest) row_of c.in_err-found.field-0.0 inv.0 c.args.count c.loop.counter c.loop.least c.loop.rest.now (entries_at c.args.total c.args.count 0 c.args.bytes.now) c.loop-test.true c.in_err-found.ensures inv.1)

pub loop-preserved : goal.loop-preserved
loop-preserved c =
    let inv = c.loop.invariant in
    let row = c.from-least.ensures in
    let next : c.from-least.result + 1 ≡ suc (row_of c.in_ok-found.found) = omega (arith, row) in (
      inv.0 ++ c.in_ok-found.found ∷ [],
      goes_on (λ low rest. entry_at low c.args.total rest) row_of inv.0 c.args.count c.loop.counter c.loop.least c.loop.rest.now c.in_ok-found.found c.in_ok-found.after.now (c.from-least.result + 1) (entries_at c.args.total c.args.count 0 c.args.bytes.now) c.loop-test.true c.in_ok-found.ensures next inv.1,
    )

pub returns : goal.returns
returns c =
    let inv = c.loop.invariant in
    (inv.0, is_done (λ low rest. entry_at low c.args.total rest) row_of inv.0 c.args.count c.loop.counter c.loop.least c.loop.rest.now (entries_at c.args.total c.args.count 0 c.args.bytes.now) c.loop-test.false inv.1)
