use Rattle.std.proofs.Common.{◌≡◌, ◌+◌, suc, [], ◌∷◌, ◌++◌, subst, arith}
use Rattle.std.proofs.lemmas.Result.{err_from_is_err_and}
use Rattle.certificate_checker.specs.declared.fields.Part.TheVariants.{Head}
use Rattle.certificate_checker.specs.Reading.{number_in, vars_at, var_key}
use Rattle.certificate_checker.specs.Rooms.{AreTaken}
use Rattle.certificate_checker.proofs.ManyLemmas.{goes_on, ends, is_done}
use Rattle.certificate_checker.proofs.StreamLemmas.{number_from}
use Rattle.certificate_checker.proofs.taking.take_vars.Goals as goal

pub keep_var-requires : goal.keep_var-requires
keep_var-requires c =
    let inv = c.loop.invariant in
    let low = number_from Head c.loop.row_end 4294967295 c.args.total c.loop.rest.now c.in_ok-found.found c.in_ok-found.after.now c.in_ok-found.ensures in
    let few = inv.1.1.few in
    let same = inv.1.2 in
    let room = c.requires in
    record { few = omega (arith, few, low); room = omega (arith, same, room) }

pub returns-in_err-found-clause-takes : goal.returns-in_err-found-clause-takes
returns-in_err-found-clause-takes c =
    let inv = c.loop.invariant in
    let p = err_from_is_err_and c.from_residual.result c.from_residual.ensures.1 in
    rw (p.1, p.2) (ends (λ low rest. number_in Head low 4294967295 c.args.total rest) var_key c.in_err-found.field-0.0 inv.0 c.args.count c.loop.counter c.loop.row_end c.loop.rest.now (vars_at c.args.total c.args.count 0 c.args.bytes.now) c.loop-test.true c.in_err-found.ensures inv.1.0)

pub loop-preserved : goal.loop-preserved
loop-preserved c =
    let inv = c.loop.invariant in
    let found = c.in_ok-found.found in
    let low = number_from Head c.loop.row_end 4294967295 c.args.total c.loop.rest.now found c.in_ok-found.after.now c.in_ok-found.ensures in
    let row = c.from-row_end.ensures in
    let next : c.from-row_end.result + 1 ≡ suc (var_key found) = omega (arith, row) in
    let same : found + 1 ≡ c.from-row_end.result + 1 = omega (arith, row) in
    let taken = c.keep_var.ensures.taken c.loop.row_end inv.0 inv.1.1 low in (
      inv.0 ++ found ∷ [],
      (
        goes_on (λ low rest. number_in Head low 4294967295 c.args.total rest) var_key inv.0 c.args.count c.loop.counter c.loop.row_end c.loop.rest.now found c.in_ok-found.after.now (c.from-row_end.result + 1) (vars_at c.args.total c.args.count 0 c.args.bytes.now) c.loop-test.true c.in_ok-found.ensures next inv.1.0,
        subst (λ n. AreTaken c.args.limit n c.keep_var.new.take.items (inv.0 ++ found ∷ [])) same taken,
        (let more = c.keep_var.ensures.capacity in let so_far = inv.1.2 in omega (arith, more, so_far)),
      ),
    )

pub returns-clause-takes : goal.returns-clause-takes
returns-clause-takes c =
    let inv = c.loop.invariant in (
      inv.0,
      (
        is_done (λ low rest. number_in Head low 4294967295 c.args.total rest) var_key inv.0 c.args.count c.loop.counter c.loop.row_end c.loop.rest.now (vars_at c.args.total c.args.count 0 c.args.bytes.now) c.loop-test.false inv.1.0,
        inv.1.1,
      ),
    )
