use Rattle.std.proofs.Common.{◌≡◌, ◌+◌, [], ◌∷◌, length, length-append, refl, ap, arith}
use Rattle.certificate_checker.proofs.RoomLemmas.{taken_past, taken_here}
use Rattle.certificate_checker.proofs.taking.keep_var.Goals as goal

pub returns-then-var-limit-clause-taken : goal.returns-then-var-limit-clause-taken
returns-then-var-limit-clause-taken c row_end ks so_far low =
    let out = c.if-var-limit.true in
    taken_past c.args.limit row_end c.args.var (c.args.var + 1) c.args.take.now.items ks so_far low (omega (arith, out)) refl

pub returns-clause-taken : goal.returns-clause-taken
returns-clause-taken c row_end ks so_far low =
    let inside = c.if-var-limit.false in
    let items = c.push_taken.ensures.items in
    let longer : length c.push_taken.new.take.items ≡ length c.args.take.now.items + 1 = omega (arith, ap length items, length-append c.args.take.now.items (c.args.var ∷ [])) in
    taken_here c.args.limit row_end c.args.var (c.args.var + 1) c.args.take.now.items c.push_taken.new.take.items ks so_far low (omega (arith, inside)) refl items longer
