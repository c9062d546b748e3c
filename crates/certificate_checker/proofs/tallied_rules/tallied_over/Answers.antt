use Rattle.std.proofs.Common.{slice_index, ap, arith}
use Rattle.std.proofs.lemmas.Bool.Decides.{nat_tests}
use Rattle.certificate_checker.proofs.tallied_rules.tallied_over.Goals as goal

pub returns : goal.returns
returns c =
    let load = c.requires.loads c.args.row in
    let listed = ap (λ l. slice_index l c.args.row) c.deref.ensures.value in
    let there = c.load_in.ensures in
    let capacity = c.capacity_of_row.ensures.value in
    let inside = c.if-place-row_count.false in
    let count = c.row_count.ensures in (
      λ holds. record { inside = omega (arith, inside, count); exceeded = grind (arith, nat_tests, holds, load, listed, there, capacity) },
      λ over. let more = over.exceeded in grind (arith, nat_tests, more, load, listed, there, capacity),
    )
