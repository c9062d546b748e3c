use Rattle.std.proofs.Common.{◌≡◌, ◌<◌, ◌-◌, ◌+◌, ◌∷◌, ℕ, length, drop, get_or, subst, arith}
use Rattle.relocator.specs.Laws.{no_slot}
use Rattle.relocator.specs.Placing.{rows_of, IsTable}
use Rattle.relocator.proofs.TableLemmas.{put_before}
use Rattle.relocator.proofs.table.table.Goals as goal

pub loop-k-preserved : goal.loop-k-preserved
loop-k-preserved c =
    let g = c.args.graph.now in
    let slots = c.args.slots.now in
    let k = c.loop-k.k in
    let inside : k - 1 < length slots = omega arith in
    let next : k ≡ k - 1 + 1 = omega arith in
    let rows = rows_of c.put.new.rows.items in
    put_before g c.args.regions slots (k - 1) no_slot rows inside
    (subst (λ (n : ℕ). IsTable g c.args.regions (get_or slots (k - 1) no_slot ∷ drop n slots) rows) next (c.put.ensures (drop k slots) c.loop-k.invariant))
