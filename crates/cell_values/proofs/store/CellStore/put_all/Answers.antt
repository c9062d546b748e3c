use Rattle.std.proofs.Common.{◌+◌, arith}
use Rattle.cell_values.proofs.CellLemmas.{place_at}
use Rattle.cell_values.proofs.store.CellStore.put_all.Goals as goal

pub unwrap-requires : goal.unwrap-requires
unwrap-requires c =
    c.set.ensures.fits
    (place_at c.loop-k.self (c.args.at + c.loop-k.k) c.args.cells.now c.loop-k.k _ c.loop-k-test.true
    (c.loop-k.invariant.places c.loop-k.k (omega arith) c.loop-k-test.true))
