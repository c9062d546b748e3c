use Rattle.std.proofs.Common.{◌*◌, ℕ, length, slice_index_or, arith}
use Rattle.energy_model.specs.Base.{body_price}
use Rattle.block_splitter.specs.Forms.{body_at}
use Rattle.energy_model.proofs.SumLemmas.{term_small}
use Rattle.energy_model.proofs.base.blocks_price.Goals as goal

pub started_price-total-requires-clause-small : goal.started_price-total-requires-clause-small
started_price-total-requires-clause-small c =
    let f = λ (k : ℕ). slice_index_or c.args.profile.now.arrivals.items k 0 * body_price c.args.prices.now (body_at c.args.blocks.now k) in
    let small = term_small f c.loop-k.k (length c.args.blocks.now) 1267650600228229401496703205376 c.loop-k-test.true c.requires.small in
    omega (arith, small)

pub overflow_add-total : goal.overflow_add-total
overflow_add-total c =
    let f = λ (k : ℕ). slice_index_or c.args.profile.now.arrivals.items k 0 * body_price c.args.prices.now (body_at c.args.blocks.now k) in
    let small = term_small f c.loop-k.k (length c.args.blocks.now) 1267650600228229401496703205376 c.loop-k-test.true c.requires.small in
    let so_far = c.loop-k.invariant in
    let here = c.started_price-total.ensures in
    omega (arith, small, so_far, here)
