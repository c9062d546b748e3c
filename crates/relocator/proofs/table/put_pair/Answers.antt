use Rattle.std.proofs.Common.{ℕ, List}
use Rattle.relocator.specs.Laying.{with_pair}
use Rattle.relocator.proofs.TableLemmas.{changed_row}
use Rattle.relocator.proofs.table.put_pair.Goals as goal

pub returns : goal.returns
returns c =
    changed_row (λ (row : List ℕ). with_pair row c.args.pair c.args.place) c.args.rows.now.items c.args.object c.index_mut.result.now c.put_twice.new.row c.requires.row c.index_mut.ensures.value c.put_twice.ensures
