use Rattle.std.proofs.Common.{ℕ, List}
use Rattle.std.proofs.Math.ListN.{set}
use Rattle.relocator.proofs.TableLemmas.{changed_row}
use Rattle.relocator.proofs.table.put_entry.Goals as goal

pub returns : goal.returns
returns c =
    changed_row (λ (row : List ℕ). set row c.args.region c.args.place) c.args.rows.now.items c.args.object c.index_mut.result.now c.put_at.new.row c.requires.row c.index_mut.ensures.value c.put_at.ensures
