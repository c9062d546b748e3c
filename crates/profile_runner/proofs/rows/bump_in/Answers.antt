use Rattle.profile_runner.proofs.CountLemmas.{adds_in_rows}
use Rattle.profile_runner.proofs.rows.bump_in.Goals as goal

pub returns : goal.returns
returns c =
    adds_in_rows c.args.table.now.items c.args.j c.args.k c.index_mut.result.now c.bump.new.row c.requires.row c.index_mut.ensures.value c.bump.ensures
