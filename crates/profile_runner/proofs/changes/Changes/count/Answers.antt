use Rattle.std.proofs.Common.{sym}
use Rattle.profile_runner.specs.Counts.{plain_rows}
use Rattle.profile_runner.specs.Tallies.{is_switch, is_leave, is_enter, is_entry}
use Rattle.list_checks.specs.Sorted.{is_number}
use Rattle.profile_runner.proofs.CountLemmas.{adds_same, adds_same_in}
use Rattle.profile_runner.proofs.TestLemmas.{one_switch, one_leave, one_enter}
use Rattle.profile_runner.proofs.TallyLemmas.{no_change}
use Rattle.profile_runner.proofs.changes.Changes.count.Goals as goal

pub returns-then-before-after : goal.returns-then-before-after
returns-then-before-after c = rw (sym c.if-before-after.true) (no_change c.args.self.now c.args.before)

pub returns : goal.returns
returns c =
    let old = c.args.self.now in
    let before = c.args.before in
    let after = c.args.after in
    let differs = c.if-before-after.false in
    record {
      switches_add = adds_same_in (plain_rows old.switches.items) (plain_rows c.bump_in.new.table.items) (is_entry before after) (is_switch before after) (one_switch before after differs) c.bump_in.ensures;
      leaves_add = adds_same old.leaves.items c.bump.new.row.items (is_number before) (is_leave before after) (one_leave before after differs) c.bump.ensures;
      enters_add = adds_same old.enters.items c.bump-2.new.row.items (is_number after) (is_enter before after) (one_enter before after differs) c.bump-2.ensures;
    }
