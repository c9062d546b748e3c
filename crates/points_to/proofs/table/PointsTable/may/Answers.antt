use Rattle.std.proofs.Common.{◌+◌, ◌*◌, ◌<◌, ℕ, Ok, Err, map, sym, subst, arith}
use Rattle.std.specs.Prelude.{◌↔◌, IsTrue}
use Rattle.std.proofs.lemmas.List.Sorted.{searched}
use Rattle.code_blocks.proofs.SearchLemmas.{search_tells}
use Rattle.dataflow.specs.Points.{MayHold}
use Rattle.points_to.specs.Nodes.{entry}
use Rattle.points_to.specs.Tables.{Holds, plain}
use Rattle.code_blocks.proofs.SearchLemmas.{not_falling}
use Rattle.points_to.proofs.QueryLemmas.{follows, never, found_holds, none_holds, no_register}
use Rattle.points_to.proofs.table.PointsTable.may.Goals as goal

pub returns-then-reg-gt31 : goal.returns-then-reg-gt31
returns-then-reg-gt31 c code g table =
    never (MayHold code g c.args.leader c.args.reg c.args.obj) (no_register code g c.args.leader c.args.reg c.args.obj (omega (arith, c.if-reg-gt31.true)))

pub returns-in-Ok : goal.returns-in-Ok
returns-in-Ok c code g table =
    let self = c.args.self.now in
    let leaders = self.leaders.items in
    let block = c.in-Ok.block in
    let reg = c.args.reg in
    let obj = c.args.obj in
    let position = rw c.deref.ensures.value at c.in-Ok.ensures.position in
    let found = searched leaders c.args.leader (Ok block) position (not_falling leaders self.ascending) in
    let low : reg < 32 = omega (arith, c.if-reg-gt31.false) in
    let node = subst (λ (m : ℕ). IsTrue c.holds.result ↔ Holds (plain self.loads) (map plain self.groups.items) (32 * block + m) obj) c.from.ensures c.holds.ensures in
    follows (IsTrue c.holds.result) (Holds (plain self.loads) (map plain self.groups.items) (entry block reg) obj) (MayHold code g c.args.leader reg obj) node
    (found_holds code g (plain self.loads) (map plain self.groups.items) leaders c.args.leader block reg obj table.leaders self.ascending table.facts found.0 found.1 low)

pub returns-in-Err : goal.returns-in-Err
returns-in-Err c code g table =
    let self = c.args.self.now in
    let leaders = self.leaders.items in
    let position = rw c.deref.ensures.value at c.in-Err.ensures.position in
    never (MayHold code g c.args.leader c.args.reg c.args.obj)
    (none_holds code g leaders c.args.leader c.args.reg c.args.obj table.leaders (sym (search_tells leaders c.args.leader (Err c.in-Err.field-0) self.ascending position)))
