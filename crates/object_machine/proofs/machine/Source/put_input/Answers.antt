use Rattle.std.proofs.Common.{◌≡◌, ℕ, ◌<◌, List, take, drop, length, None, OnOk, sym, ◌∙◌, ap, subst, arith}
use Rattle.std.specs.List.{All}
use Rattle.list_checks.proofs.FirstLemmas.{none_at}
use Rattle.cell_values.specs.Cells.{IsCellOfGraph}
use Rattle.cell_values.specs.declared.values.Cell.{Cell}
use Rattle.cell_values.specs.declared.values.Val.{Val}
use Rattle.object_machine.specs.State.{SourceState}
use Rattle.object_machine.specs.Places.{byte_place, write_fault}
use Rattle.object_machine.specs.Calls.{a1, unwritten, put_input}
use Rattle.object_machine.specs.Machine.{seen, seen_state, Becomes, byte_cells, stored_from, HasRoom}
use Rattle.object_machine.proofs.CallLemmas.{input_length, bytes_length, bytes_of_graph, input_stored}
use Rattle.object_machine.proofs.machine.Source.put_input.Goals as goal

pub put_from-requires-clause-room : goal.put_from-requires-clause-room
put_from-requires-clause-room c i below =
    let m = c.args.self.now in
    let count : length c.deref.result.now ≡ c.args.n = ap length (c.deref.ensures.value ∙ c.in-Ok.ensures) ∙ input_length m.input.items m.consumed c.args.n c.requires.left in
    let less : i < c.args.n = omega (arith, below, count) in
    subst (λ (x : Val). write_fault (seen m) (byte_place (seen m) x i) ≡ None) (sym c.register-start.ensures.value)
    (none_at (unwritten (seen m) (seen_state m)) c.args.n i less c.requires.room)

pub put_from-requires-clause-of : goal.put_from-requires-clause-of
put_from-requires-clause-of c =
    let m = c.args.self.now in
    subst (All (IsCellOfGraph m.tables.graph)) (sym (c.deref.ensures.value ∙ c.in-Ok.ensures)) (bytes_of_graph m.tables.graph (take c.args.n (drop m.consumed m.input.items)))

pub returns-in-Ok-clause-ok : goal.returns-in-Ok-clause-ok
returns-in-Ok-clause-ok c =
    let m = c.args.self.now in
    let p = seen m in
    let s = seen_state m in
    let bytes : List ℕ = take c.args.n (drop m.consumed m.input.items) in
    let count = bytes_length m.input.items m.consumed c.args.n c.requires.left in
    let room : HasRoom p (a1 s) (length bytes) = λ i below. none_at (unwritten p s) c.args.n i (omega (arith, below, count)) c.requires.room in
    let whole : put_input p s (a1 s) 0 bytes ≡ stored_from s (a1 s) (byte_cells bytes) = input_stored p s (a1 s) bytes (omega arith) room in
    let cells : c.deref.result.now ≡ byte_cells bytes = c.deref.ensures.value ∙ c.in-Ok.ensures in
    let same : stored_from s c.register-start.result c.deref.result.now ≡ stored_from s (a1 s) (byte_cells bytes) = λ z. stored_from s (c.register-start.ensures.value z) (cells z) in
    subst (λ (t : SourceState). OnOk c.put_from.result (Becomes m c.put_from.new.self t)) (same ∙ sym whole) c.put_from.ensures.ok
