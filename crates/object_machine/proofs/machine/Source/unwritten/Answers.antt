use Rattle.std.proofs.Common.{◌≡◌, ◌∙◌, ◌<◌, Some, sym, ap, arith}
use Rattle.list_checks.proofs.FirstLemmas.{first_found}
use Rattle.cell_values.specs.declared.values.Val.{Val}
use Rattle.object_machine.specs.Calls.{unwritten}
use Rattle.object_machine.specs.Places.{byte_place, write_fault}
use Rattle.object_machine.specs.Machine.{seen, seen_state}
use Rattle.object_machine.proofs.machine.Source.unwritten.Goals as goal

-- the bytes before this one have no fault
pub returns-in-Some : goal.returns-in-Some
returns-in-Some c =
    let m = c.args.self.now in
    let i = c.loop-i.i in
    let below : i < c.args.n = omega (arith, c.loop-i-test.true) in
    let start = ap (λ (x : Val). write_fault (seen m) (byte_place (seen m) x i)) c.register-start.ensures.value in
    let found : unwritten (seen m) (seen_state m) i ≡ Some c.in-Some.why = sym start ∙ (sym c.unwritten_byte.ensures ∙ c.in-Some.is) in
    sym (first_found (unwritten (seen m) (seen_state m)) c.args.n i c.in-Some.why below c.loop-i.invariant found)
