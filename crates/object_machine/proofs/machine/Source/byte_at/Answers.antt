use Rattle.std.proofs.Common.{inl, inr, ◌+◌, ◌≤◌}
use Rattle.std.proofs.lemmas.Bool.{cases_lt}
use Rattle.object_machine.specs.Machine.{here}
use Rattle.object_machine.proofs.PlaceLemmas.{nothing_above}
use Rattle.object_machine.proofs.machine.Source.byte_at.Goals as goal

pub returns-in_default-clause-place : goal.returns-in_default-clause-place
returns-in_default-clause-place c =
    let m = c.args.self.now in
    let a = c.args.at + c.args.i in
    let above : 4294967296 ≤ a = elim (cases_lt a 4294967296) [
      | inl below ↦ absurd (c.in_default.ensures below)
      | inr more ↦ more
    ] in
    rw (nothing_above m.tables (here m) a above)
