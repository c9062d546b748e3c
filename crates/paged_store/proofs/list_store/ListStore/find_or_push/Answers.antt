use Rattle.std.proofs.Common.{sym, arith}
use Rattle.std.proofs.lemmas.Grind.{common_steps}
use Rattle.paged_store.proofs.Places.{absent, place_of-push, bytes_of-push_zero, has_entry-push}
use Rattle.paged_store.proofs.list_store.ListStore.find_or_push.Goals as goal

pub returns-in_err-push-in-None-clause-fits : goal.returns-in_err-push-in-None-clause-fits
returns-in_err-push-in-None-clause-fits c h =
    let none = absent c.args.self.now.entries.items c.args.at (sym c.in-None.ensures) in cc

pub returns-in_ok-push-in-None-clause-place : goal.returns-in_ok-push-in-None-clause-place
returns-in_ok-push-in-None-clause-place c =
    let placed = place_of-push c.args.self.now.entries.items c.args.at 0 (sym c.in-None.ensures) in
    grind (arith, common_steps, placed)

pub returns-in_ok-push-in-None-clause-bytes : goal.returns-in_ok-push-in-None-clause-bytes
returns-in_ok-push-in-None-clause-bytes c =
    rw c.in_ok-push-in-None.ensures.items (bytes_of-push_zero c.args.self.now.entries.items c.args.at (sym c.in-None.ensures))

pub returns-in_ok-push-in-None-clause-grows : goal.returns-in_ok-push-in-None-clause-grows
returns-in_ok-push-in-None-clause-grows c a h =
    rw c.in_ok-push-in-None.ensures.items (has_entry-push c.args.self.now.entries.items _ a h)
