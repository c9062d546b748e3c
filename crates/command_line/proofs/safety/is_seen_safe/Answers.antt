use Rattle.std.proofs.Common.{subst, ◌∙◌}
use Rattle.loaded_file.proofs.WordLemmas.{same_view}
use Rattle.result_laws.specs.Absolute.{IsAbsolute}
use Rattle.command_line.proofs.Promises.{safe_on}
use Rattle.command_line.proofs.safety.is_seen_safe.Goals as goal

pub returns-clause-safe : goal.returns-clause-safe
returns-clause-safe c absolute =
    safe_on c.compared_runs_safely.ensures c.args.file.now c.args.file.now c.args.board.now c.args.input.now c.in_ok-compared.compared.text.items c.in_ok-compared.ensures.ok
    (λ is. c.tells_running.ensures.ended c.if-tells_running.false (c.deref.ensures.value ∙ is))
    (subst IsAbsolute (same_view c.args.file.now c.in_ok-view.view c.in_ok-view.ensures.file) (c.in_ok-absolute.ensures.absolute absolute))
