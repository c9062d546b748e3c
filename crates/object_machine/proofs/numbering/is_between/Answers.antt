use Rattle.object_machine.proofs.NumberingLemmas.{between_none}
use Rattle.object_machine.proofs.numbering.is_between.Goals as goal

pub returns-then-begins_before : goal.returns-then-begins_before
returns-then-begins_before c behind =
    let before = c.begins_before.ensures c.if-begins_before.true in
    between_none c.args.code.now _ c.args.address c.requires before.0 before.1 (c.begins_behind.ensures behind)
