use Rattle.dataflow.proofs.table.LiveTable.is_live.Goals as goal

pub returns : goal.returns
returns c code table =
    let live = c.word_at.ensures code table c.args.reg c.requires in
    (λ on. live.0 (c.has.ensures.0 on), λ is. c.has.ensures.1 (live.1 is))
