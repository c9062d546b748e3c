use Rattle.std.proofs.Common.{◌∙◌, sym}
use Rattle.block_splitter.proofs.CandidateLemmas.{holds}
use Rattle.block_splitter.proofs.SumLemmas.{entry_added, entry_left}
use Rattle.block_splitter.proofs.finding.add_entry.Goals as goal

pub returns-in_ok-push : goal.returns-in_ok-push
returns-in_ok-push c =
    let code = c.args.code.now in
    let told = c.is_entry.ensures code c.requires.table.0 c.requires.table.1 in
    entry_added c.args.entries.now.items c.push.new.self.items c.args.b c.number_of.result _ _ (holds c.args.range.now c.args.b c.requires.from c.requires.to) (sym told ∙ c.if-is_entry.true) c.number_of.ensures c.in_ok-push.ensures.items

pub returns-else-is_entry : goal.returns-else-is_entry
returns-else-is_entry c =
    let code = c.args.code.now in
    let told = c.is_entry.ensures code c.requires.table.0 c.requires.table.1 in
    entry_left c.args.entries.now.items c.args.b _ _ (sym told ∙ c.if-is_entry.false)
