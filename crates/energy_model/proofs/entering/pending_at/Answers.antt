use Rattle.std.proofs.Common.{◌∙◌, sym, length}
use Rattle.energy_model.specs.Copied.{pending}
use Rattle.energy_model.proofs.PieceLemmas.{listed, listed_value}
use Rattle.energy_model.proofs.EnteringLemmas.{at_border}
use Rattle.energy_model.proofs.entering.pending_at.Goals as goal

pub pending_of-requires : goal.pending_of-requires
pending_of-requires c =
    listed (pending c.args.tables.now.code.now c.args.tables.now.profile.now) (length c.args.tables.now.code.now.blocks.items) c.args.b c.args.tables.now.counts.now.pending.items c.requires.tables.blocks.listed.pending c.requires.inside

pub returns-then-is_border : goal.returns-then-is_border
returns-then-is_border c =
    let value = listed_value (pending c.args.tables.now.code.now c.args.tables.now.profile.now) (length c.args.tables.now.code.now.blocks.items) c.args.b c.pending_of.result c.args.tables.now.counts.now.pending.items c.requires.tables.blocks.listed.pending c.requires.inside c.pending_of.ensures in
    at_border c.args.tables.now.regions.now.border.items (pending c.args.tables.now.code.now c.args.tables.now.profile.now) c.args.b c.pending_of.result (sym c.is_border.ensures ∙ c.if-is_border.true) value
