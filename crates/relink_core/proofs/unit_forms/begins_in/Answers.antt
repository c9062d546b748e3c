use Rattle.std.proofs.Common.{◌∙◌, sym, ap}
use Rattle.code_blocks.specs.Numbers.{starts_of}
use Rattle.block_splitter.specs.Forms.{begins_in}
use Rattle.block_splitter.proofs.LookupLemmas.{none_inside}
use Rattle.block_splitter.proofs.MeasureLemmas.{begins_is}
use Rattle.relink_core.proofs.unit_forms.begins_in.Goals as goal

pub returns-in-Some : goal.returns-in-Some
returns-in-Some c =
    let code = c.args.code.now in
    let range = c.args.range.now in
    let (below, at) = c.in-Some.ensures in
    c.holds_block.ensures ∙ sym (begins_is code range c.in-Some.block c.requires below) ∙ ap (begins_in (starts_of code) range) at

pub returns-in-None : goal.returns-in-None
returns-in-None c = sym (none_inside c.args.code.now c.args.range.now c.args.address c.in-None.ensures)
