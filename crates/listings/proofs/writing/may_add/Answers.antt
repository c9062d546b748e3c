use Rattle.std.proofs.Common.{◌<◌, length, arith}
use Rattle.elf_writer.specs.Parts.{new_segment}
use Rattle.listings.proofs.AllowedLemmas.{view_added_allowed}
use Rattle.listings.proofs.writing.may_add.Goals as goal

pub returns : goal.returns
returns c passes =
    let addable = c.is_addable.ensures passes in
    let symbol : c.args.change.symbol < length c.args.file.now.view.now.symbols.items = omega (arith, c.len.ensures, c.if-change-len.false) in
    view_added_allowed c.args.file.now.view.now c.args.patch (new_segment c.args.segment.now) c.args.change c.requires.file c.requires.sound
    (c.may_patch.ensures (grind (arith, c.if-not-may_patch.false))) symbol addable.0 addable.1
