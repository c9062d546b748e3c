use Rattle.std.proofs.Common.{ap, ◌∙◌, ◌+◌, [], ◌∷◌, sym}
use Rattle.elf_writer.specs.Pieces.{half_bytes, word_bytes}
use Rattle.elf_writer.specs.Changes.{Change, changed}
use Rattle.elf_writer.proofs.ChangeLemmas.{changed-cons}
use Rattle.elf_writer.proofs.changing.put_move.Goals as goal

pub returns-clause-new : goal.returns-clause-new
returns-clause-new c =
    let value : Change = record { place = c.args.symbol.now.at + 4; content = word_bytes c.args.value } in
    let section : Change = record { place = c.args.symbol.now.at + 14; content = half_bytes 65521 } in
    c.put_half.ensures
    ∙ (ap (changed (section ∷ []) 0) c.put_word.ensures ∙ sym (changed-cons value (section ∷ []) 0 c.args.out.now))
