use Rattle.std.proofs.Common.{◌∷◌, []}
use Rattle.elf_writer.specs.Pieces.{half_bytes, word_bytes}
use Rattle.elf_writer.specs.Changes.{Change}
use Rattle.elf_writer.proofs.ChangeLemmas.{changed_twice}
use Rattle.elf_writer.proofs.writing.put_header.Goals as goal

pub returns : goal.returns
returns c =
    let entry : Change = record { place = 24; content = word_bytes c.args.entry } in
    let table : Change = record { place = 28; content = word_bytes c.args.table } in
    let count : Change = record { place = 44; content = half_bytes c.args.count } in
    changed_twice (entry ∷ table ∷ []) (count ∷ []) c.args.out.now c.put_word-2.new.out c.put_half.new.out
    (changed_twice (entry ∷ []) (table ∷ []) c.args.out.now c.put_word.new.out c.put_word-2.new.out c.put_word.ensures c.put_word-2.ensures)
    c.put_half.ensures
