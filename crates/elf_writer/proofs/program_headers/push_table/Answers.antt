use Rattle.std.proofs.Common.{◌≡◌, ◌∙◌, ap, map}
use Rattle.elf_reader.specs.File.{plain_segment, plain_view}
use Rattle.elf_writer.specs.Parts.{new_segment}
use Rattle.elf_writer.specs.Written.{place_among, new_number}
use Rattle.elf_writer.proofs.PieceLemmas.{table_pushed}
use Rattle.elf_writer.proofs.program_headers.push_table.Goals as goal

pub returns : goal.returns
returns c =
    let v = plain_view c.args.base.now in
    let s = new_segment c.args.segment.now in
    let number : c.place_of-number.result ≡ new_number v s =
    c.place_of-number.ensures ∙ ap (λ ss. place_among (map plain_segment ss) c.args.base.now.ph_count c.args.segment.now.base) c.deref.ensures.value in
    table_pushed v s c.place_of-number.result c.args.content c.args.out.now.items c.extend_from_slice.new.self.items c.push_record.new.out.items c.extend_from_slice-2.new.self.items
    number c.requires.place c.in_ok-extend_from_slice.ensures.items c.in_ok-push_record.ensures c.in_ok-extend_from_slice-2.ensures.items
