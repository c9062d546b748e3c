use Rattle.std.proofs.Common.{ap, ◌∙◌, ◌-◌, ◌+◌, ◌++◌, take, drop, length, arith}
use Rattle.elf_writer.proofs.ChangeLemmas.{change_is}
use Rattle.elf_writer.proofs.changing.put_bytes.Goals as goal

pub returns : goal.returns
returns c =
    let place = c.args.place in
    let size = place + length c.args.bytes.now - place in
    let fits = c.requires in
    ap (λ piece. take place c.args.out.now ++ (piece ++ drop size (drop place c.args.out.now))) c.copy_from_slice.ensures.after
    ∙ change_is place c.args.bytes.now c.args.out.now size fits (omega arith)
