use Rattle.std.proofs.Common.{List, map, ap, ◌∙◌}
use Rattle.elf_reader.specs.declared.view.Segment.{Segment}
use Rattle.elf_reader.specs.File.{plain_segment}
use Rattle.elf_reader.specs.Image.{image_of}
use Rattle.flat_machine.specs.declared.events.FlatOutcome.TheVariants.{GoesOn}
use Rattle.flat_machine.proofs.Registers.{none_set}
use Rattle.flat_machine.proofs.machine.Flat.new.Goals as goal

pub returns : goal.returns
returns g c =
    let image = c.in_ok-lay_segments.ensures ∙ ap (λ (segments : List Segment). image_of (map plain_segment segments)) c.deref.ensures.value in
    λ t. record {
      map = c.in_ok-mapped.ensures t;
      hart = record { pc = c.args.view.now.entry; regs = none_set t; mem = image t };
      input = c.in_ok-from_slice.ensures.items t;
      output = c.new.ensures.items t;
      outcome = GoesOn;
    }
