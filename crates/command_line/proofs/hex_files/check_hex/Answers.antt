use Rattle.std.proofs.Common.{ap}
use Rattle.command_line.specs.Meaning.{differing}
use Rattle.command_line.proofs.Comparing.{none_in_texts, compares_image}
use Rattle.command_language.specs.declared.faults.CommandFault.TheVariants as command_fault
use Rattle.command_line.proofs.hex_files.check_hex.Goals as goal

pub returns-in-Some-clause-err : goal.returns-in-Some-clause-err
returns-in-Some-clause-err c =
    differing _ (none_in_texts c.args.file.now c.args.text.now c.in_ok-view.ensures.fault c.in_ok-image.ensures.fault)
    (compares_image _ _ _ _ _ _ _ c.in_ok-view.ensures.file.segments c.in_ok-view.ensures.file.entry c.in_ok-image.ensures.spells c.in-Some.ensures)
    (ap command_fault.Differs c.from.ensures)
