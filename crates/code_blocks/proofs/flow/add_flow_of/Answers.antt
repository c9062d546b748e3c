use Rattle.elf_reader.specs.File.{plain_view}
use Rattle.code_blocks.specs.Leaders.{goes_to, comes_back}
use Rattle.code_blocks.proofs.EarlyLemmas.{more_by}
use Rattle.code_blocks.proofs.flow.add_flow_of.Goals as goal

pub returns : goal.returns
returns c a =
    let v = plain_view c.args.file.now.view.now in
    more_by _ _ _ _ (goes_to v a c.args.address) (comes_back v a c.args.address) (c.in_ok-add_target.ensures a) (c.in_ok-add_return.ensures a)
