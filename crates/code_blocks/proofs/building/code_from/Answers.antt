use Rattle.std.proofs.Common.{refl}
use Rattle.elf_reader.specs.File.{plain_view}
use Rattle.code_blocks.proofs.CodeLemmas.{is_code}
use Rattle.code_blocks.proofs.building.code_from.Goals as goal

pub all_blocks-requires-clause-disjoint : goal.all_blocks-requires-clause-disjoint
all_blocks-requires-clause-disjoint c = rw c.deref.ensures.value c.in_ok-functions.ensures.disjoint

pub returns : goal.returns
returns c =
    is_code (plain_view c.args.file.now.view.now) c.args.leaders c.deref.result.now _ c.requires.leaders c.in_ok-functions.ensures c.deref.ensures.value c.in_ok-blocks.ensures.starts c.in_ok-blocks.ensures.blocks refl refl
