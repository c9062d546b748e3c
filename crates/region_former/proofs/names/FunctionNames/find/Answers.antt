use Rattle.std.proofs.Common.{◌∙◌}
use Rattle.elf_reader.specs.File.{plain_view}
use Rattle.region_former.proofs.NameLemmas.{function_within}
use Rattle.region_former.proofs.names.FunctionNames.find.Goals as goal

pub returns-clause-below : goal.returns-clause-below
returns-clause-below c =
    function_within (plain_view c.args.self.now.view.now) c.args.self.now.code.now.functions.items c.args.name.now c.copied.result (c.copied.ensures ∙ c.get.ensures.value ∙ c.requires c.args.name.now)
