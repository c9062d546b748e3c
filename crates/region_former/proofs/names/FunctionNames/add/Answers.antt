use Rattle.std.proofs.Common.{◌∙◌, sym}
use Rattle.elf_reader.specs.File.{plain_view}
use Rattle.region_former.proofs.NameLemmas.{named_more, named_still}
use Rattle.region_former.proofs.names.FunctionNames.add.Goals as goal

pub returns-in_ok-insert-clause-places : goal.returns-in_ok-insert-clause-places
returns-in_ok-insert-clause-places c name =
    named_more (plain_view c.args.self.now.view.now) c.args.self.now.code.now.functions.items c.args.k c.in-Some.place c.name_of-name.result c.args.self.now.places c.insert.new.self name c.name_of-name.ensures c.in-Some.ensures.place (sym c.contains_key.ensures ∙ c.if-not-contains_key.true) c.in_ok-insert.ensures.updates

pub returns-else-not-contains_key-clause-places : goal.returns-else-not-contains_key-clause-places
returns-else-not-contains_key-clause-places c name =
    named_still (plain_view c.args.self.now.view.now) c.args.self.now.code.now.functions.items c.args.k c.name_of-name.result.now c.args.self.now.places name c.name_of-name.ensures (sym c.contains_key.ensures ∙ c.if-not-contains_key.false)
