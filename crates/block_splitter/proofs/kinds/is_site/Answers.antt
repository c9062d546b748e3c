use Rattle.std.proofs.Common.{sym}
use Rattle.block_splitter.proofs.KindLemmas.{stands_there}
use Rattle.block_splitter.proofs.kinds.is_site.Goals as goal

pub returns-in-Some : goal.returns-in-Some
returns-in-Some c = sym (stands_there c.args.graph.now.sites.items c.in-Some.field-0 c.args.address c.in-Some.ensures.0 c.in-Some.ensures.1)
