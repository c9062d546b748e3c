use Rattle.code_blocks.proofs.ListLemmas.{has_at}
use Rattle.object_machine.proofs.landings.address_in.Goals as goal

pub returns : goal.returns
returns c = rw c.index.ensures (has_at c.args.addresses.now.items c.args.k _ c.requires)
