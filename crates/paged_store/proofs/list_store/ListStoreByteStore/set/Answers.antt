use Rattle.std.proofs.Common.{◌∙◌, ap}
use Rattle.rv32im.specs.Memory.{put}
use Rattle.paged_store.proofs.Places.{bytes_of-set, has_entry-set}
use Rattle.paged_store.proofs.list_store.ListStoreByteStore.set.Goals as goal

pub returns-clause-ok : goal.returns-clause-ok
returns-clause-ok c =
    bytes_of-set c.find_or_push.new.self.entries.items c.args.at c.args.byte c.in_ok-i.i c.in_ok-i.ensures.place
    ∙ ap (λ m. put m c.args.at c.args.byte) c.in_ok-i.ensures.bytes

pub returns-clause-grows : goal.returns-clause-grows
returns-clause-grows c a h =
    has_entry-set c.find_or_push.new.self.entries.items c.args.at c.args.byte c.in_ok-i.i a c.in_ok-i.ensures.place
    ∙ c.in_ok-i.ensures.grows a h
