use Rattle.std.proofs.Common.{◌∙◌, below_more}
use Rattle.paged_store.proofs.Places.{present}
use Rattle.paged_store.proofs.list_store.ListStoreByteStore.room.Goals as goal

pub loop-k-preserved : goal.loop-k-preserved
loop-k-preserved c = record {
  bytes = c.in_ok-find_or_push.ensures.bytes ∙ c.loop-k.invariant.bytes;
  room = below_more _ _ (λ k h. c.in_ok-find_or_push.ensures.grows _ (c.loop-k.invariant.room k h))
      (present c.find_or_push.new.self.entries.items _ c.in_ok-find_or_push.field-0 c.in_ok-find_or_push.ensures.place);
  grows = λ a h. c.in_ok-find_or_push.ensures.grows a (c.loop-k.invariant.grows a h);
}
