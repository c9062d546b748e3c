use Rattle.std.proofs.Common.{◌≡◌, ◌≢◌, ℕ, ◌+◌, ◌%◌, ◌<◌, slice_index}
use Rattle.paged_store.specs.Pages.{paged_bytes, PagesStay}
use Rattle.paged_store.proofs.page_store.PageStore.make_pages.Given as goal

-- no byte changed, and the pages so far are there
abbrev pub invariant-loop-k : goal.invariant-loop-k
invariant-loop-k l = record {
  bytes : paged_bytes l.self.directory.items l.self.bytes.items ≡ paged_bytes l.fn.self.directory.items l.fn.self.bytes.items;
  made : (j : ℕ) → j < l.k → slice_index l.self.directory.items ((l.first + j) % 1048576) ≢ 0;
  grows : PagesStay l.fn.self.directory.items l.self.directory.items;
}
