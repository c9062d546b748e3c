use Rattle.std.proofs.Common.{◌≡◌, ◌<◌, ◌*◌, length, slice_index, ◌∙◌, arith}
use Rattle.std.proofs.lemmas.Grind.{common_steps}
use Rattle.paged_store.proofs.Paging.{paged_bytes-new}
use Rattle.paged_store.proofs.page_store.PageStore.make_page.Goals as goal

pub returns-in_ok-lengthen_bytes-clause-bytes : goal.returns-in_ok-lengthen_bytes-clause-bytes
returns-in_ok-lengthen_bytes-clause-bytes c =
    let made = c.make_directory.new.self in
    let some = c.in_ok-make_directory.ensures.ok in
    let whole = made.whole (omega (arith, some)) in
    let inside : c.args.k < length made.directory.items = omega arith in
    let none : slice_index made.directory.items c.args.k ≡ 0 = grind (arith, common_steps) in
    let pages = made.in_pages in
    let end : length made.bytes.items ≡ c.in-Ok.page * 4096 = grind (arith, common_steps) in
    paged_bytes-new made.directory.items made.bytes.items c.lengthen_bytes.new.bytes.items c.args.k c.in-Ok.page made.zero_page inside none end c.in_ok-lengthen_bytes.ensures.items
    ∙ c.in_ok-make_directory.ensures.bytes
